-- Lists whose members stand in part in a list of others.
use Rattle.std.specs.Bool.{if◌then◌else◌}
use Rattle.hook_api.proofs.Words.{◌≡◌, suc, ◌+◌, ◌-◌, ℕ, zero, slice_get, slice_get-get_or, ◌<◌, cond, true, false, List, [], ◌∷◌, ◌++◌, length, Option, None, Some, IfSome, is_none, refl, sym, ap, ◌∙◌, arith, append-nil, sum_by-append, sum_by-cons, FillsIn, filled_in}

-- behind a member there are as many others as places for them
pub fits_some : {A : Type 0} (x : A) (xs : List (Option A)) (others : List A) → FillsIn (Some x ∷ xs) others → FillsIn xs others
fits_some {A} x xs others fits = let n = fits ∙ sum_by-cons (λ (o : Option A). cond (is_none o) 1 0) (Some x) xs in omega (arith, n)

-- behind a place there is one of the others less
pub fits_none : {A : Type 0} (xs : List (Option A)) (y : A) (others : List A) → FillsIn (None ∷ xs) (y ∷ others) → FillsIn xs others
fits_none {A} xs y others fits = let n = fits ∙ sum_by-cons (λ (o : Option A). cond (is_none o) 1 0) None xs in omega (arith, n)

-- there is one of the others for a place
pub fits_first : {A : Type 0} (xs : List (Option A)) (others : List A) → FillsIn (None ∷ xs) others → 0 < length others
fits_first {A} xs others fits = let n = fits ∙ sum_by-cons (λ (o : Option A). cond (is_none o) 1 0) None xs in omega (arith, n)

-- there are as many as members and places
pub filled_length : {A : Type 0} (xs : List (Option A)) (others : List A) → FillsIn xs others → length (filled_in xs others) ≡ length xs
filled_length [] others fits = refl
filled_length (Some x ∷ xs) others fits = ap suc (filled_length xs others (fits_some x xs others fits))
filled_length (None ∷ xs) [] fits = let none = fits_first xs [] fits in absurd (omega (arith, none))
filled_length (None ∷ xs) (y ∷ others) fits = ap suc (filled_length xs others (fits_none xs y others fits))

-- further ones come behind
filled_more : {A : Type 0} (xs more : List (Option A)) (others further : List A) → FillsIn xs others → filled_in (xs ++ more) (others ++ further) ≡ filled_in xs others ++ filled_in more further
filled_more [] more [] further fits = refl
filled_more [] more (y ∷ others) further fits = absurd (omega (arith, fits))
filled_more (Some x ∷ xs) more others further fits = ap (λ zs. x ∷ zs) (filled_more xs more others further (fits_some x xs others fits))
filled_more (None ∷ xs) more [] further fits = let none = fits_first xs [] fits in absurd (omega (arith, none))
filled_more (None ∷ xs) more (y ∷ others) further fits = ap (λ zs. y ∷ zs) (filled_more xs more others further (fits_none xs y others fits))

-- a mark at the end comes last, with one more of the others
pub filled_mark : {A : Type 0} (xs : List (Option A)) (others : List A) (o : Option A) (x : A) → FillsIn xs others → is_none o ≡ true → filled_in (xs ++ o ∷ []) (others ++ x ∷ []) ≡ filled_in xs others ++ x ∷ []
filled_mark xs others None x fits none = filled_more xs (None ∷ []) others (x ∷ []) fits
filled_mark xs others (Some s) x fits none = absurd (cc none)

-- a member at the end comes last, with the others as they were
pub filled_member : {A : Type 0} (xs : List (Option A)) (others : List A) (o : Option A) (x : A) → FillsIn xs others → IfSome o (λ s. s ≡ x) → is_none o ≡ false → filled_in (xs ++ o ∷ []) others ≡ filled_in xs others ++ x ∷ []
filled_member xs others None x fits same some = absurd (cc some)
filled_member xs others (Some s) x fits same some =
    ap (λ zs. filled_in (xs ++ Some s ∷ []) zs) (sym (append-nil others)) ∙ filled_more xs (Some s ∷ []) others [] fits ∙ ap (λ z. filled_in xs others ++ z ∷ []) same

-- there are as many others as places, where there is one more of them for a mark
pub fits_push : {A : Type 0} (xs : List (Option A)) (others more : List A) (o : Option A) → FillsIn xs others → length more ≡ length others + cond (is_none o) 1 0 → FillsIn (xs ++ o ∷ []) more
fits_push {A} xs others more o fits long = let whole = sum_by-append (λ (o : Option A). cond (is_none o) 1 0) xs (o ∷ []) in omega (arith, fits, whole, long)

-- the last of several is that of those behind the first
last_behind : {A : Type 0} (x y : A) (ys : List A) → slice_get (x ∷ y ∷ ys) (length (x ∷ y ∷ ys) - 1) ≡ slice_get (y ∷ ys) (length (y ∷ ys) - 1)
last_behind x y ys = let more : length (x ∷ y ∷ ys) - 1 ≡ suc (length (y ∷ ys) - 1) = omega arith in ap (slice_get (x ∷ y ∷ ys)) more

-- the last of all is the last member, or the last of the others where that is a place
filled_end : {A : Type 0} (xs : List (Option A)) (others : List A) (o : Option A) (n : ℕ) → FillsIn xs others → length xs ≡ n + 1 → slice_get xs n ≡ Some o →
    slice_get (filled_in xs others) n ≡ (if is_none o then slice_get others (length others - 1) else o)
filled_end [] others o n fits long last = absurd (cc last)
filled_end (Some x ∷ xs) others None zero fits long last = absurd (cc last)
filled_end (Some x ∷ xs) others (Some s) zero fits long last = cc last
filled_end (Some x ∷ xs) others o (suc n) fits long last = filled_end xs others o n (fits_some x xs others fits) (omega (arith, long)) last
filled_end (None ∷ xs) [] o n fits long last = let none = fits_first xs [] fits in absurd (omega (arith, none))
filled_end (None ∷ xs) (z ∷ others) (Some s) zero fits long last = absurd (cc last)
filled_end (None ∷ xs) (z ∷ []) None zero fits long last = refl
filled_end (None ∷ []) (z ∷ w ∷ ws) None zero fits long last = let more = fits_none [] z (w ∷ ws) fits in absurd (omega (arith, more))
filled_end (None ∷ x ∷ xs) (z ∷ w ∷ ws) None zero fits long last = absurd (omega (arith, long))
filled_end (None ∷ xs) (z ∷ []) (Some s) (suc n) fits long last = filled_end xs [] (Some s) n (fits_none xs z [] fits) (omega (arith, long)) last
filled_end (None ∷ xs) (z ∷ []) None (suc n) fits long last =
    let more = fits_none xs z [] fits in
    let same = filled_length xs [] more in
    let some = slice_get-get_or (filled_in xs []) n z (omega (arith, same, long)) in
    absurd (cc (some, filled_end xs [] None n more (omega (arith, long)) last))
filled_end (None ∷ xs) (z ∷ w ∷ ws) (Some s) (suc n) fits long last = filled_end xs (w ∷ ws) (Some s) n (fits_none xs z (w ∷ ws) fits) (omega (arith, long)) last
filled_end (None ∷ xs) (z ∷ w ∷ ws) None (suc n) fits long last = filled_end xs (w ∷ ws) None n (fits_none xs z (w ∷ ws) fits) (omega (arith, long)) last ∙ sym (last_behind z w ws)

-- the last one of two such lists, by the last one of the first
abbrev pub last_by : {A : Type 0} → Option (Option A) → List A → Option A
last_by None others = None
last_by (Some (Some x)) others = Some x
last_by (Some None) others = slice_get others (length others - 1)

pub last_filled : {A : Type 0} (xs : List (Option A)) (others : List A) → FillsIn xs others → slice_get (filled_in xs others) (length (filled_in xs others) - 1) ≡ last_by (slice_get xs (length xs - 1)) others
last_filled [] others fits = refl
last_filled {A} (x ∷ xs) others fits = by (slice_get (x ∷ xs) n) refl
  where
    n : ℕ
    n = length (x ∷ xs) - 1

    long : length (filled_in (x ∷ xs) others) ≡ length (x ∷ xs)
    long = filled_length (x ∷ xs) others fits

    by : (last : Option (Option A)) → slice_get (x ∷ xs) n ≡ last → slice_get (filled_in (x ∷ xs) others) (length (filled_in (x ∷ xs) others) - 1) ≡ last_by last others
    by None is = absurd (cc (is, slice_get-get_or (x ∷ xs) n x (omega arith)))
    by (Some (Some s)) is = rw long (filled_end (x ∷ xs) others (Some s) n fits (omega arith) is)
    by (Some None) is = rw long (filled_end (x ∷ xs) others None n fits (omega arith) is)
