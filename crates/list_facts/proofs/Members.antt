-- Members of lists that are filtered, mapped, searched and counted.
use Rattle.std.proofs.Common.{◌≡◌, ℕ, ◌+◌, ◌-◌, ◌<◌, ◌≤◌, zero, suc, Bool, true, false, cond, not, ◌&&◌, ◌||◌, List, [], ◌∷◌, ◌++◌, length, map, filter, find, get_or, Option, Some, None, option_map, is_some, count_by, inl, inr, refl, sym, ap, ◌∙◌, subst, arith, All, Contains}
use Rattle.std.specs.List.{AllByRecursion as Every, list_any, range_with_len}
use Rattle.std.proofs.lemmas.Bool.{cases_Bool, false_from_ne_true}
use Rattle.std.proofs.lemmas.List.{get_or-map, length-map}
use Rattle.std.proofs.lemmas.List.Elements.{Contains-get_or}
use Rattle.std.proofs.lemmas.List.Filters.{length-filter_both, sum_by-filter_both}
use Rattle.std.proofs.lemmas.List.FromFn.{get_or-range_with_len, length-range_with_len}
use Rattle.std.proofs.lemmas.List.Sums.{get_or-le-sum_by, length-filter, sum_by-cons, sum_by-le}

-- one for a test that passes
abbrev pub bit : Bool → ℕ
bit b = cond b 1 0

-- the numbers of a range
pub range_has : (start n i : ℕ) → start ≤ i → i < start + n → Contains (range_with_len start n) i
range_has start n i low high = (i - start, omega (arith, length-range_with_len start n), get_or-range_with_len start n (i - start) i (omega arith) ∙ omega arith)

pub range_from : (start n i : ℕ) → Contains (range_with_len start n) i → (start ≤ i) × (i < start + n)
range_from start n i (k, l, e) =
    let inside : k < n = omega (arith, length-range_with_len start n) in
    let is = get_or-range_with_len start n k i inside in
    (omega arith, omega arith)

module _ {X : Type 0} where
  -- ---- members

  -- the first element is in the list, and so is what is in the rest
  pub head : (x : X) (xs : List X) → Contains (x ∷ xs) x
  head x xs = (zero, omega arith, refl)

  later : (y : X) (ys : List X) (x : X) → Contains ys x → Contains (y ∷ ys) x
  later y ys x (k, l, e) = (suc k, omega arith, e)

  -- what is known of each member holds of all
  pub all_from : (P : X → Type 0) (xs : List X) → ((x : X) → Contains xs x → P x) → All P xs
  all_from P xs known = λ k d l. known (get_or xs k d) (Contains-get_or xs k d l)

  -- what is known of each member, by recursion
  pub every_from : (P : X → Type 0) (xs : List X) → ((x : X) → Contains xs x → P x) → Every P xs
  every_from P [] known = tt
  every_from P (x ∷ xs) known = (known x (head x xs), every_from P xs (λ y m. known y (later x xs y m)))

  pub every_member : (P : X → Type 0) (xs : List X) → Every P xs → (x : X) → Contains xs x → P x
  every_member P [] every x m = absurd (omega arith)
  every_member P (y ∷ ys) every x (zero, l, e) = subst P e every.0
  every_member P (y ∷ ys) every x (suc k, l, e) = every_member P ys every.1 x (k, omega arith, e)

  pub every_append : (P : X → Type 0) (xs ys : List X) → Every P xs → Every P ys → Every P (xs ++ ys)
  every_append P [] ys first second = second
  every_append P (x ∷ xs) ys first second = (first.0, every_append P xs ys first.1 second)

  -- a list of one element
  pub only : (ys : List X) (x : X) → length ys ≤ 1 → Contains ys x → ys ≡ x ∷ []
  only (y ∷ []) x len (zero, l, e) = ap (λ z. z ∷ []) e
  only ys x len m = absurd (omega arith)

  -- ---- filters

  pub filter_has : (p : X → Bool) (xs : List X) (x : X) → Contains xs x → p x ≡ true → Contains (filter p xs) x
  filter_has p [] x m t = absurd (omega arith)
  filter_has p (y ∷ ys) x (zero, l, e) t = let u : p y ≡ true = ap p e ∙ t in rw u (zero, omega arith, e)
  filter_has p (y ∷ ys) x (suc k, l, e) t =
      let rest = filter_has p ys x (k, omega arith, e) t in
      elim (p y) as (λ b. Contains (cond b (y ∷ filter p ys) (filter p ys)) x) [ true ↦ later y (filter p ys) x rest | false ↦ rest ]

  -- a filter keeps all where each passes, and nothing where none passes
  pub filter_all_of : (p : X → Bool) (xs : List X) → ((x : X) → Contains xs x → p x ≡ true) → filter p xs ≡ xs
  filter_all_of p [] all = refl
  filter_all_of p (x ∷ xs) all = rw (all x (head x xs)) (ap (λ ys. x ∷ ys) (filter_all_of p xs (λ y m. all y (later x xs y m))))

  pub filter_none_of : (p : X → Bool) (xs : List X) → ((x : X) → Contains xs x → p x ≡ false) → filter p xs ≡ []
  filter_none_of p [] none = refl
  filter_none_of p (x ∷ xs) none = rw (none x (head x xs)) (filter_none_of p xs (λ y m. none y (later x xs y m)))

  -- two tests that agree at each element keep the same
  pub filter_same : (p q : X → Bool) (xs : List X) → ((x : X) → Contains xs x → p x ≡ q x) → filter p xs ≡ filter q xs
  filter_same p q [] same = refl
  filter_same p q (x ∷ xs) same = let here = same x (head x xs) in let rest = filter_same p q xs (λ y m. same y (later x xs y m)) in cc

  -- the order of two filters makes no difference
  pub filter_swap : (p q : X → Bool) (xs : List X) → filter p (filter q xs) ≡ filter q (filter p xs)
  filter_swap p q [] = refl
  filter_swap p q (x ∷ xs) = grind (arith, filter_swap p q xs)

  -- what passes two tests, and what passes neither
  pub filter_both : (p q : X → Bool) (xs : List X) → filter q (filter p xs) ≡ filter (λ x. p x && q x) xs
  filter_both p q [] = refl
  filter_both p q (x ∷ xs) = grind (arith, filter_both p q xs)

  pub filter_neither : (p q : X → Bool) (xs : List X) → filter (λ x. not (q x)) (filter (λ x. not (p x)) xs) ≡ filter (λ x. not (p x || q x)) xs
  filter_neither p q [] = refl
  filter_neither p q (x ∷ xs) = grind (arith, filter_neither p q xs)

  -- ---- searches

  -- nothing is found where no element passes
  pub find_none : (p : X → Bool) (xs : List X) → ((x : X) → Contains xs x → p x ≡ false) → find p xs ≡ None
  find_none p [] fails = refl
  find_none p (x ∷ xs) fails = rw (fails x (head x xs)) (find_none p xs (λ y m. fails y (later x xs y m)))

  -- what is found is an element that passes
  pub found : (p : X → Bool) (xs : List X) (x : X) → find p xs ≡ Some x → Contains xs x × (p x ≡ true)
  found p [] x e = absurd (cc)
  found p (y ∷ ys) x e = elim (cases_Bool (p y)) [
    | inl t ↦ let first : Some y ≡ Some x = rw t at e in let same : y ≡ x = cc in ((zero, omega arith, same), ap p (sym same) ∙ t)
    | inr f ↦ let deep = found p ys x (rw f at e) in (later y ys x deep.0, deep.1)
  ]

  -- where nothing is found, no element passes
  pub none_found : (p : X → Bool) (xs : List X) → find p xs ≡ None → (x : X) → Contains xs x → p x ≡ false
  none_found p [] e x m = absurd (omega arith)
  none_found p (y ∷ ys) e x (zero, l, is) = grind (arith, is)
  none_found p (y ∷ ys) e x (suc k, l, is) = grind (arith, (λ (f : find p ys ≡ None). none_found p ys f x (k, omega arith, is)))

  -- and a filter keeps nothing
  pub none_kept : (p : X → Bool) (xs : List X) → find p xs ≡ None → filter p xs ≡ []
  none_kept p xs e = filter_none_of p xs (none_found p xs e)

  -- an element that passes alone is found
  pub find_is : (p : X → Bool) (xs : List X) (x : X) → Contains xs x → p x ≡ true → ((y : X) → Contains xs y → p y ≡ true → y ≡ x) → find p xs ≡ Some x
  find_is p xs x m t own = by (find p xs) refl
    where
      by : (o : Option X) → find p xs ≡ o → o ≡ Some x
      by None e = absurd (let f = none_found p xs e x m in cc)
      by (Some y) e = let is = found p xs y e in ap (λ z. Some z) (own y is.0 is.1)

  -- a filter that keeps all that a test finds leaves what is found
  pub find_kept : (p q : X → Bool) (xs : List X) → ((x : X) → Contains xs x → p x ≡ true → q x ≡ true) → find p (filter q xs) ≡ find p xs
  find_kept p q [] keeps = refl
  find_kept p q (x ∷ xs) keeps = grind (arith, keeps x (head x xs), find_kept p q xs (λ y m. keeps y (later x xs y m)))

  -- a test that some element passes, or none
  pub any_has : (p : X → Bool) (xs : List X) (x : X) → Contains xs x → p x ≡ true → list_any p xs ≡ true
  any_has p [] x m t = absurd (omega arith)
  any_has p (y ∷ ys) x (zero, l, e) t = grind (arith, e)
  any_has p (y ∷ ys) x (suc k, l, e) t = grind (arith, any_has p ys x (k, omega arith, e) t)

  pub any_from : (p : X → Bool) (xs : List X) → list_any p xs ≡ true → (x : X) × Contains xs x × (p x ≡ true)
  any_from p [] t = absurd (cc)
  any_from p (x ∷ xs) t = elim (cases_Bool (p x)) [
    | inl u ↦ (x, head x xs, u)
    | inr f ↦ let r = any_from p xs (rw f at t) in (r.0, later x xs r.0 r.1, r.2)
  ]

  pub any_none : (p : X → Bool) (xs : List X) → ((x : X) → Contains xs x → p x ≡ false) → list_any p xs ≡ false
  any_none p [] none = refl
  any_none p (x ∷ xs) none = rw (none x (head x xs)) (any_none p xs (λ y m. none y (later x xs y m)))

  pub any_false : (p : X → Bool) (xs : List X) (x : X) → list_any p xs ≡ false → Contains xs x → p x ≡ false
  any_false p xs x f m = false_from_ne_true _ (λ t. let u = any_has p xs x m t in let no : false ≡ true = sym f ∙ u in cc)

  -- it is told by what is found first
  pub is_some_find : (p : X → Bool) (xs : List X) → is_some (find p xs) ≡ list_any p xs
  is_some_find p [] = refl
  is_some_find p (x ∷ xs) = grind (arith, is_some_find p xs)

  -- ---- counts

  -- one that passes counts, and where none passes, none counts
  pub count_some : (p : X → Bool) (xs : List X) (x : X) → Contains xs x → p x ≡ true → 1 ≤ count_by p xs
  count_some p xs x (k, l, e) t =
      let one : bit (p (get_or xs k x)) ≡ 1 = ap (λ z. bit (p z)) e ∙ ap bit t in
      omega (arith, get_or-le-sum_by (λ z. bit (p z)) xs k x l)

  pub count_none : (p : X → Bool) (xs : List X) → ((x : X) → Contains xs x → p x ≡ false) → count_by p xs ≡ 0
  count_none p xs fails = omega (arith, sum_by-le (λ x. bit (p x)) 0 xs (all_from (λ x. bit (p x) ≤ 0) xs (λ x m. let none : bit (p x) ≡ 0 = ap bit (fails x m) in omega arith)))

  pub uncounted : (p : X → Bool) (xs : List X) → count_by p xs ≡ 0 → find p xs ≡ None
  uncounted p [] none = refl
  uncounted p (x ∷ xs) none = grind (arith, uncounted p xs, sum_by-cons (λ y. bit (p y)) x xs)

  pub count_same : (p q : X → Bool) (xs : List X) → ((x : X) → Contains xs x → p x ≡ q x) → count_by p xs ≡ count_by q xs
  count_same p q xs same = sym (length-filter p xs) ∙ ap length (filter_same p q xs same) ∙ length-filter q xs

  -- where one element at most passes, those that pass are the same
  pub only_one : (p : X → Bool) (xs : List X) (x y : X) → count_by p xs ≤ 1 → Contains xs x → Contains xs y → p x ≡ true → p y ≡ true → y ≡ x
  only_one p xs x y most m n t u =
      let len = length-filter p xs in
      let one = only (filter p xs) x (omega arith) (filter_has p xs x m t) in
      let two = only (filter p xs) y (omega arith) (filter_has p xs y n u) in
      cc

  -- a filter leaves out as many as pass the other test
  pub kept_length : (p : X → Bool) (xs : List X) → length (filter (λ x. not (p x)) xs) + count_by p xs ≡ length xs
  kept_length p xs = omega (arith, length-filter_both p (λ x. not (p x)) (λ x. refl) xs, length-filter p xs)

  -- a filter leaves no more that pass
  pub count_kept : (p q : X → Bool) (xs : List X) → count_by q (filter p xs) ≤ count_by q xs
  count_kept p q xs = omega (arith, sum_by-filter_both p (λ x. not (p x)) (λ x. refl) (λ x. bit (q x)) xs)

  -- one element alone is left out
  pub count_less_one : (p q : X → Bool) (xs : List X) (x : X) → Contains xs x → p x ≡ true → count_by p xs ≤ 1 → count_by q (filter (λ y. not (p y)) xs) + bit (q x) ≡ count_by q xs
  count_less_one p q xs x m t most =
      let alone = only (filter p xs) x (let len = length-filter p xs in omega arith) (filter_has p xs x m t) in
      let one = ap (count_by q) alone ∙ sum_by-cons (λ y. bit (q y)) x [] in
      omega (arith, sum_by-filter_both p (λ y. not (p y)) (λ y. refl) (λ y. bit (q y)) xs)

  -- ---- maps

  module _ {Y : Type 0} where
    pub find_map : (h : X → Y) (p : Y → Bool) (xs : List X) → find p (map h xs) ≡ option_map h (find (λ x. p (h x)) xs)
    find_map h p [] = refl
    find_map h p (x ∷ xs) = grind (arith, find_map h p xs)

    pub count_map : (h : X → Y) (p : Y → Bool) (xs : List X) → count_by p (map h xs) ≡ count_by (λ x. p (h x)) xs
    count_map h p [] = refl
    count_map h p (x ∷ xs) = omega (arith, sum_by-cons (λ y. bit (p y)) (h x) (map h xs), sum_by-cons (λ y. bit (p (h y))) x xs, count_map h p xs)

    pub any_map : (h : X → Y) (p : Y → Bool) (xs : List X) → list_any p (map h xs) ≡ list_any (λ x. p (h x)) xs
    any_map h p [] = refl
    any_map h p (x ∷ xs) = ap (λ b. p (h x) || b) (any_map h p xs)

    pub filter_map_is : (h : X → Y) (p : Y → Bool) (xs : List X) → filter p (map h xs) ≡ map h (filter (λ x. p (h x)) xs)
    filter_map_is h p [] = refl
    filter_map_is h p (x ∷ xs) = grind (arith, filter_map_is h p xs)

    pub map_has : (h : X → Y) (xs : List X) (x : X) → Contains xs x → Contains (map h xs) (h x)
    map_has h xs x (k, l, e) = (k, rw length-map l, get_or-map h xs k x (h x) l ∙ ap h e)

    pub map_from : (h : X → Y) (xs : List X) (y : Y) → Contains (map h xs) y → (x : X) × Contains xs x × (h x ≡ y)
    map_from h [] y m = absurd (omega arith)
    map_from h (x ∷ xs) y (zero, l, e) = (x, head x xs, e)
    map_from h (x ∷ xs) y (suc k, l, e) = let p = map_from h xs y (k, omega arith, e) in (p.0, later x xs p.0 p.1, p.2)

    pub map_same : (g h : X → Y) (xs : List X) → ((x : X) → Contains xs x → g x ≡ h x) → map g xs ≡ map h xs
    map_same g h [] same = refl
    map_same g h (x ∷ xs) same = rw (same x (head x xs), map_same g h xs (λ y m. same y (later x xs y m))) refl

    -- a map after a map, where both together are a third one at each member
    pub map_both : {Z : Type 0} (f : X → Y) (g : Y → Z) (h : X → Z) (xs : List X) → ((x : X) → Contains xs x → h x ≡ g (f x)) → map h xs ≡ map g (map f xs)
    map_both f g h [] same = refl
    map_both f g h (x ∷ xs) same = rw (same x (head x xs), map_both f g h xs (λ y m. same y (later x xs y m))) refl

-- where one element alone passes a test, a closer test finds that one or nothing
pub find_closer : {X : Type 0} (p q : X → Bool) (xs : List X) → ((x : X) → Contains xs x → p x ≡ true → q x ≡ true) → ((x y : X) → Contains xs x → Contains xs y → q x ≡ true → q y ≡ true → y ≡ x) → (o : Option X) → find q xs ≡ o → find p xs ≡ elim o [ None ↦ None | Some y ↦ cond (p y) (Some y) None ]
find_closer p q xs closer own None e = find_none p xs (λ x m. false_from_ne_true (p x) (λ t. let a = closer x m t in let b = none_found q xs e x m in cc))
find_closer p q xs closer own (Some y) e =
    let is = found q xs y e in
    elim (cases_Bool (p y)) [
      | inl t ↦ rw t (find_is p xs y is.0 t (λ z m u. own y z is.0 m is.1 (closer z m u)))
      | inr f ↦ rw f (find_none p xs (λ x m. false_from_ne_true (p x) (λ t. let same = own y x is.0 m is.1 (closer x m t) in let g : p x ≡ false = ap p same ∙ f in cc)))
    ]

-- what an optional value is mapped to
pub mapped_some : {X Y : Type 0} (f : X → Y) (o : Option X) (y : Y) → option_map f o ≡ Some y → (x : X) × (o ≡ Some x) × (f x ≡ y)
mapped_some f None y e = absurd (cc)
mapped_some f (Some x) y e = (x, refl, cc)

pub mapped_none : {X Y : Type 0} (f : X → Y) (o : Option X) → option_map f o ≡ None → o ≡ None
mapped_none f None e = refl
mapped_none f (Some x) e = absurd (cc)
