-- Sums, counts, filters and searches over any list.
use Rattle.std.proofs.Common.{◌≡◌, ℕ, zero, suc, ◌+◌, ◌<◌, ◌≤◌, Bool, true, false, not, cond, IsTrue, List, [], ◌∷◌, length, get_or, take, drop, map, Option, Some, None, refl, sym, ◌∙◌, ap, subst, arith, All, find, filter, insert, remove, ◌&&◌, ◌||◌}
use Rattle.space_model.proofs.Words.{sum_by, count_by, list_any, flat_map, position_or_len, nil_from_length, list_any_at, sum_by-cons, sum_by-le-sum_by, get_or-le-sum_by, length-filter, All-append, All-cons, All-nil, All-head, All-tail, All-take, All-drop, filter_passes, option_or}
use Rattle.space_model.proofs.Mixes.{mix_filter, mixed_filter}

-- 1 for true, 0 for false
abbrev pub ones : Bool → ℕ
ones b = cond b 1 0

-- what is said of either that isn't so isn't so of the second
pub or_false : (a b : Bool) → (a || b) ≡ false → b ≡ false
or_false a b h = grind arith

-- what isn't, is not
pub not_true : (b : Bool) → not b ≡ true → b ≡ false
not_true b h = grind arith

-- what is false isn't true
pub false_true : IsTrue false → ⊥
false_true h = let e : false ≡ true = h in cc

-- what a conditional search found, it found
pub if_found : {X : Type 0} (b : Bool) (o : Option X) (x : X) → cond b o None ≡ Some x → (b ≡ true) × (o ≡ Some x)
if_found b o x e = grind arith

-- what one of two searches found, the first or the second found
pub either_found : {X : Type 0} (P : Type 0) (a b : Option X) (x : X) → (a ≡ Some x → P) → (b ≡ Some x → P) → option_or a b ≡ Some x → P
either_found P None b x first second e = second e
either_found P (Some y) b x first second e = first e

-- where a sum is nothing, each term is
pub sum_nothing : {X : Type 0} (f : X → ℕ) (xs : List X) → sum_by f xs ≡ 0 → All (λ x. f x ≡ 0) xs
sum_nothing f xs none = λ k d h. omega (arith, get_or-le-sum_by f xs k d h)

-- where each term is nothing, the sum is
pub nothing_sum : {X : Type 0} (f : X → ℕ) (xs : List X) → All (λ x. f x ≡ 0) xs → sum_by f xs ≡ 0
nothing_sum f [] none = refl
nothing_sum f (x ∷ xs) none = omega (arith, sum_by-cons f x xs, none 0 x (omega arith), nothing_sum f xs (λ k d h. none (suc k) d (omega arith)))

-- where none that passes a test passes another one, none of those is counted
pub apart_count : {X : Type 0} (test other : X → Bool) (xs : List X) → ((x : X) → test x ≡ true → other x ≡ false) → count_by other (filter test xs) ≡ 0
apart_count test other xs apart = nothing_sum (λ x. ones (other x)) (filter test xs) (λ k d h. ap ones (apart _ (filter_passes test xs k d h)))

-- a sum of two terms
pub sum_add : {X : Type 0} (f g : X → ℕ) (xs : List X) → sum_by (λ x. f x + g x) xs ≡ sum_by f xs + sum_by g xs
sum_add f g [] = refl
sum_add f g (x ∷ xs) = omega (arith, sum_by-cons (λ y. f y + g y) x xs, sum_by-cons f x xs, sum_by-cons g x xs, sum_add f g xs)

-- a sum over what a list turns into
pub map_terms : {X Y : Type 0} (f : Y → ℕ) (g : X → Y) (xs : List X) → sum_by f (map g xs) ≡ sum_by (λ x. f (g x)) xs
map_terms f g [] = refl
map_terms f g (x ∷ xs) = omega (arith, sum_by-cons f (g x) (map g xs), sum_by-cons (λ y. f (g y)) x xs, map_terms f g xs)

-- a sum of terms that are larger at each element is larger
pub all_sum_le : {X : Type 0} (f g : X → ℕ) (xs : List X) → All (λ x. f x ≤ g x) xs → sum_by f xs ≤ sum_by g xs
all_sum_le f g [] all = omega arith
all_sum_le f g (x ∷ xs) all =
    omega (arith, sum_by-cons f x xs, sum_by-cons g x xs, All-head (λ y. f y ≤ g y) x xs all, all_sum_le f g xs (All-tail (λ y. f y ≤ g y) x xs all))

-- a sum over what passes either of two tests, where nothing passes both
pub sum_by-either : {X : Type 0} (f : X → ℕ) (a b : X → Bool) → ((x : X) → a x ≡ true → b x ≡ false) → (xs : List X) →
    sum_by f (filter (λ x. a x || b x) xs) ≡ sum_by f (filter a xs) + sum_by f (filter b xs)
sum_by-either f a b apart [] = refl
sum_by-either f a b apart (x ∷ xs) =
    let either = filter (λ y. a y || b y) xs in
    grind (arith, apart x, sum_by-cons f x either, sum_by-cons f x (filter a xs), sum_by-cons f x (filter b xs), sum_by-either f a b apart xs)

-- what some element passes is counted
pub any_counts : {X : Type 0} (test : X → Bool) (xs : List X) → list_any test xs ≡ true → 0 < count_by test xs
any_counts test [] h = absurd (cc)
any_counts test (x ∷ xs) h = grind (arith, sum_by-cons (λ y. cond (test y) 1 0) x xs, any_counts test xs)

-- what is counted is there
pub counted_any : {X : Type 0} (test : X → Bool) (xs : List X) → 0 < count_by test xs → list_any test xs ≡ true
counted_any test [] some = absurd (omega arith)
counted_any test (x ∷ xs) some = grind (arith, sum_by-cons (λ y. cond (test y) 1 0) x xs, counted_any test xs)

-- what no element passes, this one doesn't
pub none_passes : {X : Type 0} (test : X → Bool) (xs : List X) (k : ℕ) (d : X) → list_any test xs ≡ false → k < length xs → test (get_or xs k d) ≡ false
none_passes test xs k d none h = grind (arith, list_any_at test xs k d h)

-- what no element passes is counted nowhere
pub none_counted : {X : Type 0} (test : X → Bool) (xs : List X) → list_any test xs ≡ false → count_by test xs ≡ 0
none_counted test xs none = nothing_sum (λ x. ones (test x)) xs (λ k d h. ap ones (none_passes test xs k d none h))

-- an extent that is found passes the test
pub find_passes : {X : Type 0} (test : X → Bool) (xs : List X) (x : X) → find test xs ≡ Some x → test x ≡ true
find_passes test [] x e = absurd (cc)
find_passes test (y ∷ ys) x e = grind (arith, find_passes test ys x)

-- what is true of each element is true of one that is found
pub find_has : {X : Type 0} (P : X → Type 0) (test : X → Bool) (xs : List X) (x : X) → All P xs → find test xs ≡ Some x → P x
find_has P test [] x all e = absurd (cc)
find_has P test (y ∷ ys) x all e =
    elim (test y) as (λ b. cond b (Some y) (find test ys) ≡ Some x → P x) [
      | true ↦ λ k. let same : y ≡ x = cc in subst P same (All-head P y ys all)
      | false ↦ λ k. find_has P test ys x (All-tail P y ys all) k
    ] e

-- the term of an extent that is found is within the sum
pub find-le-sum_by : {X : Type 0} (f : X → ℕ) (test : X → Bool) (xs : List X) (x : X) → find test xs ≡ Some x → f x ≤ sum_by f xs
find-le-sum_by f test [] x e = absurd (cc)
find-le-sum_by f test (y ∷ ys) x e = grind (arith, sum_by-cons f y ys, find-le-sum_by f test ys x)

-- where nothing is found, nothing passes
pub find_nothing : {X : Type 0} (test : X → Bool) (xs : List X) → find test xs ≡ None → (k : ℕ) (d : X) → k < length xs → test (get_or xs k d) ≡ false
find_nothing test [] e k d h = absurd (omega arith)
find_nothing test (x ∷ xs) e zero d h = grind arith
find_nothing test (x ∷ xs) e (suc k) d h = grind (arith, find_nothing test xs)

-- what no element passes keeps nothing
pub filter_nothing : {X : Type 0} (f : X → Bool) (xs : List X) → count_by f xs ≡ 0 → filter f xs ≡ []
filter_nothing f xs none = nil_from_length (filter f xs) (length-filter f xs ∙ none)

-- a filter that keeps none of what another filter takes keeps the same without it
pub filter-without : {X : Type 0} (f gone : X → Bool) (xs : List X) → filter f (filter gone xs) ≡ [] → filter f (filter (λ x. not (gone x)) xs) ≡ filter f xs
filter-without f gone xs none = sym (mix_filter f (mixed_filter gone xs) (sym (length-filter f (filter gone xs)) ∙ ap length none))

-- a filter that doesn't keep the first element that passes a test keeps the same without it
pub without_first : {X : Type 0} (f test : X → Bool) (xs : List X) → ((x : X) → test x ≡ true → f x ≡ false) → filter f (remove xs (position_or_len test xs)) ≡ filter f xs
without_first f test [] apart = refl
without_first f test (x ∷ xs) apart =
    elim (test x) as (λ b. test x ≡ b → filter f (remove (x ∷ xs) (cond (not b) (1 + position_or_len test xs) 0)) ≡ filter f (x ∷ xs)) [
      | true ↦ λ h. rw (apart x h) refl
      | false ↦ λ h. let more : suc (position_or_len test xs) ≡ 1 + position_or_len test xs = omega arith in
          subst (λ n. filter f (remove (x ∷ xs) n) ≡ filter f (x ∷ xs)) more
          (elim (f x) as (λ b. cond b (x ∷ filter f (remove xs (position_or_len test xs))) (filter f (remove xs (position_or_len test xs))) ≡ cond b (x ∷ filter f xs) (filter f xs))
          [ true ↦ ap (λ ys. x ∷ ys) (without_first f test xs apart) | false ↦ without_first f test xs apart ])
    ] refl

-- of a list in which none passes a test and none fails it nothing is left
pub nothing_left : {X : Type 0} (test : X → Bool) (xs : List X) → count_by test xs ≡ 0 → count_by (λ x. not (test x)) xs ≡ 0 → xs ≡ []
nothing_left test [] none all = refl
nothing_left test (x ∷ xs) none all = absurd (grind (arith, sum_by-cons (λ y. ones (test y)) x xs, sum_by-cons (λ y. ones (not (test y))) x xs))

-- where at most one element passes a test, one that is found and does is the only one
pub only_one : {X : Type 0} (key test : X → Bool) (xs : List X) (x : X) → count_by key xs ≤ 1 → find test xs ≡ Some x → key x ≡ true → filter key xs ≡ x ∷ []
only_one {X} key test [] x most e is = absurd (cc)
only_one {X} key test (y ∷ ys) x most e is =
    let ones_of : X → ℕ = λ z. cond (key z) 1 0 in
    grind (arith, sum_by-cons ones_of y ys, filter_nothing key ys, find-le-sum_by ones_of test ys x, only_one key test ys x)

-- a test in two halves
pub halves : (a b : Bool) → ones (a && b) + ones (a && not b) ≤ ones a
halves a b = grind arith

-- where at most one element passes a test, and one does that passes another, each that passes the first passes that
pub sole : {X : Type 0} (f key : X → Bool) (xs : List X) (j : ℕ) (e : X) → count_by f xs ≤ 1 → j < length xs → f (get_or xs j e) ≡ true → key (get_or xs j e) ≡ true → All (λ y. f y ≡ true → key y ≡ true) xs
sole f key xs j e most within passes is =
    let x = get_or xs j e in
    let one : ones (f x && key x) ≡ 1 = rw (passes, is) refl in
    let split : sum_by (λ y. ones (f y && key y) + ones (f y && not (key y))) xs ≤ count_by f xs = sum_by-le-sum_by (λ y. ones (f y && key y) + ones (f y && not (key y))) (λ y. ones (f y)) xs (λ y. halves (f y) (key y)) in
    let none : sum_by (λ y. ones (f y && not (key y))) xs ≡ 0 = omega (
      arith,
      one,
      split,
      most,
      sum_add (λ y. ones (f y && key y)) (λ y. ones (f y && not (key y))) xs,
      get_or-le-sum_by (λ y. ones (f y && key y)) xs j e within,
    ) in
    λ k d h yes. grind (arith, yes, sum_nothing (λ y. ones (f y && not (key y))) xs none k d h)

-- what is true of each element and of one more is true when that is inserted
pub All-insert : {X : Type 0} (P : X → Type 0) (xs : List X) (i : ℕ) (x : X) → All P xs → P x → All P (insert xs i x)
All-insert P xs i x all here = All-append P (take i xs) (x ∷ drop i xs) (All-take P i xs all) (All-cons P x (drop i xs) here (All-drop P i xs all))

-- what is true of each element of each list is true of all lists joined
pub All-flat_map : {X Y : Type 0} (P : Y → Type 0) (f : X → List Y) (xs : List X) → All (λ x. All P (f x)) xs → All P (flat_map f xs)
All-flat_map P f [] all = All-nil P
All-flat_map P f (x ∷ xs) all = All-append P (f x) (flat_map f xs) (All-head (λ y. All P (f y)) x xs all) (All-flat_map P f xs (All-tail (λ y. All P (f y)) x xs all))
