-- Searches and filters of lists, one after the other.
use Rattle.call_plan.proofs.Words.{suc, ◌≡◌, ℕ, ◌+◌, ◌<◌, ◌&&◌, ◌||◌, Bool, true, false, not, cond, List, [], ◌∷◌, None, Some, All, refl, sym, ◌∙◌, ap, subst, arith, filter, find, length, list_any, remove, position_or_len, and-true, and_comm, All-head, filter_passes, length-filter_both, length-filter, find-le-sum_by}

-- what passes two tests is sought among what passes the first
pub find-both : {X : Type 0} (a b : X → Bool) (xs : List X) → find (λ x. a x && b x) xs ≡ find b (filter a xs)
find-both a b [] = refl
find-both a b (x ∷ xs) = grind (arith, find-both a b xs)

pub any-both : {X : Type 0} (a b : X → Bool) (xs : List X) → list_any (λ x. a x && b x) xs ≡ list_any b (filter a xs)
any-both a b [] = refl
any-both a b (x ∷ xs) = grind (arith, any-both a b xs)

-- two filters are one
filter-both : {X : Type 0} (a b : X → Bool) (xs : List X) → filter (λ x. a x && b x) xs ≡ filter b (filter a xs)
filter-both a b [] = refl
filter-both a b (x ∷ xs) = grind (arith, filter-both a b xs)

-- tests that agree are one test
by_test : {X Y : Type 0} (F : (X → Bool) → Y) (f g : X → Bool) → ((x : X) → f x ≡ g x) → F f ≡ F g
by_test F f g e = λ i. F (λ x. e x i)

pub any-filter : {X : Type 0} (a : X → Bool) (xs : List X) → list_any a xs ≡ list_any (λ _. true) (filter a xs)
any-filter a xs = by_test (λ f. list_any f xs) a (λ x. a x && true) (λ x. sym (and-true (a x))) ∙ any-both a (λ _. true) xs

-- where some element passes a test, there is one
pub any_some : {X : Type 0} (f : X → Bool) (xs : List X) → list_any f xs ≡ true → list_any (λ _. true) xs ≡ true
any_some f [] h = absurd (cc)
any_some f (x ∷ xs) h = refl

-- where some element passes a test, one passes what that implies
pub any_weaker : {X : Type 0} (f g : X → Bool) (xs : List X) → ((x : X) → f x ≡ true → g x ≡ true) → list_any f xs ≡ true → list_any g xs ≡ true
any_weaker f g [] weaker h = absurd (cc)
any_weaker f g (x ∷ xs) weaker h = grind (arith, weaker x, any_weaker f g xs weaker)

-- where none passes, none is
pub none-any : {X : Type 0} (f : X → Bool) (xs : List X) → filter f xs ≡ [] → list_any f xs ≡ false
none-any f xs e = grind (arith, any-filter f xs)

-- two filters may be applied in either order
pub filter-swap : {X : Type 0} (a b : X → Bool) (xs : List X) → filter a (filter b xs) ≡ filter b (filter a xs)
filter-swap a b xs = sym (filter-both b a xs) ∙ by_test (λ f. filter f xs) _ _ (λ x. and_comm (b x) (a x)) ∙ filter-both a b xs

-- those that are neither are left after one filter and the other
pub filter-either : {X : Type 0} (a b : X → Bool) (xs : List X) → filter (λ x. not (a x || b x)) xs ≡ filter (λ x. not (b x)) (filter (λ x. not (a x)) xs)
filter-either a b [] = refl
filter-either a b (x ∷ xs) = grind (arith, filter-either a b xs)

-- what is sought and would stay is found after others went
pub find-kept : {X : Type 0} (test keep : X → Bool) (xs : List X) → ((x : X) → test x ≡ true → keep x ≡ true) → find test (filter keep xs) ≡ find test xs
find-kept test keep [] stays = refl
find-kept test keep (x ∷ xs) stays = grind (arith, find-kept test keep xs stays, stays x)

-- where none of these is there, none is found that would be one of them
pub find-none : {X : Type 0} (test f : X → Bool) (xs : List X) → filter f xs ≡ [] → ((x : X) → test x ≡ true → f x ≡ true) → find test xs ≡ None
find-none test f xs e one = sym (find-kept test f xs one) ∙ ap (find test) e

-- once one that was found is gone, there are fewer
pub filter-fewer : {X : Type 0} (test gone : X → Bool) (xs : List X) (x : X) → find test xs ≡ Some x → gone x ≡ true →
    length (filter (λ y. not (gone y)) xs) < length xs
filter-fewer test gone xs x e g =
    omega (arith, length-filter_both gone (λ y. not (gone y)) (λ _. refl) xs, length-filter gone xs, find-le-sum_by (λ y. cond (gone y) 1 0) test xs x e, ap {B = ℕ} (λ (v : Bool). cond v 1 0) g)

-- what alone passes a filter passes its test
pub passes_alone : {X : Type 0} (f : X → Bool) (xs : List X) (x : X) → filter f xs ≡ x ∷ [] → f x ≡ true
passes_alone f xs x e = All-head (λ y. f y ≡ true) x [] (subst (All (λ y. f y ≡ true)) e (filter_passes f xs))

-- the first that passes heads those that pass
pub first_heads : {X : Type 0} (f : X → Bool) (xs : List X) (x : X) → find f xs ≡ Some x → (ys : List X) × (filter f xs ≡ x ∷ ys)
first_heads {X} f [] x e = absurd (cc)
first_heads {X} f (y ∷ ys) x e =
    elim (f y) as (λ v. cond v (Some y) (find f ys) ≡ Some x → (zs : List X) × (cond v (y ∷ filter f ys) (filter f ys) ≡ x ∷ zs)) [ true ↦ λ k. (filter f ys, cc) | false ↦ λ k. first_heads f ys x k ] e

pub none_passes : {X : Type 0} (f : X → Bool) (xs : List X) → find f xs ≡ None → filter f xs ≡ []
none_passes f [] e = refl
none_passes f (y ∷ ys) e = grind (arith, none_passes f ys)

-- what would be gone isn't found
pub find-gone : {X : Type 0} (test keep : X → Bool) (xs : List X) → ((x : X) → test x ≡ true → keep x ≡ false) → find test (filter keep xs) ≡ None
find-gone test keep [] goes = refl
find-gone test keep (x ∷ xs) goes = grind (arith, find-gone test keep xs goes, goes x)

-- of the only one of a kind that is found, none of the kind is left once it is taken out
pub filter-removed : {X : Type 0} (f test : X → Bool) (xs : List X) (x : X) → filter f xs ≡ x ∷ [] → test x ≡ true → ((y : X) → test y ≡ true → f y ≡ true) →
    filter f (remove xs (position_or_len test xs)) ≡ []
filter-removed f test [] x e found kind = refl
filter-removed f test (y ∷ ys) x e found kind =
    elim (test y) as (λ v. test y ≡ v → filter f (remove (y ∷ ys) (cond (not v) (1 + position_or_len test ys) 0)) ≡ []) [
      | true ↦ λ t. let own = kind y t in grind arith
      | false ↦ λ t.
          let next : suc (position_or_len test ys) ≡ 1 + position_or_len test ys = omega arith in
          subst (λ i. filter f (remove (y ∷ ys) i) ≡ []) next (grind (arith, filter-removed f test ys x))
    ] refl
