-- Sums over the views of all seats, where one view is replaced.
use Rattle.hook_api.proofs.Words.{◌≡◌, ℕ, ◌+◌, ◌<◌, ◌≤◌, ◌≢◌, zero, suc, List, [], ◌∷◌, length, get_or, set, sym, ap, subst, ⊎_elim, arith, refl, sum_by, sum_by-cons, sum_by-set, some, some-injective, some-ne-none, dite, dec_lt, get_elem?, at_set}

module _ {A : Type 0} where
  -- an element that is there lies within the list, and is read there
  pub at_within : (l : List A) (i : ℕ) (a d : A) → get_elem? l i ≡ some a → (i < length l) × (get_or l i d ≡ a)
  at_within [] i a d e = absurd (some-ne-none a (sym e))
  at_within (x ∷ xs) zero a d e = (omega arith, some-injective x a e)
  at_within (x ∷ xs) (suc i) a d e = let r = at_within xs i a d e in let lt = r.0 in (omega arith, r.1)

  -- the sum over a list after one element is replaced
  pub sum_set : (f : A → ℕ) (l : List A) (i : ℕ) (a b : A) → get_elem? l i ≡ some a → sum_by f (set l i b) + f a ≡ sum_by f l + f b
  sum_set f l i a b e = let r = at_within l i a a e in let h = sum_by-set f l i b a r.0 in let same : f (get_or l i a) ≡ f a = ap f r.1 in omega arith

  -- one element counts no more than all
  pub sum_one : (f : A → ℕ) (l : List A) (i : ℕ) (a : A) → get_elem? l i ≡ some a → f a ≤ sum_by f l
  sum_one f [] i a e = absurd (some-ne-none a (sym e))
  sum_one f (x ∷ xs) zero a e = let is : f x ≡ f a = ap f (some-injective x a e) in let s = sum_by-cons f x xs in omega arith
  sum_one f (x ∷ xs) (suc i) a e = let rest = sum_one f xs i a e in let s = sum_by-cons f x xs in omega arith

  -- nor do two at different places
  pub sum_two : (f : A → ℕ) (l : List A) (i j : ℕ) (a b : A) → i ≢ j → get_elem? l i ≡ some a → get_elem? l j ≡ some b → f a + f b ≤ sum_by f l
  sum_two f [] i j a b n e d = absurd (some-ne-none a (sym e))
  sum_two f (x ∷ xs) zero zero a b n e d = absurd (n refl)
  sum_two f (x ∷ xs) zero (suc j) a b n e d = let is : f x ≡ f a = ap f (some-injective x a e) in let rest = sum_one f xs j b d in let s = sum_by-cons f x xs in omega arith
  sum_two f (x ∷ xs) (suc i) zero a b n e d = let is : f x ≡ f b = ap f (some-injective x b d) in let rest = sum_one f xs i a e in let s = sum_by-cons f x xs in omega arith
  sum_two f (x ∷ xs) (suc i) (suc j) a b n e d = let rest = sum_two f xs i j a b (λ p. n (ap suc p)) e d in let s = sum_by-cons f x xs in omega arith

  -- where the sum isn't 0, some element counts
  pub sum_some : (f : A → ℕ) (l : List A) → 0 < sum_by f l → (j : ℕ) × (a : A) × (get_elem? l j ≡ some a) × (0 < f a)
  sum_some f [] some_sum = absurd (omega arith)
  sum_some f (x ∷ xs) some_sum = dite (dec_lt 0 (f x)) (λ here. (0, x, refl, here))
      (λ none_here. let s = sum_by-cons f x xs in let r = sum_some f xs (omega arith) in (suc r.0, r.1, r.2, r.3))

  -- the cases of a place after one was set
  pub set_cases : (P : A → Type 0) (l : List A) (id : ℕ) (w : A) → P w → ((j : ℕ) (u : A) → j ≢ id → get_elem? l j ≡ some u → P u) → (j : ℕ) (u : A) → get_elem? (set l id w) j ≡ some u → P u
  set_cases P l id w mine others j u e = ⊎_elim (λ (t : (j ≡ id) × (w ≡ u)). subst P t.1 mine) (λ (t : (j ≢ id) × (get_elem? l j ≡ some u)). others j u t.0 t.1) (at_set l id j w u e)

  -- the only place of a list of one
  pub at_only : (P : A → Type 0) (a : A) → P a → (j : ℕ) (u : A) → get_elem? (a ∷ []) j ≡ some u → P u
  at_only P a here zero u e = subst P (some-injective a u e) here
  at_only P a here (suc j) u e = absurd (some-ne-none u (sym e))
