-- Sums over the views, and over the numbers that they have.
use Rattle.turn_lock.proofs.Words.{◌≡◌, ℕ, ◌+◌, ◌≤◌, ◌≢◌, zero, suc, cond, ltb, List, [], ◌∷◌, ◌++◌, map, length, take, drop, set, sym, refl, ap, arith, range_with_len, nat_tests, some, some-injective, some-ne-none, get_elem?, total, times}

module _ {A : Type 0} (f : A → ℕ) where
  -- the sum after one element is replaced
  pub total_set : (xs : List A) (i : ℕ) (a b : A) → get_elem? xs i ≡ some a → total f (set xs i b) + f a ≡ total f xs + f b
  total_set [] i a b e = absurd (some-ne-none a (sym e))
  total_set (x ∷ xs) zero a b e = let is : f x ≡ f a = ap f (some-injective x a e) in omega arith
  total_set (x ∷ xs) (suc i) a b e = let rest = total_set xs i a b e in omega arith

  -- the sum of two lists
  pub total_append : (xs ys : List A) → total f (xs ++ ys) ≡ total f xs + total f ys
  total_append [] ys = omega arith
  total_append (x ∷ xs) ys = let rest = total_append xs ys in omega arith

  -- an element counts no more than all
  pub total_one : (xs : List A) (i : ℕ) (a : A) → get_elem? xs i ≡ some a → f a ≤ total f xs
  total_one [] i a e = absurd (some-ne-none a (sym e))
  total_one (x ∷ xs) zero a e = let is : f x ≡ f a = ap f (some-injective x a e) in omega arith
  total_one (x ∷ xs) (suc i) a e = let rest = total_one xs i a e in omega arith

  -- nor do two at different places
  pub total_two : (xs : List A) (i j : ℕ) (a b : A) → i ≢ j → get_elem? xs i ≡ some a → get_elem? xs j ≡ some b → f a + f b ≤ total f xs
  total_two [] i j a b n e d = absurd (some-ne-none a (sym e))
  total_two (x ∷ xs) zero zero a b n e d = absurd (n refl)
  total_two (x ∷ xs) zero (suc j) a b n e d = let is : f x ≡ f a = ap f (some-injective x a e) in let rest = total_one xs j b d in omega arith
  total_two (x ∷ xs) (suc i) zero a b n e d = let is : f x ≡ f b = ap f (some-injective x b d) in let rest = total_one xs i a e in omega arith
  total_two (x ∷ xs) (suc i) (suc j) a b n e d = let rest = total_two xs i j a b (λ p. n (ap suc p)) e d in omega arith

-- a sum of no larger terms is no larger
pub total_le : {A : Type 0} (f g : A → ℕ) (xs : List A) → ((i : ℕ) (a : A) → get_elem? xs i ≡ some a → f a ≤ g a) → total f xs ≤ total g xs
total_le f g [] le = omega arith
total_le f g (x ∷ xs) le = let here = le 0 x refl in let rest = total_le f g xs (λ i a. le (suc i) a) in omega arith

-- a number of a range stands in it once
pub times_range : (n a k : ℕ) → times n (range_with_len a k) ≡ cond (ltb n (a + k)) (cond (ltb n a) 0 1) 0
times_range n a zero = grind (arith, nat_tests)
times_range n a (suc k) = let rest = times_range n (a + 1) k in grind (arith, nat_tests)

-- the first number and the later ones are all of them
pub times_parts : (n : ℕ) (xs : List ℕ) → times n (take 1 xs) + times n (drop 1 xs) ≡ times n xs
times_parts n [] = refl
times_parts n (x ∷ xs) = omega arith

-- the first number and the later ones are as many
pub length_parts : (xs : List ℕ) → length (take 1 xs) + length (drop 1 xs) ≡ length xs
length_parts [] = refl
length_parts (x ∷ xs) = omega arith

-- what two functions of each element count together
pub total_parts : {A B : Type 0} (f : B → ℕ) (l r : A → B) (g : A → ℕ) → ((a : A) → f (l a) + f (r a) ≡ g a) → (xs : List A) → total f (map l xs) + total f (map r xs) ≡ total g xs
total_parts f l r g both [] = refl
total_parts f l r g both (x ∷ xs) = let here = both x in let rest = total_parts f l r g both xs in omega arith

-- an element of a mapped list comes from one of the list
pub at_mapped : {A B : Type 0} (f : A → B) (xs : List A) (i : ℕ) (b : B) → get_elem? (map f xs) i ≡ some b → (a : A) × (get_elem? xs i ≡ some a) × (f a ≡ b)
at_mapped f [] i b e = absurd (some-ne-none b (sym e))
at_mapped f (x ∷ xs) zero b e = (x, refl, some-injective (f x) b e)
at_mapped f (x ∷ xs) (suc i) b e = at_mapped f xs i b e

-- an element of two lists end to end is one of either
pub at_append : {A : Type 0} (P : A → Type 0) (xs ys : List A) → ((i : ℕ) (a : A) → get_elem? xs i ≡ some a → P a) → ((i : ℕ) (a : A) → get_elem? ys i ≡ some a → P a) → (i : ℕ) (a : A) → get_elem? (xs ++ ys) i ≡ some a → P a
at_append P [] ys left right i a e = right i a e
at_append P (x ∷ xs) ys left right zero a e = left 0 a e
at_append P (x ∷ xs) ys left right (suc i) a e = at_append P xs ys (λ j b. left (suc j) b) right i a e
