-- Intervals below a bound that have no point in common are together no longer than the bound.
use Rattle.std.proofs.Common.{◌≡◌, ℕ, zero, suc, ◌+◌, ◌-◌, ◌≤◌, min, Bool, cond, List, [], ◌∷◌, refl, sym, arith, All, ltb as nat_lt, leb as nat_le, ◌&&◌}
use Rattle.space_model.proofs.Words.{sum_by, count_by, sum_by-cons, All-head, All-tail, nat_tests}

-- whether the point is among so many from the lowest on
abbrev pub has_point : ℕ → ℕ → ℕ → Bool
has_point low len point = nat_le low point && nat_lt point (low + len)

-- the sum of a function over the points below a bound
total : ℕ → (ℕ → ℕ) → ℕ
total zero f = 0
total (suc n) f = total n f + f n

-- the sum of a sum
total-add : (n : ℕ) (f g h : ℕ → ℕ) → ((k : ℕ) → h k ≡ f k + g k) → total n h ≡ total n f + total n g
unfolding total
total-add zero f g h is = refl
total-add (suc n) f g h is = omega (arith, total-add n f g h is, is n)

-- a function that is nothing has the sum 0
total-zero : (n : ℕ) → total n (λ _. 0) ≡ 0
unfolding total
total-zero zero = refl
total-zero (suc n) = omega (arith, total-zero n)

-- a function that is at most 1 has at most as many as there are points
total-ones : (n : ℕ) (f : ℕ → ℕ) → ((k : ℕ) → f k ≤ 1) → total n f ≤ n
unfolding total
total-ones zero f most = omega arith
total-ones (suc n) f most = omega (arith, total-ones n f most, most n)

-- the points of an interval below a bound
total-interval : (low len n : ℕ) → total n (λ k. cond (has_point low len k) 1 0) ≡ min n (low + len) - min n low
unfolding total
total-interval low len zero = omega arith
total-interval low len (suc n) = grind (arith, nat_tests, total-interval low len n)

-- the lengths of intervals are the points that they have
lengths-total : {X : Type 0} (low len : X → ℕ) (n : ℕ) (xs : List X) → All (λ x. low x + len x ≤ n) xs →
    sum_by len xs ≡ total n (λ k. count_by (λ x. has_point (low x) (len x) k) xs)
lengths-total low len n [] within = sym (total-zero n)
lengths-total low len n (x ∷ xs) within =
    let one : ℕ → ℕ = λ k. cond (has_point (low x) (len x) k) 1 0 in
    let rest : ℕ → ℕ = λ k. count_by (λ x. has_point (low x) (len x) k) xs in
    omega (
      arith,
      sum_by-cons len x xs,
      total-add n one rest (λ k. count_by (λ x. has_point (low x) (len x) k) (x ∷ xs)) (λ k. sum_by-cons (λ x. cond (has_point (low x) (len x) k) 1 0) x xs),
      total-interval (low x) (len x) n,
      All-head (λ x. low x + len x ≤ n) x xs within,
      lengths-total low len n xs (All-tail (λ x. low x + len x ≤ n) x xs within),
    )

-- intervals that have no point in common
pub lengths-le : {X : Type 0} (low len : X → ℕ) (n : ℕ) (xs : List X) → All (λ x. low x + len x ≤ n) xs →
    ((k : ℕ) → count_by (λ x. has_point (low x) (len x) k) xs ≤ 1) → sum_by len xs ≤ n
lengths-le low len n xs within most =
    omega (arith, lengths-total low len n xs within, total-ones n (λ k. count_by (λ x. has_point (low x) (len x) k) xs) most)
