-- Lists of numbers that count up.
use Rattle.std.proofs.Common.{◌≡◌, ℕ, zero, suc, ◌+◌, [], ◌∷◌, ◌++◌, ap, arith, add-one}
use Rattle.space_model.proofs.Words.{range_with_len}

-- one more number stands at the end
range_with_len-suc : (a n b : ℕ) → a + n ≡ b → range_with_len a (suc n) ≡ range_with_len a n ++ b ∷ []
range_with_len-suc a zero b h = let e : a ≡ b = omega arith in ap (λ x. x ∷ []) e
range_with_len-suc a (suc n) b h = ap (λ xs. a ∷ xs) (range_with_len-suc (a + 1) n b (omega arith))

-- the same, as a loop counts
pub range_with_len_more : (a n b : ℕ) → a + n ≡ b → range_with_len a (n + 1) ≡ range_with_len a n ++ b ∷ []
range_with_len_more a n b h = rw add-one (range_with_len-suc a n b h)
