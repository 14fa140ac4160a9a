-- That a reset counts no more regions than there are.
use Rattle.std.proofs.Common.{ℕ, ◌+◌, ◌≤◌, cond, IsTrue, List, length, arith, leb as nat_le, leb-true}
use Rattle.std.proofs.lemmas.List.Sums.{sum_by-le}
use Rattle.space_model.proofs.Words.{nat_tests, count_by, Region, Space, is_held_by, is_held_by_other, reset_stands}
use Rattle.space_model.proofs.Pieces.{both_true}
use Rattle.space_model.proofs.Lists.{sum_add}

-- the regions of others and of the client are no more than there are
pub held_apart : (c : ℕ) (regions : List Region) → count_by (is_held_by_other c) regions + count_by (is_held_by c) regions ≤ length regions
held_apart c regions =
    let both : Region → ℕ = λ r. cond (is_held_by_other c r) 1 0 + cond (is_held_by c r) 1 0 in
    omega (arith, sum_add (λ r. cond (is_held_by_other c r) 1 0) (λ r. cond (is_held_by c r) 1 0) regions, sum_by-le both 1 regions (λ k d h. grind (arith, nat_tests)))

-- no more regions are cached than the client holds
pub cached_least : (s : Space) (c cached : ℕ) → IsTrue (reset_stands s c cached) → cached ≤ count_by (is_held_by c) s.regions
cached_least s c cached h = leb-true _ _ (both_true _ (nat_le cached (count_by (is_held_by c) s.regions)) h).1
