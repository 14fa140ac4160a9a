use Rattle.std.proofs.Common.{◌≡◌, ℕ, ◌+◌, ◌<◌, get_or, ◌==◌, length}
use Rattle.plain_machine.proofs.Words.{count_by}
use Rattle.plain_machine.proofs.sums.regions_by_class.Given as goal

-- the numbers so far
abbrev pub invariant-loop-i : goal.invariant-loop-i
invariant-loop-i g l = record {
  len : length l.numbers ≡ g.row.N;
  counted : (k : ℕ) → k < l.i → get_or l.numbers k 0 ≡ count_by (λ r. r.class == l.fn.first + k) l.fn.regions;
}
