use Rattle.std.proofs.Common.{◌≡◌, ℕ, ◌<◌, get_or, length}
use Rattle.plain_machine.proofs.Words.{count_by, is_slab}
use Rattle.plain_machine.proofs.sums.slabs_by_class.Given as goal

-- the numbers so far
abbrev pub invariant-loop-class : goal.invariant-loop-class
invariant-loop-class l = record {
  len : length l.numbers ≡ 36;
  counted : (k : ℕ) → k < l.class → get_or l.numbers k 0 ≡ count_by (is_slab k l.fn.space.regions) l.fn.space.parts;
}
