use Rattle.std.proofs.Common.{◌≡◌, ◌*◌, ◌<◌, ℕ, get_or, map, take, drop}
use lib.Lanes.{mask_l}
use Rattle.lane_scan.specs.Ranges.{is_inside}
use Rattle.lane_scan.proofs.ranges.mark_inside.Given as goal

abbrev pub invariant-loop-word : goal.invariant-loop-word
invariant-loop-word l = record {
  left : l.rest ≡ drop (64 * l.word-index) l.values;
  marked : (j : ℕ) → j < l.word-index → get_or l.out j 0 ≡ mask_l (map (is_inside l.lo l.hi) (take 64 (drop (64 * j) l.values)));
}
