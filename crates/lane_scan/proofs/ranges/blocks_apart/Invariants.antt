use Rattle.std.proofs.Common.{◌≡◌, ◌≤◌, ◌<◌, ◌-◌, ℕ, false, length, get_or}
use Rattle.lane_scan.specs.Ranges.{meets}
use Rattle.lane_scan.proofs.ranges.blocks_apart.Given as goal

abbrev pub invariant-loop-at : goal.invariant-loop-at
invariant-loop-at l = record {
  within : l.at ≤ length l.firsts;
  apart : (k : ℕ) → k < l.at → meets l.lo l.hi (get_or l.firsts k 0, get_or l.ends k 0) ≡ false;
}

abbrev pub decreases-loop-at : goal.decreases-loop-at
decreases-loop-at l = length l.firsts - l.at
