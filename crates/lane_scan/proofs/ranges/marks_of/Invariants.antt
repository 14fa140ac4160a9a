use Rattle.std.proofs.Common.{◌≡◌, ◌≤◌, ◌-◌, length, map, take}
use lib.Lanes.{mask_l}
use Rattle.lane_scan.specs.Ranges.{is_inside}
use Rattle.lane_scan.proofs.ranges.marks_of.Given as goal

abbrev pub invariant-loop-at : goal.invariant-loop-at
invariant-loop-at l =
    record { within : l.at ≤ length l.values; marked : l.word ≡ mask_l (map (is_inside l.lo l.hi) (take l.at l.values)) }

abbrev pub decreases-loop-at : goal.decreases-loop-at
decreases-loop-at l = length l.values - l.at
