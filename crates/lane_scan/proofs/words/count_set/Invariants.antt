use Rattle.std.proofs.Common.{◌≡◌, ◌≤◌, ◌-◌, length, take, count_by}
use Rattle.lane_scan.specs.Bits.{bits_of}
use Rattle.lane_scan.proofs.words.count_set.Given as goal

abbrev pub invariant-loop-at : goal.invariant-loop-at
invariant-loop-at l =
    record { within : l.at ≤ length l.words; counted : l.count ≡ count_by (λ bit. bit) (bits_of (take l.at l.words)) }

abbrev pub decreases-loop-at : goal.decreases-loop-at
decreases-loop-at l = length l.words - l.at
