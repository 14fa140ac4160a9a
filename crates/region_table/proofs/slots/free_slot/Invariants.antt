use Rattle.std.proofs.Common.{◌<◌, length}
use Rattle.region_table.specs.Slots.{Passes, home_of}
use Rattle.region_table.proofs.slots.free_slot.Given as goal

-- all slots so far are filled
abbrev pub invariant-loop-past : goal.invariant-loop-past
invariant-loop-past l = (l.at < length l.words) × Passes l.words l._past (home_of l.addr (length l.words)) l.at
