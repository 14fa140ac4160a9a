-- What an entry in few bytes tells.
use Rattle.std.specs.Prelude.{Option, None, Some, if◌then◌else◌}
use Rattle.hook_api.specs.Deeds.{Bare}
use Rattle.hook_api.specs.NarrowDeeds.{op_by, says_elsewhere}
use Rattle.hook_api.specs.declared.slots.NarrowSlot.TheInside.{Inside}

-- the entry that few bytes tell, if they tell one
abbrev pub slot_told : Inside → Option Bare
slot_told n = if says_elsewhere n.shape then None else Some (record { op = op_by n.shape n.mark n.a n.b n.c; client = n.client; asks = n.asks })
