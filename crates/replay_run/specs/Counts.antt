-- The counts of all arenas.
use Rattle.std.specs.Prelude.{List, Option, map}
use Rattle.space_model.specs.declared.Counts.{Counts}
use Rattle.space_model.specs.Counts.{counts_of}
use Rattle.heap_core.specs.Arenas.{where_live}
use Rattle.recorded_arena.specs.Records.{Record}

-- the counts of each arena, where it is live
abbrev pub all_counts : List Record → List (Option Counts)
all_counts records = map (λ r. where_live counts_of r.space) records
