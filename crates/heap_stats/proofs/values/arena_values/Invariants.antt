use Rattle.std.proofs.Common.{◌≡◌, ◌++◌, drop, map}
use Rattle.serde_json.specs.View.{view}
use Rattle.heap_stats.specs.Json.{arenas_from}
use Rattle.heap_stats.proofs.values.arena_values.Given as goal

-- those so far, and those that are left
abbrev pub invariant-loop-index : goal.invariant-loop-index
invariant-loop-index l = map view l.values.items ++ arenas_from l.index (drop l.index l.counts) ≡ arenas_from 0 l.counts
