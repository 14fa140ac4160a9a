-- How many steps a heap has behind it.
use Rattle.std.specs.Prelude.{ℕ, ◌+◌, ◌*◌, ◌^◌, length}
use Rattle.std.specs.List.{sum_by}
use Rattle.recorded_arena.specs.Records.{Record}
use Rattle.heap_core.specs.Heaps.{HeapFacts}

-- how many entries the journal of an arena has
abbrev pub entry_count : Record → ℕ
entry_count r = length r.kept

-- the entries of all journals, and the asks: each turn adds an entry, and each ask an ask
abbrev pub steps_of : HeapFacts → ℕ
steps_of h = sum_by entry_count h.records + length h.heard

-- a heap has fewer steps behind it than this: 32 journals and one list of asks are in memory
abbrev pub step_limit : ℕ
step_limit = 33 * 2 ^ 64
