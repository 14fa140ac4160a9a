use Rattle.heap_core.proofs.Words.{◌≡◌, map, range_with_len, opening_record}
use Rattle.heap_core.proofs.arenas.Arenas.new.Given as goal

-- the arenas so far are those of a new heap
abbrev pub invariant-loop-index : goal.invariant-loop-index
invariant-loop-index l = l.records.items ≡ map opening_record (range_with_len 0 l.index)
