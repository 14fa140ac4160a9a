use Rattle.heap_core.proofs.Words.{◌≡◌, ◌≤◌, map, journal_of, vec_capacity}
use Rattle.heap_core.proofs.arenas.Arenas.into_journals.Given as goal

-- the journals so far are those of the arenas so far, with places for all
abbrev pub invariant-loop-record : goal.invariant-loop-record
invariant-loop-record l = (l.journals.items ≡ map journal_of l.yielded) × (32 ≤ vec_capacity l.journals)
