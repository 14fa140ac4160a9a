use Rattle.journal_check.specs.Apart.{IsLowSoFar}
use Rattle.journal_check.proofs.meetings.lowest_owners.Given as goal

-- the lowest owner so far is the only one
abbrev pub invariant-loop-index : goal.invariant-loop-index
invariant-loop-index l = IsLowSoFar l.arenas l.chunk l.index l.low
