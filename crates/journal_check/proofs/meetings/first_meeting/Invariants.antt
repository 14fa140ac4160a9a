use Rattle.std.proofs.Common.{◌+◌, ◌-◌, ◌≤◌}
use Rattle.journal_check.specs.Apart.{AreApart, last_chunk}
use Rattle.journal_check.proofs.meetings.first_meeting.Given as goal

-- no chunk so far has two owners
abbrev pub invariant-loop-chunk : goal.invariant-loop-chunk
invariant-loop-chunk l = record {
  apart : AreApart l.arenas 1 l.chunk;
  some : 1 ≤ l.chunk;
}

abbrev pub decreases-loop-chunk : goal.decreases-loop-chunk
decreases-loop-chunk l = last_chunk + 1 - l.chunk
