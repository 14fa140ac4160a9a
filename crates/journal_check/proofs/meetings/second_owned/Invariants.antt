use Rattle.std.proofs.Common.{◌+◌, ◌≤◌}
use Rattle.journal_check.specs.Apart.{AreFirstTwo, last_chunk}
use Rattle.journal_check.proofs.meetings.second_owned.Given as goal

-- before the second one no two arenas so far own a chunk
abbrev pub invariant-loop-arena : goal.invariant-loop-arena
invariant-loop-arena l = record {
  two : AreFirstTwo l.arenas l.chunk l.arena-index l.least l.second;
  bound : l.second ≤ last_chunk + 1;
}
