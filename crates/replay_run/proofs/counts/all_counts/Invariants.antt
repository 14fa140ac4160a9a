use Rattle.std.proofs.Common.{◌≡◌, length, take}
use Rattle.replay_run.specs.Counts.{all_counts}
use Rattle.replay_run.proofs.counts.all_counts.Given as goal

-- the counts of the arenas so far
abbrev pub invariant-loop-index : goal.invariant-loop-index
invariant-loop-index l = record {
  arenas : length l.counts ≡ 32;
  taken : take l.index l.counts ≡ all_counts (take l.index l.heap.records);
}
