use Rattle.std.proofs.Common.{◌≡◌, length, map, take}
use Rattle.heap_stats.specs.Stats.{counts_or_none}
use Rattle.heap_stats.proofs.snapshots.Snapshot.refresh.Given as goal

abbrev pub invariant-loop-index : goal.invariant-loop-index
invariant-loop-index l = record {
  arenas : length l.self-inside.counts ≡ 32;
  taken : take l.index l.self-inside.counts ≡ map counts_or_none (take l.index l.counts);
}
