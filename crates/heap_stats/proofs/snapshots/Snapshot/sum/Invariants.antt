use Rattle.std.proofs.Common.{◌≡◌, ◌≤◌, ◌*◌, ◌^◌, take}
use Rattle.std.specs.List.{sum_by}
use Rattle.heap_stats.specs.Stats.{count_in}
use Rattle.heap_stats.proofs.snapshots.Snapshot.sum.Given as goal

abbrev pub invariant-loop-counts : goal.invariant-loop-counts
invariant-loop-counts l = record {
  sum : l.sum ≡ sum_by (count_in l.count) (take l.counts-index l.self);
  bound : l.sum ≤ l.counts-index * 2 ^ 58;
}
