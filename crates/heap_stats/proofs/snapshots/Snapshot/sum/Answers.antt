use Rattle.std.proofs.Common.{◌∙◌, ap, length, arith}
use Rattle.std.specs.List.{sum_by}
use Rattle.std.proofs.lemmas.List.{take_all}
use Rattle.heap_stats.specs.Stats.{count_in}
use Rattle.heap_stats.proofs.snapshots.Snapshot.sum.Goals as goal

pub returns : goal.returns
returns c =
    c.loop-counts.invariant.sum
    ∙ ap (sum_by (count_in c.args.count)) (take_all c.loop-counts.counts-index c.args.self.now (omega (arith, ap length c.self.view_is, c.self.invariant.arenas, c.loop-counts-test.false)))
