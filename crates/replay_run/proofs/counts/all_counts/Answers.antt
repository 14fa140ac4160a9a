use Rattle.std.proofs.Common.{◌∙◌, All, sym, ap, subst, arith}
use Rattle.std.proofs.lemmas.List.{take_all}
use Rattle.heap_stats.specs.Stats.{AreSmallWhereLive}
use Rattle.replay_run.specs.Counts.{all_counts}
use Rattle.replay_run.proofs.SmallCounts.{counts_are_small}
use Rattle.replay_run.proofs.counts.all_counts.Goals as goal

pub returns-clause-counts : goal.returns-clause-counts
returns-clause-counts c =
    sym (take_all c.loop-index.index c.loop-index.counts (omega arith)) ∙ c.loop-index.invariant.taken ∙ ap all_counts (take_all c.loop-index.index c.args.heap.now.records (omega arith))

pub returns-clause-small : goal.returns-clause-small
returns-clause-small c =
    let told = sym (take_all c.loop-index.index c.loop-index.counts (omega arith)) ∙ c.loop-index.invariant.taken ∙ ap all_counts (take_all c.loop-index.index c.args.heap.now.records (omega arith)) in
    subst (All AreSmallWhereLive) (sym told) (counts_are_small c.args.heap.now.records c.stands.ensures.arenas)
