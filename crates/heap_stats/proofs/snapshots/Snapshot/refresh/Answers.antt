use Rattle.std.proofs.Common.{◌≡◌, ◌∙◌, List, map, sym, ap, subst, arith}
use Rattle.std.specs.List.{All}
use Rattle.std.proofs.lemmas.List.{take_all}
use Rattle.std.proofs.lemmas.List.Elements.{All-map}
use Rattle.heap_stats.specs.Stats.{AreSmall, counts_or_none}
use Rattle.space_model.specs.declared.Counts.{Counts}
use Rattle.heap_stats.proofs.snapshots.Snapshot.refresh.Goals as goal

pub invariant_of-self : goal.invariant_of-self
invariant_of-self c =
    let all : c.loop-index.self-inside.counts ≡ map counts_or_none c.args.counts.now =
    sym (take_all c.loop-index.index c.loop-index.self-inside.counts (omega arith)) ∙ c.loop-index.invariant.taken ∙ ap (map counts_or_none) (take_all c.loop-index.index c.args.counts.now (omega arith)) in
    record { arenas = c.loop-index.invariant.arenas; small = subst (λ (cs : List Counts). All AreSmall cs) (sym all) (All-map AreSmall counts_or_none c.args.counts.now c.requires.small) }

pub returns : goal.returns
returns c = sym (take_all c.loop-index.index c.loop-index.self-inside.counts (omega arith)) ∙ c.loop-index.invariant.taken ∙ ap (map counts_or_none) (take_all c.loop-index.index c.args.counts.now (omega arith))
