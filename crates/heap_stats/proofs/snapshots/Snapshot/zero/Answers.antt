use Rattle.std.proofs.Common.{refl, sym, subst}
use Rattle.std.proofs.lemmas.List.Elements.{All-replicate}
use Rattle.heap_stats.specs.Stats.{AreSmall}
use Rattle.heap_stats.proofs.Small.{none_small}
use Rattle.heap_stats.proofs.snapshots.Snapshot.zero.Goals as goal

pub invariant_of-result : goal.invariant_of-result
invariant_of-result c = record { arenas = refl; small = All-replicate AreSmall 32 c.no_counts.result (subst AreSmall (sym c.no_counts.ensures) none_small) }
