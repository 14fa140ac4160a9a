use Rattle.std.proofs.Common.{◌≡◌}
use Rattle.std.specs.List.{AllByRecursion}
use Rattle.std.specs.Vec.Iter.{into_iter_items}
use Rattle.trace_phase.specs.Limits.{IsPartWithinLimits}
use Rattle.phase_run.proofs.Parting.{PartsSoFar}
use Rattle.phase_run.proofs.runs.carry_parts.Given as goal

abbrev pub invariant-loop-part : goal.invariant-loop-part
invariant-loop-part g l = record {
  next : (goal.iterator-loop-part g).can_next l.part-iterator × (goal.iterator-loop-part g).is_finite l.part-iterator;
  limits : AllByRecursion IsPartWithinLimits (into_iter_items l.part-iterator);
  so_far : PartsSoFar l.heap l.initial.shelf l.fn.ctxs.items l.fn.parts.items (into_iter_items l.part-iterator) l.shelf l.crew;
}
