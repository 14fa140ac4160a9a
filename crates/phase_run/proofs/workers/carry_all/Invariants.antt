use Rattle.std.specs.Vec.Iter.{into_iter_items}
use Rattle.phase_run.proofs.Shifting.{SoFar}
use Rattle.phase_run.proofs.workers.carry_all.Given as goal

abbrev pub invariant-loop-call : goal.invariant-loop-call
invariant-loop-call g l = record {
  next : (goal.iterator-loop-call g).can_next l.call-iterator × (goal.iterator-loop-call g).is_finite l.call-iterator;
  so_far : SoFar l.shelf l.heap l.moment l.fn.calls (into_iter_items l.call-iterator) l.initial.shift l.shift;
}
