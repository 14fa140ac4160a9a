use Rattle.std.proofs.Common.{◌≡◌, ◌++◌, List}
use Rattle.std.specs.List.{All}
use Rattle.std.specs.Vec.Iter.{into_iter_items}
use Rattle.heap_runs.specs.Heaps.{shelf_id}
use Rattle.phase_run.specs.Crowds.{HaveWorked}
use Rattle.phase_run.specs.Shifts.{MayWork}
use Rattle.phase_run.specs.declared.workers.Shift.{Shift}
use Rattle.phase_run.proofs.crowds.work_in_turn.Given as goal

-- the workers that are left lead on to where all lead
abbrev pub invariant-loop-worker : goal.invariant-loop-worker
invariant-loop-worker g l = record {
  next : (goal.iterator-loop-worker g).can_next l.worker-iterator × (goal.iterator-loop-worker g).is_finite l.worker-iterator;
  may : All (MayWork (shelf_id l.shelf) l.heap) (into_iter_items l.worker-iterator);
  worked : (more : List Shift) → HaveWorked l.shelf l.heap (into_iter_items l.worker-iterator) more → HaveWorked l.shelf l.heap l.fn.workers.items (l.shifts.items ++ more);
}
