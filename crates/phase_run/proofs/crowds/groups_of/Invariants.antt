use Rattle.std.proofs.Common.{◌≡◌, ◌++◌}
use Rattle.std.specs.List.{flat_map}
use Rattle.std.specs.Vec.Iter.{into_iter_items}
use Rattle.phase_run.proofs.crowds.groups_of.Given as goal

abbrev pub invariant-loop-worker : goal.invariant-loop-worker
invariant-loop-worker l = record {
  next : goal.iterator-loop-worker.can_next l.worker-iterator × goal.iterator-loop-worker.is_finite l.worker-iterator;
  all : (flat_map (λ g. g.items) l.groups.items ++ l.last.items) ++ into_iter_items l.worker-iterator ≡ l.fn.workers.items;
}
