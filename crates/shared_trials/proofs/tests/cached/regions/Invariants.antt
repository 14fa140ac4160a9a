use Rattle.heap_runs.specs.Heaps.{MayCall, shelf_id}
use Rattle.shared_trials.proofs.tests.cached.regions.Given as goal

abbrev pub invariant-loop : goal.invariant-loop
invariant-loop g l = MayCall (shelf_id l.shelf) l.heap l.ctx
