use Rattle.heap_runs.specs.Heaps.{MayCall, shelf_id}
use Rattle.shared_trials.proofs.tests.cached.cache_often.Given as goal

abbrev pub invariant-loop-round : goal.invariant-loop-round
invariant-loop-round g l = MayCall (shelf_id l.shelf) l.heap l.ctx
