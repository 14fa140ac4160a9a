use Rattle.heap_runs.specs.Heaps.{MayCall, shelf_id}
use Rattle.shared_trials.proofs.tests.cached.free_till_other.Given as goal

abbrev pub invariant-loop-addr : goal.invariant-loop-addr
invariant-loop-addr l = MayCall (shelf_id l.shelf) l.heap l.ctx
