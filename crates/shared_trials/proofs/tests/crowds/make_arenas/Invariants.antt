use Rattle.heap_runs.specs.Heaps.{MayCall, shelf_id}
use Rattle.shared_trials.proofs.tests.crowds.make_arenas.Given as goal

abbrev pub invariant-loop-box_no : goal.invariant-loop-box_no
invariant-loop-box_no g l = MayCall (shelf_id l.shelf) l.heap l.ctx
