use Rattle.std.proofs.Common.{◌-◌, ◌≤◌, vec_len}
use Rattle.shared_trials.proofs.tests.boxes.fickle.Given as goal

abbrev pub invariant-loop-boxes : goal.invariant-loop-boxes
invariant-loop-boxes g l = vec_len l.boxes ≤ 32

abbrev pub decreases-loop-boxes : goal.decreases-loop-boxes
decreases-loop-boxes g l = 32 - vec_len l.boxes
