use Rattle.std.proofs.Common.{◌-◌, ◌≤◌, vec_len}
use Rattle.jarena.proofs.tests.lying.Given as goal

abbrev pub invariant-loop-placed : goal.invariant-loop-placed
invariant-loop-placed l = vec_len l.boxes ≤ 32

abbrev pub decreases-loop-placed : goal.decreases-loop-placed
decreases-loop-placed l = 32 - vec_len l.boxes
