use Rattle.std.proofs.Common.{◌-◌, ◌≤◌, vec_len}
use Rattle.jarena.proofs.tests.gates.gated.Given as goal

abbrev pub invariant-loop-gates : goal.invariant-loop-gates
invariant-loop-gates g l = vec_len l.boxes ≤ 32

abbrev pub decreases-loop-gates : goal.decreases-loop-gates
decreases-loop-gates g l = 32 - vec_len l.boxes
