use Rattle.std.proofs.Common.{◌≡◌}
use Rattle.phase_run.proofs.Taking.{live_below}
use Rattle.phase_run.proofs.crews.live_in.Given as goal

abbrev pub invariant-loop-i : goal.invariant-loop-i
invariant-loop-i l = l.arenas.items ≡ live_below l.live l.i
