use Rattle.heap_trials.proofs.tests.heaps.look.Goals as goal
use Rattle.std.proofs.Common.{refl}

pub turn-requires-clause-stands : goal.turn-requires-clause-stands
unfolding lib.Count.ones
turn-requires-clause-stands g c = refl
