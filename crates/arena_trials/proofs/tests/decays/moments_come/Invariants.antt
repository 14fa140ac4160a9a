use Rattle.space_model.specs.Sound.{Sound}
use Rattle.arena_trials.proofs.tests.decays.moments_come.Given as goal

abbrev pub invariant-loop-round : goal.invariant-loop-round
invariant-loop-round g l = Sound l.space
