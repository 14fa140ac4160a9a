use Rattle.space_model.specs.Sound.{Sound}
use Rattle.shared_trials.proofs.tests.replays.scanned.Given as goal

abbrev pub invariant-loop-kept : goal.invariant-loop-kept
invariant-loop-kept g l = Sound l.space
