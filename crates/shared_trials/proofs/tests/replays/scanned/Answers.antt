use Rattle.shared_trials.proofs.tests.replays.scanned.Goals as goal

pub loop-kept-init : goal.loop-kept-init
loop-kept-init g c = c.opening-space.ensures.good.sound
