use Rattle.replay_run.proofs.Leaving.{events-leave}
use Rattle.replay_run.proofs.laws.events_leave.Goals as goal

pub returns : goal.returns
returns c = events-leave
