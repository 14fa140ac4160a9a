use Rattle.replay_run.proofs.Reallocs.{plays-leave}
use Rattle.replay_run.proofs.laws.reallocs_leave.Goals as goal

pub returns : goal.returns
returns c = plays-leave
