use Rattle.replay_run.proofs.Served.{valid-are_served}
use Rattle.replay_run.proofs.laws.valid_are_served.Goals as goal

pub returns : goal.returns
returns c = valid-are_served
