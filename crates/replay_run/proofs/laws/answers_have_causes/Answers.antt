use Rattle.replay_run.proofs.Reasons.{answers-have_causes}
use Rattle.replay_run.proofs.laws.answers_have_causes.Goals as goal

pub returns : goal.returns
returns c = answers-have_causes
