use Rattle.replay_run.proofs.Answering.{other_answer}
use Rattle.replay_run.proofs.tally.is_good.Goals as goal

pub returns-in_default : goal.returns-in_default
returns-in_default c = other_answer c.args.answer.now c.in_default.not-Ok
