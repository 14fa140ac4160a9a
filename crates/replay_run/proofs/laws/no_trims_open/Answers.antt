use Rattle.replay_run.proofs.Trims.{no-trims_open}
use Rattle.replay_run.proofs.laws.no_trims_open.Goals as goal

pub returns : goal.returns
returns c = no-trims_open
