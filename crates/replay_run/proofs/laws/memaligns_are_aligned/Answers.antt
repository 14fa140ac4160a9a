use Rattle.replay_run.proofs.Aligned.{plays-are_aligned}
use Rattle.replay_run.proofs.laws.memaligns_are_aligned.Goals as goal

pub returns : goal.returns
returns c = plays-are_aligned
