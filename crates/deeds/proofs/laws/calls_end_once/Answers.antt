use Rattle.deeds.proofs.Ending.{calls-end_once}
use Rattle.deeds.proofs.laws.calls_end_once.Goals as goal

pub returns : goal.returns
returns c = calls-end_once
