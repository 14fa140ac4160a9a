use Rattle.deeds.proofs.Refusals.{refusals-are_last}
use Rattle.deeds.proofs.laws.refusals_are_last.Goals as goal

pub returns : goal.returns
returns c = refusals-are_last
