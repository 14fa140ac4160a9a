use Rattle.sits.proofs.Begins.{starts-sit}
use Rattle.sits.proofs.laws.starts_sit.Goals as goal

pub returns : goal.returns
returns c = starts-sit
