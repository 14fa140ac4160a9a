use Rattle.sits.proofs.Turns.{asks-sit}
use Rattle.sits.proofs.laws.asks_sit.Goals as goal

pub returns : goal.returns
returns c = asks-sit
