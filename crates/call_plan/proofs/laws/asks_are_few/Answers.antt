use Rattle.call_plan.proofs.Credits.{asks-are_few}
use Rattle.call_plan.proofs.laws.asks_are_few.Goals as goal

pub returns : goal.returns
returns c = asks-are_few
