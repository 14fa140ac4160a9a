use Rattle.call_plan.proofs.Credits.{mallocs-are_short}
use Rattle.call_plan.proofs.laws.mallocs_are_short.Goals as goal

pub returns : goal.returns
returns c = mallocs-are_short
