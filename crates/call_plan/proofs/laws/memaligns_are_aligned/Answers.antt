use Rattle.call_plan.proofs.Memaligns.{memaligns-are_aligned}
use Rattle.call_plan.proofs.laws.memaligns_are_aligned.Goals as goal

pub returns : goal.returns
returns c = memaligns-are_aligned
