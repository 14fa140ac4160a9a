use Rattle.hook_api.proofs.PlanSteps.{plan_refuses}
use Rattle.hook_api.proofs.laws.plan_refuses_nth.Goals as goal

pub returns : goal.returns
returns c = plan_refuses
