use Rattle.hook_api.proofs.Words.{[], get_or, get_or_default, rules, sym, subst, AskFacts, IsAskOfSome, IsByPlanOf, Orders, Plan, kind_of, no_orders, plan_for}
use Rattle.hook_api.proofs.ShareAsks.{asked_at}
use Rattle.hook_api.proofs.shared.SharedShelf.ask.Goals as goal

pub returns-clause-step : goal.returns-clause-step
returns-clause-step g c = subst IsAskOfSome (sym c.at.ensures) (asked_at c.ask-asked.result _ c.ask-asked.ensures.step)

pub returns-clause-by_plan : goal.returns-clause-by_plan
returns-clause-by_plan g c =
    let plan : Orders → Plan = λ orders. plan_for orders (kind_of c.args.ask) in
    let there = get_or_default c.args.self.now.orders c.args.box_no _ no_orders (search rules) in
    subst (λ (o : Orders). IsByPlanOf (plan o) c.at.result.planned) there (subst (λ (a : AskFacts). IsByPlanOf (plan (get_or c.args.self.now.orders c.args.box_no record { kinds = [] })) a.planned) (sym c.at.ensures) c.ask-asked.ensures.by_plan)
