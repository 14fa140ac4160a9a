use Rattle.hook_api.proofs.Words.{◌≡◌, List, sym, subst, rules, Plan, AreInForce}
use Rattle.hook_api.proofs.InForce.{asked_in_force}
use Rattle.hook_api.proofs.desk.Desk.ask.Goals as goal

pub invariant_of-self : goal.invariant_of-self
invariant_of-self g c = subst (AreInForce c.self.inside.taken_over) (sym c.ask_box.ensures.step.plans) (asked_in_force c.self.inside.taken_over c.self.inside.book.plans _ (search rules) c.self.invariant)
