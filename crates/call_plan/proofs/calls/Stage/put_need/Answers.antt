use Rattle.call_plan.proofs.Words.{subst, sym, IsSizedNext, Stage}
use Rattle.call_plan.proofs.Naming.{named_sized}
use Rattle.call_plan.proofs.calls.Stage.put_need.Goals as goal

pub returns-in-Ok-clause-sized : goal.returns-in-Ok-clause-sized
returns-in-Ok-clause-sized c =
    subst (λ (at : Stage). IsSizedNext at.next) (sym c.in-Ok.ensures.named) (named_sized c.args.request.now c.args.desk.now.facts c.args.self.now c.requires.sized)
