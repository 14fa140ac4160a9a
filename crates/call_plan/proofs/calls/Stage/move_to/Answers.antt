use Rattle.call_plan.proofs.Words.{subst, sym, ◌∙◌, ap, IsSizedNext, Next, Stage}
use Rattle.call_plan.proofs.Credits.{get_few}
use Rattle.call_plan.proofs.calls.Stage.move_to.Goals as goal

pub returns-in-None-clause-sized : goal.returns-in-None-clause-sized
returns-in-None-clause-sized c =
    let there = ap (λ (at : Stage). at.next) c.stand.ensures ∙ c.get.ensures in subst (λ (next : Next). IsSizedNext next) (sym there) (get_few c.args.class c.share.result c.requires)
