use Rattle.call_plan.proofs.Words.{Malloc, Moment, IsCall, stage, subst, ◌∙◌, sym, ap, Next}
use Rattle.call_plan.proofs.Credits.{begin-is_call}
use Rattle.call_plan.proofs.FirstTurns.{gets_first}
use Rattle.call_plan.proofs.calls.Call.of_malloc.Goals as goal

pub at-requires : goal.at-requires
at-requires c =
    let desk = c.args.desk.now.facts in
    let begins = gets_first c.args.size c.args.class desk c.requires.gets in
    let same = ap (λ (at : Moment). at.stage.next) begins ∙ sym c.get.ensures in
    subst (λ (next : Next). IsCall (stage desk.arena next)) same (begin-is_call (Malloc c.args.size) desk)
