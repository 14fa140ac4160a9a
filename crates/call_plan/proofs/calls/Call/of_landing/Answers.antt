use Rattle.call_plan.proofs.Words.{◌∙◌, Malloc, Replied, Took, true, Moment, Wish, Go, Turns, Landing, IsCall, IsSizedNext, ap, subst, sym, begin, stage, desk_fed, step_next}
use Rattle.call_plan.proofs.Credits.{begin-is_call, next_few, settle_few}
use Rattle.call_plan.proofs.FirstTurns.{took_then}
use Rattle.call_plan.proofs.calls.Call.of_landing.Goals as goal

pub at-requires : goal.at-requires
at-requires c =
    let desk = c.args.desk.now.facts in
    let at : Moment = begin (Malloc c.args.size) desk in
    let item = Replied (Took c.args.span true 0) in
    let sized = settle_few at.request (desk_fed at.desk at.stage.arena at.stage.next item) at.stage.arena (step_next at.stage.next item) (next_few at.stage.next item (begin-is_call (Malloc c.args.size) desk).1) in
    let then = took_then c.args.size c.args.class c.args.span desk c.requires.gets c.requires.large c.requires.whole in
    let there = c.next.ensures ∙ ap (λ (w : Wish). Go (Turns (Landing w c.args.span))) c.of_class-wish.ensures in
    subst (λ next. IsCall (stage desk.arena next)) (sym there) (tt, subst IsSizedNext (ap (λ (m : Moment). m.stage.next) then) sized)
