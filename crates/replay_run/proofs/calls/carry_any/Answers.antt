use Rattle.replay_run.proofs.Words.{refl, TheEnd, has_open_call}
use Rattle.replay_run.proofs.Begins.{awaits_begun_only}
use Rattle.replay_run.proofs.Stops.{goes_stop}
use Rattle.replay_run.proofs.calls.carry_any.Goals as goal

pub returns-in_err-begin_call-clause-goes : goal.returns-in_err-begin_call-clause-goes
returns-in_err-begin_call-clause-goes g c = λ from lines so.
    goes_stop from lines _ c.from_residual.result c.in_err-begin_call.field-0.0 _ c.from_residual.ensures.1 (c.in_err-begin_call.ensures.goes from lines c.args.whole _ so)

pub returns-then-whole-clause-goes : goal.returns-then-whole-clause-goes
returns-then-whole-clause-goes g c = λ from lines so.
    let begun = c.in_ok-begin_call.ensures.goes from lines c.args.whole _ so in
    c.run_to_end.ensures.goes from lines (TheEnd c.args.client) refl refl (rw c.if-whole.true at begun)

pub returns-else-whole-clause-goes : goal.returns-else-whole-clause-goes
returns-else-whole-clause-goes g c = λ from lines so.
    let begun = c.in_ok-begin_call.ensures.goes from lines c.args.whole _ so in
    rw (c.if-whole.false, awaits_begun_only c.args.client (has_open_call c.begin_call.new.state.heap c.args.client)) at begun
