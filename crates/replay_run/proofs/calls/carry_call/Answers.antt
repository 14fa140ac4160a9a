use Rattle.replay_run.proofs.Words.{refl, TheEndBefore, has_open_call}
use Rattle.replay_run.proofs.Begins.{awaits_before}
use Rattle.replay_run.proofs.Stops.{goes_stop}
use Rattle.replay_run.proofs.calls.carry_call.Goals as goal

pub returns-in_err-run_to_end-clause-goes : goal.returns-in_err-run_to_end-clause-goes
returns-in_err-run_to_end-clause-goes g c = λ from lines so.
    let waits = rw (awaits_before (has_open_call c.args.state.now.heap c.args.client) c.args.client c.args.verb c.args.whole) at so in
    goes_stop from lines _ c.from_residual.result c.in_err-run_to_end.field-0.0 _ c.from_residual.ensures.1
    (c.in_err-run_to_end.ensures.goes from lines (TheEndBefore c.args.client c.args.verb c.args.whole) refl refl waits)

pub carry_whole-requires-clause-controls : goal.carry_whole-requires-clause-controls
carry_whole-requires-clause-controls g c =
    let state = c.run_to_end.new.state in
    let same = rw c.in-Some.is at c.usual_request.ensures.controls in
    same state.heap.records state.controls state.moment

pub returns-in-Some-clause-goes : goal.returns-in-Some-clause-goes
returns-in-Some-clause-goes g c = λ from lines so.
    let waits = rw (awaits_before (has_open_call c.args.state.now.heap c.args.client) c.args.client c.args.verb c.args.whole) at so in
    let ended = c.in_ok-run_to_end.ensures.goes from lines (TheEndBefore c.args.client c.args.verb c.args.whole) refl refl waits in
    c.carry_whole.ensures.goes from lines (rw c.if-whole.true at ended)

pub returns-clause-goes : goal.returns-clause-goes
returns-clause-goes g c = λ from lines so.
    let waits = rw (awaits_before (has_open_call c.args.state.now.heap c.args.client) c.args.client c.args.verb c.args.whole) at so in
    c.carry_any.ensures.goes from lines (c.in_ok-run_to_end.ensures.goes from lines (TheEndBefore c.args.client c.args.verb c.args.whole) refl refl waits)
