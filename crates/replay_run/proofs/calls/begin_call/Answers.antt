use Rattle.replay_run.proofs.Words.{◌∙◌, sym, NotHeld, NoMemory, AsksFor, FindsNone, TellsAt, ap, now_of}
use Rattle.replay_run.proofs.Begins.{answer_result, refused_came, starting_so, told_result, unbegun_stops}
use Rattle.replay_run.proofs.Stops.{goes_stop}
use Rattle.replay_run.proofs.calls.begin_call.Goals as goal

pub returns-in_err-begins-clause-goes : goal.returns-in_err-begins-clause-goes
returns-in_err-begins-clause-goes g c = λ from lines whole shelf so.
    goes_stop from lines _ c.from_residual.result NoMemory _ c.from_residual.ensures.1 (rw c.begin.ensures.heap (unbegun_stops so NoMemory (λ four. absurd (cc (four)))))

pub returns-in-Asks-clause-goes : goal.returns-in-Asks-clause-goes
returns-in-Asks-clause-goes g c = λ from lines whole shelf so.
    let begun = c.in_ok-begins.ensures in
    let starts = starting_so c.args.state.now c.begin.new.self shelf (g.K.Sink.held c.args.sink.now) c.args.client c.args.verb whole (AsksFor c.in-Asks.request c.in-Asks.sweep) so begun.heap begun.calls begun.names begun.tally begun.moment begun.controls (sym begun.begins ∙ c.in-Asks.is) in
    c.begin_request.ensures.goes from lines whole shelf starts

pub returns-in-Tells-clause-goes : goal.returns-in-Tells-clause-goes
returns-in-Tells-clause-goes g c = λ from lines whole shelf so.
    let begun = c.in_ok-begins.ensures in
    let told = c.tell.ensures in
    let starts = starting_so c.args.state.now c.begin.new.self shelf (g.K.Sink.held c.args.sink.now) c.args.client c.args.verb whole (TellsAt c.in-Tells.answer) so begun.heap begun.calls begun.names begun.tally begun.moment begun.controls (sym begun.begins ∙ c.in-Tells.is) in
    told_result c.args.client c.args.verb whole c.in-Tells.answer starts (g.K.Sink.held c.tell.new.sink) (g.K.Sink.faults c.args.sink.now) (g.K.Sink.faults c.tell.new.sink) c.tell.result (rw begun.heap c.requires.rests) told.text told.beginning told.cause

pub returns-in-FindsNone-clause-goes : goal.returns-in-FindsNone-clause-goes
returns-in-FindsNone-clause-goes g c = λ from lines whole shelf so.
    let begun = c.in_ok-begins.ensures in
    let told = c.answer_call.ensures in
    let starts = starting_so c.args.state.now c.begin.new.self shelf (g.K.Sink.held c.args.sink.now) c.args.client c.args.verb whole FindsNone so begun.heap begun.calls begun.names begun.tally begun.moment begun.controls (sym begun.begins ∙ c.in-FindsNone.is) in
    answer_result (now_of c.begin.new.self shelf (g.K.Sink.held c.args.sink.now)) c.args.client c.args.verb whole starts.here.text (NotHeld c.target_of.result) c.begin.new.self.heap c.answer_call.new.names c.count.new.self (g.K.Sink.held c.answer_call.new.sink) (g.K.Sink.faults c.args.sink.now) (g.K.Sink.faults c.answer_call.new.sink)
    c.answer_call.result starts.here.prints (refused_came c.args.client c.args.verb whole starts _ _ (ap NotHeld c.target_of.ensures))
    (rw begun.heap c.requires.rests) c.count.ensures told.names told.text told.beginning told.cause
