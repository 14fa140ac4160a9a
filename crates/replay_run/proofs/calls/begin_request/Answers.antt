use Rattle.replay_run.proofs.Words.{◌≡◌, true, false, is_none, sym, ◌∙◌, ap, HeapFacts, NoMemory, has_open_call, now_of}
use Rattle.replay_run.proofs.Begins.{answer_result, answered_came, awaits_open, opened_goes, unbegun_stops}
use Rattle.replay_run.proofs.Opens.{start_open}
use Rattle.replay_run.proofs.Stops.{goes_stop}
use Rattle.replay_run.proofs.calls.begin_request.Goals as goal

pub returns-in_err-ended-clause-goes : goal.returns-in_err-ended-clause-goes
returns-in_err-ended-clause-goes g c = λ from lines whole shelf so.
    goes_stop from lines _ c.from_residual.result NoMemory _ c.from_residual.ensures.1 (rw c.in_err-ended.ensures.err (unbegun_stops so.here NoMemory (λ four. absurd (cc (four)))))

pub returns-in-Some-clause-goes : goal.returns-in-Some-clause-goes
returns-in-Some-clause-goes g c = λ from lines whole shelf so.
    let told = c.answer_call.ensures in
    let begun = c.in_ok-ended.ensures in
    let rests : has_open_call c.start.new.self c.args.client ≡ false = ap (λ (h : HeapFacts). has_open_call h c.args.client) begun.heap
    ∙ start_open c.args.state.now.heap c.args.client c.args.request c.stands.ensures.clients c.requires.client ∙ ap is_none (sym begun.answer ∙ c.in-Some.is) in
    answer_result (now_of c.args.state.now shelf (g.K.Sink.held c.args.sink.now)) c.args.client c.args.verb whole so.here.text c.in-Some.answer c.start.new.self c.answer_call.new.names c.count.new.self (g.K.Sink.held c.answer_call.new.sink)
    (g.K.Sink.faults c.args.sink.now) (g.K.Sink.faults c.answer_call.new.sink) c.answer_call.result so.here.prints
    (answered_came c.args.client c.args.verb whole c.args.request c.args.sweep so c.in-Some.answer c.start.new.self _ begun.heap
    (sym c.in-Some.is ∙ begun.answer) (record { arenas = c.stands-2.ensures.arenas; seats = c.stands-2.ensures.seats })) rests c.count.ensures told.names told.text told.beginning told.cause

pub returns-in-None-clause-goes : goal.returns-in-None-clause-goes
returns-in-None-clause-goes g c = λ from lines whole shelf so.
    let begun = c.in_ok-ended.ensures in
    let goes : has_open_call c.start.new.self c.args.client ≡ true = ap (λ (h : HeapFacts). has_open_call h c.args.client) begun.heap
    ∙ start_open c.args.state.now.heap c.args.client c.args.request c.stands.ensures.clients c.requires.client ∙ ap is_none (sym begun.answer ∙ c.in-None.is) in
    let opened = opened_goes c.args.client c.args.verb whole c.args.request c.args.sweep so c.start.new.self begun.heap
    (sym c.in-None.is ∙ begun.answer) (record { arenas = c.stands-2.ensures.arenas; seats = c.stands-2.ensures.seats }) in
    rw (c.open.ensures.heap, c.open.ensures.calls, c.open.ensures.names, c.open.ensures.tally, c.open.ensures.controls, c.open.ensures.moment, goes, awaits_open c.args.client whole) opened
