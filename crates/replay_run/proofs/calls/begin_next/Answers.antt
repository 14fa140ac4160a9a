use Rattle.replay_run.proofs.Words.{◌≡◌, HeapFacts, NoMemory, ap, has_open_call, is_none, sym, ◌∙◌}
use Rattle.heap_core.specs.declared.heaps.Did.TheVariants.{Idle}
use Rattle.replay_run.proofs.Begins.{unbegun_stops}
use Rattle.replay_run.proofs.Opens.{start_open}
use Rattle.replay_run.proofs.Steps.{next_result}
use Rattle.replay_run.proofs.Stops.{goes_stop}
use Rattle.replay_run.proofs.calls.begin_next.Goals as goal

pub returns-in_err-ended-clause-goes : goal.returns-in_err-ended-clause-goes
returns-in_err-ended-clause-goes g c = λ from lines awaits shelf so.
    goes_stop from lines _ c.from_residual.result NoMemory _ c.from_residual.ensures.1 (rw c.in_err-ended.ensures.err (unbegun_stops so NoMemory (λ four. absurd (cc (four)))))

pub returns-clause-goes : goal.returns-clause-goes
returns-clause-goes g c = λ from lines awaits shelf so.
    let told = c.end_step.ensures in
    let begun = c.in_ok-ended.ensures in
    let goes : has_open_call c.start.new.self c.args.client ≡ is_none c.in_ok-ended.ended = ap (λ (h : HeapFacts). has_open_call h c.args.client) begun.heap
    ∙ start_open c.args.state.now.heap c.args.client c.args.request c.stands.ensures.clients c.requires.client ∙ ap is_none (sym begun.answer) in
    let on = next_result c.args.client c.args.request awaits so (record { did = Idle; ended = c.in_ok-ended.ended }) c.start.new.self c.end_step.new.state.calls.items c.end_step.new.state.names c.end_step.new.state.tally _ _ _ c.end_step.result begun.heap begun.answer
    (record { arenas = c.stands-2.ensures.arenas; seats = c.stands-2.ensures.seats })
    (record { calls_so = told.calls; names_so = told.names; tally_so = told.tally; ok = told.text; err = told.beginning; cause = told.cause }) in
    rw (told.heap, told.controls, told.moment, goes) on
