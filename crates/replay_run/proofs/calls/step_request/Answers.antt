use Rattle.replay_run.proofs.Words.{◌≡◌, arith, None, Err, Ok, call_at, get_or_read, is_none, sym, ◌∙◌, asks-sit, holders-publish, turns-sit, NoMemory, IsSound, has_open_call}
use Rattle.replay_run.proofs.Longer.{step_longer}
use Rattle.replay_run.proofs.Opens.{step_open}
use Rattle.replay_run.proofs.Steps.{gone_on_ended, moved_result, step_result, step_stops, steps_stop}
use Rattle.replay_run.proofs.calls.step_request.Goals as goal

pub returns-then-is_starved-clause-goes : goal.returns-then-is_starved-clause-goes
returns-then-is_starved-clause-goes g c = λ from lines awaits awaited shown so.
    step_stops so c.args.client c.step_into.new.told _ _ NoMemory awaited c.requires.open_call c.step_into.ensures.step
    (record { arenas = c.stands-2.ensures.arenas; seats = c.stands-2.ensures.seats }) (λ four. absurd (cc (four)))

pub returns-in_err-print_shown-in-Some-clause-goes : goal.returns-in_err-print_shown-in-Some-clause-goes
returns-in_err-print_shown-in-Some-clause-goes g c = λ from lines awaits awaited shown so.
    let told = c.in_err-print_shown-in-Some.ensures in
    let call : call_at c.args.state.now.calls.items c.args.client ≡ c.index.result.now = sym (get_or_read c.args.state.now.calls.items c.args.client c.index.result.now (omega arith) c.index.ensures None) in
    steps_stop from lines awaits c.args.client c.from_residual.result c.in_err-print_shown-in-Some.field-0.0 _ c.from_residual.ensures.1
    (moved_result so c.args.client c.step_into.new.told c.in-Some.request _ _ _ _ _ (Err c.in_err-print_shown-in-Some.field-0.0) awaited c.requires.open_call c.step_into.ensures.step
    (record { arenas = c.stands-2.ensures.arenas; seats = c.stands-2.ensures.seats }) (c.is_starved.ensures.fed c.if-is_starved.false)
    (rw call (sym c.goes_on.ensures.request ∙ c.in-Some.is)) tt (rw shown told.beginning) told.cause)

pub returns-in_ok-print_shown-in-Some-clause-goes : goal.returns-in_ok-print_shown-in-Some-clause-goes
returns-in_ok-print_shown-in-Some-clause-goes g c = λ from lines awaits awaited shown so.
    let told = c.in_ok-print_shown-in-Some.ensures in
    let call : call_at c.args.state.now.calls.items c.args.client ≡ c.index.result.now = sym (get_or_read c.args.state.now.calls.items c.args.client c.index.result.now (omega arith) c.index.ensures None) in
    rw (c.advance.ensures.heap, c.advance.ensures.calls, c.advance.ensures.names, c.advance.ensures.tally, c.advance.ensures.controls, c.advance.ensures.moment)
    (moved_result so c.args.client c.step_into.new.told c.in-Some.request _ _ _ 0 0 (Ok tt) awaited c.requires.open_call c.step_into.ensures.step
    (record { arenas = c.stands-2.ensures.arenas; seats = c.stands-2.ensures.seats }) (c.is_starved.ensures.fed c.if-is_starved.false)
    (rw call (sym c.goes_on.ensures.request ∙ c.in-Some.is)) (rw shown told.text) tt tt)

pub returns-in_ok-print_shown-in-Some-clause-rests : goal.returns-in_ok-print_shown-in-Some-clause-rests
returns-in_ok-print_shown-in-Some-clause-rests g c =
    let before : IsSound c.args.state.now.heap = record { arenas = c.stands.ensures.arenas; seats = c.stands.ensures.seats } in
    let goes : has_open_call c.step_into.new.self c.args.client ≡ is_none c.step_into.new.told.ended =
    step_open turns-sit asks-sit holders-publish c.args.state.now.heap _ c.args.client c.step_into.new.told c.step_into.new.self _ before c.stands.ensures.clients c.requires.client c.requires.open_call
    (c.is_starved.ensures.fed c.if-is_starved.false) c.step_into.ensures.step in
    rw c.advance.ensures.heap (goes ∙ gone_on_ended c.index.result.now c.step_into.new.told.ended c.in-Some.request (sym c.goes_on.ensures.request ∙ c.in-Some.is))

pub returns-in_ok-print_shown-in-Some-clause-longer : goal.returns-in_ok-print_shown-in-Some-clause-longer
returns-in_ok-print_shown-in-Some-clause-longer g c =
    let sound : IsSound c.args.state.now.heap = record { arenas = c.stands.ensures.arenas; seats = c.stands.ensures.seats } in
    rw c.advance.ensures.heap (step_longer holders-publish c.args.state.now.heap _ c.args.client c.step_into.new.told _ _ sound c.stands.ensures.clients c.requires.client c.requires.open_call
    (c.is_starved.ensures.fed c.if-is_starved.false) c.step_into.ensures.step)

pub returns-in_err-end_step-in-None-clause-goes : goal.returns-in_err-end_step-in-None-clause-goes
returns-in_err-end_step-in-None-clause-goes g c = λ from lines awaits awaited shown so.
    let told = c.in_err-end_step-in-None.ensures in
    let call : call_at c.args.state.now.calls.items c.args.client ≡ c.index.result.now = sym (get_or_read c.args.state.now.calls.items c.args.client c.index.result.now (omega arith) c.index.ensures None) in
    steps_stop from lines awaits c.args.client c.from_residual-in_err-end_step-in-None.result c.in_err-end_step-in-None.field-0.0 _ c.from_residual-in_err-end_step-in-None.ensures.1
    (rw told.heap (step_result so c.args.client c.step_into.new.told c.step_into.new.self _ c.args.state.now.calls.items c.args.state.now.names c.args.state.now.tally _ _ _ (Err c.in_err-end_step-in-None.field-0.0) awaited c.requires.open_call c.step_into.ensures.step
    (record { arenas = c.stands-2.ensures.arenas; seats = c.stands-2.ensures.seats }) (c.is_starved.ensures.fed c.if-is_starved.false)
    (rw call (sym c.goes_on.ensures.request ∙ c.in-None.is)) (record { calls_so = tt; names_so = tt; tally_so = tt; ok = tt; err = rw shown told.beginning; cause = told.cause })))

pub returns-in_ok-end_step-in-None-clause-goes : goal.returns-in_ok-end_step-in-None-clause-goes
returns-in_ok-end_step-in-None-clause-goes g c = λ from lines awaits awaited shown so.
    let told = c.in_ok-end_step-in-None.ensures in
    let call : call_at c.args.state.now.calls.items c.args.client ≡ c.index.result.now = sym (get_or_read c.args.state.now.calls.items c.args.client c.index.result.now (omega arith) c.index.ensures None) in
    let before : IsSound c.args.state.now.heap = record { arenas = c.stands.ensures.arenas; seats = c.stands.ensures.seats } in
    let goes : has_open_call c.step_into.new.self c.args.client ≡ is_none c.step_into.new.told.ended =
    step_open turns-sit asks-sit holders-publish c.args.state.now.heap _ c.args.client c.step_into.new.told c.step_into.new.self _ before c.stands.ensures.clients c.requires.client c.requires.open_call
    (c.is_starved.ensures.fed c.if-is_starved.false) c.step_into.ensures.step in
    let on = step_result so c.args.client c.step_into.new.told c.step_into.new.self _ c.end_step.new.state.calls.items c.end_step.new.state.names c.end_step.new.state.tally _ 0 0 (Ok tt) awaited c.requires.open_call c.step_into.ensures.step
    (record { arenas = c.stands-2.ensures.arenas; seats = c.stands-2.ensures.seats }) (c.is_starved.ensures.fed c.if-is_starved.false)
    (rw call (sym c.goes_on.ensures.request ∙ c.in-None.is)) (record { calls_so = told.calls; names_so = told.names; tally_so = told.tally; ok = rw shown told.text; err = tt; cause = tt }) in
    rw (told.heap, told.controls, told.moment, goes) on

pub returns-in_ok-end_step-in-None-clause-longer : goal.returns-in_ok-end_step-in-None-clause-longer
returns-in_ok-end_step-in-None-clause-longer g c =
    let sound : IsSound c.args.state.now.heap = record { arenas = c.stands.ensures.arenas; seats = c.stands.ensures.seats } in
    rw c.in_ok-end_step-in-None.ensures.heap (step_longer holders-publish c.args.state.now.heap _ c.args.client c.step_into.new.told _ _ sound c.stands.ensures.clients c.requires.client c.requires.open_call
    (c.is_starved.ensures.fed c.if-is_starved.false) c.step_into.ensures.step)
