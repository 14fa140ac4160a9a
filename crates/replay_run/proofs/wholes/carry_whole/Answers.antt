use Rattle.replay_run.proofs.Words.{◌≢◌, ◌∙◌, ◌++◌, true, None, Some, AsksFor, NoMemory, answer_of, ap, begun, is_none, now_of, refl, started, subst, sym}
use Rattle.call_plan.specs.declared.needs.Answered.TheVariants.{NoMemory as WasStarved}
use Rattle.heap_core.specs.Carrying.{CarriedOut, Stands}
use Rattle.replay_run.proofs.Begins.{answer_result, awaits_ended, starting_so, unbegun_stops}
use Rattle.replay_run.proofs.Carries.{carried_more, carried_open, whole_came}
use Rattle.replay_run.proofs.Opens.{start_open}
use Rattle.replay_run.proofs.Stops.{goes_stop}
use Rattle.replay_run.proofs.wholes.carry_whole.Goals as goal

pub returns-in_err-carry-clause-goes : goal.returns-in_err-carry-clause-goes
returns-in_err-carry-clause-goes g c = λ from lines so.
    goes_stop from lines _ c.from_residual.result NoMemory _ c.from_residual.ensures.1 (rw c.in_err-carry.ensures.err (unbegun_stops so NoMemory (λ four. absurd (cc (four)))))

pub run_on-requires-clause-goes : goal.run_on-requires-clause-goes
run_on-requires-clause-goes g c = λ none.
    let h = c.args.state.now.heap in
    let out = c.in_ok-carry.ensures.carried c.args.shelf.now in
    carried_open (started h c.args.client c.args.request) c.args.shelf.now c.args.client (answer_of (begun h.seats c.args.client c.args.request)) out.0 c.carry.new.self c.args.shelf.now c.carry.new.ended c.requires.client
    (λ first. start_open h c.args.client c.args.request c.stands.ensures.clients c.requires.client ∙ ap is_none first) out.1 none

pub returns-then-is_starved-clause-goes : goal.returns-then-is_starved-clause-goes
returns-then-is_starved-clause-goes g c = λ from lines so.
    let h = c.args.state.now.heap in
    let starts = starting_so c.args.state.now c.args.state.now c.args.shelf.now (g.K.Sink.held c.args.sink.now) c.args.client c.args.verb true (AsksFor c.args.request None) so refl refl refl refl refl (sym c.requires.controls) c.requires.begins in
    let first = c.in_ok-carry.ensures.carried c.args.shelf.now in
    let ran = c.run_on.ensures.ran in
    let out : CarriedOut h c.args.shelf.now c.args.client c.args.request c.run_on.new.heap c.run_on.new.shelf c.run_on.new.told.ended =
    (first.0 ++ ran.0, carried_more (started h c.args.client c.args.request) c.args.shelf.now c.args.client (answer_of (begun h.seats c.args.client c.args.request)) first.0 ran.0 c.carry.new.self c.run_on.new.heap c.args.shelf.now c.run_on.new.shelf c.carry.new.ended c.run_on.new.told.ended first.1 ran.1) in
    let stands : Stands c.run_on.new.heap = record { arenas = c.stands-2.ensures.arenas; clients = c.stands-2.ensures.clients; seats = c.stands-2.ensures.seats } in
    let starved = c.is_starved.ensures.starved c.if-is_starved.true in
    let last = whole_came c.args.client c.args.verb c.args.request starts c.run_on.new.heap c.run_on.new.shelf WasStarved c.requires.client c.stands.ensures.clients c.requires.last c.args.state.now.full stands
    (subst (λ e. CarriedOut h c.args.shelf.now c.args.client c.args.request c.run_on.new.heap c.run_on.new.shelf e) starved out) in
    last.stops refl

pub returns-clause-goes : goal.returns-clause-goes
returns-clause-goes g c = λ from lines so.
    let h = c.args.state.now.heap in
    let held = g.K.Sink.held c.args.sink.now in
    let starts = starting_so c.args.state.now c.args.state.now c.args.shelf.now held c.args.client c.args.verb true (AsksFor c.args.request None) so refl refl refl refl refl (sym c.requires.controls) c.requires.begins in
    let first = c.in_ok-carry.ensures.carried c.args.shelf.now in
    let ran = c.run_on.ensures.ran in
    let out : CarriedOut h c.args.shelf.now c.args.client c.args.request c.run_on.new.heap c.run_on.new.shelf c.run_on.new.told.ended =
    (first.0 ++ ran.0, carried_more (started h c.args.client c.args.request) c.args.shelf.now c.args.client (answer_of (begun h.seats c.args.client c.args.request)) first.0 ran.0 c.carry.new.self c.run_on.new.heap c.args.shelf.now c.run_on.new.shelf c.carry.new.ended c.run_on.new.told.ended first.1 ran.1) in
    let stands : Stands c.run_on.new.heap = record { arenas = c.stands-2.ensures.arenas; clients = c.stands-2.ensures.clients; seats = c.stands-2.ensures.seats } in
    let last = whole_came c.args.client c.args.verb c.args.request starts c.run_on.new.heap c.run_on.new.shelf c.in-Some.answer c.requires.client c.stands.ensures.clients c.requires.last c.args.state.now.full stands
    (subst (λ e. CarriedOut h c.args.shelf.now c.args.client c.args.request c.run_on.new.heap c.run_on.new.shelf e) c.in-Some.is out) in
    let fed : c.in-Some.answer ≢ WasStarved = λ same. c.is_starved.ensures.fed c.if-is_starved.false (c.in-Some.is ∙ ap Some same) in
    let rests = last.rests fed in
    let told = c.answer_call.ensures in
    rw (rests, awaits_ended c.args.client true) at
    (answer_result (now_of c.args.state.now c.run_on.new.shelf held) c.args.client c.args.verb true last.text c.in-Some.answer c.run_on.new.heap c.answer_call.new.names c.count.new.self (g.K.Sink.held c.answer_call.new.sink)
    (g.K.Sink.faults c.args.sink.now) (g.K.Sink.faults c.answer_call.new.sink) c.answer_call.result last.prints (last.came fed _) rests c.count.ensures told.names told.text told.beginning told.cause)
