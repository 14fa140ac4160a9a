use Rattle.std.proofs.Common.{◌≡◌, ◌∙◌, List, ap, subst, sym}
use Rattle.std.specs.List.{All}
use Rattle.heap_runs.specs.Heaps.{shelf_id}
use Rattle.hook_api.specs.Shared.{IsSeatOf, orders_of}
use Rattle.hook_api.specs.declared.locks.Locks.{Locks}
use Rattle.hook_api.specs.declared.seat.AskSeat.{AskSeat}
use Rattle.trace_phase.specs.declared.parts.Part.{Part}
use Rattle.phase_run.specs.Crews.{AllCarried, stand_of}
use Rattle.phase_run.specs.Summaries.{phase_count}
use Rattle.phase_run.specs.Threads.{numbers_of}
use Rattle.phase_run.specs.declared.summaries.Numbers.{Numbers}
use Rattle.phase_run.specs.declared.crews.Crew.{Crew}
use Rattle.phase_run.proofs.Closing.{closed_out}
use Rattle.phase_run.proofs.runs.carry_phases.Goals as goal

pub carry_parts-requires-clause-may : goal.carry_parts-requires-clause-may
carry_parts-requires-clause-may g c κs within = c.in_ok-heap.ensures.may (shelf_id c.args.shelf.now) (λ k d low. (c.requires.seats k d low).0)

pub returns-clause-carried : goal.returns-clause-carried
returns-clause-carried g c =
    let shelf = c.args.shelf.now in
    let shelf' = c.carry_parts.new.shelf in
    let heap = c.in_ok-heap.heap in
    let ctxs = c.in_ok-heap.ctxs.items in
    let crew : Crew = c.in_ok-ctxs.field-0 in
    let closed = c.in_ok-closed.closed in
    let new = c.in_ok-heap.ensures.new in
    let has = c.in_ok-closed.ensures in
    let given = c.into_vec-parts.ensures in
    let told : Numbers = record { clients = c.args.phases.clients; phases = c.phase_count-phases.result; tally = crew.tally } in
    let numbers : told ≡ numbers_of c.args.phases (stand_of (orders_of shelf') crew) = λ i. record { clients = c.args.phases.clients; phases = (c.phase_count-phases.ensures ∙ ap phase_count (c.deref.ensures.value ∙ given)) i; tally = crew.tally } in
    closed_out shelf shelf' heap c.args.seats.items ctxs c.args.phases crew closed told new c.requires.count c.requires.seats (subst (λ (l : List Part). AllCarried shelf heap ctxs l shelf' crew) given c.in_ok-ctxs.ensures) has numbers
