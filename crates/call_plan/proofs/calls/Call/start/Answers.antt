use Rattle.call_plan.proofs.Words.{◌≡◌, ◌≤◌, ◌||◌, true, is_some, subst, sym, DeskFacts, IsCall, may_hold}
use Rattle.call_plan.specs.Desks.{meant, ready}
use Rattle.call_plan.proofs.Credits.{begin-is_call}
use Rattle.call_plan.proofs.Places.{begin_room, starts_open}
use Rattle.call_plan.proofs.Swaps.{meant_room}
use Rattle.call_plan.proofs.calls.Call.start.Goals as goal

pub close-requires : goal.close-requires
close-requires c =
    let request = c.args.request.now in
    let made = c.make_room.new.desk in
    let room = subst (λ (d : DeskFacts). (may_hold request || is_some d.hand || is_some d.gained) ≡ true → 2 ≤ made.room) (sym c.make_room.ensures.facts) c.in_ok-make_room.ensures.room in
    begin_room (meant request made.facts) (ready request made.facts) _ _ made.room _ c.in_ok-request.ensures.stage c.in_ok-request.ensures.facts (meant_room request made.facts made.room room) c.begin_meant.ensures.room

pub invariant_of-call : goal.invariant_of-call
invariant_of-call c =
    let request = c.args.request.now in
    let desk = c.make_room.new.desk.facts in
    subst IsCall (sym c.in_ok-request.ensures.stage) (begin-is_call (meant request desk) (ready request desk))

pub returns-clause-place : goal.returns-clause-place
returns-clause-place c =
    let fed = c.in_ok-request.ensures in
    starts_open c.args.client c.args.request.now c.args.desk.now.facts c.make_room.new.desk.facts c.args.place.now c.in_ok-request.request c.begin_meant.new.self fed.request fed.stage c.make_room.ensures.facts c.in_default.ensures.none
