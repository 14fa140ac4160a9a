use Rattle.arena_core.proofs.Words.{◌∙◌, ap, arith, slice_set, step_of, all_rooms, space_of, slabs_begun}
use Rattle.arena_core.proofs.BookLaw.{begins_booked}
use Rattle.arena_core.proofs.Books.{booked_as}
use Rattle.arena_core.proofs.steps.open_unit.Goals as goal

pub returns-in_err-reply-clause-ready : goal.returns-in_err-reply-clause-ready
returns-in_err-reply-clause-ready c = record { places = c.in_err-reply.ensures.places _ c.make_places.ensures.ready.places; rooms = c.make_places.ensures.ready.rooms }

pub returns-clause-ready : goal.returns-clause-ready
returns-clause-ready c =
    let new = ap all_rooms (c.set.ensures ∙ (λ i. slice_set (ap (λ a. a.rooms) c.make_places.ensures.standing i) c.args.client c.max-room.result)) in
    record { places = c.in_ok-reply.ensures.places _ c.make_places.ensures.ready.places; rooms = omega (arith, new, c.in_ok-make_places.ensures.ok) }

pub returns-clause-booked : goal.returns-clause-booked
returns-clause-booked c =
    let op = c.args.op.now in
    let space = ap (λ a. a.space) c.make_places.ensures.standing in
    booked_as
    (begins_booked c.args.client (space_of c.args.body.now.indexes) op c.args.body.now.indexes.regions.slabs c.requires.body.sound c.requires.stands c.requires.opens c.requires.other c.requires.body.booked)
    (c.in_ok-reply.ensures.after ∙ ap (λ s. (step_of s c.args.client op).after) space)
    (c.in_ok-reply.ensures.slabs ∙ (λ i. slabs_begun c.args.client (space i) op (c.make_places.ensures.slabs i)))
