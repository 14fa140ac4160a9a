use Rattle.arena_core.proofs.Words.{◌≡◌, ◌+◌, ◌-◌, arith, ap, subst, all_rooms, HasPlaces, space_of}
use Rattle.arena_core.proofs.BookLaw.{can_follow, follows_booked}
use Rattle.arena_core.proofs.Books.{booked_as}
use Rattle.arena_core.proofs.RoomSums.{rooms_with}
use Rattle.arena_core.proofs.steps.use_up.Goals as goal

pub returns-clause-ready : goal.returns-clause-ready
returns-clause-ready c =
    let ready = c.args.body.now.ready in
    let sums = rooms_with c.args.body.now.rooms c.args.client (c.of-room.result - 1) (omega (arith, c.requires.client, c.requires.body.clients)) in
    let new = ap all_rooms c.set.ensures in
    let one : ready ≡ ready - 1 + 1 = omega (arith, sums, new, c.of-room.ensures.room, c.requires.room, c.requires.body.ready.rooms) in
    record {
      places = c.follow.ensures.places (ready - 1) (subst (HasPlaces c.args.body.now.indexes) one c.requires.body.ready.places);
      rooms = omega (arith, sums, new, c.of-room.ensures.room, c.requires.room, c.requires.body.ready.rooms);
    }

pub follow-requires-clause-may : goal.follow-requires-clause-may
follow-requires-clause-may c = can_follow c.args.client (space_of c.args.body.now.indexes) c.args.op.now c.args.body.now.indexes.regions.slabs c.requires.body.sound c.requires.stands c.requires.body.booked

pub returns-clause-booked : goal.returns-clause-booked
returns-clause-booked c =
    let op = c.args.op.now in
    booked_as (follows_booked c.args.client (space_of c.args.body.now.indexes) op c.args.body.now.indexes.regions.slabs c.requires.body.sound c.requires.stands c.requires.follows c.requires.body.booked)
    c.follow.ensures.after c.follow.ensures.slabs
