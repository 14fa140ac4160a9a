use Rattle.arena_core.proofs.Outcomes.{room_made}
use Rattle.arena_core.proofs.Arena.make_room.Goals as goal

pub returns : goal.returns
returns c =
    let m = room_made c.self.inside.body c.make_room.new.body c.make_room.result c.args.client c.self.view_is c.self.invariant.clients c.requires c.make_room.ensures.space c.make_room.ensures.rooms c.make_room.ensures.err in
    record { space = m.space; room = m.room; other_rooms = m.other_rooms; rooms = m.rooms; err = m.err }
