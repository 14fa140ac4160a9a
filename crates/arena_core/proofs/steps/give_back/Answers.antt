use Rattle.arena_core.proofs.Words.{◌≡◌, ◌∙◌, ◌*◌, ◌≤◌, arith, ap, length, max, slice_set, Next, Space, after_back, all_rooms, room_of, space_of, next_flight, emptied_by_return}
use Rattle.arena_core.proofs.RoomSums.{rooms_fewer}
use Rattle.arena_core.proofs.steps.give_back.Goals as goal

pub returns : goal.returns
returns c =
    let space = ap (λ a. a.space) c.make_places.ensures.standing in
    let rooms = ap (λ a. a.rooms) c.make_places.ensures.standing in
    let after = c.give_back-emptied.ensures.after ∙ (λ i. (after_back (space i) c.args.client (c.as_slice-addrs.ensures i)).after) in
    let counted = c.give_back-emptied.ensures.emptied ∙ (λ i. emptied_by_return c.args.client (c.as_slice-addrs.ensures i) (space i)) in
    let room : c.max-2.result ≡ max (max (room_of c.args.client c.args.body.now.rooms) 16) (16 * emptied_by_return c.args.client c.args.addrs.now (space_of c.args.body.now.indexes)) =
    omega (arith, counted, c.max-2.ensures, c.max-least.ensures, c.of.ensures.room) in
    let new = ap all_rooms (c.set.ensures ∙ (λ i. slice_set (rooms i) c.args.client c.max-2.result)) in
    let few : c.max-2.result ≤ c.max.result = omega (arith, c.give_back-emptied.ensures.few, c.max.ensures, c.max-2.ensures, c.in_ok-most.ensures) in
    let fewer = rooms_fewer c.args.body.now.rooms c.args.client c.max-2.result c.max.result (omega (arith, c.requires.client, c.requires.body.clients)) few in record {
      turns = record {
        after = after;
        reply = ap Next (c.next_flight.ensures ∙ ap (λ (s : Space). next_flight c.args.client s.parts) after);
        rooms = c.set.ensures ∙ (λ i. slice_set (rooms i) c.args.client (room i));
        err = tt;
        ready = record {
          places = c.give_back-emptied.ensures.places _ c.make_places.ensures.ready.places;
          rooms = omega (arith, new, fewer, c.in_ok-make_places.ensures.ok);
        };
        booked = c.give_back-emptied.ensures.booked;
      };
      few = omega (arith, counted, c.give_back-emptied.ensures.few, ap length c.as_slice-addrs.ensures);
    }
