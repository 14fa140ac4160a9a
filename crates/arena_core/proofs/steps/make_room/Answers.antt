use Rattle.arena_core.proofs.Words.{◌∙◌, ap, arith, length, length-set, slice_set, all_rooms, subst, sym, Sound}
use Rattle.arena_core.proofs.Books.{booked_as}
use Rattle.arena_core.proofs.steps.make_room.Goals as goal

pub returns-in_err-make_places-clause-body : goal.returns-in_err-make_places-clause-body
returns-in_err-make_places-clause-body c =
    let space = ap (λ a. a.space) c.make_places.ensures.standing in
    record {
      sound = subst Sound (sym space) c.requires.body.sound;
      clients = ap (λ a. length a.rooms) c.make_places.ensures.standing ∙ c.requires.body.clients;
      ready = c.make_places.ensures.ready;
      booked = booked_as c.requires.body.booked space c.make_places.ensures.slabs;
    }

pub returns-clause-body : goal.returns-clause-body
returns-clause-body c =
    let space = ap (λ a. a.space) c.make_places.ensures.standing in
    let rooms = c.set.ensures ∙ (λ i. slice_set (ap (λ a. a.rooms) c.make_places.ensures.standing i) c.args.client 16) in
    record {
      sound = subst Sound (sym space) c.requires.body.sound;
      clients = ap length rooms ∙ length-set c.args.body.now.rooms c.args.client 16 ∙ c.requires.body.clients;
      ready = record { places = c.make_places.ensures.ready.places; rooms = omega (arith, ap all_rooms rooms, c.in_ok-make_places.ensures.ok) };
      booked = booked_as c.requires.body.booked space c.make_places.ensures.slabs;
    }
