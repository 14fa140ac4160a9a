use Rattle.arena_core.proofs.Words.{rules, ap, arith, subst, sym, ◌∙◌, CanBeSlab, slabs_landed, space_of}
use Rattle.arena_core.proofs.Landed.{fitting}
use Rattle.arena_core.proofs.Homes.{in_flight}
use Rattle.arena_core.proofs.moves.land_done.Goals as goal

pub overflow_mul-first : goal.overflow_mul-first
overflow_mul-first c = omega (arith, (fitting c.args.client (space_of c.args.indexes.now) c.args.span c.args.class c.args.count c.in-Some.part c.requires.sound c.requires.stands c.in-Some.ensures.flight).last)

pub land-requires : goal.land-requires
land-requires c =
    let fit = fitting c.args.client (space_of c.args.indexes.now) c.args.span c.args.class c.args.count c.in-Some.part c.requires.sound c.requires.stands c.in-Some.ensures.flight in record {
      client = c.requires.client;
      room = c.requires.room.regions;
      class = fit.low;
      small = λ small. subst (λ n. CanBeSlab c.args.class n c.args.count c.args.indexes.now.regions.slabs) (sym (in_flight c.args.client (space_of c.args.indexes.now) c.args.span c.in-Some.part c.requires.sound c.in-Some.ensures.flight).first) (c.requires.may small);
      large = fit.large;
      can_come = fit.come c.requires.live;
    }

pub returns : goal.returns
returns c =
    let slabs = c.land.ensures.slabs ∙ ap (λ n. slabs_landed c.args.class n c.args.count c.args.indexes.now.regions.slabs) (in_flight c.args.client (space_of c.args.indexes.now) c.args.span c.in-Some.part c.requires.sound c.in-Some.ensures.flight).first in
    record { after = search rules; reply = search rules; slabs = slabs; places = search rules }
