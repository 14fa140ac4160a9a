use Rattle.std.proofs.Common.{◌∙◌, ◌++◌, ◌∷◌, [], ap, refl}
use Rattle.arena_core.specs.Arenas.{entry_of, opens}
use Rattle.recorded_arena.proofs.Turning.{has_place, room_bound, turn_recorded}
use Rattle.recorded_arena.proofs.Recorded.turn.Goals as goal

pub push-requires-clause-room : goal.push-requires-clause-room
push-requires-clause-room c =
    has_place c.self.inside c.args.self.now c.args.client c.args.op.now c.make_places.new.journal.spare c.self.view_is c.self.invariant c.requires.stands
    c.requires.room c.make_places.ensures.kept c.in_ok-make_places.ensures.ok (opens c.args.op.now) refl

pub invariant_of-self-2 : goal.invariant_of-self-2
invariant_of-self-2 c =
    turn_recorded c.self.inside (record { index = c.self.inside.index; arena = c.step.new.self; journal = c.push.new.self }) c.args.self.now c.args.client c.args.op.now c.args.asked.now
    c.make_places.new.journal.spare c.self.view_is c.self.invariant c.requires.stands c.requires.room c.make_places.ensures.kept c.in_ok-make_places.ensures.ok
    refl c.in_ok-reply.ensures.after c.in_ok-reply.ensures.rooms c.in_ok-reply.ensures.few (c.push.ensures.kept ∙ ap (λ kept. kept ++ record { entry = entry_of c.args.client c.args.op.now; asked = c.args.asked.now } ∷ []) c.make_places.ensures.entries) c.push.ensures.spare

pub returns-clause-replayed : goal.returns-clause-replayed
returns-clause-replayed c =
    (turn_recorded c.self.inside (record { index = c.self.inside.index; arena = c.step.new.self; journal = c.push.new.self }) c.args.self.now c.args.client c.args.op.now c.args.asked.now
    c.make_places.new.journal.spare c.self.view_is c.self.invariant c.requires.stands c.requires.room c.make_places.ensures.kept c.in_ok-make_places.ensures.ok
    refl c.in_ok-reply.ensures.after c.in_ok-reply.ensures.rooms c.in_ok-reply.ensures.few (c.push.ensures.kept ∙ ap (λ kept. kept ++ record { entry = entry_of c.args.client c.args.op.now; asked = c.args.asked.now } ∷ []) c.make_places.ensures.entries) c.push.ensures.spare).replayed

pub returns-clause-room : goal.returns-clause-room
returns-clause-room c =
    room_bound c.self.inside c.args.self.now c.args.client c.args.op.now c.step.new.self.rooms c.self.view_is c.self.invariant c.requires.stands c.requires.room c.in_ok-reply.ensures.rooms c.in_ok-reply.ensures.few
