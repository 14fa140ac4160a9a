use Rattle.heap_core.proofs.Words.{◌≡◌, [], ◌∷◌, None, Ok, false, Goes, Replied, Go, Turns, Landing, Moment, TurnPoint, Comes, CanTurn, MadeTurn, after, refl, stage, subst, sym}
use Rattle.arena_core.proofs.Words.{Land}
use Rattle.call_plan.proofs.FirstTurns.{took_then}
use Rattle.call_plan.specs.Runs.{wish_for}
use Rattle.call_plan.specs.Soon.{took_whole}
use Rattle.call_plan.specs.declared.needs.Request.TheVariants.{Malloc}
use Rattle.heap_core.specs.Carrying.{IsTurned, LeadsTo, Shows, TurnMade}
use Rattle.heap_core.proofs.Carrying.{made_ok, turn_comes, turn_may}
use Rattle.heap_core.proofs.carry.land.Goals as goal
use Rattle.heap_core.proofs.carry.land.Goals.{After-are_apart, After-unwrap}

abbrev point : After-are_apart → TurnPoint
point c = Landing (wish_for false c.args.class 1 1) c.args.span

abbrev at : After-are_apart → Moment
at c = record { request = Malloc c.args.size; desk = c.args.desk.now.facts; stage = stage c.args.desk.now.facts.arena (Go (Turns (point c))) }

is_at : (c : After-are_apart) → took_whole c.args.size c.args.desk.now.facts c.args.span ≡ at c
is_at c = took_then c.args.size c.args.class c.args.span c.args.desk.now.facts c.requires.gets c.requires.large c.requires.whole

comes : (c : After-are_apart) → Comes c.args.arenas.now c.args.client (at c)
comes c = subst (Comes c.args.arenas.now c.args.client) (is_at c) c.requires.sits

made : (c : After-unwrap) → MadeTurn {E = Unit {0}} c.args.arenas.now c.args.log.now.owed (record { arena = c.args.desk.now.facts.arena; client = c.args.client; op = Land c.args.span c.args.class 1; asked = None }) (Ok c.make_turn.new.reply) c.make_turn.new.arenas c.make_turn.new.log.owed
made c =
    subst (λ i. MadeTurn {E = Unit {0}} c.args.arenas.now c.args.log.now.owed (record { arena = i; client = c.args.client; op = Land c.args.span c.args.class 1; asked = None }) (Ok c.make_turn.new.reply) c.make_turn.new.arenas c.make_turn.new.log.owed) c.arena.ensures
    (made_ok c.make_turn.result _ _ _ c.make_turn.new.reply _ _ (rw c.unwrap.ensures refl) c.make_turn.ensures.turn)

pub make_turn-requires-clause-can : goal.make_turn-requires-clause-can
make_turn-requires-clause-can c =
    let a = (goal.at.make_turn-requires-clause-can c).After-are_apart in
    subst (λ i. CanTurn c.args.arenas.now c.args.client i (Land c.args.span c.args.class 1) None) (sym c.arena.ensures)
    (turn_may c.args.arenas.now c.args.client (at a) (point a) c.are_apart.ensures.arenas c.requires.client refl (comes a)).1

pub end_landing-requires-clause-goes : goal.end_landing-requires-clause-goes
end_landing-requires-clause-goes c =
    let at_goal = goal.at.end_landing-requires-clause-goes c in
    let a = at_goal.After-are_apart in
    let then = turn_comes c.args.arenas.now c.args.client (at a) (point a) c.are_apart.ensures.arenas c.requires.client refl (comes a) c.args.log.now.owed c.make_turn.new.log.owed c.make_turn.new.arenas c.make_turn.new.reply (made at_goal.After-unwrap) in
    subst (λ (m : Moment). Goes (after m (Replied c.make_turn.new.reply)).stage.next) (sym (is_at a)) then.0

pub returns-clause-led : goal.returns-clause-led
returns-clause-led c =
    let at_goal = goal.at.returns-clause-led c in
    let a = at_goal.After-are_apart in
    let turn : TurnMade = record { point = point a; reply = c.make_turn.new.reply; records = c.make_turn.new.arenas; owed = c.make_turn.new.log.owed } in
    let is : IsTurned c.args.arenas.now c.args.log.now.owed c.args.client (at a) turn = record { begins = refl; alone = refl; made = made at_goal.After-unwrap } in
    let reply = Replied c.make_turn.new.reply in
    subst (λ (m : Moment). LeadsTo c.args.arenas.now c.args.log.now.owed c.args.client m c.make_turn.new.arenas c.make_turn.new.log.owed c.end_landing.new.desk c.end_landing.new.place c.end_landing.new.ended) (sym (is_at a)) (record {
      turns = turn ∷ [];
      last = after (at a) reply;
      led = (is, (refl, refl, refl));
      shows = subst (λ (m : Moment). Shows c.args.client (after m reply) c.end_landing.new.desk c.end_landing.new.place c.end_landing.new.ended) (is_at a) c.end_landing.ensures;
    })
