use Rattle.heap_core.proofs.Words.{◌≡◌, ◌∙◌, [], ◌∷◌, Some, Giving, Moment, TurnPoint, DeskFacts, Seat, Replied, is_some, after, begin, held_at, named_call, option_map, refl, ap, subst, sym}
use Rattle.call_plan.specs.Clients.{DeskSeen}
use Rattle.call_plan.specs.Soon.{Gives, replied_first}
use Rattle.call_plan.specs.declared.needs.Request.TheVariants.{Free}
use Rattle.heap_core.specs.Carrying.{IsTurned, Shows, TurnMade}
use Rattle.heap_core.proofs.Carrying.{first_can, first_turned, gives_begins, untouched}
use Rattle.heap_core.proofs.seats.Client.free.Goals as goal
use Rattle.heap_core.proofs.seats.Client.free.Goals.{After-are_apart}

-- the client has what it had
same : (c : After-are_apart) → c.gives.new.self.facts ≡ c.args.self.now.desk
same c = c.gives.ensures.facts ∙ ap (λ (d : DeskSeen). d.facts) (c.free_cached.ensures.same c.if-free_cached.false) ∙ ap (λ (s : Seat). s.desk) c.self.view_is

gives : (c : After-are_apart) → Gives c.args.addr c.args.self.now.desk c.in-Some.region
gives c = subst (λ (d : DeskFacts). Gives c.args.addr d c.in-Some.region) (sym c.gives.ensures.facts ∙ same c) (c.gives.ensures.gives c.if-not-gives.false)

abbrev at : After-are_apart → Moment
at c = begin (Free c.args.addr) c.args.self.now.desk

abbrev point : After-are_apart → TurnPoint
point c = Giving (c.in-Some.region.addr ∷ [])

pub make_turn-requires-clause-can : goal.make_turn-requires-clause-can
make_turn-requires-clause-can c =
    let a = (goal.at.make_turn-requires-clause-can c).After-are_apart in
    let turn = c.back-turn.ensures in
    first_can c.args.arenas.now c.args.client (at a) (point a) c.back-turn.result (rw turn (gives_begins c.args.addr c.args.self.now.desk c.in-Some.region (gives a))) (rw turn refl) (rw turn refl) c.are_apart.ensures.arenas c.requires.client c.requires.sits

pub returns-then-is_err-clause-came : goal.returns-then-is_err-clause-came
returns-then-is_err-clause-came c =
    let facts = c.gives.ensures.facts ∙ ap (λ (d : DeskSeen). d.facts) (c.free_cached.ensures.same c.if-free_cached.false) in
    untouched c.make_turn.result c.args.arenas.now c.args.log.now.owed c.args.client c.back-turn.result c.make_turn.new.reply c.args.self.now _ c.make_turn.new.arenas c.make_turn.new.log.owed
    (sym c.is_err.ensures.value ∙ c.if-is_err.true) (rw c.back-turn.ensures refl)
    (ap (λ (f : DeskFacts). record { desk = f; call = option_map (named_call f) c.self.inside.call }) facts ∙ c.self.view_is) c.make_turn.ensures.turn

pub returns-clause-came : goal.returns-clause-came
returns-clause-came c =
    let a = (goal.at.returns-clause-came c).After-are_apart in
    let turn = c.back-turn.ensures in
    let reply = c.make_turn.new.reply in
    let made : TurnMade = record { point = point a; reply = reply; records = c.make_turn.new.arenas; owed = c.make_turn.new.log.owed } in
    let is : IsTurned c.args.arenas.now c.args.log.now.owed c.args.client (at a) made =
    first_turned c.args.arenas.now c.args.client (at a) (point a) c.back-turn.result (rw turn (gives_begins c.args.addr c.args.self.now.desk c.in-Some.region (gives a))) (rw turn refl) (rw turn refl)
    c.make_turn.result c.args.log.now.owed c.make_turn.new.log.owed c.make_turn.new.arenas reply (sym c.is_err.ensures.value ∙ c.if-is_err.false) refl c.make_turn.ensures.turn in
    let shows = subst (λ (d : DeskFacts). Shows c.args.client (replied_first (Free c.args.addr) d reply) c.end_back.new.desk c.end_back.new.place c.end_back.new.ended) (same a) c.end_back.ensures in record {
      own = sym (ap is_some (subst (λ (d : DeskFacts). Some c.in-Some.region ≡ held_at c.args.addr d) (ap (λ (s : Seat). s.desk) c.self.view_is) (sym c.in-Some.is ∙ c.held_at.ensures)));
      turns = made ∷ [];
      at = after (at a) (Replied reply);
      led = (is, (refl, refl, refl));
      seat_is = shows.seat_is;
      ended_is = shows.ended_is;
    }
