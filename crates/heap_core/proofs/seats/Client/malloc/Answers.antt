use Rattle.heap_core.proofs.Words.{◌≡◌, ◌∙◌, ◌∷◌, ℕ, false, None, List, Result, Go, Turns, Turn, Record, Reply, MadeTurn, replied_by, stage, with_ask, Moment, TurnPoint, DeskFacts, Seat, Comes, begin, named_call, option_map, ap, subst, sym}
use Rattle.call_plan.specs.Soon.{Gets, replied_first}
use Rattle.call_plan.specs.Table.{op_at}
use Rattle.std.specs.Result.{is_err}
use Rattle.call_plan.specs.declared.needs.Request.TheVariants.{Malloc}
use Rattle.heap_core.specs.Carrying.{IsTurned, LeadsTo, TurnMade}
use Rattle.heap_core.proofs.Carrying.{first_can, first_turned, get_alone, get_begins, get_op, get_point, turn_comes, untouched}
use Rattle.heap_core.proofs.seats.Client.malloc.Goals as goal
use Rattle.heap_core.proofs.seats.Client.malloc.Goals.{After-are_apart}

-- the client has what it had
kept : (c : After-are_apart) → c.gets.new.self.facts ≡ c.self.inside.desk.facts
kept c = c.gets.ensures.facts ∙ rw c.in_default.is at c.malloc_cached.ensures.none

same : (c : After-are_apart) → c.gets.new.self.facts ≡ c.args.self.now.desk
same c = kept c ∙ ap (λ (s : Seat). s.desk) c.self.view_is

gets : (c : After-are_apart) → Gets c.args.size c.args.self.now.desk c.in-Some-gets.class
gets c = subst (λ (d : DeskFacts). Gets c.args.size d c.in-Some-gets.class) (sym c.gets.ensures.facts ∙ same c) (rw c.in-Some-gets.is at c.gets.ensures.gets)

abbrev at : After-are_apart → Moment
at c = begin (Malloc c.args.size) c.args.self.now.desk

abbrev point : After-are_apart → TurnPoint
point c = get_point c.in-Some-gets.class

begins : (c : After-are_apart) → (at c).stage ≡ stage c.look-turn.result.arena (Go (Turns (point c)))
begins c =
    get_begins c.args.size c.in-Some-gets.class c.args.self.now.desk (gets c)
    ∙ ap (λ i. stage i (Go (Turns (point c)))) (sym (ap (λ (t : Turn). t.arena) c.look-turn.ensures ∙ c.arena.ensures ∙ ap (λ (d : DeskFacts). d.arena) (same c)))

client : (c : After-are_apart) → c.look-turn.result.client ≡ c.args.client
client c = ap (λ (t : Turn). t.client) c.look-turn.ensures

op : (c : After-are_apart) → c.look-turn.result.op ≡ op_at (point c)
op c = ap (λ (t : Turn). t.op) c.look-turn.ensures ∙ sym (get_op c.in-Some-gets.class)

-- the turn that was made
abbrev turn : Reply → After-are_apart → List Record → List ℕ → TurnMade
turn reply c records owed = record { point = point c; reply = reply; records = records; owed = owed }

turned : (c : After-are_apart) {A E : Type 0} (made : Result A E) (reply : Reply) (records : List Record) (owed : List ℕ) → is_err made ≡ false → MadeTurn {E = E} c.args.arenas.now c.args.log.now.owed (with_ask c.look-turn.result None) (replied_by made reply) records owed →
    IsTurned c.args.arenas.now c.args.log.now.owed c.args.client (at c) (turn reply c records owed)
turned c made reply records owed ok is =
    first_turned c.args.arenas.now c.args.client (at c) (point c) c.look-turn.result (begins c) (client c) (op c) made c.args.log.now.owed owed records reply ok (get_alone c.in-Some-gets.class) is

pub make_turn-requires-clause-can : goal.make_turn-requires-clause-can
make_turn-requires-clause-can c =
    let a = (goal.at.make_turn-requires-clause-can c).After-are_apart in
    first_can c.args.arenas.now c.args.client (at a) (point a) c.look-turn.result (begins a) (client a) (op a) c.are_apart.ensures.arenas c.requires.client c.requires.sits

pub returns-then-is_err-clause-came : goal.returns-then-is_err-clause-came
returns-then-is_err-clause-came c =
    let a = (goal.at.returns-then-is_err-clause-came c).After-are_apart in
    untouched c.make_turn.result c.args.arenas.now c.args.log.now.owed c.args.client c.look-turn.result c.make_turn.new.reply c.args.self.now _ c.make_turn.new.arenas c.make_turn.new.log.owed
    (sym c.is_err.ensures.value ∙ c.if-is_err.true) (client a)
    (ap (λ (f : DeskFacts). record { desk = f; call = option_map (named_call f) c.self.inside.call }) (kept a) ∙ c.self.view_is) c.make_turn.ensures.turn

pub end_malloc-requires-clause-sits : goal.end_malloc-requires-clause-sits
end_malloc-requires-clause-sits c =
    let a = (goal.at.end_malloc-requires-clause-sits c).After-are_apart in
    let is = turned a c.make_turn.result c.make_turn.new.reply c.make_turn.new.arenas c.make_turn.new.log.owed (sym c.is_err.ensures.value ∙ c.if-is_err.false) c.make_turn.ensures.turn in
    let comes = turn_comes c.args.arenas.now c.args.client (at a) (point a) c.are_apart.ensures.arenas c.requires.client is.begins c.requires.sits c.args.log.now.owed c.make_turn.new.log.owed c.make_turn.new.arenas c.make_turn.new.reply is.made in
    subst (λ (d : DeskFacts). Comes c.make_turn.new.arenas c.args.client (replied_first (Malloc c.args.size) d c.make_turn.new.reply)) (sym (same a)) comes

pub returns-clause-came : goal.returns-clause-came
returns-clause-came c =
    let a = (goal.at.returns-clause-came c).After-are_apart in
    let reply = c.make_turn.new.reply in
    let is = turned a c.make_turn.result reply c.make_turn.new.arenas c.make_turn.new.log.owed (sym c.is_err.ensures.value ∙ c.if-is_err.false) c.make_turn.ensures.turn in
    let led = subst (λ (d : DeskFacts). LeadsTo c.make_turn.new.arenas c.make_turn.new.log.owed c.args.client (replied_first (Malloc c.args.size) d reply) c.end_malloc.new.arenas c.end_malloc.new.log.owed c.end_malloc.new.desk c.end_malloc.new.place c.end_malloc.new.ended) (same a) c.end_malloc.ensures.led in record {
      own = tt;
      turns = turn reply a c.make_turn.new.arenas c.make_turn.new.log.owed ∷ led.turns;
      at = led.last;
      led = (is, led.led);
      seat_is = led.shows.seat_is;
      ended_is = led.shows.ended_is;
    }
