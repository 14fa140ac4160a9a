-- What a turn of a call leaves of the arenas and of the call.
use Rattle.sits.proofs.Words.{IsTrue, entry_of, room_of, opens, Idle, Knows, flying, needed_at, WantTurn, WantAsk, step, want, is_marked, Replied, Told, Point, Next, Go, InArena, Op, Reply, Space, AskFacts, mine, AnswersTo, IsKept, stands, ◌≡◌, ◌≤◌, ℕ, Bool, true, false, List, Option, refl, arith, nat_lt, ◌<◌, length, sym, subst, ◌∙◌, ◌&&◌, lt-ltb, rules, get_or-set_same, length-set, rooms-suffice, wants-stand, steps-keep, Keeps, Moves, Stands, left, stages, with_found, Suffices, needed_next, room_then, Sound, both_true, op_keeps, step_of, op_stands, room_after, Look, room_in, record_after, record_at, reply_in, IsIdle, mine_in, Waits, WaitsNext, Record, AreApart, AreArenas, after_found, CanTake}
use Rattle.sits.proofs.Indexes.{by_arena, elsewhere_is, there_is}

-- ---- the arenas

-- they are as they have to be after a turn that may stand
pub found_is : {together : Bool} (records : List Record) (arena c : ℕ) (found : Option ℕ) (op : Op) (asked : Option AskFacts) → AreArenas together records → arena < 32 →
    IsTrue (stands (record_at records arena).space (entry_of c (with_found found op))) → (together ≡ true → AreApart (after_found records arena c found op asked)) → AreArenas together (after_found records arena c found op asked)
found_is records arena c found op asked is there may apart =
    let r : Record = record_at records arena in
    let done : Op = with_found found op in
    let new : Record = record_after r c done asked in record {
      number = length-set records arena new ∙ is.number;
      sound = by_arena records arena new (λ i (x : Record). i < 32 → Sound x.space) is.number there
          (λ _. (op_keeps c r.space done (is.sound arena there) (both_true (nat_lt c 32) _ may).1).sound) (λ i _. is.sound i);
      clients = by_arena records arena new (λ i (x : Record). i < 32 → length x.rooms ≡ 32) is.number there (λ _. length-set r.rooms c _ ∙ is.clients arena there) (λ i _. is.clients i);
      apart = apart;
    }

-- ---- what others do meanwhile

-- a call waits by what its client owns and by its room
pub waits_still : (records records' : List Record) (c at : ℕ) (point : Point) → ((i : ℕ) → mine_in records' c i ≡ mine_in records c i) →
    ((i : ℕ) → room_in records i c ≤ room_in records' i c) → Waits records c at point → Waits records' c at point
waits_still records records' c at point mines rooms waits = record {
  there = waits.there;
  knows = subst (λ m. Knows m point) (sym (mines at)) waits.knows;
  elsewhere = λ i ne. subst Idle (sym (mines i)) (waits.elsewhere i ne);
  room = subst (λ m. needed_at (flying m) point ≤ room_in records' at c) (sym (mines at)) (omega (arith, waits.room, rooms at));
}

pub idle_still : (records records' : List Record) (c : ℕ) → ((i : ℕ) → mine_in records' c i ≡ mine_in records c i) → IsIdle records c → IsIdle records' c
idle_still records records' c mines idle i = subst Idle (sym (mines i)) (idle i)

-- ---- the turn that a call wants

-- the ask that an operation of a point carries is at hand
kept_at : (c : ℕ) (point : Point) (op : Op) (asked : Option AskFacts) → want point ≡ WantTurn op asked → IsKept (entry_of c op) asked
kept_at c point op asked e = grind arith

-- what opens no unit takes no memory
opens_less : (op : Op) → opens op ≡ false → is_marked op ≡ false
opens_less (Look pages align) e = absurd (cc)
opens_less op e = first_of (cc, grind arith)

-- an arena leaves its client at least the room that the table reckons with
room_enough : (s : Space) (c room : ℕ) (found : Option ℕ) (op : Op) → room_then c s room op ≤ room_after s room c (with_found found op)
room_enough s c room found op = grind arith

module _ {together : Bool} (records : List Record) (c arena : ℕ) (point : Point) (found : Option ℕ) (op : Op) (asked : Option AskFacts) (is : AreArenas together records) (few : c < 32) (waits : Waits records c arena point) (wants : want point ≡ WantTurn op asked) where
  abbrev s : Space
  s = (record_at records arena).space

  abbrev t : Space
  t = (step_of s c (with_found found op)).after

  abbrev reply : Reply
  reply = (step_of s c (with_found found op)).reply

  sound : Sound s
  sound = is.sound arena waits.there

  may : op_stands s c (with_found found op) ≡ true
  may =
      let all : Stands c s (WantTurn op asked) = subst (Stands c s) wants (wants-stand c s point sound waits.knows) in
      all found

  moves : Moves c s (want point) (Replied reply) t
  moves = subst (λ w. Moves c s w (Replied reply) t) (sym wants) (found, refl, refl)

  keeps : Keeps c t (stages point) (left c s point) (step point (Replied reply))
  keeps = steps-keep c s t point (Replied reply) sound waits.knows moves

  enough : (is_marked op ≡ false → 0 < room_in records arena c) × (needed_next (flying (mine c t)) (step point (Replied reply)) ≤ room_then c s (room_in records arena c) op)
  enough = subst (λ w. Suffices c s t (room_in records arena c) w (step point (Replied reply))) wants (rooms-suffice c s t point (Replied reply) (room_in records arena c) sound waits.knows moves waits.room)

  can : CanTake records c arena found op asked
  can = record {
    stands = subst (λ b. IsTrue (b && op_stands s c (with_found found op))) (sym (lt-ltb c 32 few)) may;
    room = λ e. enough.0 (opens_less op e);
    kept = kept_at c point op asked wants;
  }

  abbrev after : List Record
  after = after_found records arena c found op asked

  abbrev new : Record
  new = record_after (record_at records arena) c (with_found found op) asked

  room_left : needed_next (flying (mine c t)) (step point (Replied reply)) ≤ room_of c new.rooms
  room_left =
      let set : room_of c new.rooms ≡ room_after s (room_in records arena c) c (with_found found op) = get_or-set_same (record_at records arena).rooms c (room_after s (room_in records arena c) c (with_found found op)) 0 (omega (arith, few, is.clients arena waits.there)) in
      omega (arith, set, enough.1, room_enough s c (room_in records arena c) found op)

  idle_then : Idle (mine c t) → IsIdle after c
  idle_then idle = by_arena records arena new (λ i x. Idle (mine c x.space)) is.number waits.there idle waits.elsewhere

  leads : (next : Next) (stage bound : ℕ) → Keeps c t stage bound next → needed_next (flying (mine c t)) next ≤ room_of c new.rooms → WaitsNext after c arena next
  leads (Go p) stage bound known room = record {
    there = waits.there;
    knows = subst (λ (x : Record). Knows (mine c x.space) p) (sym (there_is records arena new is.number waits.there)) known.0;
    elsewhere = λ i ne. subst (λ (x : Record). Idle (mine c x.space)) (sym (elsewhere_is records arena i new ne)) (waits.elsewhere i ne);
    room = subst (λ (x : Record). needed_at (flying (mine c x.space)) p ≤ room_of c x.rooms) (sym (there_is records arena new is.number waits.there)) room;
  }
  leads (InArena index p) stage bound known room = (idle_then known.0, known.1)
  leads next stage bound known room = search (rules, idle_then)

-- the turn that a waiting call wants can be taken, and leads on
pub turns-lead_on : {together : Bool} (records : List Record) (c arena : ℕ) (point : Point) (found : Option ℕ) (op : Op) (asked : Option AskFacts) → AreArenas together records → c < 32 →
    Waits records c arena point → want point ≡ WantTurn op asked →
    CanTake records c arena found op asked × WaitsNext (after_found records arena c found op asked) c arena (step point (Replied (reply_in records arena c (with_found found op))))
turns-lead_on records c arena point found op asked is few waits wants = (
  can records c arena point found op asked is few waits wants,
  leads records c arena point found op asked is few waits wants (step point (Replied (reply records c arena point found op asked is few waits wants))) (stages point) (left c (record_at records arena).space point)
      (keeps records c arena point found op asked is few waits wants) (room_left records c arena point found op asked is few waits wants),
)

-- ---- the ask that a call wants

-- whatever answer of its kind an ask has, the call waits on
pub asks-lead_on : (records : List Record) (c arena : ℕ) (point : Point) (asked : AskFacts) → Waits records c arena point → want point ≡ WantAsk asked.ask → AnswersTo asked.ask asked.answer →
    WaitsNext records c arena (step point (Told asked))
asks-lead_on records c arena point asked waits wants kind = grind arith
