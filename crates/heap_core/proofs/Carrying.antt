-- What a call leaves of a heap that is carried out where it begins.
use Rattle.heap_core.proofs.Words.{◌≡◌, ◌<◌, ℕ, Bool, true, false, nat_lt, nat_tests, stage, DeskFacts, Held, Filling, Looking, Giving, List, [], ◌∷◌, Option, None, Some, Result, Ok, Err, IsOk, slice_set, refl, sym, ap, subst, ◌∙◌, arith, get_or-set_same, Shelf, Turns, Go, Reply, Replied, Request, CallFacts, Moment, after, begin, IsInRange, IsArenas, CanTurn, FedTo, after_turn, holding_client, HeapFacts, IsStep, IsHeap, Record, Seat, Answered, MadeTurn, TurnFacts, Turn, Stage, owed_to, taken_next, replied_by, with_ask, ◌≤◌, answer_of, asked_for, first_seat, seat_at, seat_of, Comes, IsSeated, SeatSound, Sits, SitsAt, length, WantTurn, DidTurn, ended_by, open_call, TurnPoint}
use Rattle.std.proofs.lemmas.List.{set-set}
use Rattle.call_plan.specs.Clients.{DeskSeen}
use Rattle.call_plan.proofs.FirstTurns.{gets_first}
use Rattle.call_plan.specs.Runs.{wish_for}
use Rattle.call_plan.specs.Soon.{EndsSo, Gets, Gives}
use Rattle.call_plan.specs.declared.needs.Request.TheVariants.{Free, Malloc}
use Rattle.space_model.specs.Slabs.{most_regions}
use Rattle.std.specs.Prelude.{if◌then◌else◌, min}
use Rattle.std.specs.Result.{is_err}
use Rattle.call_plan.specs.Table.{op_at}
use Rattle.heap_core.specs.Carrying.{look_of, CameOf, Carried, CarriedOut, IsDone, IsOwn, IsTurned, IsUntouched, Made, Shows, Stands, TurnMade, TurnsTo}
use Rattle.heap_core.proofs.Changes.{heap_changed, seated_stays, start_heap}
use Rattle.heap_core.proofs.Clients.{starts-sit, turned_is, turns-sit}
use Rattle.heap_core.proofs.Making.{led_heap, turn_done, turn_leads}
use Rattle.heap_core.proofs.Wanting.{IsFed, Wanted}

-- ---- as one client sees it

-- where its call has ended, nothing stands in the place
pub ends_shows : (c : ℕ) (at : Moment) (answer : Answered) (seen : DeskSeen) (place : Option CallFacts) (ended : Option Answered) → EndsSo at answer seen.facts → place ≡ None → ended ≡ Some answer → Shows c at seen place ended
ends_shows c at answer seen place ended ends free told = record {
  seat_is = rw (free, ends.0, ends.1) refl;
  ended_is = rw (told, ends.0) refl;
  room = rw free tt;
}

-- likewise where it is told of another client and moment, which are the same
pub shows_so : {c c' : ℕ} {at at' : Moment} (reply : Reply) (seen : DeskSeen) (place : Option CallFacts) (ended : Option Answered) → c' ≡ c → at' ≡ at → Shows c' (after at' (Replied reply)) seen place ended → Shows c (after at (Replied reply)) seen place ended
shows_so {c} {c'} {at} {at'} reply seen place ended client moment shows = subst (λ n. Shows n (after at (Replied reply)) seen place ended) client (subst (λ m. Shows c' (after m (Replied reply)) seen place ended) moment shows)

-- a turn that was made, whatever else might have come of it
pub made_ok : {A E : Type 0} (made : Result A E) (records : List Record) (owed : List ℕ) (turn : TurnFacts) (reply : Reply) (records' : List Record) (owed' : List ℕ) → IsOk made → MadeTurn {E = E} records owed turn (replied_by made reply) records' owed' →
    MadeTurn {E = Unit {0}} records owed turn (Ok reply) records' owed'
made_ok (Ok done) records owed turn reply records' owed' ok is =
    record { after = is.after; reply = is.reply; err = tt; sure = λ uses. refl; others = is.others; kept = is.kept; places = is.places }
made_ok (Err error) records owed turn reply records' owed' ok is = absurd (cc (ok))

-- a call that came to a moment wants a turn
module _ (records : List Record) (c : ℕ) (at : Moment) (point : TurnPoint) (arenas : IsArenas records) (few : c < 32) (begins : at.stage.next ≡ Go (Turns point)) (comes : Comes records c at) where
  abbrev call : CallFacts
  call = record { client = c; request = at.request; stage = at.stage }

  sits : Sits records c at.desk at.request at.stage.arena (Turns point)
  sits =
      let seated : IsSeated records c at.desk (Some call) = subst (λ next. IsSeated records c at.desk (open_call c at next)) begins comes.1 in
      subst (λ next. SitsAt records c at.desk call next) begins seated.1

  -- it can be made
  pub turn_may : (at.stage.arena < 32) × CanTurn records c at.stage.arena (op_at point) None
  turn_may = (sits.waits.there, (turns-sit records c at.desk call (Turns point) (op_at point) None arenas few begins sits refl).0)

  -- and the call comes to the next moment
  pub turn_comes : {E : Type 0} (owed owed' : List ℕ) (records' : List Record) (reply : Reply) → MadeTurn {E = E} records owed (record { arena = at.stage.arena; client = c; op = op_at point; asked = None }) (Ok reply) records' owed' →
      Comes records' c (after at (Replied reply))
  turn_comes owed owed' records' reply made =
      let led = turns-sit records c at.desk call (Turns point) (op_at point) None arenas few begins sits refl in
      subst (λ rs. Comes rs c (after at (Replied reply))) (sym made.after)
      (subst (λ r. Comes (after_turn records at.stage.arena c (op_at point) None) c (after at (Replied r))) (sym made.reply) led.1)

  pub turn_wanted : Wanted records c (seat_of c at) (WantTurn (op_at point) None) at.stage.arena
  turn_wanted = record { call = call; point = Turns point; is = ap (open_call c at) begins; client = refl; goes = begins; sits = sits; want_is = refl; arena_is = refl }

-- ---- the first turn of a request

-- nothing was done where it found no memory
pub untouched : {A E : Type 0} (made : Result A E) (records : List Record) (owed : List ℕ) (c : ℕ) (turn : Turn) (reply : Reply) (old seat : Seat) (records' : List Record) (owed' : List ℕ) → is_err made ≡ true → turn.client ≡ c → seat ≡ old →
    MadeTurn {E = E} records owed (with_ask turn None) (replied_by made reply) records' owed' → IsUntouched records owed c old records' owed' seat
untouched (Ok done) records owed c turn reply old seat records' owed' err client same made = absurd (cc (err))
untouched (Err error) records owed c turn reply old seat records' owed' err client same made = record {
  records_are = made.err;
  seat_is = same;
  others = λ other differ. made.others other (λ e. differ (e ∙ client));
  kept = subst (λ n. owed_to owed n ≤ owed_to owed' n) client made.kept;
}

module _ (records : List Record) (c : ℕ) (at : Moment) (point : TurnPoint) (turn : Turn) (begins : at.stage ≡ stage turn.arena (Go (Turns point))) (client : turn.client ≡ c) (op : turn.op ≡ op_at point) where
  next_is : at.stage.next ≡ Go (Turns point)
  next_is = ap (λ (s : Stage). s.next) begins

  facts_are : with_ask turn None ≡ record { arena = at.stage.arena; client = c; op = op_at point; asked = None }
  facts_are = λ i. record { arena = ap (λ (s : Stage). s.arena) (sym begins) i; client = client i; op = op i; asked = None }

  -- it can be made
  pub first_can : IsArenas records → c < 32 → Comes records c at → CanTurn records turn.client turn.arena turn.op None
  first_can arenas few comes = subst (λ (t : TurnFacts). CanTurn records t.client t.arena t.op t.asked) (sym facts_are) (turn_may records c at point arenas few next_is comes).1

  -- it was
  pub first_turned : {A E : Type 0} (made : Result A E) (owed owed' : List ℕ) (records' : List Record) (reply : Reply) → is_err made ≡ false → taken_next (Go (Turns point)) ≡ None → MadeTurn {E = E} records owed (with_ask turn None) (replied_by made reply) records' owed' →
      IsTurned records owed c at (record { point = point; reply = reply; records = records'; owed = owed' })
  first_turned made owed owed' records' reply ok alone is = record {
    begins = next_is;
    alone = rw next_is alone;
    made = subst (λ (t : TurnFacts). MadeTurn {E = Unit {0}} records owed t (Ok reply) records' owed') facts_are (made_ok made records owed (with_ask turn None) reply records' owed' (ok_of made ok) is);
  }
    where
      ok_of : {A E : Type 0} (made : Result A E) → is_err made ≡ false → IsOk made
      ok_of (Ok done) e = refl
      ok_of (Err error) e = absurd (cc (e))

-- ---- where a malloc and a free begin

-- the point at which a malloc of a class begins that gets one region
abbrev pub get_point : ℕ → TurnPoint
get_point class = if nat_lt class 36 then Filling (wish_for false class 1 (min 1 (most_regions class))) 1 else Looking (wish_for false class 1 (min 1 (most_regions class)))

pub get_begins : (size class : ℕ) (desk : DeskFacts) → Gets size desk class → (begin (Malloc size) desk).stage ≡ stage desk.arena (Go (Turns (get_point class)))
get_begins size class desk gets = let first = gets_first size class desk gets in grind (arith, nat_tests)

pub get_alone : (class : ℕ) → taken_next (Go (Turns (get_point class))) ≡ None
get_alone class = grind (arith, nat_tests)

pub get_op : (class : ℕ) → op_at (get_point class) ≡ look_of class
get_op class = grind (arith, nat_tests)

pub gives_begins : (addr : ℕ) (desk : DeskFacts) (region : Held) → Gives addr desk region → (begin (Free addr) desk).stage ≡ stage region.arena (Go (Turns (Giving (region.addr ∷ []))))
gives_begins addr desk region gives = let held = gives.held in let off = gives.uncached in grind (arith, nat_tests)

-- ---- in a heap

-- a client asks for what it holds itself, or for anything else
pub own_asked : (seats : List Seat) (c : ℕ) (request : Request) → IsOwn (seat_at seats c).desk request → asked_for seats c request ≡ request
own_asked seats c request own = grind arith

module _ (seats : List Seat) (c : ℕ) (few : c < 32) where
  -- the heap where the call of the client came to a moment
  abbrev at_moment : HeapFacts → Moment → HeapFacts
  at_moment h at = record h { seats = slice_set seats c (seat_of c at) }

  -- a turn leads the heap on
  module _ (h : HeapFacts) (owed : List ℕ) (at : Moment) (turn : TurnMade) (arenas : IsArenas h.records) (heap : IsHeap h.records (slice_set seats c (seat_of c at)) owed) (long : c < length seats) (is : IsTurned h.records owed c at turn) where
    abbrev now : HeapFacts
    now = at_moment h at

    abbrev next : Moment
    next = after at (Replied turn.reply)

    there : seat_at now.seats c ≡ seat_of c at
    there = get_or-set_same seats c (seat_of c at) first_seat long

    comes : Comes h.records c at
    comes = (rw is.begins tt, subst (λ s. SeatSound h.records c s) there (heap.sound c few))

    wanted : Wanted h.records c (seat_at now.seats c) (WantTurn (op_at turn.point) None) at.stage.arena
    wanted = subst (λ s. Wanted h.records c s (WantTurn (op_at turn.point) None) at.stage.arena) (sym there) (turn_wanted h.records c at turn.point arenas few is.begins comes)

    fed : IsFed (Replied turn.reply) (answer_of next) (seat_of c next) (seat_at now.seats c)
    fed = subst (IsFed (Replied turn.reply) (answer_of next) (seat_of c next)) (sym there) (rw is.begins (refl, refl))

    again : slice_set now.seats c (seat_of c next) ≡ slice_set seats c (seat_of c next)
    again = set-set seats c (seat_of c at) (seat_of c next)

    pub turn_arenas : IsArenas turn.records
    turn_arenas = let may = turn_may h.records c at turn.point arenas few is.begins comes in subst IsArenas (sym is.made.after) (turned_is h.records at.stage.arena c (op_at turn.point) None arenas may.0 may.1.stands)

    pub turn_heap : IsHeap turn.records (slice_set seats c (seat_of c next)) turn.owed
    turn_heap =
        let leads = turn_leads now c (op_at turn.point) None at.stage.arena arenas few wanted (Ok turn.reply) turn.records owed turn.owed (heap.promised c few) is.made in
        subst (λ ss. IsHeap turn.records ss turn.owed) again (led_heap now turn.records owed turn.owed c _ _ (Replied turn.reply) wanted leads (answer_of next) (seat_of c next) heap few fed)

    pub turn_step : (shelf : Shelf) → IsStep now shelf c (seat_at now.seats c).call (record { did = DidTurn; ended = answer_of next }) (at_moment (record { records = turn.records; seats = h.seats; heard = h.heard }) next) shelf
    turn_step shelf =
        let call : CallFacts = record { client = c; request = at.request; stage = at.stage } in
        let is_open : (seat_at now.seats c).call ≡ Some call = ap (λ (s : Seat). s.call) there ∙ ap (open_call c at) is.begins in
        let told : FedTo call (seat_at now.seats c).desk (Replied turn.reply) (answer_of next) (seat_of c next) = subst (λ (s : Seat). FedTo call s.desk (Replied turn.reply) (answer_of next) (seat_of c next)) (sym there) (refl, refl) in
        let done = turn_done (Ok turn.reply) now call c at.stage.arena (op_at turn.point) None (Turns turn.point) turn.records owed turn.owed (seat_of c next) (answer_of next) is_open refl refl is.begins refl
        (ap (holding_client now.seats) is.alone) is.made told in
        subst (λ ss. IsStep now shelf c (seat_at now.seats c).call (record { did = DidTurn; ended = answer_of next }) (record { records = turn.records; seats = ss; heard = h.heard }) shelf) again (done.0 shelf)

  -- and so do more
  pub turns_lead : (turns : List TurnMade) (h : HeapFacts) (owed : List ℕ) (at : Moment) (records' : List Record) (owed' : List ℕ) (at' : Moment) → IsArenas h.records → IsHeap h.records (slice_set seats c (seat_of c at)) owed → c < length seats →
      TurnsTo h.records owed c at turns records' owed' at' →
      IsHeap records' (slice_set seats c (seat_of c at')) owed' × ((shelf : Shelf) → (steps : List Made) × Carried (at_moment h at) shelf c (answer_of at) steps (record { records = records'; seats = slice_set seats c (seat_of c at'); heard = h.heard }) shelf (answer_of at'))
  turns_lead [] h owed at records' owed' at' arenas heap long led = rw (led.0, led.1, led.2) (heap, λ shelf. ([], (refl, refl, refl)))
  turns_lead (turn ∷ later) h owed at records' owed' at' arenas heap long (is, led) =
      let h' : HeapFacts = record { records = turn.records; seats = h.seats; heard = h.heard } in
      let next : Moment = after at (Replied turn.reply) in
      let rest = turns_lead later h' turn.owed next records' owed' at' (turn_arenas h owed at turn arenas heap long is) (turn_heap h owed at turn arenas heap long is) long led in
      let stands : Stands (at_moment h at) = record { arenas = arenas; clients = heap.number; seats = heap.sound } in (
        rest.0,
        λ shelf.
            let more = rest.1 shelf in
            let made : Made = record { told = record { did = DidTurn; ended = answer_of next }; heap = at_moment h' next; shelf = shelf } in
            (made ∷ more.0, (stands, ap ended_by is.begins, turn_step h owed at turn arenas heap long is shelf, more.1)),
      )

-- what was done of a request leaves the heap so
module _ (h : HeapFacts) (owed : List ℕ) (c : ℕ) (request : Request) (heap : IsHeap h.records h.seats owed) (arenas : IsArenas h.records) (few : c < 32) (rests : (seat_at h.seats c).call ≡ None) (range : IsInRange request) where
  abbrev first : Moment
  first = begin request (seat_at h.seats c).desk

  -- the call comes to where it begins
  pub begins_comes : Comes h.records c first
  begins_comes = starts-sit h.records c (seat_at h.seats c).desk request arenas few (subst (IsSeated h.records c (seat_at h.seats c).desk) rests (heap.sound c few)) range

  module _ (records' : List Record) (owed' : List ℕ) (seat : Seat) (ended : Option Answered) (is : IsDone h.records owed c request (seat_at h.seats c) records' owed' seat ended) where
    own : asked_for h.seats c request ≡ request
    own = own_asked h.seats c request is.own

    starts : IsHeap h.records (slice_set h.seats c (seat_of c first)) owed
    starts = start_heap {A = Unit {0}} {E = Unit {0}} h.records h.seats owed c request request (Ok tt) (seat_at h.seats c) (seat_of c first) heap arenas few rests range (sym own) refl refl tt

    led : IsHeap records' (slice_set h.seats c (seat_of c is.at)) owed' × ((shelf : Shelf) → (steps : List Made) × Carried (at_moment h.seats c few h first) shelf c (answer_of first) steps (record { records = records'; seats = slice_set h.seats c (seat_of c is.at); heard = h.heard }) shelf (answer_of is.at))
    led = turns_lead h.seats c few is.turns h owed first records' owed' is.at arenas starts (omega (arith, few, heap.number)) is.led

    pub done_heap : IsHeap records' (slice_set h.seats c seat) owed'
    done_heap = rw is.seat_is led.0

    pub done_out : (shelf : Shelf) → CarriedOut h shelf c request (record { records = records'; seats = slice_set h.seats c seat; heard = h.heard }) shelf ended
    done_out shelf = rw (is.seat_is, is.ended_is, own) (led.1 shelf)

  -- what came of it leaves the heap as it has to be
  pub came_heap : (result : Bool) (records' : List Record) (owed' : List ℕ) (seat : Seat) (ended : Option Answered) → CameOf result h.records owed c request (seat_at h.seats c) records' owed' seat ended → IsHeap records' (slice_set h.seats c seat) owed'
  came_heap true records' owed' seat ended is = done_heap records' owed' seat ended is
  came_heap false records' owed' seat ended is =
      let old : Seat = seat_at h.seats c in
      let promised = heap.promised c few in
      let kept = is.kept in
      rw (is.records_are, is.seat_is) (heap_changed h.records h.records h.seats owed owed' c old heap few (seated_stays h.records owed owed' c is.others) (heap.sound c few) (omega (arith, promised, kept)))
