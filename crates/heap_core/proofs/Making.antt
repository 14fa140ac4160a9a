-- What a turn, an ask or the want of memory leaves of a heap, and what a step then tells.
use Rattle.heap_core.proofs.Words.{◌≡◌, ◌≢◌, ◌≤◌, ◌<◌, ℕ, ◌+◌, Bool, true, false, List, Option, None, Some, Result, Ok, Err, IsSomeAnd, slice_set, refl, sym, ap, subst, ◌∙◌, arith, Shelf, opens, Ask, AnswersTo, Op, Point, Go, Want, Reply, AskFacts, Replied, Told, Starved, Answered, Item, moment_of, Goes, CallFacts, want, Moment, after, WantTurn, WantAsk, is_marked, IsArenas, reply_in, room_in, spaces_of, with_chunk_found, CanTurn, after_turn, FedTo, HeapFacts, IsStep, IsSure, holder_for, DidTurn, owed_to, IsHeap, owing, Record, Seat, seat_at, seat_of, Comes, SeatSound, MadeTurn, item_of, is_some, get_or, get_or_default, position-Some, Publish, not_holding, Held, held_at, Next, taken_next, holding_client, asks_next, first_seat, holder_of, HolderIs, TurnFacts, region_in_seat}
use Rattle.heap_core.proofs.Wanting.{GoesOn, IsFed, Starving, Wanted, asks_promised, fed_at, few_asks, opens_marked, owed_after, owed_asked, room_asked, some_has, starved_ends}
use Rattle.heap_core.proofs.Changes.{Stays, heap_changed, room_used, seated_stays, turned_stays, room_elsewhere}
use Rattle.heap_core.proofs.Clients.{asks-sit, starves-sit, turns-sit}
use Rattle.heap_core.proofs.Sitting.{holders-publish}

-- ---- what an item leaves

-- What an item leaves of a client that is fed it, and of all others, in the arenas after it.
pub record Leads (records records' : List Record) (owed owed' : List ℕ) (c : ℕ) (at : Moment) (point : Point) (item : Item) : Type 0 where
  pub comes : Comes records' c (after at item)
  pub owes : owing records' c (seat_of c (after at item)).call ≤ owed_to owed' c
  pub stays : Stays records records' owed owed' c

module _ (h : HeapFacts) (records' : List Record) (owed owed' : List ℕ) (c : ℕ) (wants : Want) (arena : ℕ) (item : Item) (w : Wanted h.records c (seat_at h.seats c) wants arena)
    (leads : Leads h.records records' owed owed' c (moment_of w.call (seat_at h.seats c).desk) w.point item) where
  abbrev old : Seat
  old = seat_at h.seats c

  -- the client may be fed
  pub led_goes : GoesOn item old
  led_goes = subst (λ k. IsSomeAnd k (λ call. Goes (after (moment_of call old.desk) item).stage.next)) (sym w.is) leads.comes.0

  -- and the heap is as it has to be once it was
  pub led_heap : (ended : Option Answered) (new : Seat) → IsHeap h.records h.seats owed → c < 32 → IsFed item ended new old → IsHeap records' (slice_set h.seats c new) owed'
  led_heap ended new heap few fed =
      subst (λ s. IsHeap records' (slice_set h.seats c s) owed') (sym (fed_at h.records c old wants arena item ended new w fed).0)
      (heap_changed h.records records' h.seats owed owed' c (seat_of c (after (moment_of w.call old.desk) item)) heap few leads.stays leads.comes.1 leads.owes)

-- what a step of a client told by a turn, whatever shelf there is
abbrev pub IsDone : HeapFacts → ℕ → Option Answered → HeapFacts → Type 0
IsDone h c ended new = ((shelf : Shelf) → IsStep h shelf c (seat_at h.seats c).call (record { did = DidTurn; ended = ended }) new shelf) × IsSure h c (seat_at h.seats c).call new

-- ---- the want of memory

pub starve_leads : (records : List Record) (owed owed' : List ℕ) (c : ℕ) (seat : Seat) → IsArenas records → c < 32 → ((o : ℕ) → o ≢ c → owed_to owed' o ≡ owed_to owed o) → (s : Starving records c seat) →
    Leads records records owed owed' c (moment_of s.wants.call seat.desk) s.wants.point Starved
starve_leads records owed owed' c seat arenas few others s =
    let w = s.wants in
    let ends = starved_ends records c seat s.op s.asked s.arena w s.marked in
    let came = starves-sit records c seat.desk w.call w.point s.op s.asked arenas few w.goes w.sits w.want_is s.marked in record {
      comes = came;
      owes = subst (λ m. owing records c (seat_of c m).call ≤ owed_to owed' c) (sym ends) (omega arith);
      stays = seated_stays records owed owed' c others;
    }

-- ---- a turn

module _ (h : HeapFacts) (c : ℕ) (op : Op) (asked : Option AskFacts) (arena : ℕ) (arenas : IsArenas h.records) (few : c < 32) (w : Wanted h.records c (seat_at h.seats c) (WantTurn op asked) arena) where
  abbrev at : Moment
  at = moment_of w.call (seat_at h.seats c).desk

  abbrev there : ℕ
  there = w.call.stage.arena

  abbrev reply : Reply
  reply = reply_in h.records there c (with_chunk_found (spaces_of h.records) there op)

  abbrev then : List Record
  then = after_turn h.records there c op asked

  led : CanTurn h.records c there op asked × Comes then c (after at (Replied reply))
  led = turns-sit h.records c (seat_at h.seats c).desk w.call w.point op asked arenas few w.goes w.sits w.want_is

  -- it can be made
  pub turn_can : CanTurn h.records c arena op asked
  turn_can = subst (λ a. CanTurn h.records c a op asked) (sym w.arena_is) led.0

  -- there are places for all asks after it
  places : (owed owed' : List ℕ) → owing h.records c (seat_at h.seats c).call ≤ owed_to owed c → owed_to owed c ≤ owed_to owed' c → (opens op ≡ true → room_in then there c + 1 ≤ owed_to owed' c) →
      room_in then there c + 1 ≤ owed_to owed' c
  places owed owed' promised kept made = by (opens op) refl
    where
      by : (o : Bool) → opens op ≡ o → room_in then there c + 1 ≤ owed_to owed' c
      by true e = made e
      by false e =
          let here = asks_promised h.records c (owed_to owed c) (seat_at h.seats c) (WantTurn op asked) arena w promised in
          let some : 0 < room_in h.records there c = led.0.room e in
          let less = room_used h.records there c op asked arenas w.sits.waits.there few e in
          let has = room_asked (room_in h.records there c) w.point op asked w.want_is e in
          omega (arith, some, less, has, here, kept)

  -- the turn was made where the call stands
  abbrev Made : {E : Type 0} → Result Reply E → List Record → List ℕ → List ℕ → ℕ → Type 0
  Made made records' owed owed' place = MadeTurn h.records owed (record { arena = place; client = c; op = op; asked = asked }) made records' owed'

  -- memory is wanting only for a turn that takes some
  abbrev starving_for : is_marked op ≡ true → Starving h.records c (seat_at h.seats c)
  starving_for marked = record { op = op; asked = asked; arena = arena; marked = marked; wants = w }

  marked_for : {E : Type 0} (error : E) (records' : List Record) (owed owed' : List ℕ) → Made (Err error) records' owed owed' there → is_marked op ≡ true
  marked_for error records' owed owed' is = opens_marked w.point op asked w.want_is (grind (arith, is.sure))

  pub turn_leads : {E : Type 0} (made : Result Reply E) (records' : List Record) (owed owed' : List ℕ) → owing h.records c (seat_at h.seats c).call ≤ owed_to owed c → Made made records' owed owed' arena →
      Leads h.records records' owed owed' c at w.point (item_of made)
  turn_leads made records' owed owed' promised is = by made (subst (Made made records' owed owed') w.arena_is is)
    where
      by : {E : Type 0} (made : Result Reply E) → Made made records' owed owed' there → Leads h.records records' owed owed' c at w.point (item_of made)
      by (Err error) is = subst (λ rs. Leads h.records rs owed owed' c at w.point Starved) (sym is.err)
          (starve_leads h.records owed owed' c (seat_at h.seats c) arenas few is.others (starving_for (marked_for error records' owed owed' is)))
      by (Ok told) is =
          subst (λ rs. Leads h.records rs owed owed' c at w.point (Replied told)) (sym is.after) (subst (λ r. Leads h.records then owed owed' c at w.point (Replied r)) (sym is.reply) (record {
            comes = led.1;
            owes = owed_after then c (owed_to owed' c) at (Replied reply) (places owed owed' promised is.kept (subst (λ rs. opens op ≡ true → room_in rs there c + 1 ≤ owed_to owed' c) is.after is.places));
            stays = turned_stays h.records owed owed' c there op asked arenas w.sits.waits.there led.0 is.others;
          }))

-- a step tells what came of the turn, and a turn that takes no memory is made
pub turn_done : {E : Type 0} (made : Result Reply E) (h : HeapFacts) (call : CallFacts) (c arena : ℕ) (op : Op) (asked : Option AskFacts) (point : Point) (records' : List Record) (owed owed' : List ℕ) (seat : Seat) (ended : Option Answered) → (seat_at h.seats c).call ≡ Some call → call.client ≡ c →
    arena ≡ call.stage.arena → call.stage.next ≡ Go point → want point ≡ WantTurn op asked → holder_for h call ≡ None → MadeTurn h.records owed (record { arena = arena; client = c; op = op; asked = asked }) made records' owed' →
    FedTo call (seat_at h.seats c).desk (item_of made) ended seat → IsDone h c ended (record { records = records'; seats = slice_set h.seats c seat; heard = h.heard })
turn_done (Ok told) h call c arena op asked point records' owed owed' seat ended is client there goes wants free made fed = (λ shelf. grind arith, grind arith)
turn_done (Err error) h call c arena op asked point records' owed owed' seat ended is client there goes wants free made fed = (λ shelf. grind (arith, opens_marked), grind (arith, opens_marked))

-- ---- an ask

-- it always leads on
pub ask_leads : (records : List Record) (owed owed' : List ℕ) (c arena : ℕ) (seat : Seat) (ask : Ask) (asked : AskFacts) → IsArenas records → c < 32 → (w : Wanted records c seat (WantAsk ask) arena) → asked.ask ≡ ask → AnswersTo asked.ask asked.answer →
    ((o : ℕ) → o ≢ c → owed_to owed' o ≡ owed_to owed o) → owing records c seat.call ≤ owed_to owed c → owed_to owed c ≤ owed_to owed' c + 1 → Leads records records owed owed' c (moment_of w.call seat.desk) w.point (Told asked)
ask_leads records owed owed' c arena seat ask asked arenas few w is answers others promised one = record {
  comes = asks-sit records c seat.desk w.call w.point asked arenas few w.goes w.sits (w.want_is ∙ ap WantAsk (sym is)) answers;
  owes = owed_asked records c (owed_to owed' c) seat ask asked arena w (omega (arith, promised, one));
  stays = seated_stays records owed owed' c others;
}

-- ---- a region that its holder publishes for another client's call

-- ---- the holder

-- the first client that holds a region at an address holds one there
pub held_there : (seats : List Seat) (addr holder : ℕ) (seat : Seat) (region : Option Held) → holder_of addr seats ≡ Some holder → seat ≡ get_or seats holder seat → region ≡ held_at addr seat.desk → region ≡ None → ⊥
held_there seats addr holder seat region is at held none =
    let found = position-Some (λ (s : Seat). is_some (held_at addr s.desk)) seats holder first_seat is in
    let same : seat ≡ seat_at seats holder = at ∙ get_or_default seats holder seat first_seat found.0 in
    let nothing : is_some (held_at addr (seat_at seats holder).desk) ≡ false = ap (λ (s : Seat). is_some (held_at addr s.desk)) (sym same) ∙ ap is_some (sym held ∙ none) in
    let some = found.1 in
    absurd (cc)

-- ---- a holder publishes

-- the turn of a holder
abbrev pub publishing : ℕ → Held → TurnFacts
publishing holder region = record { arena = region.arena; client = holder; op = Publish region.addr; asked = None }

few_next : (room : ℕ) (next : Next) → asks_next room next ≤ room + 1
few_next room next = grind (arith, few_asks)

-- the asks of its own call still have places, wherever that stands
owes_then : (records records' : List Record) (arena c n n' : ℕ) (call : Option CallFacts) → owing records c call ≤ n → n ≤ n' → room_in records' arena c + 1 ≤ n' →
    ((i : ℕ) → i ≢ arena → room_in records' i c ≡ room_in records i c) → owing records' c call ≤ n'
owes_then records records' arena c n n' call was more enough same = grind (arith, few_next)

-- what it may do
pub holder_led : (records : List Record) (seats : List Seat) (owed : List ℕ) (holder : ℕ) (region : Held) → IsHeap records seats owed → IsArenas records → holder < 32 → held_at region.addr (seat_at seats holder).desk ≡ Some region →
    (region.addr ≡ region.addr) × (region.arena < 32) × CanTurn records holder region.arena (Publish region.addr) None
    × SeatSound (after_turn records region.arena holder (Publish region.addr) None) holder (record (seat_at seats holder) { desk = not_holding region.addr (seat_at seats holder).desk })
holder_led records seats owed holder region heap arenas few held = holders-publish records holder region.addr (seat_at seats holder) region arenas few (heap.sound holder few) held

pub publish_heap : {E : Type 0} (records records' : List Record) (seats : List Seat) (owed owed' : List ℕ) (holder : ℕ) (region : Held) (told : Reply) (seat : Seat) → IsHeap records seats owed → IsArenas records → holder < 32 →
    held_at region.addr (seat_at seats holder).desk ≡ Some region → MadeTurn {E = E} records owed (publishing holder region) (Ok told) records' owed' →
    seat ≡ record (seat_at seats holder) { desk = not_holding region.addr (seat_at seats holder).desk } → IsHeap records' (slice_set seats holder seat) owed'
publish_heap records records' seats owed owed' holder region told seat heap arenas few held made is =
    let led = holder_led records seats owed holder region heap arenas few held in
    let then : List Record = after_turn records region.arena holder (Publish region.addr) None in
    let new : Seat = record (seat_at seats holder) { desk = not_holding region.addr (seat_at seats holder).desk } in
    let enough : room_in then region.arena holder + 1 ≤ owed_to owed' holder = subst (λ rs. room_in rs region.arena holder + 1 ≤ owed_to owed' holder) made.after (made.places refl) in
    let owes : owing then holder new.call ≤ owed_to owed' holder =
    owes_then records then region.arena holder (owed_to owed holder) (owed_to owed' holder) (seat_at seats holder).call (heap.promised holder few) made.kept enough
    (λ i far. room_elsewhere records region.arena holder i holder (Publish region.addr) None arenas led.1 (λ same. absurd (far (sym same)))) in
    let done : IsHeap then (slice_set seats holder new) owed' =
    heap_changed records then seats owed owed' holder new heap few (turned_stays records owed owed' holder region.arena (Publish region.addr) None arenas led.1 led.2 made.others) led.3 owes in
    subst (λ rs. IsHeap rs (slice_set seats holder seat) owed') (sym made.after) (subst (λ s. IsHeap then (slice_set seats holder s) owed') (sym is) done)

-- ---- the whole step

-- the holder of a region that a call takes over holds it, and the region lies in an arena that there is
pub found : (h : HeapFacts) (c holder : ℕ) (region : Held) → IsArenas h.records → ((c : ℕ) → c < 32 → SeatSound h.records c (seat_at h.seats c)) →
    IsSomeAnd (seat_at h.seats c).call (λ call. HolderIs h call (Some (holder, region))) → (held_at region.addr (seat_at h.seats holder).desk ≡ Some region) × (region.arena < 32)
found h c holder region arenas sound some =
    let k = some_has (seat_at h.seats c).call (λ call. HolderIs h call (Some (holder, region))) some in
    let a = taken k.0 (taken_next k.0.stage.next) refl k.2.1 in
    let held : held_at a.0 (seat_at h.seats holder).desk ≡ Some region = subst (λ taken. region_in_seat h.seats taken holder ≡ Some region) a.1 k.2.2 in
    let led = holders-publish h.records holder a.0 (seat_at h.seats holder) region arenas k.2.0 (sound holder k.2.0) held in
    (subst (λ addr. held_at addr (seat_at h.seats holder).desk ≡ Some region) (sym led.0) held, led.1)
  where
    taken : (call : CallFacts) (o : Option ℕ) → taken_next call.stage.next ≡ o → holder_for h call ≡ Some holder → (addr : ℕ) × (taken_next call.stage.next ≡ Some addr)
    taken call (Some addr) e is = (addr, e)
    taken call None e is = let none : holder_for h call ≡ None = ap (holding_client h.seats) e in absurd (cc)
