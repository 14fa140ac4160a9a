-- What a client's open call wants, and where a step for it leads.
use Rattle.heap_core.proofs.Words.{◌≡◌, ◌≤◌, ℕ, ◌+◌, true, false, List, Option, None, Some, IfSome, IsSomeAnd, refl, sym, ap, subst, ◌∙◌, arith, opens, Item, Told, Starved, Answered, NoMemory, Point, Next, Go, Ends, Op, Ask, AskFacts, DeskFacts, NeedsTurn, NeedsAsk, Turn, CallFacts, moment_of, desk_fed, Goes, NeedIs, NeedsWant, heard_next, Moment, Stage, after, moved, named, named_call, moment_at, begins_named, not_holding, option_map, aimed, taken_next, step_next, Want, WantTurn, WantAsk, is_marked, step, want, room_in, FedTo, never_starves, HeapFacts, asks_at, asks_next, owing, Record, Seat, answer_of, heard_by, seat_at, seat_of, IsSeated, SeatSound, Sits, SitsAt, IsMarked, Needs, StarvesAt, StarvesNext, TakesAt, nat_tests, Request, Replied, Filling, Skipping, Turns, Asks, InArena, Nothing, begin, begin_desk, begin_stage, closed, stage, Held, HasRoomToHold, started, ended_by, open_call}
use Rattle.std.specs.Prelude.{Result, Ok, Err, OnOk, OnErr}
use Rattle.call_plan.specs.Desks.{meant, ready}
use Rattle.std.proofs.lemmas.Bool.{cond_both}
use Rattle.std.specs.Prelude.{◌==◌, ◌^◌, nat_lt}
use Rattle.call_plan.specs.Desks.{flushes}
use Rattle.call_plan.specs.Runs.{all_goes, are_large, batch_goes, begin_realloc, begin_resize, desk_moved, get, gives, move_stage, resize_at, share}
use Rattle.call_plan.specs.Stages.{NextBatch, Move, NotLive, Nowhere}
use Rattle.call_plan.specs.declared.needs.Request.TheVariants.{Realloc}
use Rattle.size_classes.specs.Classes.{class_for}
use Rattle.call_plan.specs.Clients.{BatchFacts, batch_of, going, held_at, hit, resizing}

-- ---- the point of an open call

-- A client's open call waits at a point of an arena, where it wants this.
pub record Wanted (records : List Record) (c : ℕ) (seat : Seat) (wants : Want) (arena : ℕ) : Type 0 where
  pub call : CallFacts
  pub point : Point
  pub is : seat.call ≡ Some call
  pub client : call.client ≡ c
  pub goes : call.stage.next ≡ Go point
  pub sits : Sits records c seat.desk call.request call.stage.arena point
  pub want_is : want point ≡ wants
  pub arena_is : arena ≡ call.stage.arena

pub some_has : {X : Type 0} (o : Option X) (P : X → Type 0) → IsSomeAnd o P → (x : X) × (o ≡ Some x) × P x
some_has (Some x) P p = (x, refl, p)
some_has None P p = absurd p

goes_on : (records : List Record) (c : ℕ) (desk : DeskFacts) (call : CallFacts) (next : Next) → SitsAt records c desk call next →
    (point : Point) × (next ≡ Go point) × Sits records c desk call.request call.stage.arena point
goes_on records c desk call (Go point) sits = (point, refl, sits)
goes_on records c desk call next sits = absurd sits

wanted : (records : List Record) (c : ℕ) (seat : Seat) (wants : Option AskFacts → Want) (arena : ℕ) (P : CallFacts → Type 0) → SeatSound records c seat → IsSomeAnd seat.call P →
    ((call : CallFacts) (point : Point) → call.stage.next ≡ Go point → P call → (want point ≡ wants (heard_next call.stage.next)) × (arena ≡ call.stage.arena)) → Wanted records c seat (wants (heard_by seat.call)) arena
wanted records c seat wants arena P sound some tells =
    let k = some_has seat.call P some in
    let s : IsSeated records c seat.desk (Some k.0) = subst (IsSeated records c seat.desk) k.1 sound in
    let g = goes_on records c seat.desk k.0 k.0.stage.next s.1 in
    let t = tells k.0 g.0 g.1 k.2 in
    record { call = k.0; point = g.0; is = k.1; client = s.0; goes = g.1; sits = g.2; want_is = t.0 ∙ ap (λ call. wants (heard_by call)) (sym k.1); arena_is = t.1 }

-- what it needs is what it wants
turn_needed : (client at : ℕ) (point : Point) (turn : Turn) → NeedsWant client at (want point) (NeedsTurn turn) → (want point ≡ WantTurn turn.op (heard_next (Go point))) × (turn.arena ≡ at) × (turn.client ≡ client)
turn_needed client at point turn is = grind arith

ask_needed : (client at : ℕ) (w : Want) (arena : ℕ) (ask : Ask) → NeedsWant client at w (NeedsAsk arena ask) → (w ≡ WantAsk ask) × (arena ≡ at)
ask_needed client at w arena ask is = grind arith

-- where the heap is seen to be so, and the client with the ask that it heard
pub turn_seen : (h now : HeapFacts) (turn : Turn) (seat : Seat) (asked : Option AskFacts) → h ≡ now → SeatSound h.records turn.client (seat_at h.seats turn.client) → Needs (seat_at now.seats turn.client).call (NeedsTurn turn) →
    seat ≡ seat_at h.seats turn.client → asked ≡ heard_by seat.call → Wanted h.records turn.client (seat_at h.seats turn.client) (WantTurn turn.op asked) turn.arena
turn_seen h now turn seat asked view sound needs same heard =
    let at : Seat = seat_at h.seats turn.client in
    subst (λ a. Wanted h.records turn.client at (WantTurn turn.op a) turn.arena) (sym (heard ∙ ap (λ (s : Seat). heard_by s.call) same))
    (wanted h.records turn.client at (WantTurn turn.op) turn.arena (λ call. NeedIs call.client call.stage.arena call.stage.next (NeedsTurn turn)) sound
    (subst (λ (n : HeapFacts). Needs (seat_at n.seats turn.client).call (NeedsTurn turn)) (sym view) needs) (λ call point goes need.
    let t = turn_needed call.client call.stage.arena point turn (subst (λ next. NeedIs call.client call.stage.arena next (NeedsTurn turn)) goes need) in (t.0 ∙ ap (λ next. WantTurn turn.op (heard_next next)) (sym goes), t.1)))

pub ask_seen : (h now : HeapFacts) (c arena : ℕ) (ask : Ask) → h ≡ now → SeatSound h.records c (seat_at h.seats c) → Needs (seat_at now.seats c).call (NeedsAsk arena ask) → Wanted h.records c (seat_at h.seats c) (WantAsk ask) arena
ask_seen h now c arena ask view sound needs =
    wanted h.records c (seat_at h.seats c) (λ _. WantAsk ask) arena (λ call. NeedIs call.client call.stage.arena call.stage.next (NeedsAsk arena ask)) sound
    (subst (λ (n : HeapFacts). Needs (seat_at n.seats c).call (NeedsAsk arena ask)) (sym view) needs)
    (λ call point goes need. ask_needed call.client call.stage.arena (want point) arena ask (subst (λ next. NeedIs call.client call.stage.arena next (NeedsAsk arena ask)) goes need))

-- A client's open call wants a turn that may find no memory.
pub record Starving (records : List Record) (c : ℕ) (seat : Seat) : Type 0 where
  pub op : Op
  pub asked : Option AskFacts
  pub arena : ℕ
  pub marked : is_marked op ≡ true
  pub wants : Wanted records c seat (WantTurn op asked) arena

turn_marked : (w : Want) → IsMarked w → (op : Op) × (asked : Option AskFacts) × (w ≡ WantTurn op asked) × (is_marked op ≡ true)
turn_marked (WantTurn op asked) is = (op, asked, refl, is)
turn_marked (WantAsk ask) is = absurd is

pub starving_seen : (h now : HeapFacts) (c : ℕ) → h ≡ now → SeatSound h.records c (seat_at h.seats c) → StarvesAt (seat_at now.seats c).call → Starving h.records c (seat_at h.seats c)
starving_seen h now c view sound starves =
    let seat : Seat = seat_at h.seats c in
    let k = some_has seat.call (λ call. StarvesNext call.stage.next) (subst (λ (n : HeapFacts). StarvesAt (seat_at n.seats c).call) (sym view) starves) in
    let s : IsSeated h.records c seat.desk (Some k.0) = subst (IsSeated h.records c seat.desk) k.1 sound in
    let g = goes_on h.records c seat.desk k.0 k.0.stage.next s.1 in
    let m = turn_marked (want g.0) (subst StarvesNext g.1 k.2) in
    record {
      op = m.0;
      asked = m.1;
      arena = k.0.stage.arena;
      marked = m.3;
      wants = record { call = k.0; point = g.0; is = k.1; client = s.0; goes = g.1; sits = g.2; want_is = m.2; arena_is = refl };
    }

-- ---- what a step is

-- a client may be fed an item, and was fed one that told it this and left it so
abbrev pub GoesOn : Item → Seat → Type 0
GoesOn item seat = IsSomeAnd seat.call (λ call. Goes (after (moment_of call seat.desk) item).stage.next)

abbrev pub IsFed : Item → Option Answered → Seat → Seat → Type 0
IsFed item ended new seat = IfSome seat.call (λ call. FedTo call seat.desk item ended new)

pub fed_at : (records : List Record) (c : ℕ) (seat : Seat) (wants : Want) (arena : ℕ) (item : Item) (ended : Option Answered) (new : Seat) (w : Wanted records c seat wants arena) →
    IsFed item ended new seat → (new ≡ seat_of c (after (moment_of w.call seat.desk) item)) × (ended ≡ answer_of (after (moment_of w.call seat.desk) item))
fed_at records c seat wants arena item ended new w fed = let same = w.is in let client = w.client in grind arith

-- what the call was promised is what may be asked at its point
pub asks_promised : (records : List Record) (c n : ℕ) (seat : Seat) (wants : Want) (arena : ℕ) (w : Wanted records c seat wants arena) → owing records c seat.call ≤ n → asks_at (room_in records w.call.stage.arena c) w.point ≤ n
asks_promised records c n seat wants arena w promised =
    subst (λ next. asks_next (room_in records w.call.stage.arena c) next ≤ n) w.goes (subst (λ call. owing records c call ≤ n) w.is promised)

-- ---- a turn that finds no memory

-- an operation of a call is the first of a unit just where it may find no memory
pub opens_marked : (point : Point) (op : Op) (asked : Option AskFacts) → want point ≡ WantTurn op asked → opens op ≡ true → is_marked op ≡ true
opens_marked point op asked wants is = grind arith

-- a turn without memory comes only where places are promised for all the room
pub room_asked : (room : ℕ) (point : Point) (op : Op) (asked : Option AskFacts) → want point ≡ WantTurn op asked → opens op ≡ false → room ≤ asks_at room point
room_asked room point op asked wants uses = grind arith

starves_to : (point : Point) (op : Op) (asked : Option AskFacts) → want point ≡ WantTurn op asked → is_marked op ≡ true → step point Starved ≡ Ends NoMemory
starves_to point op asked wants marked = grind (arith, never_starves)

-- the call has ended
pub starved_ends : (records : List Record) (c : ℕ) (seat : Seat) (op : Op) (asked : Option AskFacts) (arena : ℕ) (w : Wanted records c seat (WantTurn op asked) arena) → is_marked op ≡ true →
    after (moment_of w.call seat.desk) Starved ≡ closed w.call.request (desk_fed seat.desk w.call.stage.arena w.call.stage.next Starved) (stage w.call.stage.arena (Ends NoMemory))
starved_ends records c seat op asked arena w marked =
    let at : Moment = moment_of w.call seat.desk in
    ap (λ next. moved at.request (desk_fed at.desk at.stage.arena at.stage.next Starved) at.stage.arena next)
    (ap (λ next. step_next next Starved) w.goes ∙ starves_to w.point op asked w.want_is marked)

-- ---- an ask

-- it takes one of the places that were promised
owed_told : (records : List Record) (c n : ℕ) (at : Moment) (point : Point) (ask : Ask) (asked : AskFacts) → want point ≡ WantAsk ask → asks_at (room_in records at.stage.arena c) point ≤ n + 1 →
    owing records c (seat_of c (moved at.request (desk_fed at.desk at.stage.arena at.stage.next (Told asked)) at.stage.arena (step point (Told asked)))).call ≤ n
owed_told records c n at point ask asked wants few = grind arith

pub owed_asked : (records : List Record) (c n : ℕ) (seat : Seat) (ask : Ask) (asked : AskFacts) (arena : ℕ) (w : Wanted records c seat (WantAsk ask) arena) → owing records c seat.call ≤ n + 1 →
    owing records c (seat_of c (after (moment_of w.call seat.desk) (Told asked))).call ≤ n
owed_asked records c n seat ask asked arena w few =
    let at : Moment = moment_of w.call seat.desk in
    let here = asks_promised records c (n + 1) seat (WantAsk ask) arena w few in
    subst (λ next. owing records c (seat_of c (moved at.request (desk_fed at.desk at.stage.arena at.stage.next (Told asked)) at.stage.arena next)).call ≤ n)
    (sym (ap (λ next. step_next next (Told asked)) w.goes)) (owed_told records c n at w.point ask asked w.want_is here)

-- ---- whose turn it is

pub turn_client : (records : List Record) (c : ℕ) (seat : Seat) (turn : Turn) → SeatSound records c seat → Needs seat.call (NeedsTurn turn) → turn.client ≡ c
turn_client records c seat turn sound needs =
    let k = some_has seat.call (λ call. NeedIs call.client call.stage.arena call.stage.next (NeedsTurn turn)) needs in
    let s : IsSeated records c seat.desk (Some k.0) = subst (IsSeated records c seat.desk) k.1 sound in
    let g = goes_on records c seat.desk k.0 k.0.stage.next s.1 in
    (turn_needed k.0.client k.0.stage.arena g.0 turn (subst (λ next. NeedIs k.0.client k.0.stage.arena next (NeedsTurn turn)) g.1 k.2)).2 ∙ s.0

-- ---- how many asks may come where a call goes next: no more than its client has room in its arena, and one

-- ---- at a point

-- at no point more asks may come than there is room, and one
pub few_asks : (room : ℕ) (point : Point) → asks_at room point ≤ room + 1
few_asks room point = grind (arith, nat_tests)

-- ---- where a call goes over to another arena, or begins

-- a call goes over only to a turn that takes memory
abbrev pub OverOpens : Next → Type 0
OverOpens (InArena index point) = (room : ℕ) → asks_at room point ≡ 0
OverOpens next = Unit {0}

next_opens : (next : Next) (item : Item) → OverOpens (step_next next item)
next_opens (Go (Turns (Filling wish count))) (Replied Nothing) = tt
next_opens (Go (Asks (Skipping wish span b skip) (Some asked))) (Replied Nothing) = tt
next_opens next item = grind (arith, nat_tests)

-- ---- what the call of a client may ask then

-- nothing where a turn comes first that takes memory
owed_started : (records : List Record) (c n : ℕ) (request : Request) (desk : DeskFacts) (arena : ℕ) (next : Next) → asks_next (room_in records arena c) next ≡ 0 →
    owing records c (seat_of c (closed request desk (stage arena next))).call ≤ n
owed_started records c n request desk arena next none = grind arith

batch_asks : (room arena : ℕ) (gained : Option Held) (batch : Option BatchFacts) → asks_next room (batch_goes arena gained batch).next ≡ 0
batch_asks room arena gained batch = grind arith

get_asks : (room class count : ℕ) → asks_next room (get true class 1 count) ≡ 0
get_asks room class count = grind (arith, nat_tests)

-- nor where regions go back, or another one takes the place of the one in hand
owed_goes : (records : List Record) (c n : ℕ) (request : Request) (desk : DeskFacts) (arena : ℕ) → owing records c (seat_of c (closed request desk (all_goes request desk arena))).call ≤ n
owed_goes records c n request desk arena =
    let at : Stage = all_goes request desk arena in
    owed_started records c n request desk at.arena at.next (batch_asks (room_in records at.arena c) arena (gives request desk) (batch_of (going (flushes request) desk)))

owed_move : (records : List Record) (c n : ℕ) (request : Request) (desk : DeskFacts) (arena class : ℕ) (found : Option Held) →
    owing records c (seat_of c (closed request (desk_moved class found desk) (move_stage request arena class found desk))).call ≤ n
owed_move records c n request desk arena class None = owed_started records c n request desk desk.arena (get true class 1 (share class desk)) (get_asks (room_in records desk.arena c) class (share class desk))
owed_move records c n request desk arena class (Some region) = owed_goes records c n request (desk_moved class (Some region) desk) arena

-- nothing where it has ended, and what is enough for its room where it goes on
owed_moved : (records : List Record) (c n : ℕ) (request : Request) (desk : DeskFacts) (arena : ℕ) (next : Next) → room_in records arena c + 1 ≤ n → OverOpens next →
    owing records c (seat_of c (moved request desk arena next)).call ≤ n
owed_moved records c n request desk arena (Go point) enough opens = omega (arith, enough, few_asks (room_in records arena c) point)
owed_moved records c n request desk arena (InArena index point) enough opens = omega (arith, opens (room_in records index c))
owed_moved records c n request desk arena NextBatch enough opens = owed_goes records c n request desk arena
owed_moved records c n request desk arena (Move class) enough opens = owed_move records c n request desk arena class (hit class desk)
owed_moved records c n request desk arena NotLive enough opens = omega arith
owed_moved records c n request desk arena (Ends answer) enough opens = omega arith
owed_moved records c n request desk arena Nowhere enough opens = omega arith

pub owed_after : (records : List Record) (c n : ℕ) (at : Moment) (item : Item) → room_in records at.stage.arena c + 1 ≤ n → owing records c (seat_of c (after at item)).call ≤ n
owed_after records c n at item enough =
    owed_moved records c n at.request (desk_fed at.desk at.stage.arena at.stage.next item) at.stage.arena (step_next at.stage.next item) enough (next_opens at.stage.next item)

-- ---- where a call begins

resize_starts : (room : ℕ) (request : Request) (class : ℕ) (region : Held) (desk : DeskFacts) → asks_next room (begin_resize request class region desk).next ≡ 0
resize_starts room request class region desk =
    cond_both (class == region.class) _ _ (λ (at : Stage). asks_next room at.next ≡ 0) (λ _. refl)
    (λ _. cond_both (are_large class region.class) _ _ (λ (at : Stage). asks_next room at.next ≡ 0) (λ _. at_starts class region) (λ _. move_starts (hit class desk)))
  where
    at_starts : (class : ℕ) (region : Held) → asks_next room (Go (Turns (resize_at class region))) ≡ 0
    at_starts class region = cond_both (nat_lt class region.class) _ _ (λ point. asks_next room (Go (Turns point)) ≡ 0) (λ _. refl) (λ _. refl)

    move_starts : (found : Option Held) → asks_next room (move_stage request region.arena class found desk).next ≡ 0
    move_starts None = get_asks room class (share class desk)
    move_starts (Some hit) =
        let now : DeskFacts = desk_moved class (Some hit) desk in batch_asks room region.arena (gives request now) (batch_of (going (flushes request) now))

realloc_starts : (room addr size : ℕ) (held : Option Held) (desk : DeskFacts) → asks_next room (begin_realloc addr size held desk).next ≡ 0
realloc_starts room addr size None desk = refl
realloc_starts room addr size (Some region) desk =
    cond_both (nat_lt (2 ^ 35) size) _ _ (λ (at : Stage). asks_next room at.next ≡ 0) (λ _. refl) (λ _. resize_starts room (Realloc addr size) (class_for size) region (resizing addr region desk))

-- a turn comes first that takes memory
begin_starts : (room : ℕ) (request : Request) (desk : DeskFacts) → asks_next room (begin_stage request desk).next ≡ 0
begin_starts room (Realloc addr size) desk = realloc_starts room addr size (held_at addr desk) desk
begin_starts room request desk = grind (arith, nat_tests)

pub owed_begun : (records : List Record) (c n : ℕ) (request : Request) (desk : DeskFacts) → owing records c (seat_of c (begin request desk)).call ≤ n
owed_begun records c n request desk =
    let asked : Request = meant request desk in
    let now : DeskFacts = ready request desk in
    let at = begin_stage asked now in
    owed_started records c n asked (begin_desk asked now) at.arena at.next (begin_starts (room_in records at.arena c) asked now)

-- ---- what is kept of a call that was fed

-- a call that is kept has room for the region that it may get
pub room_kept : (c room : ℕ) (desk : DeskFacts) (at : Moment) (next : Next) (kept : Option CallFacts) → kept ≡ open_call c at next → HasRoomToHold desk room at.stage.next →
    IfSome kept (λ call. HasRoomToHold desk room call.stage.next)
room_kept c room desk at next kept is has = grind arith

-- ---- a call with the regions named that go back next

-- it is open as long as the call is
named_open : (c : ℕ) (desk : DeskFacts) (call : CallFacts) → option_map (named_call desk) (open_call c (moment_of call desk) call.stage.next) ≡ open_call c (moment_at call desk) (named_call desk call).stage.next
named_open c desk call = grind arith

named_ends : (desk : DeskFacts) (call : CallFacts) → ended_by (named_call desk call).stage.next ≡ ended_by call.stage.next
named_ends desk call = grind arith

-- a call that began in a free place is kept there while it is open
pub started_open : (c : ℕ) (request : Request) (had desk : DeskFacts) → option_map (named_call desk) (started c (begin request had) None (begin request had).stage.next) ≡ open_call c (begin request had) (begin request had).stage.next
started_open c request had desk = by (meant request had) (ready request had) (begin_stage (meant request had) (ready request had)) (begins_named (meant request had) (ready request had) desk)
  where
    by : (request : Request) (had : DeskFacts) (at : Stage) → named request desk at ≡ at →
        option_map (named_call desk) (started c (closed request (begin_desk request had) at) None at.next) ≡ open_call c (closed request (begin_desk request had) at) at.next
    by request had at same = grind arith

-- a place is free where no call is read in it
none_read : (desk : DeskFacts) (place : Option CallFacts) → option_map (named_call desk) place ≡ None → place ≡ None
none_read desk None e = refl
none_read desk (Some call) e = absurd (cc)

-- where a call began in a free place, its client is as it has to be read then
pub start_seat : {A E : Type 0} (told : Result A E) (c : ℕ) (request : Request) (had seen desk : DeskFacts) (was place : Option CallFacts) → had ≡ seen → option_map (named_call had) was ≡ None →
    OnOk told (place ≡ started c (begin request had) was (begin request had).stage.next) → OnOk told (desk ≡ (begin request had).desk) →
    OnOk told (record { desk = desk; call = option_map (named_call desk) place } ≡ seat_of c (begin request seen))
start_seat (Err error) c request had seen desk was place same free began left = tt
start_seat (Ok told) c request had seen desk was place same free began left =
    ap (λ p. record { desk = desk; call = option_map (named_call desk) p }) (began ∙ ap (λ w. started c (begin request had) w (begin request had).stage.next) (none_read had was free))
    ∙ ap (λ call. record { desk = desk; call = call }) (started_open c request had desk)
    ∙ ap (λ (d : DeskFacts). record { desk = d; call = open_call c (begin request had) (begin request had).stage.next }) left
    ∙ ap (λ (d : DeskFacts). seat_of c (begin request d)) same

-- and has the room that its call wants
pub start_room : {A E : Type 0} (told : Result A E) (c room : ℕ) (request : Request) (had desk : DeskFacts) (was place : Option CallFacts) → option_map (named_call had) was ≡ None →
    OnOk told (place ≡ started c (begin request had) was (begin request had).stage.next) → OnOk told (HasRoomToHold desk room (begin request had).stage.next) → OnErr told (place ≡ was) →
    IfSome place (λ call. HasRoomToHold desk room call.stage.next)
start_room (Err error) c room request had desk was place free began has left =
    subst (λ p. IfSome p (λ call. HasRoomToHold desk room call.stage.next)) (sym (left ∙ none_read had was free)) tt
start_room (Ok told) c room request had desk was place free began has left =
    subst (λ p. IfSome p (λ call. HasRoomToHold desk room call.stage.next)) (sym (began ∙ ap (λ w. started c (begin request had) w (begin request had).stage.next) (none_read had was free)))
    (by (begin request had) (begin request had).stage.next refl has)
  where
    by : (at : Moment) (next : Next) → at.stage.next ≡ next → HasRoomToHold desk room next → IfSome (started c at None next) (λ call. HasRoomToHold desk room call.stage.next)
    by at next is has = grind arith

-- the held regions don't matter
pub named_lost : (addr : ℕ) (desk : DeskFacts) (call : Option CallFacts) → option_map (named_call (not_holding addr desk)) call ≡ option_map (named_call desk) call
named_lost addr desk call = by desk.hand refl
  where
    by : (hand : Option Held) → desk.hand ≡ hand → option_map (named_call (not_holding addr desk)) call ≡ option_map (named_call desk) call
    by hand e = grind arith

-- it hears, takes over and is aimed as before
pub named_hears : (desk : DeskFacts) (call : Option CallFacts) → heard_by (option_map (named_call desk) call) ≡ heard_by call
named_hears desk call = grind arith

pub named_takes : (desk : DeskFacts) (call : CallFacts) → taken_next (named_call desk call).stage.next ≡ taken_next call.stage.next
named_takes desk call = grind arith

pub named_aims : (arena : ℕ) (desk : DeskFacts) (call : CallFacts) → TakesAt (Some (named_call desk call)) → named_call desk (aimed call arena) ≡ aimed (named_call desk call) arena
named_aims arena desk call takes = grind arith

-- there is room for the regions that it may get
pub named_rooms : (room : ℕ) (had desk : DeskFacts) (call call' : CallFacts) → named_call desk call' ≡ named_call desk call → HasRoomToHold had room call.stage.next → HasRoomToHold had room call'.stage.next
named_rooms room had desk call call' same has = aft desk call' (subst (λ (f : CallFacts). HasRoomToHold had room f.stage.next) (sym same) (fore desk call has))
  where
    fore : (desk : DeskFacts) (call : CallFacts) → HasRoomToHold had room call.stage.next → HasRoomToHold had room (named_call desk call).stage.next
    fore desk call has = grind arith

    aft : (desk : DeskFacts) (call : CallFacts) → HasRoomToHold had room (named_call desk call).stage.next → HasRoomToHold had room call.stage.next
    aft desk call has = grind arith

-- What the call and its client's desk are after an item is what the client is then.
pub fed_to : (seat : Seat) (desk desk' : DeskFacts) (call call' : CallFacts) (item : Item) (place : Option CallFacts) (ended : Option Answered) →
    record { desk = desk; call = Some (named_call desk call) } ≡ seat → call'.client ≡ call.client → moment_at call' desk' ≡ after (moment_at call desk) item →
    place ≡ open_call call'.client (moment_of call' desk') call'.stage.next → ended ≡ ended_by call'.stage.next →
    IfSome seat.call (λ k. FedTo k seat.desk item ended (record { desk = desk'; call = option_map (named_call desk') place }))
fed_to seat desk desk' call call' item place ended view client moves kept answer =
    subst (λ (s : Seat). IfSome s.call (λ k. FedTo k s.desk item ended (record { desk = desk'; call = option_map (named_call desk') place }))) view (
      shows ∙ ap (seat_of call.client) moves,
      answer ∙ sym (named_ends desk' call') ∙ ap answer_of moves,
    )
  where
    shows : record { desk = desk'; call = option_map (named_call desk') place } ≡ seat_of call.client (moment_at call' desk')
    shows = ap (λ k. record { desk = desk'; call = k }) (ap (option_map (named_call desk')) kept ∙ named_open call'.client desk' call' ∙ ap (λ c. open_call c (moment_at call' desk') (named_call desk' call').stage.next) client)
