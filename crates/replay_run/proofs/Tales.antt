-- What is kept by each step of a call is so of each open call of a play by its tale, and of each answer.
use Rattle.replay_run.proofs.Words.{◌≡◌, ◌≢◌, ℕ, ◌<◌, ◌≤◌, ◌==◌, Bool, true, false, List, [], ◌∷◌, ◌++◌, Record, Option, None, Some, IfSome, length, refl, sym, ◌∙◌, ap, subst, arith, nat_lt, option_map, ltb-true, nat_tests, get_or-replicate, get_or-set_other, length-replicate, set-get_or, Op, Space, Sound, step_of, AskFacts, Held, DeskFacts, not_holding, Answered, NotHeld, Item, Replied, ToldItem, Request, Owning, Point, Turns, Next, Go, Ends, CallFacts, moment_of, desk_fed, Moves, aimed, ended_by, published_next, Moment, after, begin_stage, settle, step_next, Want, WantAsk, WantTurn, step, record_at, spaces_of, with_chunk_found, HeapFacts, answered_by, holder_for, moment_after, parted, published_for, region_for, replied, started, turned_for, Seat, answer_of, begun, first_seat, open_call, seat_at, seat_of, found_for, settled_is, sound_at, past, ask_line, turn_line, Line, Verb, AllEvents, NowhereCause, Tale, answer_begun, answer_in, no_tales, tale_at, tale_begun, tale_fed, tale_in, tale_turned, tale_until, tales_after, tales_begun, AllWorlds, WorldEvent, HasSoundHeap, IsAskOf, IsNext, IsPlay, IsSound, IsWanted, client_awaited, Read, Began, Turned, Told, Starved, after_event, Awaits, Memory, World, begins, begun_as, line_read, opening_world, stepped, target_of, Came, Result, Ok, Err, Beginning, AsksFor, TellsAt, FindsNone, ControlFacts, CtlError, CtlStep, CtlPlain, CtlWrite, SweepFacts, WentOn, beginning_in, ctl_begins, goes_on_with, request_begins, request_of, times_at, request_in, settled, sweep_begins, tales_asked}
use Rattle.ctl_values.specs.declared.steps.CtlStep.TheVariants.{CallAll}
use Rattle.call_plan.proofs.Bounds.{Closes, close_keeps}
use Rattle.call_plan.specs.Desks.{meant, ready}
use Rattle.call_plan.specs.Runs.{begin_desk, desk_led}
use Rattle.replay_run.proofs.NewHeaps.{sits_there}
use Rattle.replay_run.proofs.Plays.{stepped_heap}
use Rattle.replay_run.specs.Beginnings.{sweep_over}
use Rattle.std.proofs.Common.{slice_set}
use Rattle.std.proofs.lemmas.List.{get_or-set_same}
use Rattle.std.proofs.Math.ListN.{length-set}

-- a line leaves the heap as it is
pub line_heap : (w : World) (line : Line) → (line_read w line).heap ≡ w.heap
line_heap w line = grind arith

-- a line of a control finds something, or tells that there is nothing
sweep_finds : (sweep : SweepFacts) (next : Option Request) → sweep_begins sweep next ≡ FindsNone → ⊥
sweep_finds sweep None is = absurd (cc (is))
sweep_finds sweep (Some request) is = absurd (cc (is))

control_finds : (h : HeapFacts) (k : ControlFacts) (c : ℕ) (step : Result CtlStep CtlError) → ctl_begins h k c step ≡ FindsNone → ⊥
control_finds h k c (Err error) is = absurd (cc (is))
control_finds h k c (Ok (CallAll upkeep)) is = sweep_finds (sweep_over h.records upkeep) _ is
control_finds h k c (Ok step) is = absurd (cc (is))

asks_nothing : (request : Option Request) → request_begins request ≡ FindsNone → request ≡ None
asks_nothing None is = refl
asks_nothing (Some request) is = absurd (cc (is))

-- a call that asks for nothing was to take a region over
nowhere : (w : World) (c : ℕ) (verb : Verb) (whole : Bool) → beginning_in w c verb ≡ FindsNone → NowhereCause w (Began c verb whole) (NotHeld (target_of w.names verb))
nowhere w c (CtlPlain name) whole none = absurd (control_finds w.heap w.controls c _ none)
nowhere w c (CtlWrite name value) whole none = absurd (control_finds w.heap w.controls c _ none)
nowhere w c verb whole none = let asks = asks_nothing (request_of w.heap.records w.names (times_at w.controls w.moment) verb) none in grind arith

-- a client with an open call is one of those that there are
pub seat_there : (seats : List Seat) (c : ℕ) (call : CallFacts) → length seats ≡ 32 → (seat_at seats c).call ≡ Some call → c < 32
seat_there seats c call all opened =
    let none : 32 ≤ c → (seat_at seats c).call ≡ None = λ far. ap (λ (s : Seat). s.call) (past seats c first_seat (omega (arith, far, all))) in
    grind (arith, none)

-- the reply to a turn came of what was wanted
reply_came : (w : World) (c : ℕ) (call : CallFacts) (op : Op) (asked : Option AskFacts) → IsSound w.heap → c < 32 → (wants : IsWanted w c call (WantTurn op asked)) →
    Came c (Go wants.point) (replied w.heap c call op)
reply_came w c call op asked sound there wants =
    let arena : ℕ = call.stage.arena in
    let s : Space = (record_at w.heap.records arena).space in
    let found = settled_is (spaces_of w.heap.records) arena op in
    let done : Op = with_chunk_found (spaces_of w.heap.records) arena op in
    let sound_space : Sound s = sound_at w.heap.records arena sound.arenas (sits_there w.heap c call wants.point sound there wants.open_call wants.at).waits.there in (
      s,
      (step_of s c done).after,
      sound_space,
      subst (λ x. Moves c s x (Replied (step_of s c done).reply) (step_of s c done).after) (sym wants.wants)
          (found_for (spaces_of w.heap.records) arena op, ap (λ o. (step_of s c o).after) found, ap (λ o. (step_of s c o).reply) found),
    )

-- and so did the answer to an ask
answer_came : (w : World) (c : ℕ) (call : CallFacts) (asked : AskFacts) → IsSound w.heap → c < 32 → (wants : IsWanted w c call (WantAsk asked.ask)) → IsAskOf w call asked →
    Came c (Go wants.point) (ToldItem asked)
answer_came w c call asked sound there wants asks =
    let s : Space = (record_at w.heap.records call.stage.arena).space in
    let sound_space : Sound s = sound_at w.heap.records call.stage.arena sound.arenas (sits_there w.heap c call wants.point sound there wants.open_call wants.at).waits.there in
    (s, s, sound_space, subst (λ x. Moves c s x (ToldItem asked) s) (sym wants.wants) (refl, asks.answers, refl))

-- An event can come next in a sound world of 32 clients.
pub record IsHere (w : World) (event : WorldEvent) : Type 0 where
  pub next : IsNext w event
  pub sound : IsSound w.heap
  pub clients : length w.heap.seats ≡ 32

-- where memory was wanting, no call is waited for
never : (w : World) (event : WorldEvent) → w.awaits ≡ Memory → IsNext w event → ⊥
never w event ends next = let none : client_awaited w.awaits ≡ None = ap client_awaited ends in grind arith

-- a client that has something else has the call that it had
call_stays : (seats : List Seat) (holder c : ℕ) (now : DeskFacts) → (seat_at (slice_set seats holder (record (seat_at seats holder) { desk = now })) c).call ≡ (seat_at seats c).call
call_stays seats holder c now = by (c == holder) refl
  where
    last : Seat
    last = record (seat_at seats holder) { desk = now }

    here : (v : Bool) → nat_lt holder (length seats) ≡ v → (seat_at (slice_set seats holder last) holder).call ≡ (seat_at seats holder).call
    here true e = ap (λ (x : Seat). x.call) (get_or-set_same seats holder last first_seat (ltb-true holder (length seats) e))
    here false e =
        let far : length seats ≤ holder = grind (arith, nat_tests) in
        ap (λ (x : Seat). x.call) (past (slice_set seats holder last) holder first_seat (omega (arith, far, length-set seats holder last)) ∙ sym (past seats holder first_seat far))

    by : (v : Bool) → (c == holder) ≡ v → (seat_at (slice_set seats holder last) c).call ≡ (seat_at seats c).call
    by true e = let same : holder ≡ c = grind (arith, nat_tests) in subst (λ n. (seat_at (slice_set seats holder last) n).call ≡ (seat_at seats n).call) same (here (nat_lt holder (length seats)) refl)
    by false e = let other : c ≢ holder = λ same. grind (arith, nat_tests) in ap (λ (x : Seat). x.call) (get_or-set_other seats holder c last first_seat other)

-- the request of a tale, and what its client has, as the request is carried out
abbrev pub meant_in : Tale → Request
meant_in tale = meant tale.request tale.began

abbrev pub ready_in : Tale → DeskFacts
ready_in tale = ready tale.request tale.began

-- what each step of a call keeps
module _ (P : ℕ → Tale → DeskFacts → Next → Type 0) where
  -- It is so where a request begins, it goes on with whatever came of what was wanted, and it stays where the call goes on then, where
  -- it has ended, where another client takes a region out of the hands of its client, and where a region is published for the call.
  pub record Kept : Type 0 where
    pub begins : (h : HeapFacts) (c : ℕ) (request : Request) → IsSound h → length h.seats ≡ 32 →
        P c (tale_begun h.seats c request) (begin_desk (meant_in (tale_begun h.seats c request)) (ready_in (tale_begun h.seats c request)))
        (begin_stage (meant_in (tale_begun h.seats c request)) (ready_in (tale_begun h.seats c request))).next
    pub steps : (c : ℕ) (tale : Tale) (now : DeskFacts) (arena : ℕ) (point : Point) (item : Item) → P c tale now (Go point) → Came c (Go point) item → P c (tale_fed item tale) (desk_fed now arena (Go point) item) (step point item)
    pub settles : (c : ℕ) (tale : Tale) (now : DeskFacts) (arena : ℕ) (next : Next) → P c tale now next → P c tale (desk_led now next) (settle (meant_in tale) now arena next).next
    pub closes : (c : ℕ) (tale : Tale) → Closes (P c tale)
    pub loses : (c : ℕ) (tale : Tale) (now : DeskFacts) (addr : ℕ) (next : Next) → P c tale now next → P c tale (not_holding addr now) next
    pub publishes : (c : ℕ) (tale : Tale) (now : DeskFacts) (addr : ℕ) → P c tale now (Go (Turns (Owning addr true false))) → P c tale now (Go (Turns (Owning addr true true)))

  -- it is so of an open call with its tale, by what its client has
  abbrev pub OfCall : ℕ → DeskFacts → Option CallFacts → Option Tale → Type 0
  OfCall c now None tale = Unit {0}
  OfCall c now (Some call) None = ⊥
  OfCall c now (Some call) (Some tale) = (call.request ≡ meant_in tale) × P c tale now call.stage.next

  abbrev pub OfSeat : ℕ → Seat → Option Tale → Type 0
  OfSeat c seat tale = OfCall c seat.desk seat.call tale

  -- an answer ends a call of which it is so, or nothing was asked for
  abbrev pub EndsWith : World → WorldEvent → Option Tale → Answered → Type 0
  EndsWith w event (Some tale) answer = (c : ℕ) × (now : DeskFacts) × P c tale now (Ends answer)
  EndsWith w event None answer = NowhereCause w event answer

  abbrev pub IsEnded : World → List (Option Tale) → WorldEvent → Type 0
  IsEnded w tales event = IfSome (answer_in w event) (EndsWith w event (tale_in w tales event))

  -- It is so of all open calls of a world.
  pub record AllOpen (w : World) (tales : List (Option Tale)) : Type 0 where
    pub clients : length w.heap.seats ≡ 32
    pub number : length tales ≡ 32
    pub calls : (c : ℕ) → OfSeat c (seat_at w.heap.seats c) (tale_at tales c)

  -- An event comes next where it is so of all open calls, and so it is of the call that it ends.
  pub record EndsHere (w : World) (tales : List (Option Tale)) (event : WorldEvent) : Type 0 where
    pub ends : IsEnded w tales event
    pub here : IsHere w event
    pub open_calls : AllOpen w tales

  -- the call is open with its tale, or has ended
  opens_with : (c : ℕ) (at : Moment) (tale : Tale) (next : Next) → at.request ≡ meant_in tale → P c tale at.desk at.stage.next → OfCall c at.desk (open_call c at next) (tale_until (ended_by next) (Some tale))
  opens_with c at tale (Go point) same why = (same, why)
  opens_with c at tale next same why = tt

  ends_with : (w : World) (event : WorldEvent) (c : ℕ) (tale : Tale) (now : DeskFacts) (next : Next) → P c tale now next → IfSome (ended_by next) (EndsWith w event (Some tale))
  ends_with w event c tale now (Ends answer) why = (c, now, why)
  ends_with w event c tale now next why = tt

  -- What a step leaves of a call and its tale: the call is open, or the answer ends it.
  record Left (w : World) (event : WorldEvent) (c : ℕ) (seat : Seat) (answer : Option Answered) (tale : Option Tale) : Type 0 where
    goes : OfSeat c seat (tale_until answer tale)
    ends : IfSome answer (EndsWith w event tale)

  left_at : (w : World) (event : WorldEvent) (c : ℕ) (at : Moment) (tale : Tale) → at.request ≡ meant_in tale → P c tale at.desk at.stage.next → Left w event c (seat_of c at) (answer_of at) (Some tale)
  left_at w event c at tale same why = record { goes = opens_with c at tale at.stage.next same why; ends = ends_with w event c tale at.desk at.stage.next why }

  -- an item that came of what was wanted
  fed : Kept → (w : World) (event : WorldEvent) (c : ℕ) (call : CallFacts) (desk : DeskFacts) (point : Point) (item : Item) (tale : Option Tale) → call.stage.next ≡ Go point → OfCall c desk (Some call) tale → Came c (Go point) item →
      Left w event c (seat_of c (after (moment_of call desk) item)) (answer_of (after (moment_of call desk) item)) (option_map (tale_fed item) tale)
  fed keeps w event c call desk point item None at so came = absurd so
  fed keeps w event c call desk point item (Some tale) at (same, why) came =
      let arena : ℕ = call.stage.arena in
      let told : Tale = tale_fed item tale in
      let now : DeskFacts = desk_fed desk arena call.stage.next item in
      let next : Next = step_next call.stage.next item in
      let stepped : P c told (desk_fed desk arena (Go point) item) (step point item) = keeps.steps c tale desk arena point item (subst (P c tale desk) at why) came in
      let gone : P c told now next = subst (λ (n : Next). P c told (desk_fed desk arena n item) (step_next n item)) (sym at) stepped in
      let led : P c told (desk_led now next) (settle call.request now arena next).next =
      subst (λ (r : Request). P c told (desk_led now next) (settle r now arena next).next) (sym same) (keeps.settles c told now arena next gone) in
      left_at w event c (after (moment_of call desk) item) told same
      (close_keeps (P c told) (keeps.closes c told) call.request (desk_led now next) (settle call.request now arena next).arena (settle call.request now arena next).next led)

  published_still : Kept → (c : ℕ) (tale : Tale) (now : DeskFacts) (next : Next) → P c tale now next → P c tale now (published_next next)
  published_still keeps c tale now (Go (Turns (Owning addr true false))) why = keeps.publishes c tale now addr why
  published_still keeps c tale now next why = why

  -- a call that is aimed goes on where it is
  aimed_still : Kept → (c : ℕ) (now : DeskFacts) (call : CallFacts) (arena : ℕ) (tale : Option Tale) → OfCall c now (Some call) tale → OfCall c now (Some (aimed call arena)) tale
  aimed_still keeps c now call arena None so = so
  aimed_still keeps c now call arena (Some tale) (same, why) = (same, published_still keeps c tale now call.stage.next why)

  -- and so does one whose client loses a region
  lost_still : Kept → (c : ℕ) (now : DeskFacts) (addr : ℕ) (call : Option CallFacts) (tale : Option Tale) → OfCall c now call tale → OfCall c (not_holding addr now) call tale
  lost_still keeps c now addr None tale so = tt
  lost_still keeps c now addr (Some call) None so = so
  lost_still keeps c now addr (Some call) (Some tale) (same, why) = (same, keeps.loses c tale now addr call.stage.next why)

  -- where one client is another and has another tale
  calls_set : (seats : List Seat) (tales : List (Option Tale)) (c : ℕ) (seat : Seat) (tale : Option Tale) → length seats ≡ 32 → length tales ≡ 32 →
      ((k : ℕ) → OfSeat k (seat_at seats k) (tale_at tales k)) → (c < 32 → OfSeat c seat tale) → (k : ℕ) → OfSeat k (seat_at (slice_set seats c seat) k) (tale_at (slice_set tales c tale) k)
  calls_set seats tales c seat tale all number so own k = by (k == c) refl
    where
      here : (v : Bool) → nat_lt c 32 ≡ v → OfSeat c (seat_at (slice_set seats c seat) c) (tale_at (slice_set tales c tale) c)
      here true e =
          let there : c < 32 = ltb-true c 32 e in
          subst (λ (x : Seat). OfSeat c x (tale_at (slice_set tales c tale) c)) (sym (get_or-set_same seats c seat first_seat (omega (arith, there, all))))
          (subst (OfSeat c seat) (sym (get_or-set_same tales c tale None (omega (arith, there, number)))) (own there))
      here false e =
          let far : 32 ≤ c = grind (arith, nat_tests) in
          subst (λ (x : Seat). OfSeat c x (tale_at (slice_set tales c tale) c)) (sym (past (slice_set seats c seat) c first_seat (omega (arith, far, all, length-set seats c seat)))) tt

      by : (v : Bool) → (k == c) ≡ v → OfSeat k (seat_at (slice_set seats c seat) k) (tale_at (slice_set tales c tale) k)
      by true e =
          let same : c ≡ k = grind (arith, nat_tests) in
          subst (λ n. OfSeat n (seat_at (slice_set seats c seat) n) (tale_at (slice_set tales c tale) n)) same (here (nat_lt c 32) refl)
      by false e =
          let other : k ≢ c = λ same. grind (arith, nat_tests) in
          subst (λ (x : Seat). OfSeat k x (tale_at (slice_set tales c tale) k)) (sym (get_or-set_other seats c k seat first_seat other))
          (subst (OfSeat k (seat_at seats k)) (sym (get_or-set_other tales c k tale None other)) (so k))

  -- where a client is another with the same call
  calls_kept : (seats : List Seat) (tales : List (Option Tale)) (c : ℕ) (seat : Seat) → length seats ≡ 32 → length tales ≡ 32 →
      ((k : ℕ) → OfSeat k (seat_at seats k) (tale_at tales k)) → OfSeat c seat (tale_at tales c) → (k : ℕ) → OfSeat k (seat_at (slice_set seats c seat) k) (tale_at tales k)
  calls_kept seats tales c seat all number so own =
      subst (λ (ts : List (Option Tale)). (k : ℕ) → OfSeat k (seat_at (slice_set seats c seat) k) (tale_at ts k)) (set-get_or tales c None)
      (calls_set seats tales c seat (tale_at tales c) all number so (λ there. own))

  -- a call that was published for goes on
  published_calls : Kept → (h : HeapFacts) (tales : List (Option Tale)) (c : ℕ) (call : CallFacts) (holder : ℕ) (region : Option Held) → length h.seats ≡ 32 → length tales ≡ 32 → (seat_at h.seats c).call ≡ Some call →
      ((k : ℕ) → OfSeat k (seat_at h.seats k) (tale_at tales k)) → (length (published_for h c call holder region).seats ≡ 32) × ((k : ℕ) → OfSeat k (seat_at (published_for h c call holder region).seats k) (tale_at tales k))
  published_calls keeps h tales c call holder None all number opened so = (all, so)
  published_calls keeps h tales c call holder (Some region) all number opened so =
      let gone : HeapFacts = parted h holder region in
      let still : length gone.seats ≡ 32 = length-set h.seats holder _ ∙ all in
      let others = calls_kept h.seats tales holder (record (seat_at h.seats holder) { desk = not_holding region.addr (seat_at h.seats holder).desk }) all number so
      (lost_still keeps holder (seat_at h.seats holder).desk region.addr (seat_at h.seats holder).call (tale_at tales holder) (so holder)) in
      let own : OfCall c (seat_at gone.seats c).desk (Some call) (tale_at tales c) =
      subst (λ (o : Option CallFacts). OfCall c (seat_at gone.seats c).desk o (tale_at tales c)) (call_stays h.seats holder c (not_holding region.addr (seat_at h.seats holder).desk) ∙ opened) (others c) in
      let last : Seat = record (seat_at gone.seats c) { call = Some (aimed call region.arena) } in
      (length-set gone.seats c last ∙ still, calls_kept gone.seats tales c last still number others (aimed_still keeps c (seat_at gone.seats c).desk call region.arena (tale_at tales c) own))

  -- a step of a call leads to a heap with these clients
  stepped_open : (w : World) (tales : List (Option Tale)) (c : ℕ) (heap : HeapFacts) (line : List ℕ) (answer : Option Answered) → length heap.seats ≡ 32 → length tales ≡ 32 →
      ((k : ℕ) → OfSeat k (seat_at heap.seats k) (tale_at tales k)) → AllOpen (stepped w c heap line answer) tales
  stepped_open w tales c heap line answer clients number calls =
      let same : (stepped w c heap line answer).heap ≡ heap = stepped_heap w c heap line answer in record {
        clients = ap (λ (h : HeapFacts). length h.seats) same ∙ clients;
        number = number;
        calls = λ k. subst (λ (h : HeapFacts). OfSeat k (seat_at h.seats k) (tale_at tales k)) (sym same) (calls k);
      }

  begun_open : (w : World) (tales : List (Option Tale)) (c : ℕ) (verb : Verb) (whole : Bool) (sweep : Option SweepFacts) (answer : Option Answered) → length w.heap.seats ≡ 32 → length tales ≡ 32 →
      ((k : ℕ) → OfSeat k (seat_at w.heap.seats k) (tale_at tales k)) → AllOpen (begun_as w c verb whole sweep answer) tales
  begun_open w tales c verb whole sweep None clients number calls = record { clients = clients; number = number; calls = calls }
  begun_open w tales c verb whole sweep (Some answer) clients number calls = record { clients = clients; number = number; calls = calls }

  -- What a request leaves where it begins: its answer ends it, or it is open.
  record AskedFor (w : World) (tales : List (Option Tale)) (event : WorldEvent) (c : ℕ) (request : Request) : Type 0 where
    ends : IfSome (answer_of (begun w.heap.seats c request)) (EndsWith w event (Some (tale_begun w.heap.seats c request)))
    clients : length (started w.heap c request).seats ≡ 32
    number : length (tales_asked w c request tales) ≡ 32
    calls : (k : ℕ) → OfSeat k (seat_at (started w.heap c request).seats k) (tale_at (tales_asked w c request tales) k)

  asked_open : Kept → (w : World) (tales : List (Option Tale)) (event : WorldEvent) (c : ℕ) (request : Request) → IsSound w.heap → AllOpen w tales → AskedFor w tales event c request
  asked_open keeps w tales event c request sound so =
      let at : Moment = begun w.heap.seats c request in
      let tale : Tale = tale_begun w.heap.seats c request in
      let asks : Request = meant_in tale in
      let desk : DeskFacts = ready_in tale in
      let begins = close_keeps (P c tale) (keeps.closes c tale) asks (begin_desk asks desk) (begin_stage asks desk).arena (begin_stage asks desk).next (keeps.begins w.heap c request sound so.clients) in
      let left : Left w event c (seat_of c at) (answer_of at) (Some tale) = left_at w event c at tale refl begins in record {
        ends = left.ends;
        clients = length-set w.heap.seats c (seat_of c at) ∙ so.clients;
        number = length-set tales c (tale_until (answer_of at) (Some tale)) ∙ so.number;
        calls = calls_set w.heap.seats tales c (seat_of c at) (tale_until (answer_of at) (Some tale)) so.clients so.number so.calls (λ there. left.goes);
      }

  began : Kept → (w : World) (tales : List (Option Tale)) (c : ℕ) (verb : Verb) (whole : Bool) (b : Beginning) → IsSound w.heap → AllOpen w tales → beginning_in w c verb ≡ b →
      IfSome (answer_begun w c verb b) (EndsWith w (Began c verb whole) (option_map (tale_begun w.heap.seats c) (request_in b))) × AllOpen (begins (settled w verb) c verb whole b) (tales_begun w c (request_in b) tales)
  began keeps w tales c verb whole FindsNone sound so e = (nowhere w c verb whole e, record { clients = so.clients; number = so.number; calls = so.calls })
  began keeps w tales c verb whole (TellsAt answer) sound so e = (tt, record { clients = so.clients; number = so.number; calls = so.calls })
  began keeps w tales c verb whole (AsksFor request sweep) sound so e =
      let asked : AskedFor w tales (Began c verb whole) c request = asked_open keeps w tales (Began c verb whole) c request sound so in (
        asked.ends,
        begun_open (record (settled w verb) { heap = started w.heap c request }) (tales_asked w c request tales) c verb whole sweep (answer_of (begun w.heap.seats c request)) asked.clients asked.number asked.calls,
      )

  went_on : Kept → (w : World) (tales : List (Option Tale)) (c : ℕ) (request : Request) (behind : Awaits) → IsSound w.heap → AllOpen w tales →
      IfSome (answer_of (begun w.heap.seats c request)) (EndsWith w (WentOn c request behind) (Some (tale_begun w.heap.seats c request))) × AllOpen (goes_on_with w c request behind) (tales_asked w c request tales)
  went_on keeps w tales c request behind sound so =
      let asked : AskedFor w tales (WentOn c request behind) c request = asked_open keeps w tales (WentOn c request behind) c request sound so in
      (asked.ends, record { clients = asked.clients; number = asked.number; calls = asked.calls })

  -- a call is fed what came of what it wanted
  fed_open : Kept → (w : World) (tales : List (Option Tale)) (event : WorldEvent) (c : ℕ) (call : CallFacts) (wanted : Want) (item : Item) (records : List Record) (heard : List AskFacts) (line : List ℕ) → AllOpen w tales →
      (wants : IsWanted w c call wanted) → Came c (Go wants.point) item → IfSome (answer_of (moment_after w.heap c call item)) (EndsWith w event (option_map (tale_fed item) (tale_at tales c)))
      × AllOpen (stepped w c (record { records = records; seats = slice_set w.heap.seats c (seat_of c (moment_after w.heap c call item)); heard = heard }) line (answer_of (moment_after w.heap c call item)))
      (slice_set tales c (tale_until (answer_of (moment_after w.heap c call item)) (option_map (tale_fed item) (tale_at tales c))))
  fed_open keeps w tales event c call wanted item records heard line so wants came =
      let at : Moment = moment_after w.heap c call item in
      let tale : Option Tale = option_map (tale_fed item) (tale_at tales c) in
      let desk : DeskFacts = (seat_at w.heap.seats c).desk in
      let own : OfCall c desk (Some call) (tale_at tales c) = subst (λ (o : Option CallFacts). OfCall c desk o (tale_at tales c)) wants.open_call (so.calls c) in
      let left : Left w event c (seat_of c at) (answer_of at) tale = fed keeps w event c call desk wants.point item (tale_at tales c) wants.at own came in (
        left.ends,
        stepped_open w (slice_set tales c (tale_until (answer_of at) tale)) c (record { records = records; seats = slice_set w.heap.seats c (seat_of c at); heard = heard }) line (answer_of at)
            (length-set w.heap.seats c (seat_of c at) ∙ so.clients) (length-set tales c (tale_until (answer_of at) tale) ∙ so.number)
            (calls_set w.heap.seats tales c (seat_of c at) (tale_until (answer_of at) tale) so.clients so.number so.calls (λ there. left.goes)),
      )

  turned : Kept → (w : World) (tales : List (Option Tale)) (c : ℕ) (call : CallFacts) (op : Op) (asked : Option AskFacts) (holder : Option ℕ) → IsSound w.heap → AllOpen w tales → IsWanted w c call (WantTurn op asked) →
      IfSome (answered_by w.heap c call op holder) (EndsWith w (Turned c call op asked) (tale_turned w.heap c call op holder (tale_at tales c)))
      × AllOpen (stepped w c (turned_for w.heap c call op asked holder) (turn_line c) (answered_by w.heap c call op holder))
      (slice_set tales c (tale_until (answered_by w.heap c call op holder) (tale_turned w.heap c call op holder (tale_at tales c))))
  turned keeps w tales c call op asked None sound so wants =
      fed_open keeps w tales (Turned c call op asked) c call (WantTurn op asked) (replied w.heap c call op) (turned_for w.heap c call op asked None).records w.heap.heard (turn_line c) so wants
      (reply_came w c call op asked sound (seat_there w.heap.seats c call so.clients wants.open_call) wants)
  turned keeps w tales c call op asked (Some holder) sound so wants =
      let heap : HeapFacts = published_for w.heap c call holder (region_for w.heap call holder) in
      let goes = published_calls keeps w.heap tales c call holder (region_for w.heap call holder) so.clients so.number wants.open_call so.calls in
      (tt, subst (AllOpen (stepped w c heap (turn_line c) None)) (sym (set-get_or tales c None)) (stepped_open w tales c heap (turn_line c) None goes.0 so.number goes.1))

  -- nothing comes where memory was wanting
  over : (w : World) (tales : List (Option Tale)) (events : List WorldEvent) → w.awaits ≡ Memory → IsPlay w events → AllEvents EndsHere w tales events
  over w tales [] ends play = tt
  over w tales (event ∷ events) ends play = absurd (never w event ends play.0)

  line_open : (w : World) (tales : List (Option Tale)) (line : Line) → AllOpen w tales → AllOpen (line_read w line) tales
  line_open w tales line so = record {
    clients = ap (λ (h : HeapFacts). length h.seats) (line_heap w line) ∙ so.clients;
    number = so.number;
    calls = λ c. subst (λ (h : HeapFacts). OfSeat c (seat_at h.seats c) (tale_at tales c)) (sym (line_heap w line)) (so.calls c);
  }

  plays : Kept → (w : World) (tales : List (Option Tale)) (events : List WorldEvent) → AllOpen w tales → IsPlay w events → AllWorlds HasSoundHeap w events → AllEvents EndsHere w tales events
  plays keeps w tales [] so play sound = tt
  plays keeps w tales (Read line ∷ events) so (next, more) (here, sound) =
      (record { ends = tt; here = record { next = next; sound = here; clients = so.clients }; open_calls = so }, plays keeps (line_read w line) tales events (line_open w tales line so) more sound)
  plays keeps w tales (Began c verb whole ∷ events) so (next, more) (here, sound) =
      let goes = began keeps w tales c verb whole (beginning_in w c verb) here so refl in
      (record { ends = goes.0; here = record { next = next; sound = here; clients = so.clients }; open_calls = so }, plays keeps _ _ events goes.1 more sound)
  plays keeps w tales (WentOn c request behind ∷ events) so (next, more) (here, sound) =
      let goes = went_on keeps w tales c request behind here so in
      (record { ends = goes.0; here = record { next = next; sound = here; clients = so.clients }; open_calls = so }, plays keeps _ _ events goes.1 more sound)
  plays keeps w tales (Turned c call op asked ∷ events) so (next, more) (here, sound) =
      let goes = turned keeps w tales c call op asked (holder_for w.heap call) here so next in
      (record { ends = goes.0; here = record { next = next; sound = here; clients = so.clients }; open_calls = so }, plays keeps _ _ events goes.1 more sound)
  plays keeps w tales (Told c call asked ∷ events) so (next, more) (here, sound) =
      let goes = fed_open keeps w tales (Told c call asked) c call (WantAsk asked.ask) (ToldItem asked) w.heap.records (w.heap.heard ++ asked ∷ []) (ask_line c asked.ask asked.answer) so next.0
      (answer_came w c call asked here (seat_there w.heap.seats c call so.clients next.0.open_call) next.0 next.1) in
      (record { ends = goes.0; here = record { next = next; sound = here; clients = so.clients }; open_calls = so }, plays keeps _ _ events goes.1 more sound)
  plays keeps w tales (Starved c call ∷ events) so (next, more) (here, sound) = (record { ends = tt; here = record { next = next; sound = here; clients = so.clients }; open_calls = so }, over (after_event w (Starved c call)) tales events refl more)

  -- no call is open in the opening world
  none_open : AllOpen opening_world no_tales
  none_open = record {
    clients = length-replicate 32 first_seat;
    number = length-replicate 32 (let none : Option Tale = None in none);
    calls = λ c. subst (λ (x : Seat). OfSeat c x (tale_at no_tales c)) (sym (rests c (nat_lt c 32) refl)) tt;
  }
    where
      rests : (c : ℕ) (v : Bool) → nat_lt c 32 ≡ v → seat_at opening_world.heap.seats c ≡ first_seat
      rests c true e = get_or-replicate 32 c first_seat first_seat (ltb-true c 32 e)
      rests c false e = let far : 32 ≤ c = grind (arith, nat_tests) in past opening_world.heap.seats c first_seat (omega (arith, far, length-replicate 32 first_seat))

  -- what each answer shows is so of all events of a play
  shown : (Q : World → List (Option Tale) → WorldEvent → Type 0) → ((w : World) (tales : List (Option Tale)) (event : WorldEvent) → EndsHere w tales event → Q w tales event) →
      (w : World) (tales : List (Option Tale)) (events : List WorldEvent) → AllEvents EndsHere w tales events → AllEvents Q w tales events
  shown Q show w tales [] all = tt
  shown Q show w tales (event ∷ events) all = (show w tales event all.0, shown Q show (after_event w event) (tales_after w event tales) events all.1)

  -- and so it is in each play from the opening world on
  pub each_event : (Q : World → List (Option Tale) → WorldEvent → Type 0) → ((w : World) (tales : List (Option Tale)) (event : WorldEvent) → EndsHere w tales event → Q w tales event) →
      Kept → (events : List WorldEvent) → IsPlay opening_world events → AllWorlds HasSoundHeap opening_world events → AllEvents Q opening_world no_tales events
  each_event Q show keeps events play sound = shown Q show opening_world no_tales events (plays keeps opening_world no_tales events none_open play sound)
