-- A realloc in a play leaves its client what its answer says.
use Rattle.replay_run.proofs.Words.{◌≡◌, ◌≢◌, inl, inr, ℕ, ◌<◌, ◌==◌, Bool, true, false, List, [], ◌∷◌, ◌++◌, Option, None, Some, IfSome, cond, length, refl, sym, ◌∙◌, ap, subst, arith, nat_tests, eqb-true, option_map, set-get_or, get_or-set_other, get_or-replicate, length-set, is_some, position-Some, Owning, Turns, Op, AskFacts, Held, DeskFacts, held_at, not_holding, Answered, Item, ToldItem, Request, Next, Go, Ends, CallFacts, moment_of, ended_by, taken_next, aimed, Moment, after, begin, WantAsk, WantTurn, Record, HeapFacts, answered_by, holder_for, moment_after, holding_client, published_for, region_in_seat, replied, started, turned_for, told_to, Seat, answer_of, begun, first_seat, open_call, seat_at, seat_of, IsArenas, HasRegions, IsSeated, ask_line, turn_line, Verb, Tale, answer_begun, no_tales, tale_at, tale_begun, tale_fed, tale_turned, tale_until, tales_after, tales_asked, tales_begun, request_in, AllEvents, WorldEvent, IsSound, IsWanted, Read, Began, WentOn, Turned, Told, Starved, after_event, beginning_in, Beginning, AsksFor, TellsAt, FindsNone, SweepFacts, World, begins, begun_as, opening_world, settled}
use Rattle.std.proofs.Common.{get_or-set_same, slice_set}
use Rattle.std.proofs.lemmas.List.Elements.{Contains-append_right}
use Rattle.std.specs.Prelude.{nat_eq}
use Rattle.std.specs.Map.{lookup}
use Rattle.call_plan.specs.Items.{Starved as FoundNoMemory}
use Rattle.call_plan.specs.Desks.{meant}
use Rattle.call_plan.specs.Runs.{begin_realloc}
use Rattle.call_plan.specs.declared.needs.Request.TheVariants.{Realloc}
use Rattle.deeds.proofs.Boxes.{begin_turns}
use Rattle.deeds.proofs.Reallocs.{reallocs-leave as calls-leave}
use Rattle.deeds.specs.Dids.{IsCall}
use Rattle.deeds.specs.Reallocs.{AfterReallocOf, Rests}
use Rattle.replay_run.proofs.Holding.{Parts, parts_from}
use Rattle.replay_run.proofs.Idle.{Idles, begins_idle, event_idle, goes_idle}
use Rattle.replay_run.proofs.Plays.{stepped_heap}
use Rattle.replay_run.proofs.Served.{Way, way_kept}
use Rattle.replay_run.proofs.Tales.{AllOpen, EndsHere, OfCall, each_event, line_heap}
use Rattle.replay_run.proofs.Unheld.{begin_apart}
use Rattle.replay_run.proofs.Ways.{Leads}
use Rattle.replay_run.specs.Reallocs.{AllEventsOf, IsLeftAt, IsLeftBy, IsReallocLeft, ReallocLeavesOf, ReallocsLeave, freed_after, with_freed}
use Rattle.replay_run.proofs.Alone.{Feeds, Reached, after_leaves, ask_feeds, lack_feeds, left_more, left_on, step_ends, step_open, turn_feeds}

-- ---- what is so of an open call, by its tale

abbrev GoesFor : ℕ → Request → DeskFacts → List ℕ → DeskFacts → Option CallFacts → Type 0
GoesFor c (Realloc addr size) had freed own (Some call) = (call.request ≡ Realloc addr size) × ((old : Held) × Reached c addr size old had freed own call.stage)
GoesFor c request had freed own call = Unit {0}

abbrev OpenOf : ℕ → DeskFacts → Option CallFacts → Option Tale → List ℕ → Type 0
OpenOf c own call None freed = Unit {0}
OpenOf c own call (Some tale) freed = GoesFor c tale.request tale.began freed own call

abbrev OpenIn : ℕ → Seat → Option Tale → List ℕ → Type 0
OpenIn c seat tale freed = OpenOf c seat.desk seat.call tale freed

nobody : (answer : Option Answered) → IfSome answer (λ given. Unit {0})
nobody None = tt
nobody (Some answer) = tt

none_for : (c : ℕ) (request : Request) (had : DeskFacts) (freed : List ℕ) (own : DeskFacts) → GoesFor c request had freed own None
none_for c (Realloc addr size) had freed own = tt
none_for c request had freed own = tt

none_open : (c : ℕ) (own : DeskFacts) (tale : Option Tale) (freed : List ℕ) → OpenOf c own None tale freed
none_open c own None freed = tt
none_open c own (Some tale) freed = none_for c tale.request tale.began freed own

-- where a request came to a moment: it is answered, or open
abbrev Comes : ℕ → Request → DeskFacts → List ℕ → Moment → Next → Type 0
Comes c request had freed at next = IfSome (ended_by next) (λ answer. IsLeftBy request had freed answer at.desk) × GoesFor c request had freed at.desk (open_call c at next)

request_fed : (c : ℕ) (request : Request) (had : DeskFacts) (freed : List ℕ) (own : DeskFacts) (call : CallFacts) (item : Item) → GoesFor c request had freed own (Some call) → Leads (meant request had) call.stage.next → Feeds c call.stage item →
    Comes c request had freed (after (moment_of call own) item) (after (moment_of call own) item).stage.next
request_fed c (Realloc addr size) had freed own call item (same, (old, so)) leads feeds =
    subst (λ (m : Moment). Comes c (Realloc addr size) had freed m m.stage.next) (λ j. after (record { request = sym same j; desk = own; stage = call.stage }) item)
    (by (after (record { request = Realloc addr size; desk = own; stage = call.stage }) item).stage.next refl)
  where
    by : (next : Next) → (after (record { request = Realloc addr size; desk = own; stage = call.stage }) item).stage.next ≡ next → Comes c (Realloc addr size) had freed (after (record { request = Realloc addr size; desk = own; stage = call.stage }) item) next
    by (Go point) is = (tt, (refl, (old, step_open c addr size old had freed own call.stage item feeds so point leads is)))
    by (Ends answer) is = (
      subst (λ o. ReallocLeavesOf addr size o freed had answer (after (record { request = Realloc addr size; desk = own; stage = call.stage }) item).desk) (sym so.found) (step_ends c addr size old had freed own call.stage item feeds so answer is),
      tt,
    )
    by next is = (tt, tt)
request_fed c request had freed own call item goes leads feeds = (nobody (answer_of (after (moment_of call own) item)), tt)

request_begun : (c : ℕ) (records : List Record) (request : Request) (had : DeskFacts) → IsArenas records → HasRegions records c had → Rests had → Comes c request had [] (begin request had) (begin request had).stage.next
request_begun c records (Realloc addr size) had is has rests = by (held_at addr had) refl (begin (Realloc addr size) had).stage.next refl
  where
    by : (o : Option Held) → held_at addr had ≡ o → (next : Next) → (begin (Realloc addr size) had).stage.next ≡ next → Comes c (Realloc addr size) had [] (begin (Realloc addr size) had) next
    by None found (Go point) goes = absurd (let ends = ap (λ o. (begin_realloc addr size o had).next) found in cc)
    by (Some old) found (Go point) goes =
        let at = parts_from records c had addr old is has found in
        let apart = begin_apart addr size old had point found goes in
        let none = begin_turns (Realloc addr size) had in
        let reached : Reached c addr size old had [] (begin (Realloc addr size) had).desk (begin (Realloc addr size) had).stage = record {
          rests = rests;
          found = found;
          keyed = at.0;
          none = ap (lookup (nat_eq addr)) apart.0 ∙ at.1.gone;
          left = λ k other. inl (ap (lookup (nat_eq k)) apart.0 ∙ at.1.stays k other);
          led = λ held free box_no. ([], sym (apart.1 held free), λ asks. absurd (cc));
        } in (tt, (refl, (old, reached)))
    by o found (Ends answer) ends =
        let call : IsCall c had (Realloc addr size) [] answer (begin (Realloc addr size) had).desk = record { last = begin (Realloc addr size) had; led = refl; ends = ends; leaves = refl } in
        (subst (λ x. ReallocLeavesOf addr size x [] had answer (begin (Realloc addr size) had).desk) (sym found) (left o found answer (subst (λ x. AfterReallocOf addr size x had answer (begin (Realloc addr size) had).desk) found (calls-leave c had addr size [] answer (begin (Realloc addr size) had).desk rests call))), tt)
      where
        left : (o : Option Held) → held_at addr had ≡ o → (answer : Answered) → AfterReallocOf addr size o had answer (begin (Realloc addr size) had).desk → ReallocLeavesOf addr size o [] had answer (begin (Realloc addr size) had).desk
        left None found answer says = says
        left (Some old) found answer says =
            let at = parts_from records c had addr old is has found in after_leaves addr size old [] had had (begin (Realloc addr size) had).desk found at.0 at.1 (λ k other. inl refl) refl answer says
    by o found next is = (tt, tt)
request_begun c records request had is has rests = (nobody (answer_of (begin request had)), tt)

-- a region that another client frees meanwhile is held no more
request_loses : (c : ℕ) (request : Request) (had : DeskFacts) (freed : List ℕ) (own : DeskFacts) (call : Option CallFacts) (addr : ℕ) (region : Held) → held_at addr own ≡ Some region → (region.addr ≡ addr) × Parts addr own →
    GoesFor c request had freed own call → GoesFor c request had (freed ++ addr ∷ []) (not_holding region.addr own) call
request_loses c (Realloc at size) had freed own (Some call) addr region found (keyed, parts) (same, (old, so)) =
    subst (λ a. GoesFor c (Realloc at size) had (freed ++ addr ∷ []) (not_holding a own) (Some call)) (sym keyed) (
      same,
      (
        old,
        record {
          rests = so.rests;
          found = so.found;
          keyed = so.keyed;
          none = parts.stays at (λ is. absurd (let none = so.none in cc)) ∙ so.none;
          left = λ k other. by k other (k == addr) refl;
          led = so.led;
        },
      ),
    )
  where
    by : (k : ℕ) → k ≢ at → (v : Bool) → (k == addr) ≡ v → IsLeftAt (freed ++ addr ∷ []) had (not_holding addr own) k
    by k other true e = subst (IsLeftAt (freed ++ addr ∷ []) had (not_holding addr own)) (sym (eqb-true k addr e)) (inr (Contains-append_right freed (addr ∷ []) addr (0, omega arith, refl), parts.gone))
    by k other false e = left_on (freed ++ addr ∷ []) had own (not_holding addr own) k (parts.stays k (λ is. grind (arith, nat_tests))) (left_more freed (addr ∷ []) had own k (so.left k other))
request_loses c (Realloc at size) had freed own None addr region found at_addr goes = tt
request_loses c request had freed own call addr region found at_addr goes = tt

-- a realloc takes no region over
takes_none : (c : ℕ) (request : Request) (had : DeskFacts) (freed : List ℕ) (own : DeskFacts) (call : Option CallFacts) (next : Next) (addr : ℕ) → taken_next next ≡ Some addr → Leads (meant request had) next → GoesFor c request had freed own call
takes_none c (Realloc at size) had freed own call next addr takes leads = absurd (none next takes leads)
  where
    none : (next : Next) → taken_next next ≡ Some addr → Leads (Realloc at size) next → ⊥
    none (Go (Turns (Owning a true false))) takes leads = leads
    none next takes leads = absurd (cc)
takes_none c request had freed own call next addr takes leads = tt

-- ---- what an event leaves

until_open : (c : ℕ) (own : DeskFacts) (at : Moment) (next : Next) (tale : Option Tale) (freed : List ℕ) → OpenOf c own (open_call c at next) tale freed → OpenOf c own (open_call c at next) (tale_until (ended_by next) tale) freed
until_open c own at (Ends answer) tale freed so = tt
until_open c own at next tale freed so = so

fed_open : (c : ℕ) (own : DeskFacts) (call : Option CallFacts) (item : Item) (tale : Option Tale) (freed : List ℕ) → OpenOf c own call tale freed → OpenOf c own call (option_map (tale_fed item) tale) freed
fed_open c own call item None freed so = tt
fed_open c own call item (Some tale) freed so = so

-- what the end of a call leaves, where it has ended
abbrev IsLeft : Option Answered → Option Tale → List ℕ → DeskFacts → Type 0
IsLeft answer tale freed own = IfSome answer (λ given. IfSome tale (λ told. IsLeftBy told.request told.began freed given own))

fed_left : (answer : Option Answered) (item : Item) (tale : Option Tale) (freed : List ℕ) (own : DeskFacts) → IsLeft answer tale freed own → IsLeft answer (option_map (tale_fed item) tale) freed own
fed_left answer item None freed own so = so
fed_left answer item (Some tale) freed own so = so

own_fed : (c : ℕ) (own : DeskFacts) (call : CallFacts) (tale : Option Tale) (freed : List ℕ) (item : Item) → OpenOf c own (Some call) tale freed → OfCall Way c own (Some call) tale → Feeds c call.stage item →
    let at : Moment = after (moment_of call own) item in IsLeft (answer_of at) tale freed at.desk × OpenOf c at.desk (open_call c at at.stage.next) tale freed
own_fed c own call None freed item so of feeds = absurd of
own_fed c own call (Some tale) freed item so of feeds = request_fed c tale.request tale.began freed own call item so of.1.1 feeds

-- what is so of a client's seat and tale, where one client has another seat and another tale
in_set : (Q : ℕ → Seat → Option Tale → Type 0) (seats : List Seat) (tales : List (Option Tale)) (c k : ℕ) (seat : Seat) (tale : Option Tale) → c < 32 → length seats ≡ 32 → length tales ≡ 32 → (k ≡ c → Q c seat tale) →
    (c ≢ k → Q c (seat_at seats c) (tale_at tales c)) → Q c (seat_at (slice_set seats k seat) c) (tale_at (slice_set tales k tale) c)
in_set Q seats tales c k seat tale there all number own others = by (k == c) refl
  where
    by : (v : Bool) → (k == c) ≡ v → Q c (seat_at (slice_set seats k seat) c) (tale_at (slice_set tales k tale) c)
    by true e =
        let same : k ≡ c = eqb-true k c e in
        subst (λ i. Q c (seat_at (slice_set seats i seat) c) (tale_at (slice_set tales i tale) c)) (sym same)
        (subst (λ (x : Seat). Q c x (tale_at (slice_set tales c tale) c)) (sym (get_or-set_same seats c seat first_seat (omega (arith, there, all))))
        (subst (Q c seat) (sym (get_or-set_same tales c tale None (omega (arith, there, number)))) (own same)))
    by false e =
        let differ : c ≢ k = λ same. grind (arith, nat_tests) in
        subst (λ (x : Seat). Q c x (tale_at (slice_set tales k tale) c)) (sym (get_or-set_other seats k c seat first_seat differ))
        (subst (Q c (seat_at seats c)) (sym (get_or-set_other tales k c tale None differ)) (others differ))

-- what feeding the call of a client leaves of one: of its own call what the end says, if it ends, and else the call is open, with its tale or with one item more
abbrev FedTo : ℕ → List (Option Tale) → List ℕ → Moment → ℕ → Seat → Option Tale → Type 0
FedTo k tales freed at c seat tale = (k ≡ c → IsLeft (answer_of at) (tale_at tales k) freed seat.desk) × OpenIn c seat (tale_at tales c) freed × OpenIn c seat tale freed

fed_in : (c k : ℕ) (w : World) (tales : List (Option Tale)) (freed : List ℕ) (call : CallFacts) (item : Item) → c < 32 → AllOpen Way w tales → (seat_at w.heap.seats k).call ≡ Some call → Feeds k call.stage item →
    OpenIn c (seat_at w.heap.seats c) (tale_at tales c) freed → let at : Moment = moment_after w.heap k call item in
    FedTo k tales freed at c (seat_at (slice_set w.heap.seats k (seat_of k at)) c) (tale_at (slice_set tales k (tale_until (answer_of at) (option_map (tale_fed item) (tale_at tales k)))) c)
fed_in c k w tales freed call item there so opened feeds goes =
    in_set (FedTo k tales freed at) w.heap.seats tales c k (seat_of k at) new there so.clients so.number
    (λ same. subst (λ i. FedTo k tales freed at i (seat_of k at) new) same (own (subst (λ i. OpenIn i (seat_at w.heap.seats i) (tale_at tales i) freed) (sym same) goes)))
    (λ other. (λ same. absurd (other (sym same)), goes, goes))
  where
    at : Moment
    at = moment_after w.heap k call item

    new : Option Tale
    new = tale_until (answer_of at) (option_map (tale_fed item) (tale_at tales k))

    own : OpenIn k (seat_at w.heap.seats k) (tale_at tales k) freed → FedTo k tales freed at k (seat_of k at) new
    own goes =
        let desk : DeskFacts = (seat_at w.heap.seats k).desk in
        let fed = own_fed k desk call (tale_at tales k) freed item (subst (λ o. OpenOf k desk o (tale_at tales k) freed) opened goes) (subst (λ o. OfCall Way k desk o (tale_at tales k)) opened (so.calls k)) feeds in
        (λ same. fed.0, fed.1, until_open k at.desk at at.stage.next (option_map (tale_fed item) (tale_at tales k)) freed (fed_open k at.desk (open_call k at at.stage.next) item (tale_at tales k) freed fed.1))

-- what a client has that is as it has to be, is so among the arenas
seated_has : (records : List Record) (c : ℕ) (desk : DeskFacts) (call : Option CallFacts) → IsSeated records c desk call → HasRegions records c desk
seated_has records c desk call seated = grind arith

-- a request begins of a client that has no open call
abbrev AskedOf : ℕ → World → Request → List ℕ → ℕ → Seat → Option Tale → Type 0
AskedOf k w request freed c seat tale =
    (k ≡ c → IsLeft (answer_of (begun w.heap.seats k request)) (Some (tale_begun w.heap.seats k request)) (cond (k == c) [] freed) seat.desk) × OpenIn c seat tale (cond (k == c) [] freed)

asked_in : (c k : ℕ) (w : World) (tales : List (Option Tale)) (freed : List ℕ) (request : Request) → c < 32 → IsSound w.heap → AllOpen Way w tales → (seat_at w.heap.seats k).call ≡ None →
    OpenIn c (seat_at w.heap.seats c) (tale_at tales c) freed → AskedOf k w request freed c (seat_at (slice_set w.heap.seats k (seat_of k (begun w.heap.seats k request))) c) (tale_at (tales_asked w k request tales) c)
asked_in c k w tales freed request there sound so idle goes =
    in_set (AskedOf k w request freed) w.heap.seats tales c k (seat_of k at) (tale_until (answer_of at) (Some tale)) there so.clients so.number
    (λ same. subst (λ i. AskedOf k w request freed i (seat_of k at) (tale_until (answer_of at) (Some tale))) same (own (subst (λ i. i < 32) (sym same) there)))
    (λ other.
    let none : (k == c) ≡ false = grind (arith, nat_tests) in
    (λ same. absurd (other (sym same)), subst (λ v. OpenIn c (seat_at w.heap.seats c) (tale_at tales c) (cond v [] freed)) (sym none) goes))
  where
    at : Moment
    at = begun w.heap.seats k request

    tale : Tale
    tale = tale_begun w.heap.seats k request

    own : k < 32 → AskedOf k w request freed k (seat_of k at) (tale_until (answer_of at) (Some tale))
    own low =
        let desk : DeskFacts = (seat_at w.heap.seats k).desk in
        let rests = subst (IsSeated w.heap.records k desk) idle (sound.seats k low) in
        let came = request_begun k w.heap.records tale.request desk sound.arenas rests.has (record { hand = rests.empty; gained = rests.gained; swapped = rests.own }) in
        let here : (k == k) ≡ true = grind (arith, nat_tests) in
        subst (λ v. (k ≡ k → IsLeft (answer_of at) (Some tale) (cond v [] freed) at.desk) × OpenIn k (seat_of k at) (tale_until (answer_of at) (Some tale)) (cond v [] freed)) (sym here)
        (λ same. came.0, until_open k at.desk at at.stage.next (Some tale) [] came.1)

-- a region is published for the call that frees it
published_in : (c k h : ℕ) (w : World) (tales : List (Option Tale)) (freed : List ℕ) (call : CallFacts) (taken : Option ℕ) → c < 32 → IsSound w.heap → AllOpen Way w tales → (seat_at w.heap.seats k).call ≡ Some call →
    taken_next call.stage.next ≡ taken → holding_client w.heap.seats taken ≡ Some h → OpenIn c (seat_at w.heap.seats c) (tale_at tales c) freed →
    OpenIn c (seat_at (published_for w.heap k call h (region_in_seat w.heap.seats taken h)).seats c) (tale_at tales c) (with_freed c (Some h) taken freed)
published_in c k h w tales freed call None there sound so opened takes holds goes = goes
published_in c k h w tales freed call (Some addr) there sound so opened takes holds goes = by (held_at addr desk) refl
  where
    desk : DeskFacts
    desk = (seat_at w.heap.seats h).desk

    by : (o : Option Held) → held_at addr desk ≡ o → OpenIn c (seat_at (published_for w.heap k call h o).seats c) (tale_at tales c) (with_freed c (Some h) (Some addr) freed)
    by None found = absurd (let some = (position-Some (λ (seat : Seat). is_some (held_at addr seat.desk)) w.heap.seats h first_seat holds).1 in cc)
    by (Some region) found =
        in_set (λ i seat tale. OpenIn i seat (tale_at tales i) (with_freed i (Some h) (Some addr) freed)) lost tales c k (record (seat_at lost k) { call = Some (aimed call region.arena) }) None there (length-set w.heap.seats h gone ∙ so.clients) so.number
        (λ same. subst (λ i. OpenIn i (record (seat_at lost k) { call = Some (aimed call region.arena) }) (tale_at tales i) (with_freed i (Some h) (Some addr) freed)) same
        (frees (tale_at tales k) (subst (λ o. OfCall Way k (seat_at w.heap.seats k).desk o (tale_at tales k)) opened (so.calls k))))
        (λ other. in_set (λ i seat tale. OpenIn i seat (tale_at tales i) (with_freed i (Some h) (Some addr) freed)) w.heap.seats tales c h gone None there so.clients so.number
        (λ same. subst (λ i. OpenIn i gone (tale_at tales i) (with_freed i (Some h) (Some addr) freed)) same (loses (tale_at tales h) (subst (λ i. OpenIn i (seat_at w.heap.seats i) (tale_at tales i) freed) (sym same) goes)))
        (λ differ. let none : (h == c) ≡ false = grind (arith, nat_tests) in subst (λ v. OpenIn c (seat_at w.heap.seats c) (tale_at tales c) (cond v (freed ++ addr ∷ []) freed)) (sym none) goes))
      where
        gone : Seat
        gone = record (seat_at w.heap.seats h) { desk = not_holding region.addr desk }

        lost : List Seat
        lost = slice_set w.heap.seats h gone

        frees : (tale : Option Tale) → OfCall Way k (seat_at w.heap.seats k).desk (Some call) tale → OpenOf k (seat_at lost k).desk (Some (aimed call region.arena)) tale (with_freed k (Some h) (Some addr) freed)
        frees None of = tt
        frees (Some tale) of = takes_none k tale.request tale.began (with_freed k (Some h) (Some addr) freed) (seat_at lost k).desk (Some (aimed call region.arena)) call.stage.next addr takes of.1.1

        loses : (tale : Option Tale) → OpenIn h (seat_at w.heap.seats h) tale freed → OpenIn h gone tale (with_freed h (Some h) (Some addr) freed)
        loses None goes = tt
        loses (Some tale) goes =
            let low : h < 32 = omega (arith, (position-Some (λ (seat : Seat). is_some (held_at addr seat.desk)) w.heap.seats h first_seat holds).0, so.clients) in
            let at_addr = parts_from w.heap.records h desk addr region sound.arenas (seated_has w.heap.records h desk (seat_at w.heap.seats h).call (sound.seats h low)) found in
            let here : (h == h) ≡ true = grind (arith, nat_tests) in
            subst (λ v. OpenIn h gone (Some tale) (cond v (freed ++ addr ∷ []) freed)) (sym here) (request_loses h tale.request tale.began freed desk (seat_at w.heap.seats h).call addr region found at_addr goes)

turned_in : (c k : ℕ) (w : World) (tales : List (Option Tale)) (freed : List ℕ) (call : CallFacts) (op : Op) (asked : Option AskFacts) (holder : Option ℕ) → c < 32 → IsSound w.heap → AllOpen Way w tales → IsWanted w k call (WantTurn op asked) →
    holder_for w.heap call ≡ holder → OpenIn c (seat_at w.heap.seats c) (tale_at tales c) freed → let since : List ℕ = with_freed c holder (taken_next call.stage.next) freed in
    (k ≡ c → IsLeft (answered_by w.heap k call op holder) (tale_turned w.heap k call op holder (tale_at tales k)) since (seat_at (turned_for w.heap k call op asked holder).seats c).desk)
    × OpenIn c (seat_at (turned_for w.heap k call op asked holder).seats c) (tale_at (slice_set tales k (tale_until (answered_by w.heap k call op holder) (tale_turned w.heap k call op holder (tale_at tales k)))) c) since
turned_in c k w tales freed call op asked None there sound so wants is goes =
    let item : Item = replied w.heap k call op in
    let fed = fed_in c k w tales freed call item there so wants.open_call (turn_feeds k call.stage wants.point op asked _ wants.at wants.wants) goes in
    (λ same. fed_left (answer_of (moment_after w.heap k call item)) item (tale_at tales k) freed _ (fed.0 same), fed.2)
turned_in c k w tales freed call op asked (Some h) there sound so wants is goes = (
  λ same. tt,
  subst (λ (ts : List (Option Tale)). OpenIn c (seat_at (turned_for w.heap k call op asked (Some h)).seats c) (tale_at ts c) (with_freed c (Some h) (taken_next call.stage.next) freed)) (sym (set-get_or tales k None))
      (published_in c k h w tales freed call (taken_next call.stage.next) there sound so wants.open_call refl is goes),
)

-- a line of a control, and a call that asks for nothing, leave the heap
reset_in : (c k : ℕ) (seats : List Seat) (tale : Option Tale) (freed : List ℕ) → (seat_at seats k).call ≡ None → OpenIn c (seat_at seats c) tale freed → OpenIn c (seat_at seats c) tale (cond (k == c) [] freed)
reset_in c k seats tale freed idle goes = by (k == c) refl
  where
    by : (v : Bool) → (k == c) ≡ v → OpenIn c (seat_at seats c) tale (cond v [] freed)
    by true e = subst (λ o. OpenOf c (seat_at seats c).desk o tale []) (sym (subst (λ i. (seat_at seats i).call ≡ None) (eqb-true k c e) idle)) (none_open c (seat_at seats c).desk tale [])
    by false e = goes

begun_heap : (w : World) (c : ℕ) (verb : Verb) (whole : Bool) (sweep : Option SweepFacts) (answer : Option Answered) → (begun_as w c verb whole sweep answer).heap ≡ w.heap
begun_heap w c verb whole sweep None = refl
begun_heap w c verb whole sweep (Some answer) = refl

began_in : (c k : ℕ) (w : World) (tales : List (Option Tale)) (freed : List ℕ) (verb : Verb) (whole : Bool) (b : Beginning) → c < 32 → IsSound w.heap → AllOpen Way w tales → (seat_at w.heap.seats k).call ≡ None →
    OpenIn c (seat_at w.heap.seats c) (tale_at tales c) freed → let heap : HeapFacts = (begins (settled w verb) k verb whole b).heap in
    (k ≡ c → IsLeft (answer_begun w k verb b) (option_map (tale_begun w.heap.seats k) (request_in b)) (cond (k == c) [] freed) (seat_at heap.seats c).desk)
    × OpenIn c (seat_at heap.seats c) (tale_at (tales_begun w k (request_in b) tales) c) (cond (k == c) [] freed)
began_in c k w tales freed verb whole FindsNone there sound so idle goes = (λ same. tt, reset_in c k w.heap.seats (tale_at tales c) freed idle goes)
began_in c k w tales freed verb whole (TellsAt answer) there sound so idle goes = (λ same. tt, reset_in c k w.heap.seats (tale_at tales c) freed idle goes)
began_in c k w tales freed verb whole (AsksFor request sweep) there sound so idle goes =
    subst (λ (h : HeapFacts). (k ≡ c → IsLeft (answer_of (begun w.heap.seats k request)) (Some (tale_begun w.heap.seats k request)) (cond (k == c) [] freed) (seat_at h.seats c).desk)
    × OpenIn c (seat_at h.seats c) (tale_at (tales_asked w k request tales) c) (cond (k == c) [] freed))
    (sym (begun_heap (record (settled w verb) { heap = started w.heap k request }) k verb whole sweep (answer_of (begun w.heap.seats k request))))
    (asked_in c k w tales freed request there sound so idle goes)

event_left : (c : ℕ) (w : World) (tales : List (Option Tale)) (freed : List ℕ) (event : WorldEvent) → c < 32 → EndsHere Way w tales event → Idles w → OpenIn c (seat_at w.heap.seats c) (tale_at tales c) freed →
    IsReallocLeft c w tales freed event × OpenIn c (seat_at (after_event w event).heap.seats c) (tale_at (tales_after w event tales) c) (freed_after c w event freed)
event_left c w tales freed (Read line) there it idle goes = (λ is. tt, subst (λ (h : HeapFacts). OpenIn c (seat_at h.seats c) (tale_at tales c) freed) (sym (line_heap w line)) goes)
event_left c w tales freed (Began k verb whole) there it idle goes =
    let came = began_in c k w tales freed verb whole (beginning_in w k verb) there it.here.sound it.open_calls (begins_idle w k verb whole it.here.next idle) goes in (λ is. came.0 (cc), came.1)
event_left c w tales freed (WentOn k request behind) there it idle goes =
    let came = asked_in c k w tales freed request there it.here.sound it.open_calls (goes_idle w k request behind it.here.next idle) goes in (λ is. came.0 (cc), came.1)
event_left c w tales freed (Turned k call op asked) there it idle goes =
    let heap : HeapFacts = turned_for w.heap k call op asked (holder_for w.heap call) in
    let came = subst (λ (h : HeapFacts). (k ≡ c → IsLeft (answered_by w.heap k call op (holder_for w.heap call)) (tale_turned w.heap k call op (holder_for w.heap call) (tale_at tales k)) (freed_after c w (Turned k call op asked) freed) (seat_at h.seats c).desk)
    × OpenIn c (seat_at h.seats c) (tale_at (tales_after w (Turned k call op asked) tales) c) (freed_after c w (Turned k call op asked) freed))
    (sym (stepped_heap w k heap (turn_line k) (answered_by w.heap k call op (holder_for w.heap call))))
    (turned_in c k w tales freed call op asked (holder_for w.heap call) there it.here.sound it.open_calls it.here.next refl goes) in (λ is. came.0 (cc), came.1)
event_left c w tales freed (Told k call asked) there it idle goes =
    let at : Moment = moment_after w.heap k call (ToldItem asked) in
    let wants : IsWanted w k call (WantAsk asked.ask) = it.here.next.0 in
    let fed = fed_in c k w tales freed call (ToldItem asked) there it.open_calls wants.open_call (ask_feeds k call.stage wants.point asked wants.at wants.wants) goes in
    let came = subst (λ (h : HeapFacts). (k ≡ c → IsLeft (answer_of at) (option_map (tale_fed (ToldItem asked)) (tale_at tales k)) freed (seat_at h.seats c).desk) × OpenIn c (seat_at h.seats c) (tale_at (tales_after w (Told k call asked) tales) c) freed)
    (sym (stepped_heap w k (told_to w.heap k call asked) (ask_line k asked.ask asked.answer) (answer_of at)))
    (λ same. fed_left (answer_of at) (ToldItem asked) (tale_at tales k) freed _ (fed.0 same), fed.2) in (λ is. came.0 (cc), came.1)
event_left c w tales freed (Starved k call) there it idle goes =
    let next = it.here.next in
    let wants : IsWanted w k call (WantTurn next.0 next.1) = next.2 in
    let fed = fed_in c k w tales freed call FoundNoMemory there it.open_calls wants.open_call (lack_feeds k call.stage wants.point next.0 next.1 wants.at wants.wants next.3) goes in (λ is. fed.0 (cc), fed.1)

-- ---- the law

plays_left : (c : ℕ) (w : World) (tales : List (Option Tale)) (freed : List ℕ) (events : List WorldEvent) → c < 32 → AllEvents (EndsHere Way) w tales events → Idles w → OpenIn c (seat_at w.heap.seats c) (tale_at tales c) freed →
    AllEventsOf c (IsReallocLeft c) w tales freed events
plays_left c w tales freed [] there all idle goes = tt
plays_left c w tales freed (event ∷ events) there (it, all) idle goes =
    let came = event_left c w tales freed event there it idle goes in
    (came.0, plays_left c (after_event w event) (tales_after w event tales) (freed_after c w event freed) events there all (event_idle w event it.here.next idle) came.1)

pub plays-leave : ReallocsLeave
plays-leave c there events play sound =
    let all = each_event Way (EndsHere Way) (λ w tales event it. it) way_kept events play sound in
    let none : tale_at no_tales c ≡ None = get_or-replicate 32 c None None there in
    plays_left c opening_world no_tales [] events there all tt (subst (λ (t : Option Tale). OpenIn c (seat_at opening_world.heap.seats c) t []) (sym none) tt)
