-- The laws of the clients of a heap, and that the clients of a new one rest.
use Rattle.heap_core.proofs.Words.{AreArenas, ◌≡◌, ℕ, ◌+◌, ◌<◌, ◌≤◌, ◌==◌, true, false, cond, List, [], All, refl, sym, ap, subst, arith, suc, zero, get_or, replicate, count_by, range_with_len, nat_tests, All-nil, absent_space, first_space, Mine, mine, Held, no_record, opening_records, mine_in, Record, opening_space, OpeningSits, is_region, is_in, cases_lt, inl, inr, rules, ◌≢◌, ◌*◌, ◌&&◌, ◌||◌, Bool, IsTrue, ◌∷◌, Option, None, Some, length, max, ◌∙◌, lt-ltb, list_any, get_or-set_same, All-cons, sum_by-cons, Publish, holds_at, is_live, emptied_by_op, room_after, room_of, not_holding, Request, Flush, Wish, AfterFlight, Change, TurnPoint, Filling, Looking, Landing, Giving, Resetting, Destroying, Publishing, AskPoint, Skipping, Point, Turns, Asks, Tells, Next, Go, Op, Setting, Space, Part, Span, DeskFacts, BatchFacts, held_at, CallFacts, Alone, Flies, Gets, GivesBack, HasOffered, Idle, Knows, KnowsAsk, KnowsTurn, HasPair, is_held, KnowsNext, Ready, flying, needed_at, batch_goes, stage, batches-know, live_where, region_found, IsArenas, record_after, record_at, room_in, CanTurn, IsIdle, after_turn, AimsSit, HasRegions, HoldersPublish, IsSeated, IsTheHand, Sits, SitsAt, Suits, SuitsAsk, SuitsChange, SuitsGet, SuitsThen, SuitsTurn, or-false}
use Rattle.sits.specs.Sitting.{IsInClasses}
use Rattle.call_plan.proofs.Lists.{any_weaker}
use Rattle.call_plan.proofs.Words.{both_true}
use Rattle.call_plan.specs.Knows.{IsResize, Narrows, Widens, is_held_of}
use Rattle.call_plan.specs.Runs.{gives as given}
use Rattle.call_plan.specs.declared.points.Resize.{Resize}
use Rattle.call_plan.specs.declared.points.TurnPoint.TheVariants.{Widening, Narrowing}
use Rattle.call_plan.specs.declared.points.AskPoint.TheVariants.{Cutting, Extending, Sparing, Backing, Joining}
use Rattle.sits.specs.Suits.{IsTheLarge, SuitsResize}
use Rattle.space_model.proofs.Lists.{counted_any}
use Rattle.space_model.specs.declared.parts.Region.{Region as SpaceRegion}
use Rattle.sits.proofs.Having.{IsKeyed, drop_over, drop_shaped}
use Rattle.heap_core.proofs.Turned.{opening_at}
use Rattle.call_plan.proofs.Own.{Nothing}
use Rattle.heap_core.proofs.Clients.{asks-lead_on, asks-sit, known_is, sound_at}
use Rattle.sits.proofs.Counting.{as_many}
use Rattle.sits.proofs.Indexes.{at_or_else, by_arena, past}
use Rattle.sits.proofs.Hands.{had_counts, hands_part, held_is}
use Rattle.sits.proofs.Parting.{Parts}
use Rattle.sits.proofs.Regions.{count_at, published_counts}
use Rattle.sits.proofs.Settling.{Owns, any_region, count_in, counts_low, has_owns, is_ready, owns_has, single_in}
use Rattle.sits.proofs.Turns.{count_else, count_here, still_bound, was_bound}

-- ---- what suits a point doesn't hang on what is held

abbrev held_as : List (ℕ × Held) → DeskFacts → DeskFacts
held_as held desk = record desk { held = held }

get_held : (held : List (ℕ × Held)) (desk : DeskFacts) (arena : ℕ) (moves : Bool) (class count : ℕ) → SuitsGet desk arena moves class count → SuitsGet (held_as held desk) arena moves class count
get_held held desk arena moves class count suits = record { empty = suits.empty; none = suits.none; own = suits.own; slots = suits.slots }

later_held : (held : List (ℕ × Held)) (desk : DeskFacts) (later : AfterFlight) → SuitsThen desk later → SuitsThen (held_as held desk) later
later_held held desk later suits = grind arith

change_held : (held : List (ℕ × Held)) (desk : DeskFacts) (arena : ℕ) (setting : Setting) (change : Change) → SuitsChange desk arena setting change → SuitsChange (held_as held desk) arena setting change
change_held held desk arena setting change suits = grind arith

ask_held : (held : List (ℕ × Held)) (desk : DeskFacts) (arena : ℕ) (point : AskPoint) → SuitsAsk desk arena point → SuitsAsk (held_as held desk) arena point
ask_held held desk arena point suits = grind (arith, get_held, later_held)

turn_held : (held : List (ℕ × Held)) (desk : DeskFacts) (request : Request) (arena : ℕ) (point : TurnPoint) → SuitsTurn desk request arena point → SuitsTurn (held_as held desk) request arena point
turn_held held desk request arena point suits = grind (arith, get_held, later_held, change_held)

suits_held : (held : List (ℕ × Held)) (desk : DeskFacts) (request : Request) (arena : ℕ) (point : Point) → Suits desk request arena point → Suits (held_as held desk) request arena point
suits_held held desk request arena point suits = grind (arith, turn_held, ask_held)

-- ---- what is known again

-- What a client owns but for its regions is as it was.
pub record Alike (m m' : Mine) : Type 0 where
  pub flights : m'.flights ≡ m.flights
  pub offers : m'.offers ≡ m.offers
  pub trims : m'.trims ≡ m.trims
  pub bound : m'.bound ≡ m.bound
  pub dying : m'.dying ≡ m.dying

idle_again : (m m' : Mine) → Alike m m' → Idle m → Idle m'
idle_again m m' alike idle = record { flights = alike.flights ∙ idle.flights; calm = (alike.offers ∙ idle.calm.0, alike.trims ∙ idle.calm.1) }

module _ (records : List Record) (c arena : ℕ) (desk : DeskFacts) (request : Request) (m : Mine) (owns : Owns true records c [] desk) (alike : Alike m (mine_in records c arena)) (others : (i : ℕ) → i ≢ arena → Idle (mine_in records c i)) where
  abbrev m' : Mine
  m' = mine_in records c arena

  all_idle : Idle m' → IsIdle records c
  all_idle idle i = at_or_else (λ n. Idle (mine_in records c n)) i arena (λ same. idle) (others i)

  ready : Idle m → (next : Next) → Ready m' desk (stage arena next)
  ready idle next = is_ready records c desk (stage arena next) owns (all_idle (idle_again m m' alike idle))

  gets_again : (wish : Wish) (count : ℕ) → SuitsGet desk arena wish.moves wish.class count → Gets m wish → Gets m' wish
  gets_again wish count suits gets = record {
    is = gets.is;
    served = ap (λ v. v || list_any (λ _. true) m'.regions) (subst (λ n. (mine_in records c n).bound ≡ true) (sym suits.own) owns.bound);
  }

  alone_again : (span : Span) (b : Bool) → Alone m span b → Alone m' span b
  alone_again span b alone = grind arith

  flies_again : (span : Span) (P : Part → Type 0) → Flies m span P → Flies m' span P
  flies_again span P flies = grind arith

  pair_again : (low high : Span) (fresh : Bool) → HasPair m low high fresh → HasPair m' low high fresh
  pair_again low high fresh pair = grind arith

  offered_again : (span : Span) → HasOffered m span → HasOffered m' span
  offered_again span offered = grind arith

  gives_again : (addrs : List ℕ) → SuitsTurn desk request arena (Giving addrs) → GivesBack m addrs → GivesBack m' addrs
  gives_again addrs suits gives =
      let batch : BatchFacts = record { arena = arena; addrs = addrs } in
      let at : Next = Go (Turns (Giving addrs)) in
      let know : Ready m' desk (batch_goes arena (given request desk) (Some batch)) → KnowsNext m' at = subst (λ o. Ready m' desk (batch_goes arena (given request desk) o) → KnowsNext m' (batch_goes arena (given request desk) o).next) suits (batches-know m' request desk arena) in
      know (ready gives.idle at)

  in_hand_again : (r : Held) → desk.hand ≡ Some r → r.arena ≡ arena → is_held_of m' r.addr r.class ≡ true
  in_hand_again r e home =
      subst (λ i. is_held_of (mine_in records c i) r.addr r.class ≡ true) home
      (counted_any (is_region r.addr r.class) (mine_in records c r.arena).regions (had_counts (count_in records c) desk r owns.hands (inr (inr e)) owns.shaped))

  hand_again : (addr : ℕ) (hand : Option Held) → desk.hand ≡ hand → IsTheHand arena addr hand → Idle m → is_held m' addr ≡ true
  hand_again addr None e is idle = absurd is
  hand_again addr (Some r) e is idle =
      subst (λ a. is_held m' a ≡ true) is.0
      (any_weaker (λ (q : SpaceRegion). q.addr == r.addr && q.class == r.class) (λ (q : SpaceRegion). q.addr == r.addr) m'.regions (λ q h. (both_true (q.addr == r.addr) _ h).0) (in_hand_again r e is.1))

  -- the region in hand is held in the arena
  resize_again : (resize : Resize) → SuitsResize desk arena resize → IsResize m resize → IsResize m' resize
  resize_again resize suits is = by desk.hand refl suits.0
    where
      by : (hand : Option Held) → desk.hand ≡ hand → IsTheLarge arena resize hand → IsResize m' resize
      by None e own = absurd own
      by (Some r) e own = record {
        class = r.class;
        held = subst (λ a. is_held_of m' a r.class ≡ true) own.0 (in_hand_again r e own.1);
        large = own.2;
        pages = own.3;
        to_large = is.to_large;
        below = is.below;
      }

  widens_again : (resize : Resize) → SuitsResize desk arena resize → Widens m resize → Widens m' resize
  widens_again resize suits (is, more) = (resize_again resize suits is, more)

  narrows_again : (resize : Resize) → SuitsResize desk arena resize → Narrows m resize → Narrows m' resize
  narrows_again resize suits (is, fewer) = (resize_again resize suits is, fewer)

  turn_again : (point : TurnPoint) → SuitsTurn desk request arena point → KnowsTurn m point → KnowsTurn m' point
  turn_again (Filling wish count) suits knows = (gets_again wish count suits.0 knows.0, idle_again m m' alike knows.1, knows.2, knows.3)
  turn_again (Looking wish) suits knows = (gets_again wish wish.count suits knows.0, idle_again m m' alike knows.1)
  turn_again (Landing wish span) suits knows = (gets_again wish wish.count suits knows.0, alone_again span true knows.1, knows.2)
  turn_again (Giving addrs) suits knows = gives_again addrs suits knows
  turn_again (Resetting cached) suits knows =
      (idle_again m m' alike knows.0, (let few = (ready knows.0 (Go (Turns (Resetting cached)))).cached in omega (arith, few, suits.1)))
  turn_again (Destroying cached) suits knows =
      (idle_again m m' alike knows.0, (let few = (ready knows.0 (Go (Turns (Destroying cached)))).cached in omega (arith, few, suits.1)))
  turn_again (Publishing addr) suits knows = (idle_again m m' alike knows.0, hand_again addr desk.hand refl suits knows.0)
  turn_again (Widening resize) suits knows = (idle_again m m' alike knows.0, widens_again resize suits knows.1)
  turn_again (Narrowing resize) suits knows = (idle_again m m' alike knows.0, narrows_again resize suits knows.1)
  turn_again point suits knows = let idle = idle_again m m' alike in first_of (search (rules, flies_again), grind (arith, flies_again))

  ask_again : (point : AskPoint) → SuitsAsk desk arena point → KnowsAsk m point → KnowsAsk m' point
  ask_again (Skipping wish span b skip) suits knows = (gets_again wish wish.count suits knows.0, alone_again span b knows.1, knows.2, knows.3)
  ask_again (Cutting resize) suits knows = (alike.flights ∙ knows.0, alike.offers ∙ knows.1, alike.trims ∙ knows.2, narrows_again resize suits knows.3)
  ask_again (Extending resize) suits knows = (idle_again m m' alike knows.0, widens_again resize suits knows.1)
  ask_again (Sparing resize span b) suits knows = (widens_again resize suits knows.0, alone_again span b knows.1, knows.2, knows.3)
  ask_again (Backing resize span) suits knows = (widens_again resize suits knows.0, alone_again span false knows.1, knows.2, knows.3)
  ask_again (Joining resize span) suits knows = (widens_again resize suits knows.0, alone_again span true knows.1, knows.2, knows.3)
  ask_again point suits knows = let idle = idle_again m m' alike in search (rules, gets_again, alone_again, flies_again, pair_again, offered_again)

  pub knows_again : (point : Point) → Suits desk request arena point → Knows m point → Knows m' point
  knows_again (Turns point) suits knows = turn_again point suits knows
  knows_again (Asks point heard) suits knows = (ask_again point suits knows.0, knows.1)
  knows_again (Tells span b) suits knows = (idle_again m m' alike knows.0, alike.dying ∙ knows.1)

-- ---- a region that is held is published

module _ (records : List Record) (c : ℕ) (region : Held) (desk : DeskFacts) (is : IsArenas records) (few : c < 32) (owns : Owns true records c [] desk) (found : held_at region.addr desk ≡ Some region) where
  abbrev op : Op
  op = Publish region.addr

  abbrev s : Space
  s = (record_at records region.arena).space

  abbrev rest : List Record
  rest = after_turn records region.arena c op None

  abbrev less : DeskFacts
  less = not_holding region.addr desk

  known : AreArenas true records
  known = known_is records is

  some : 0 < count_in records c region.arena region.addr region.class
  some = had_counts (count_in records c) desk region owns.hands (inl (region.addr, found)) owns.shaped

  low : region.arena < 32
  low = counts_low records c region.arena region.addr region.class known some

  not_nothing : ¬ Nothing (mine c s)
  not_nothing nothing =
      let none : count_in records c region.arena region.addr region.class ≡ 0 = ap (count_by (is_region region.addr region.class)) nothing.regions in
      omega (arith, some, none)

  can : CanTurn records c region.arena op None
  can =
      let live = live_where c s (sound_at records region.arena is low) not_nothing in
      let held : holds_at c s.regions region.addr ≡ true = region_found c s.regions region.addr ∙ any_region region.addr region.class (mine c s).regions some in record {
        stands = subst (λ b. IsTrue (b && (is_live s.life && holds_at c s.regions region.addr))) (sym (lt-ltb c 32 few)) (subst (λ b. IsTrue (b && holds_at c s.regions region.addr)) (sym live) held);
        room = λ e. absurd (cc);
        kept = tt;
      }

  owns_less : Owns true rest c [] less
  owns_less =
      let parts : Parts desk less (region ∷ []) = record {
        less = λ f. omega (arith, drop_over f region.addr region desk found, sum_by-cons f region []);
        shaped = drop_shaped region.addr desk owns.shaped;
        arena = refl;
      } in
      let bound = still_bound records c region.arena desk empty_request None known low owns op less (inl (refl, λ home. was_bound records c region.arena desk empty_request None known low owns home)) in record {
        hands = hands_part (count_in records c) (count_in rest c) region.arena (region ∷ []) desk less (single_in records c known) owns.hands parts (All-cons (λ (q : Held). q.arena ≡ region.arena) region [] refl (All-nil (λ (q : Held). q.arena ≡ region.arena)))
            (λ a k. count_here records c region.arena desk empty_request None known low owns op a k ∙ published_counts c region.addr a k s.regions ∙ ap (λ v. cond v 0 (count_at c a k s.regions)) (sym (or-false (region.addr == a))))
            (λ i a k differ. count_else records c region.arena desk empty_request None known low owns op i a k differ);
        shaped = parts.shaped;
        low = bound.0;
        bound = bound.1;
      }
    where
      empty_request : Request
      empty_request = Flush

  -- what the client owns in any arena but for its regions
  alike : (i : ℕ) → Alike (mine_in records c i) (mine_in rest c i)
  alike i = by_arena records region.arena (record_after (record_at records region.arena) c op None) (λ n (r : Record). Alike (mine_in records c n) (mine c r.space)) is.number low
      (record { flights = refl; offers = refl; trims = refl; bound = refl; dying = refl }) (λ n other. record { flights = refl; offers = refl; trims = refl; bound = refl; dying = refl }) i

  more_room : (i : ℕ) → room_in records i c ≤ room_in rest i c
  more_room i = by_arena records region.arena new (λ n (r : Record). room_in records n c ≤ room_of c r.rooms) is.number low here (λ n other. omega arith) i
    where
      new : Record
      new = record_after (record_at records region.arena) c op None

      here : room_in records region.arena c ≤ room_of c new.rooms
      here =
          let set : room_of c new.rooms ≡ max (max (room_in records region.arena c) 16) (16 * emptied_by_op c op s) =
          get_or-set_same (record_at records region.arena).rooms c (room_after s (room_in records region.arena c) c op) 0 (omega (arith, few, is.clients region.arena low)) in
          omega (arith, set)

  sits_less : (request : Request) (arena : ℕ) (point : Point) → Sits records c desk request arena point → Sits rest c less request arena point
  sits_less request arena point sits =
      let suits = suits_held less.held desk request arena point sits.suits in
      let others : (i : ℕ) → i ≢ arena → Idle (mine_in rest c i) = λ i ne. idle_again (mine_in records c i) (mine_in rest c i) (alike i) (sits.waits.elsewhere i ne) in
      let same : flying (mine_in rest c arena) ≡ flying (mine_in records c arena) = ap length (alike arena).flights in record {
        has = owns_has rest c less owns_less;
        waits = record {
          there = sits.waits.there;
          knows = knows_again rest c arena less request (mine_in records c arena) owns_less (alike arena) others point suits sits.waits.knows;
          elsewhere = others;
          room = subst (λ n. needed_at n point ≤ room_in rest arena c) (sym same) (omega (arith, sits.waits.room, more_room arena));
        };
        suits = suits;
      }

  sits_at_less : (call : CallFacts) (next : Next) → SitsAt records c desk call next → SitsAt rest c less call next
  sits_at_less call (Go point) sits = sits_less call.request call.stage.arena point sits
  sits_at_less call next sits = sits

  seated_less : (call : Option CallFacts) → IsSeated records c desk call → IsSeated rest c less call
  seated_less None rests = record {
    has = owns_has rest c less owns_less;
    idle = λ i. idle_again (mine_in records c i) (mine_in rest c i) (alike i) (rests.idle i);
    empty = rests.empty;
    gained = rests.gained;
    own = rests.own;
  }
  seated_less (Some call) sits = (sits.0, sits_at_less call call.stage.next sits.1)

-- what a client has is so at any moment
seat_has : (records : List Record) (c : ℕ) (desk : DeskFacts) (call : Option CallFacts) → IsSeated records c desk call → HasRegions records c desk
seat_has records c desk call is = grind arith

pub holders-publish : HoldersPublish
holders-publish records c addr seat region is few sound held =
    let owns = has_owns records c seat.desk (seat_has records c seat.desk seat.call sound) in
    let at : region.addr ≡ addr = held_is addr seat.desk region owns.shaped held in
    let found : held_at region.addr seat.desk ≡ Some region = ap (λ a. held_at a seat.desk) at ∙ held in
    (at, low records c region seat.desk is few owns found, can records c region seat.desk is few owns found, seated_less records c region seat.desk is few owns found seat.call sound)

-- ---- a call takes a region over in any arena

pub aims-sit : AimsSit
aims-sit records c addr arena arena' desk request low sits = grind arith

-- ---- the laws of the clients of a heap, and that the clients of a new one rest

-- Nothing of an arena is a client's but that it may be bound.
pub record IsEmpty (m : Mine) : Type 0 where
  pub flights : m.flights ≡ []
  pub offers : m.offers ≡ []
  pub trims : m.trims ≡ false
  pub regions : m.regions ≡ []

-- a new heap has nothing
opening_empty : (c i : ℕ) → IsEmpty (mine_in opening_records c i)
opening_empty c i =
    elim (cases_lt i 32) [
      | inl low ↦ subst (λ (r : Record). IsEmpty (mine c r.space)) (sym (opening_at i low)) (at i)
      | inr far ↦ subst (λ (r : Record). IsEmpty (mine c r.space)) (sym (past opening_records i no_record far)) (at 32)
    ]
  where
    at : (j : ℕ) → IsEmpty (mine c (opening_space j))
    at j = elim (j == 0) as (λ v. IsEmpty (mine c (cond v first_space absent_space))) [ true ↦ record { flights = refl; offers = refl; trims = refl; regions = refl } | false ↦ record { flights = refl; offers = refl; trims = refl; regions = refl } ]

-- each of the clients is bound to arena 0
is_among : (low n c : ℕ) → low ≤ c → c < low + n → is_in c (range_with_len low n) ≡ true
is_among low zero c least most = absurd (omega (arith, least, most))
is_among low (suc n) c least most = grind (arith, nat_tests, is_among (low + 1) n c)

none_cached : (n k : ℕ) → get_or (replicate n (let none : List Held = [] in none)) k [] ≡ []
none_cached zero k = refl
none_cached (suc n) zero = refl
none_cached (suc n) (suc k) = none_cached n k

pub opening-sits : OpeningSits
opening-sits c few = record {
  has = record {
    hands = λ i a k. as_many (sym (ap (count_by (is_region a k)) (opening_empty c i).regions));
    keyed = All-nil IsKeyed;
    lists = refl;
    classed = λ k. subst (All (λ (r : Held). r.class ≡ k)) (sym (none_cached 41 k)) (All-nil (λ (r : Held). r.class ≡ k));
    places = All-nil IsInClasses;
    arena = omega arith;
    bound = is_among 0 32 c (omega arith) (omega (arith, few));
  };
  idle = λ i. record { flights = (opening_empty c i).flights; calm = ((opening_empty c i).offers, (opening_empty c i).trims) };
  empty = refl;
  gained = refl;
  own = refl;
}

-- the laws that a contract finds by their names
pub ruleset laws = (asks-lead_on, asks-sit, aims-sit)
