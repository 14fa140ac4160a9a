-- Where a call came, its client is as it has to be.
use Rattle.sits.proofs.Words.{[], ◌≡◌, ℕ, ◌+◌, ◌-◌, ◌/◌, ◌<◌, ◌≤◌, ◌==◌, ◌||◌, ◌++◌, Bool, true, false, cond, List, ◌∷◌, Option, None, Some, length, map, take, refl, sym, ◌∙◌, ap, subst, arith, min, nat_lt, count_by, flat_map, list_all, list_any, sum_by, ltb-true, nat_tests, length-take, sum_by-append, sum_by-cons, SpaceRegion, has_page, counted_any, map_terms, ones, held_again, holding, kept, older_count, Request, Cache, Finished, Answered, NoArena, Giving, Point, Turns, Next, Go, InArena, NextBatch, NotLive, Ends, Nowhere, Stage, Mine, mine, Held, DeskFacts, BatchFacts, batch_of, going, going_with, is_cacheable, slots_at, cached_in, desk_ended, flushes, held_region, switched, GivesBack, Knows, is_held, is_served, KnowsNext, Ready, flying, needed_at, batch_goes, closed, moved, settle, batches-know, both_true, AreArenas, no_record, record_at, room_in, IsIdle, WaitsNext, mine_in, Record, Comes, HasRegions, IsAtRest, in_hand, is_region, is_region_in, regions_of_desk, cases_lt, inl, inr, Sound, Sits, Suits, ◌&&◌, gain_held, region_ended, is_held_of, gives, all_goes, Move, desk_moved, move_stage, get, share, stage, hit, hitting, wish_for, most_regions, Filling, Looking, HasSlots, lt-ltb, cond_both, moves-know, desk_led}
use Rattle.sits.specs.Words.{Region, Ok}
use Rattle.call_plan.proofs.Lists.{any_weaker}
use Rattle.sits.proofs.Counting.{shifts, through}
use Rattle.sits.proofs.Indexes.{at_or_else, past}
use Rattle.sits.proofs.Hands.{Count, Hands, Single, gained_alone, had_counts, hand_alone, hands_held, no_more}
use Rattle.sits.proofs.Having.{CanKeep, Settles, Shaped, gain_gains, gain_settles, hit_is, miss_is, hold_settles, hold_shaped, keep_settles, of_hand, over}
use Rattle.sits.proofs.Parting.{no_batch}
use Rattle.sits.proofs.Regions.{held_page, most_one, one_in, two_classes}
use Rattle.call_plan.specs.Clients.{swapped_back}
use Rattle.call_plan.specs.Desks.{desk_closed, is_done}
use Rattle.cache_set.specs.Sets.{explicit}
use Rattle.thread_cache.specs.Caches.{is_in_arena}
use Rattle.sits.specs.Sitting.{HasRegions}
use Rattle.sits.proofs.Swapping.{back_own, back_settles}
use Rattle.sits.proofs.Suiting.{Suited, SuitsAnswer, SuitsRegion, fewer_slots}

-- ---- what a client holds in the arenas

-- how many regions of a class at an address a client holds in an arena
abbrev pub count_in : List Record → ℕ → Count
count_in records c i a k = count_by (is_region a k) (mine_in records c i).regions

-- nobody holds anything where there is no arena
none_past : {together : Bool} (records : List Record) (c i : ℕ) → AreArenas together records → 32 ≤ i → (mine_in records c i).regions ≡ []
none_past records c i is far = ap (λ (r : Record). (mine c r.space).regions) (past records i no_record (omega (arith, far, is.number)))

pub counts_low : {together : Bool} (records : List Record) (c i a k : ℕ) → AreArenas together records → 0 < count_in records c i a k → i < 32
counts_low records c i a k is some =
    elim (cases_lt i 32) [
      | inl low ↦ low
      | inr far ↦ let none : count_in records c i a k ≡ 0 = ap (count_by (is_region a k)) (none_past records c i is far) in absurd (omega (arith, some, none))
    ]

-- each region is held once, and no two of an arena at one address
pub single_in : {together : Bool} (records : List Record) (c : ℕ) → AreArenas together records → Single together (count_in records c)
single_in records c is = record {
  once = λ i a k. once i a k;
  alone = λ i a k l first second. alone i a k l first second;
  apart = λ known i j a k l first second. is.apart known (a / 4096) i j (page_at i a k first) (page_at j a l second);
}
  where
    once : (i a k : ℕ) → count_in records c i a k ≤ 1
    once i a k =
        elim (cases_lt i 32) [
          | inl low ↦ most_one c a k (record_at records i).space (is.sound i low)
          | inr far ↦ let none : count_in records c i a k ≡ 0 = ap (count_by (is_region a k)) (none_past records c i is far) in omega (arith, none)
        ]

    page_at : (i a k : ℕ) → 0 < count_in records c i a k → list_any (λ p. has_page (a / 4096) p.span) (record_at records i).space.parts ≡ true
    page_at i a k some = counted_any (λ p. has_page (a / 4096) p.span) (record_at records i).space.parts (held_page c a k (record_at records i).space (is.sound i (counts_low records c i a k is some)) some)

    alone : (i a k l : ℕ) → 0 < count_in records c i a k → 0 < count_in records c i a l → k ≡ l
    alone i a k l first second =
        let sound : Sound (record_at records i).space = is.sound i (counts_low records c i a k is first) in
        at_or_else (λ _. k ≡ l) k l (λ is_l. is_l) (λ differ. absurd (let two = two_classes c a k l (record_at records i).space sound differ in omega (arith, two, first, second)))

-- ---- what a client has

-- a count over its regions, part by part
pub regions_over : (test : Held → Bool) (desk : DeskFacts) → count_by test (regions_of_desk desk) ≡ over (λ r. ones (test r)) desk
regions_over test desk =
    let f : Held → ℕ = λ r. ones (test r) in
    let cached : List Held = flat_map (λ list. list) desk.cached in
    let held : List Held = map (λ (e : ℕ × Held). e.1) desk.held in
    let hand : sum_by f (in_hand desk.hand) ≡ of_hand f desk.hand = hand_over desk.hand in
    let gained : sum_by f (in_hand desk.gained) ≡ of_hand f desk.gained = hand_over desk.gained in
    omega (arith, hand, gained, sum_by-append f (held ++ cached ++ in_hand desk.hand ++ in_hand desk.gained) (explicit desk.set), sum_by-append f (held ++ cached ++ in_hand desk.hand) (in_hand desk.gained), sum_by-append f (held ++ cached) (in_hand desk.hand), sum_by-append f held cached, map_terms f (λ (e : ℕ × Held). e.1) desk.held)
  where
    hand_over : (hand : Option Held) → count_by test (in_hand hand) ≡ of_hand (λ r. ones (test r)) hand
    hand_over None = refl
    hand_over (Some r) = omega (arith, sum_by-cons (λ q. ones (test q)) r [])

-- What a client has, and some regions that it came by beside, is so among the arenas.
pub record Owns (together : Bool) (records : List Record) (c : ℕ) (extra : List Held) (desk : DeskFacts) : Type 0 where
  pub hands : Hands together (count_in records c) extra desk
  pub shaped : Shaped desk
  pub low : desk.arena < 32
  pub bound : (mine_in records c desk.arena).bound ≡ true

pub owns_has : {together : Bool} (records : List Record) (c : ℕ) (desk : DeskFacts) → Owns together records c [] desk → HasRegions together records c desk
owns_has records c desk owns = record {
  hands = λ i a k. shifts (owns.hands i a k) (omega (arith, regions_over (is_region_in i a k) desk));
  keyed = owns.shaped.keyed;
  lists = owns.shaped.lists;
  classed = owns.shaped.classed;
  places = owns.shaped.places;
  arena = owns.low;
  bound = owns.bound;
}

pub has_owns : {together : Bool} (records : List Record) (c : ℕ) (desk : DeskFacts) → HasRegions together records c desk → Owns together records c [] desk
has_owns records c desk has = record {
  hands = λ i a k. shifts (has.hands i a k) (omega (arith, regions_over (is_region_in i a k) desk));
  shaped = record { keyed = has.keyed; lists = has.lists; classed = has.classed; places = has.places };
  low = has.arena;
  bound = has.bound;
}

-- a client with the same regions, bound as it was
pub settles_owns : {together : Bool} (records : List Record) (c : ℕ) (desk after : DeskFacts) → Owns together records c [] desk → Settles together desk after → Owns together records c [] after
settles_owns records c desk after owns same = record {
  hands = λ i a k. through (shifts (same.same (one_in i a k)) (omega arith)) (owns.hands i a k);
  shaped = same.shaped;
  low = omega (arith, owns.low, same.arena);
  bound = subst (λ n. (mine_in records c n).bound ≡ true) (sym same.arena) owns.bound;
}

-- ---- the end of a call

-- the region in hand can be held again
pub again_settles : {together : Bool} (records : List Record) (c : ℕ) (desk : DeskFacts) → AreArenas together records → Owns together records c [] desk → Settles together desk (held_again desk)
again_settles {together} records c desk is owns = hold_settles together desk owns.shaped (λ r e. hand_alone (count_in records c) desk r (single_in records c is) owns.hands owns.shaped e)

-- What is so of a client whose call has ended, but that its own cache may not be in its place.
record IsResting (together : Bool) (records : List Record) (c : ℕ) (desk : DeskFacts) : Type 0 where
  pub has : HasRegions together records c desk
  pub idle : IsIdle records c
  pub empty : desk.hand ≡ None
  pub gained : desk.gained ≡ None

at_rest : {together : Bool} (records : List Record) (c : ℕ) (desk after : DeskFacts) → AreArenas together records → Owns together records c [] desk → IsIdle records c → Settles together desk after →
    IsResting together records c (gain_held after)
at_rest {together} records c desk after is owns idle same =
    let mine = settles_owns records c desk after owns same in
    let gained = gain_settles together after mine.shaped same.hand (λ r e. gained_alone (count_in records c) after r (single_in records c is) mine.hands mine.shaped e) in record {
      has = owns_has records c (gain_held after) (settles_owns records c after (gain_held after) mine gained.0);
      idle = idle;
      empty = gained.0.hand;
      gained = gained.1;
    }

-- a cache that was to be on or off is so
switch_rests : {together : Bool} (records : List Record) (c : ℕ) (request : Request) (desk : DeskFacts) → IsResting together records c desk → IsResting together records c (switched request desk)
switch_rests records c (Cache on) desk is = record {
  has = record { hands = is.has.hands; keyed = is.has.keyed; lists = is.has.lists; classed = is.has.classed; places = is.has.places; arena = is.has.arena; bound = is.has.bound };
  idle = is.idle;
  empty = is.empty;
  gained = is.gained;
}
switch_rests records c request desk is = is

-- a region that came is held, or the one gained is
region_rests : {together : Bool} (records : List Record) (c : ℕ) (desk : DeskFacts) (extra : List Held) (region : Held) (gained : Option Held) → desk.gained ≡ gained → AreArenas together records → Owns together records c extra desk → IsIdle records c →
    SuitsRegion gained extra desk region → IsResting together records c (region_ended gained region desk)
region_rests {together} records c desk extra r None e is owns idle suits =
    let held = hands_held together (count_in records c) r desk (single_in records c is) (subst (λ extra. Hands together (count_in records c) extra desk) suits.0 owns.hands) owns.shaped in record {
      has = owns_has records c (holding r desk) (record { hands = held; shaped = hold_shaped r desk owns.shaped; low = owns.low; bound = owns.bound });
      idle = idle;
      empty = suits.1;
      gained = e;
    }
region_rests {together} records c desk extra r (Some gained) e is owns idle suits =
    let mine : Owns together records c [] desk = subst (λ extra. Owns together records c extra desk) suits.0 owns in
    at_rest records c desk (kept desk) is mine idle (keep_settles together desk mine.shaped suits.1)

ended_rests : {together : Bool} (records : List Record) (c arena : ℕ) (request : Request) (desk : DeskFacts) (extra : List Held) (answer : Answered) → AreArenas together records → Owns together records c extra desk → IsIdle records c →
    SuitsAnswer extra desk arena answer → IsResting together records c (desk_ended request arena answer desk)
ended_rests {together} records c arena request desk extra (Ok (Region addr class)) is owns idle suits =
    region_rests records c desk extra (held_region arena class addr) desk.gained refl is owns idle suits
ended_rests {together} records c arena request desk extra (Ok Finished) is owns idle suits =
    let mine : Owns together records c [] desk = subst (λ extra. Owns together records c extra desk) suits.0 owns in
    switch_rests records c request (gain_held (kept desk)) (at_rest records c desk (kept desk) is mine idle (keep_settles together desk mine.shaped suits.1))
ended_rests {together} records c arena request desk extra (Ok given) is owns idle suits =
    let mine : Owns together records c [] desk = subst (λ extra. Owns together records c extra desk) suits.0 owns in
    at_rest records c desk (held_again desk) is mine idle (again_settles records c desk is mine)
ended_rests {together} records c arena request desk extra answer is owns idle suits =
    let mine : Owns together records c [] desk = subst (λ extra. Owns together records c extra desk) suits owns in
    at_rest records c desk (held_again desk) is mine idle (again_settles records c desk is mine)

-- once a call has ended its client's own cache is in its place, and the client rests
pub ends_rest : {together : Bool} (records : List Record) (c arena : ℕ) (request : Request) (desk : DeskFacts) (extra : List Held) (answer : Answered) → AreArenas together records → Owns together records c extra desk → IsIdle records c →
    SuitsAnswer extra desk arena answer → IsAtRest together records c (desk_closed request arena (Ends answer) desk)
ends_rest {together} records c arena request desk extra answer is owns idle suits =
    let ended : DeskFacts = desk_ended request arena answer desk in
    let rests = ended_rests records c arena request desk extra answer is owns idle suits in
    let mine = has_owns records c ended rests.has in
    let back = back_settles together (is_done answer) ended mine.shaped rests.empty in
    let own = back_own (is_done answer) ended in record {
      has = owns_has records c (swapped_back (is_done answer) ended) (settles_owns records c ended (swapped_back (is_done answer) ended) mine back);
      idle = idle;
      empty = back.hand;
      gained = own.0 ∙ rests.gained;
      own = own.1;
    }

-- ---- what is known where regions go back

pub any_region : (a k : ℕ) (rs : List SpaceRegion) → 0 < count_by (is_region a k) rs → list_any (λ (r : SpaceRegion). r.addr == a) rs ≡ true
any_region a k rs some = any_weaker (is_region a k) (λ r. r.addr == a) rs (λ r h. (both_true (r.addr == a) _ h).0) (counted_any (is_region a k) rs some)

pub is_ready : {together : Bool} (records : List Record) (c : ℕ) (desk : DeskFacts) (at : Stage) → Owns together records c [] desk → IsIdle records c → Ready (mine_in records c at.arena) desk at
is_ready records c desk at owns idle = record {
  idle = idle at.arena;
  served = λ same. bound_serves (mine_in records c at.arena) (subst (λ n. (mine_in records c n).bound ≡ true) (sym same) owns.bound);
  holds = λ region has same.
      subst (λ n. is_held_of (mine_in records c n) region.addr region.class ≡ true) (sym same)
      (counted_any (is_region region.addr region.class) (mine_in records c region.arena).regions (had_counts (count_in records c) desk region owns.hands has owns.shaped));
  cached =
      let own : List Held = flat_map (λ list. list) desk.cached in
      let all = no_more at.arena (own ++ explicit desk.set) (mine_in records c at.arena).regions (λ a k. let had = (owns.hands at.arena a k).within in omega (arith, had, sum_by-append (one_in at.arena a k) own (explicit desk.set))) in
      omega (arith, all, sum_by-append (λ r. ones (is_in_arena at.arena r)) own (explicit desk.set));
}
  where
    bound_serves : (m : Mine) → m.bound ≡ true → is_served m ≡ true
    bound_serves m e = ap (λ v. v || list_any (λ _. true) m.regions) e

-- regions that go back are those of an arena that there is
gives_low : {together : Bool} (records : List Record) (c i : ℕ) (addrs : List ℕ) → AreArenas together records → GivesBack (mine_in records c i) addrs → i < 32
gives_low records c i addrs is gives =
    elim (cases_lt i 32) [
      | inl low ↦ low
      | inr far ↦ absurd (none_held addrs gives.some (subst (λ (rs : List SpaceRegion). list_all (λ a. list_any (λ (r : SpaceRegion). r.addr == a) rs) addrs ≡ true) (none_past records c i is far) gives.held))
    ]
  where
    none_held : (addrs : List ℕ) → 0 < length addrs → list_all (λ (a : ℕ). false) addrs ≡ true → ⊥
    none_held [] some all = absurd (omega (arith, some))
    none_held (a ∷ addrs) some all = absurd (cc)

-- where no more is to go back, the region in hand has a slot
no_more_keeps : (desk : DeskFacts) (all : Bool) → batch_of (going all desk) ≡ None → CanKeep desk desk.hand
no_more_keeps desk all none = by desk.hand none
  where
    some_slots : (class : ℕ) → 20 ≤ slots_at class
    some_slots class = grind (arith, nat_tests)

    left_slot : (n slots : ℕ) → 20 ≤ slots → 0 ≡ min (n - (slots - slots / 2)) n → nat_lt n slots ≡ true
    left_slot n slots some none = grind (arith, nat_tests)

    by : (hand : Option Held) → batch_of (going_with hand all desk) ≡ None → CanKeep desk hand
    by None e = tt
    by (Some r) e =
        elim (is_cacheable r.class desk) as (λ v. is_cacheable r.class desk ≡ v → batch_of (cond v (take (older_count r.class desk) (cached_in desk.cached r.class)) (r ∷ [])) ≡ None → CanKeep desk (Some r)) [
          | true ↦ λ can none.
              let list : List Held = cached_in desk.cached r.class in
              let empty = no_batch (take (older_count r.class desk) list) none in (
                ltb-true r.class 41 (both_true desk.caches (nat_lt r.class 41) can).1,
                left_slot (length list) (slots_at r.class) (some_slots r.class) (sym (ap length empty) ∙ length-take (older_count r.class desk) list),
              )
          | false ↦ λ can none. absurd (cc)
        ] refl e

-- ---- where a call goes

-- a call with nothing in flight may wait at a first point of an arena
pub first_sits : {together : Bool} (records : List Record) (c arena : ℕ) (point : Point) (request : Request) (desk : DeskFacts) → arena < 32 → Owns together records c [] desk → IsIdle records c → Knows (mine_in records c arena) point →
    Suits desk request arena point → needed_at 0 point ≡ 0 → Sits together records c desk request arena point
first_sits records c arena point request desk low owns idle knows suits none = record {
  has = owns_has records c desk owns;
  waits = record {
    there = low;
    knows = knows;
    elsewhere = λ i ne. idle i;
    room = let none_fly : flying (mine_in records c arena) ≡ 0 = ap length (idle arena).flights in subst (λ n. needed_at n point ≤ room_in records arena c) (sym none_fly) (omega (arith, none));
  };
  suits = suits;
}

-- the region that a request gives is the one gained
gives_gained : (request : Request) (desk : DeskFacts) (region : Held) → gives request desk ≡ Some region → desk.gained ≡ Some region
gives_gained request desk region e = grind arith

pub comes_more : {together : Bool} (records : List Record) (c arena : ℕ) (request : Request) (desk : DeskFacts) → AreArenas together records → Owns together records c [] desk → IsIdle records c →
    Comes together records c (closed request desk (all_goes request desk arena))
comes_more {together} records c arena request desk is owns idle =
    by (gives request desk) (batch_of (going (flushes request) desk)) refl refl (batches-know (mine_in records c (settle request desk arena NextBatch).arena) request desk arena (is_ready records c desk (settle request desk arena NextBatch) owns idle))
  where
    by : (gained : Option Held) (batch : Option BatchFacts) → gives request desk ≡ gained → batch_of (going (flushes request) desk) ≡ batch → KnowsNext (mine_in records c (batch_goes arena gained batch).arena) (batch_goes arena gained batch).next →
        Comes together records c (closed request desk (batch_goes arena gained batch))
    by None None g e knows = (tt, ends_rest records c arena request desk [] (Ok Finished) is owns idle (refl, no_more_keeps desk (flushes request) e))
    by (Some region) None g e knows =
        let keeps = no_more_keeps desk (flushes request) e in (
          tt,
          ends_rest records c region.arena request desk [] (Ok (Region region.addr region.class)) is owns idle
              (subst (λ o. SuitsRegion o [] desk (held_region region.arena region.class region.addr)) (sym (gives_gained request desk region g)) (refl, keeps)),
        )
    by gained (Some batch) g e knows = (tt, (refl, first_sits records c batch.arena (Turns (Giving batch.addrs)) request desk (gives_low records c batch.arena batch.addrs is knows) owns idle knows e refl))

-- ---- where another region takes the place of the one in hand

-- where none of a small class was hit in the cache, all that are got but one can be cached
pub share_slots : (desk : DeskFacts) (class : ℕ) → (nat_lt class 36 ≡ true → hit class desk ≡ None) → HasSlots desk class (share class desk)
share_slots desk class missed many =
    elim (desk.caches && nat_lt class 36) as (λ v. (desk.caches && nat_lt class 36) ≡ v → 1 < cond v (slots_at class / 2) 1 → (class < 41) × (length (cached_in desk.cached class) + cond v (slots_at class / 2) 1 ≤ slots_at class + 1)) [
      | true ↦ λ e some.
          let both = both_true desk.caches (nat_lt class 36) e in
          let small : class < 36 = ltb-true class 36 both.1 in
          let cacheable : is_cacheable class desk ≡ true = ap (λ v. v && nat_lt class 41) both.0 ∙ lt-ltb class 41 (omega (arith, small)) in
          let none : length (cached_in desk.cached class) ≡ 0 = ap length (miss_is class desk cacheable (missed both.1)) in
          (omega (arith, small), omega (arith, none))
      | false ↦ λ e some. absurd (omega (arith, some))
    ] refl many

-- regions of a class are got, of which one takes the place of the one in hand
get_comes : {together : Bool} (records : List Record) (c class : ℕ) (request : Request) (desk : DeskFacts) → Owns together records c [] desk → IsIdle records c → desk.gained ≡ None → hit class desk ≡ None →
    KnowsNext (mine_in records c desk.arena) (get true class 1 (share class desk)) → Comes together records c (closed request desk (stage desk.arena (get true class 1 (share class desk))))
get_comes {together} records c class request desk owns idle none missed knows =
    let count : ℕ = share class desk in
    let least : ℕ = min count (most_regions class) in
    let fewer : min count (most_regions class) ≤ count = omega arith in
    let slots = share_slots desk class (λ small. missed) in
    cond_both (nat_lt class 36) _ _ (λ next. KnowsNext (mine_in records c desk.arena) next → Comes together records c (closed request desk (stage desk.arena next)))
    (λ e knows. (tt, (refl, first_sits records c desk.arena (Turns (Filling (wish_for true class 1 least) count)) request desk owns.low owns idle knows (record { empty = λ no. absurd (cc); none = none; own = refl; slots = slots }, fewer) refl)))
    (λ e knows. (tt, (refl, first_sits records c desk.arena (Turns (Looking (wish_for true class 1 least))) request desk owns.low owns idle knows (record { empty = λ no. absurd (cc); none = none; own = refl; slots = fewer_slots desk class least count fewer slots }) refl))) knows

-- a cached region of a class is gained
hit_owns : {together : Bool} (records : List Record) (c class : ℕ) (desk : DeskFacts) (r : Held) → Owns together records c [] desk → desk.gained ≡ None → hit class desk ≡ Some r → Owns together records c [] (desk_moved class (Some r) desk)
hit_owns {together} records c class desk r owns none found =
    let is_hit = hit_is class desk r owns.shaped found in
    let own : Held = record r { class = class } in
    let same : own ≡ r = ap (λ k. held_region r.arena k r.addr) (sym is_hit.1) in
    let gains = gain_gains own (hitting class desk) is_hit.3 none in record {
      hands = λ i a k.
          let one : one_in i a k own ≡ one_in i a k r = ap (one_in i a k) same in
          shifts (owns.hands i a k) (omega (arith, one, is_hit.2 (one_in i a k), gains.more (one_in i a k)));
      shaped = gains.shaped;
      low = omega (arith, owns.low, gains.arena);
      bound = subst (λ n. (mine_in records c n).bound ≡ true) (sym gains.arena) owns.bound;
    }

pub comes_move : {together : Bool} (records : List Record) (c arena class : ℕ) (request : Request) (desk : DeskFacts) → AreArenas together records → Owns together records c [] desk → IsIdle records c → desk.gained ≡ None → class < 121 →
    Comes together records c (moved request desk arena (Move class))
comes_move {together} records c arena class request desk is owns idle none below = by (hit class desk) refl
  where
    by : (found : Option Held) → hit class desk ≡ found → Comes together records c (closed request (desk_moved class found desk) (move_stage request arena class found desk))
    by None e =
        get_comes records c class request desk owns idle none e
        (subst (λ o. KnowsNext (mine_in records c (move_stage request arena class o desk).arena) (move_stage request arena class o desk).next) e
        (moves-know (mine_in records c (settle request desk arena (Move class)).arena) request desk arena class below
        (subst (λ o. Ready (mine_in records c (move_stage request arena class o desk).arena) (desk_moved class o desk) (move_stage request arena class o desk)) (sym e)
        (is_ready records c desk (move_stage request arena class None desk) owns idle))))
    by (Some r) e = comes_more records c arena request (desk_moved class (Some r) desk) is (hit_owns records c class desk r owns none e) idle

pub comes_on : {together : Bool} (records : List Record) (c arena : ℕ) (request : Request) (desk : DeskFacts) (extra : List Held) (next : Next) → AreArenas together records → Owns together records c extra desk → WaitsNext records c arena next →
    Suited extra desk request arena next → Comes together records c (moved request desk arena next)
comes_on {together} records c arena request desk extra (Go point) is owns waits suits =
    (tt, (refl, record { has = owns_has records c desk (subst (λ extra. Owns together records c extra desk) suits.0 owns); waits = waits; suits = suits.1 }))
comes_on {together} records c arena request desk extra (InArena index point) is owns waits suits =
    let mine : Owns together records c [] desk = subst (λ extra. Owns together records c extra desk) suits.0 owns in
    (tt, (refl, first_sits records c index point request desk suits.1 mine waits.0 (waits.1 (mine_in records c index) (waits.0 index)) suits.2 suits.3))
comes_on {together} records c arena request desk extra (Move class) is owns waits suits =
    comes_move records c arena class request desk is (subst (λ extra. Owns together records c extra desk) suits.0 owns) waits.0 suits.1 waits.1
comes_on {together} records c arena request desk extra NextBatch is owns waits suits = comes_more records c arena request desk is (subst (λ extra. Owns together records c extra desk) suits owns) waits
comes_on records c arena request desk extra NotLive is owns waits suits = (tt, ends_rest records c arena request desk extra (NoArena arena) is owns waits suits)
comes_on records c arena request desk extra (Ends answer) is owns waits suits = (tt, ends_rest records c arena request desk extra answer is owns waits suits)
comes_on records c arena request desk extra Nowhere is owns waits suits = absurd waits
