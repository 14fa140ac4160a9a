-- A client that rests may begin any request.
use Rattle.sits.proofs.Words.{[], ◌≡◌, ℕ, ◌+◌, ◌/◌, ◌<◌, ◌≤◌, ◌^◌, ◌==◌, ◌&&◌, inl, true, false, not, cond, cond_both, List, ◌∷◌, Option, None, Some, length, refl, sym, ◌∙◌, ap, subst, arith, nat_lt, lt-ltb, min, ℤ, ltb-true, nat_tests, sum_by-cons, has_slot, not_holding, Request, Malloc, Memalign, Free, FreeForeign, Take, Flush, Cache, PurgeAll, Decay, Time, Reset, Destroy, Create, HookBox, GrowLimit, Finished, TooLarge, BadAlign, NotHeld, NoArena, Automatic, Stops, Leaves, TurnPoint, Filling, Looking, Taking, Advancing, Changing, Making, Resetting, Destroying, Publishing, Owning, Turns, Next, Go, Ends, Stage, Rest, SetBox, SetBound, SetLimit, MakeLive, Held, DeskFacts, batch_of, cached_of, caching, freeing, going, going_with, held_at, hit, hitting, is_cacheable, aligned_for, class_for, slots_at, most_regions, cached_in, held_region, KnowsNext, needed_at, after_time, batch_goes, begin, begin_bind, begin_free, begin_get, begin_malloc, begin_memalign, begin_publish, begin_stage, closed, desk_freed, desk_got, desk_published, first_turn, first_turn_but_0, is_alignment, page_align, purge_visit, share, small_hit, stage, decay_setting, wish_for, begins-know, both_true, AreArenas, Bool, IsIdle, mine_in, Record, Comes, HasSlots, StartsSit, Suits, SuitsChange, SuitsTurn, Realloc, all_done, are_large, begin_realloc, begin_resize, desk_realloced, desk_resized, resize_at, resizing, reclassing, eqb-true}
use Rattle.sits.specs.Words.{Publish, Bind, Region, Ok}
use Rattle.size_classes.proofs.Least.{class_for_exists}
use Rattle.sits.proofs.Counting.{shifts}
use Rattle.sits.proofs.Hands.{had_counts}
use Rattle.sits.proofs.Having.{cache_hand, drop_over, drop_shaped, free_gains, hit_is, of_hand}
use Rattle.sits.proofs.Regions.{one_in}
use Rattle.sits.proofs.Settling.{Owns, comes_more, comes_move, share_slots, counts_low, ends_rest, first_sits, has_owns, is_ready}
use Rattle.call_plan.specs.Clients.{with_new_cache}
use Rattle.call_plan.specs.Desks.{meant, plain, ready, swaps}
use Rattle.call_plan.specs.Runs.{begin_new_cache, begun}
use Rattle.call_plan.specs.declared.needs.Request.TheVariants.{MallocIn, FreeIn, NewCache, FlushCache, EndCache}
use Rattle.call_plan.specs.declared.needs.Answered.TheVariants.{NoCache, CachesFull}
use Rattle.call_plan.specs.declared.needs.Given.TheVariants.{Cache as Slot}
use Rattle.cache_set.specs.Sets.{free_slot}
use Rattle.sits.specs.Words.{IsInRange}
use Rattle.call_plan.proofs.Swaps.{ready_hand}
use Rattle.sits.proofs.Having.{Settles}
use Rattle.sits.proofs.Settling.{settles_owns}
use Rattle.sits.proofs.Swapping.{make_settles, ready_settles}
use Rattle.sits.proofs.Suiting.{SuitsAnswer, SuitsRegion, can_keep, fewer_slots}

-- a choice of two things by one test
both_cond : {X Y : Type 0} (Q : X → Y → Type 0) (v : Bool) (a b : X) (x y : Y) → (v ≡ true → Q a x) → (v ≡ false → Q b y) → Q (cond v a b) (cond v x y)
both_cond Q true a b x y one other = one refl
both_cond Q false a b x y one other = other refl

-- what a client has suits where its request begins
abbrev Begun : List Held → DeskFacts → Request → ℕ → Next → Type 0
Begun extra desk request arena (Go point) = (extra ≡ []) × (arena < 32) × Suits desk request arena point × (needed_at 0 point ≡ 0)
Begun extra desk request arena (Ends answer) = SuitsAnswer extra desk arena answer
Begun extra desk request arena next = Unit {0}

module _ {together : Bool} (records : List Record) (c : ℕ) (is : AreArenas together records) (idle : IsIdle records c) where
  begins_at : (request : Request) (desk : DeskFacts) (extra : List Held) (arena : ℕ) (next : Next) → Owns together records c extra desk → KnowsNext (mine_in records c arena) next →
      Begun extra desk request arena next → Comes together records c (closed request desk (stage arena next))
  begins_at request desk extra arena (Go point) owns knows begun =
      (tt, (refl, first_sits records c arena point request desk begun.1 (subst (λ extra. Owns together records c extra desk) begun.0 owns) idle knows begun.2 begun.3))
  begins_at request desk extra arena (Ends answer) owns knows begun = (tt, ends_rest records c arena request desk extra answer is owns idle begun)
  begins_at request desk extra arena next owns knows begun = absurd knows

  module _ (desk : DeskFacts) (owns : Owns together records c [] desk) (empty : desk.hand ≡ None) (none : desk.gained ≡ None) where
    -- what is known where a request begins
    abbrev KnowsAt : Stage → Type 0
    KnowsAt at = KnowsNext (mine_in records c at.arena) at.next

    -- a turn of an arena comes first, if there may be one
    first_comes : (request : Request) (index : ℕ) (point : TurnPoint) → KnowsAt (first_turn index point) → SuitsTurn desk request index point → needed_at 0 (Turns point) ≡ 0 → Comes together records c (closed request desk (first_turn index point))
    first_comes request index point knows suits none =
        cond_both (nat_lt index 32) _ _ (λ next. KnowsNext (mine_in records c index) next → Comes together records c (closed request desk (stage index next)))
        (λ low knows. begins_at request desk [] index (Go (Turns point)) owns knows (refl, ltb-true index 32 low, suits, none)) (λ far knows. begins_at request desk [] index (Ends (NoArena index)) owns knows refl) knows

    first_comes_but_0 : (request : Request) (index : ℕ) (point : TurnPoint) → KnowsAt (first_turn_but_0 index point) → SuitsTurn desk request index point → needed_at 0 (Turns point) ≡ 0 →
        Comes together records c (closed request desk (first_turn_but_0 index point))
    first_comes_but_0 request index point knows suits none =
        cond_both (index == 0) _ _ (λ at. KnowsAt at → Comes together records c (closed request desk at)) (λ _ knows. begins_at request desk [] index (Ends Automatic) owns knows refl) (λ _ knows. first_comes request index point knows suits none) knows

    -- ---- regions that are got

    got_comes : (request : Request) (class align : ℕ) (found : Option Held) → ((r : Held) → found ≡ Some r → hit class desk ≡ Some r) → (nat_lt class 36 ≡ true → found ≡ None → hit class desk ≡ None) →
        KnowsAt (begin_get class align found desk) → Comes together records c (closed request (desk_got class found desk) (begin_get class align found desk))
    got_comes request class align (Some r) was missed knows =
        let is_hit = hit_is class desk r owns.shaped (was r refl) in
        let own : held_region r.arena class r.addr ≡ r = ap (λ k. held_region r.arena k r.addr) (sym is_hit.1) in
        begins_at request (hitting class desk) (held_region r.arena class r.addr ∷ []) r.arena (Ends (Ok (Region r.addr class))) (record {
          hands = λ i a k. let one : one_in i a k (held_region r.arena class r.addr) ≡ one_in i a k r = ap (one_in i a k) own in
              shifts (owns.hands i a k) (omega (arith, one, is_hit.2 (one_in i a k), sum_by-cons (one_in i a k) (held_region r.arena class r.addr) []));
          shaped = is_hit.3;
          low = owns.low;
          bound = owns.bound;
        }) knows (subst (λ o. SuitsRegion o (held_region r.arena class r.addr ∷ []) (hitting class desk) (held_region r.arena class r.addr)) (sym none) (refl, empty))
    got_comes request class align None was missed knows =
        let count : ℕ = share class desk in
        let least : ℕ = min count (most_regions class) in
        let fewer : min count (most_regions class) ≤ count = omega arith in
        cond_both (nat_lt class 36) _ _ (λ next. KnowsNext (mine_in records c desk.arena) next → Comes together records c (closed request desk (stage desk.arena next)))
        (λ e knows. begins_at request desk [] desk.arena (Go (Turns (Filling (wish_for false class align least) count))) owns knows
        (refl, owns.low, (record { empty = λ _. empty; none = none; own = refl; slots = share_slots desk class (λ small. missed small refl) }, fewer), refl))
        (λ e knows. begins_at request desk [] desk.arena (Go (Turns (Looking (wish_for false class align least)))) owns knows
        (refl, owns.low, record { empty = λ _. empty; none = none; own = refl; slots = fewer_slots desk class least count fewer (share_slots desk class (λ small. missed small refl)) }, refl)) knows

    malloc_comes : (size : ℕ) → KnowsAt (begin_malloc size desk) → Comes together records c (begin (Malloc size) desk)
    malloc_comes size knows =
        elim (nat_lt (2 ^ 35) size) as (λ v. KnowsAt (cond v (stage desk.arena (Ends TooLarge)) (begin_get (class_for size) 1 (hit (class_for size) desk) desk)) →
        Comes together records c (closed (Malloc size) (cond v desk (desk_got (class_for size) (hit (class_for size) desk) desk)) (cond v (stage desk.arena (Ends TooLarge)) (begin_get (class_for size) 1 (hit (class_for size) desk) desk)))) [
          | true ↦ λ knows. begins_at (Malloc size) desk [] desk.arena (Ends TooLarge) owns knows refl
          | false ↦ λ knows. got_comes (Malloc size) (class_for size) 1 (hit (class_for size) desk) (λ r e. e) (λ small e. e) knows
        ] knows

    memalign_comes : (align size : ℕ) → KnowsAt (begin_memalign align size desk) → Comes together records c (begin (Memalign align size) desk)
    memalign_comes align size knows =
        let class : ℕ = aligned_for size align in
        let begun : Stage = begin_get class (page_align align) (small_hit class desk) desk in
        let got : DeskFacts = desk_got class (small_hit class desk) desk in
        elim (is_alignment align) as (λ v. KnowsAt (cond (not v) (stage desk.arena (Ends BadAlign)) (cond (nat_lt (2 ^ 35) size) (stage desk.arena (Ends TooLarge)) begun)) →
        Comes together records c (closed (Memalign align size) (cond (not v) desk (cond (nat_lt (2 ^ 35) size) desk got)) (cond (not v) (stage desk.arena (Ends BadAlign)) (cond (nat_lt (2 ^ 35) size) (stage desk.arena (Ends TooLarge)) begun)))) [
          | false ↦ λ knows. begins_at (Memalign align size) desk [] desk.arena (Ends BadAlign) owns knows refl
          | true ↦ elim (nat_lt (2 ^ 35) size) as (λ v. KnowsAt (cond v (stage desk.arena (Ends TooLarge)) begun) → Comes together records c (closed (Memalign align size) (cond v desk got) (cond v (stage desk.arena (Ends TooLarge)) begun))) [
            | true ↦ λ knows. begins_at (Memalign align size) desk [] desk.arena (Ends TooLarge) owns knows refl
            | false ↦ λ knows. got_comes (Memalign align size) class (page_align align) (small_hit class desk) (λ r e. hit_so class r e) (λ small e. ap (λ v. cond v (hit class desk) None) (sym small) ∙ e) knows
          ]
        ] knows
      where
        hit_so : (class : ℕ) (r : Held) → small_hit class desk ≡ Some r → hit class desk ≡ Some r
        hit_so class r e = grind arith

    -- ---- regions that go

    -- a region that was held is cached or in hand
    freed_owns : (addr : ℕ) (r : Held) → held_at addr desk ≡ Some r → Owns together records c [] (freeing r (not_holding addr desk))
    freed_owns addr r found =
        let gains = free_gains r (not_holding addr desk) (drop_shaped addr desk owns.shaped) empty in record {
          hands = λ i a k. shifts (owns.hands i a k) (omega (arith, gains.more (one_in i a k), drop_over (one_in i a k) addr r desk found));
          shaped = gains.shaped;
          low = omega (arith, gains.arena, owns.low);
          bound = subst (λ n. (mine_in records c n).bound ≡ true) (sym gains.arena) owns.bound;
        }

    none_goes : (d : DeskFacts) (hand : Option Held) → hand ≡ None → batch_of (going_with hand false d) ≡ None
    none_goes d None e = refl
    none_goes d (Some r) e = absurd (cc)

    -- what is to go back is the same before and after
    same_batch : (addr : ℕ) (r : Held) → batch_of (going_with (freeing r desk).hand false desk) ≡ batch_of (going false (freeing r (not_holding addr desk)))
    same_batch addr r =
        let less : DeskFacts = not_holding addr desk in
        elim (is_cacheable r.class desk && has_slot r.class desk) as (λ v. batch_of (going_with (cond v (caching r desk) (record desk { hand = Some r })).hand false desk)
        ≡ batch_of (going false (cond v (caching r less) (record less { hand = Some r })))) [
          | true ↦ none_goes desk (caching r desk).hand (cache_hand r desk ∙ empty) ∙ sym (none_goes (caching r less) (caching r less).hand (cache_hand r less ∙ empty))
          | false ↦ refl
        ]

    free_comes : (addr : ℕ) (held : Option Held) → held_at addr desk ≡ held → KnowsAt (begin_free addr held desk) → Comes together records c (closed (Free addr) (desk_freed addr held desk) (begin_free addr held desk))
    free_comes addr None e knows = begins_at (Free addr) desk [] 0 (Ends (NotHeld addr)) owns knows refl
    free_comes addr (Some r) e knows =
        subst (λ b. Comes together records c (closed (Free addr) (freeing r (not_holding addr desk)) (batch_goes r.arena None b))) (sym (same_batch addr r))
        (comes_more records c r.arena (Free addr) (freeing r (not_holding addr desk)) is (freed_owns addr r e) idle)

    publish_comes : (addr : ℕ) (held : Option Held) → held_at addr desk ≡ held → KnowsAt (begin_publish addr held) → Comes together records c (closed (Publish addr) (desk_published addr held desk) (begin_publish addr held))
    publish_comes addr None e knows = begins_at (Publish addr) desk [] 0 (Ends (NotHeld addr)) owns knows refl
    publish_comes addr (Some r) e knows =
        let shaped = drop_shaped addr desk owns.shaped in
        let low = counts_low records c r.arena r.addr r.class is (had_counts _ desk r owns.hands (inl (addr, e)) owns.shaped) in
        begins_at (Publish addr) (record (not_holding addr desk) { hand = Some r }) [] r.arena (Go (Turns (Publishing r.addr))) (record {
          hands = λ i a k. let none : of_hand (one_in i a k) desk.hand ≡ 0 = ap (of_hand (one_in i a k)) empty in shifts (owns.hands i a k) (omega (arith, none, drop_over (one_in i a k) addr r desk e));
          shaped = record { keyed = shaped.keyed; lists = shaped.lists; classed = shaped.classed; places = shaped.places };
          low = owns.low;
          bound = owns.bound;
        }) knows (refl, low, (refl, refl), refl)

    -- ---- a region that is resized

    -- a region that was held is in hand
    resizing_owns : (addr : ℕ) (r : Held) → held_at addr desk ≡ Some r → Owns together records c [] (resizing addr r desk)
    resizing_owns addr r found =
        let shaped = drop_shaped addr desk owns.shaped in record {
          hands = λ i a k.
              let hand : of_hand (one_in i a k) desk.hand ≡ 0 = ap (of_hand (one_in i a k)) empty in
              let gained : of_hand (one_in i a k) desk.gained ≡ 0 = ap (of_hand (one_in i a k)) none in
              shifts (owns.hands i a k) (omega (arith, hand, gained, drop_over (one_in i a k) addr r desk found));
          shaped = record { keyed = shaped.keyed; lists = shaped.lists; classed = shaped.classed; places = shaped.places };
          low = owns.low;
          bound = owns.bound;
        }

    -- it has the class: it is gained at once
    same_comes : (request : Request) (addr class : ℕ) (r : Held) → held_at addr desk ≡ Some r → class ≡ r.class → Comes together records c (closed request (reclassing class (resizing addr r desk)) (all_done r.arena (Some r)))
    same_comes request addr class r found same =
        let had = resizing_owns addr r found in
        let own : record r { class = class } ≡ r = ap (λ k. held_region r.arena k r.addr) same in
        let shaped = had.shaped in (
          tt,
          ends_rest records c r.arena request (reclassing class (resizing addr r desk)) [] (Ok (Region r.addr r.class)) is (record {
            hands = λ i a k.
                let one : one_in i a k (record r { class = class }) ≡ one_in i a k r = ap (one_in i a k) own in
                shifts (had.hands i a k) (omega (arith, one));
            shaped = record { keyed = shaped.keyed; lists = shaped.lists; classed = shaped.classed; places = shaped.places };
            low = had.low;
            bound = had.bound;
          }) idle (refl, tt),
        )

    resize_comes : (request : Request) (addr class : ℕ) (r : Held) → held_at addr desk ≡ Some r → class < 121 → KnowsAt (begin_resize request class r (resizing addr r desk)) →
        Comes together records c (closed request (desk_resized class r (resizing addr r desk)) (begin_resize request class r (resizing addr r desk)))
    resize_comes request addr class r found below =
        let now : DeskFacts = resizing addr r desk in
        let had = resizing_owns addr r found in
        let low = counts_low records c r.arena r.addr r.class is (had_counts _ desk r owns.hands (inl (addr, found)) owns.shaped) in
        let P : DeskFacts → Stage → Type 0 = λ d at. KnowsAt at → Comes together records c (closed request d at) in
        both_cond P (class == r.class) _ _ _ _ (λ e knows. same_comes request addr class r found (eqb-true class r.class e))
        (λ _. both_cond P (are_large class r.class) _ _ _ _
        (λ large knows. begins_at request now [] r.arena (Go (Turns (resize_at class r))) had knows (refl, low, resize_suits request class r (is_large class r large), resize_needs class r))
        (λ _ knows. comes_move records c r.arena class request now is had idle refl below))
      where
        is_large : (class : ℕ) (r : Held) → are_large class r.class ≡ true → 36 ≤ r.class
        is_large class r large = grind (arith, nat_tests)

        resize_suits : (request : Request) (class : ℕ) (r : Held) → 36 ≤ r.class → SuitsTurn (resizing addr r desk) request r.arena (resize_at class r)
        resize_suits request class r large = cond_both (nat_lt class r.class) _ _ (SuitsTurn (resizing addr r desk) request r.arena) (λ _. ((refl, refl, large, refl), refl)) (λ _. ((refl, refl, large, refl), refl))

        resize_needs : (class : ℕ) (r : Held) → needed_at 0 (Turns (resize_at class r)) ≡ 0
        resize_needs class r = cond_both (nat_lt class r.class) _ _ (λ point. needed_at 0 (Turns point) ≡ 0) (λ _. refl) (λ _. refl)

    realloc_comes : (addr size : ℕ) (held : Option Held) → held_at addr desk ≡ held → KnowsAt (begin_realloc addr size held desk) →
        Comes together records c (closed (Realloc addr size) (desk_realloced addr size held desk) (begin_realloc addr size held desk))
    realloc_comes addr size None e knows = begins_at (Realloc addr size) desk [] 0 (Ends (NotHeld addr)) owns knows refl
    realloc_comes addr size (Some r) e knows =
        let P : DeskFacts → Stage → Type 0 = λ d at. KnowsAt at → Comes together records c (closed (Realloc addr size) d at) in
        both_cond P (nat_lt (2 ^ 35) size) _ _ _ _ (λ _ knows. begins_at (Realloc addr size) desk [] desk.arena (Ends TooLarge) owns knows refl)
        (λ h. resize_comes (Realloc addr size) addr (class_for size) r e (class_for_exists size (grind (arith, nat_tests, h)))) knows

    -- ---- settings

    time_suits : (index : ℕ) (rest : Rest) (ms : ℤ) (now : ℕ) → SuitsChange desk index (decay_setting rest ms now) (after_time rest ms)
    time_suits index rest ms now = grind arith

    bind_comes : (index : ℕ) → KnowsAt (begin_bind desk.arena index) → Comes together records c (closed (Bind index) desk (begin_bind desk.arena index))
    bind_comes index knows =
        cond_both (index == desk.arena) _ _ (λ at. KnowsAt at → Comes together records c (closed (Bind index) desk at)) (λ e knows. begins_at (Bind index) desk [] desk.arena (Ends (Ok Finished)) owns knows (refl, can_keep desk empty))
        (λ e knows. first_comes (Bind index) index (Changing SetBound (Leaves desk.arena)) knows (empty, (refl, λ same. grind (arith, nat_tests))) refl) knows

    -- ---- explicit caches

    new_comes : (slot : Option ℕ) → KnowsAt (begin_new_cache slot desk) → Comes together records c (closed NewCache (with_new_cache desk) (begin_new_cache slot desk))
    new_comes slot knows = by slot knows
      where
        now : DeskFacts
        now = with_new_cache desk

        same : Settles together desk now
        same = make_settles together desk owns.shaped empty

        made_owns : Owns together records c [] now
        made_owns = settles_owns records c desk now owns same

        by : (slot : Option ℕ) → KnowsAt (begin_new_cache slot desk) → Comes together records c (closed NewCache now (begin_new_cache slot desk))
        by None knows = begins_at NewCache now [] desk.arena (Ends CachesFull) made_owns knows refl
        by (Some slot) knows = begins_at NewCache now [] desk.arena (Ends (Ok (Slot slot))) made_owns knows (refl, can_keep now same.hand)

    -- ---- any request

    begins : (request : Request) → KnowsAt (begin_stage request desk) → Comes together records c (begun request desk)
    begins (Malloc size) knows = malloc_comes size knows
    begins (Memalign align size) knows = memalign_comes align size knows
    begins (Free addr) knows = free_comes addr (held_at addr desk) refl knows
    begins (FreeForeign addr index) knows = first_comes (FreeForeign addr index) index (Owning addr true false) knows (empty, none) refl
    begins (Realloc addr size) knows = realloc_comes addr size (held_at addr desk) refl knows
    begins (Publish addr) knows = publish_comes addr (held_at addr desk) refl knows
    begins (Take addr index) knows = first_comes (Take addr index) index (Owning addr false false) knows (empty, none) refl
    begins Flush knows = comes_more records c desk.arena Flush desk is owns idle
    begins (Cache true) knows = begins_at (Cache true) desk [] desk.arena (Ends (Ok Finished)) owns knows (refl, can_keep desk empty)
    begins (Cache false) knows = comes_more records c desk.arena (Cache false) desk is owns idle
    begins (PurgeAll index) knows = first_comes (PurgeAll index) index (Taking purge_visit None) knows empty refl
    begins (Decay index now) knows = first_comes (Decay index now) index (Advancing now) knows empty refl
    begins (Time index rest ms now) knows = first_comes (Time index rest ms now) index (Changing (decay_setting rest ms now) (after_time rest ms)) knows (empty, time_suits index rest ms now) refl
    begins (Reset index) knows = first_comes_but_0 (Reset index) index (Resetting (cached_of index desk)) knows (empty, refl, none) refl
    begins (Destroy index) knows = first_comes_but_0 (Destroy index) index (Destroying (cached_of index desk)) knows (empty, refl, none) refl
    begins (Create box_no dirty_ms muzzy_ms now) knows = first_comes (Create box_no dirty_ms muzzy_ms now) 1 (Making 1 (MakeLive box_no dirty_ms muzzy_ms now)) knows empty refl
    begins (Bind index) knows = bind_comes index knows
    begins (HookBox index box_no) knows = first_comes (HookBox index box_no) index (Changing (SetBox box_no) Stops) knows (empty, tt) refl
    begins (GrowLimit index chunks) knows = first_comes (GrowLimit index chunks) index (Changing (SetLimit chunks) Stops) knows (empty, tt) refl
    begins NewCache knows = new_comes (free_slot desk.set) knows
    begins (MallocIn slot size) knows = begins_at (MallocIn slot size) desk [] desk.arena (Ends (NoCache slot)) owns knows refl
    begins (FreeIn slot addr) knows = begins_at (FreeIn slot addr) desk [] desk.arena (Ends (NoCache slot)) owns knows refl
    begins (FlushCache slot) knows = begins_at (FlushCache slot) desk [] desk.arena (Ends (NoCache slot)) owns knows refl
    begins (EndCache slot) knows = begins_at (EndCache slot) desk [] desk.arena (Ends (NoCache slot)) owns knows refl

-- a request as it is carried out is in range
meant_range : (request : Request) (desk : DeskFacts) → IsInRange request → IsInRange (meant request desk)
meant_range request desk range = cond_both (swaps request desk) (plain request) request IsInRange (λ _. plain_range request range) (λ _. range)
  where
    plain_range : (request : Request) → IsInRange request → IsInRange (plain request)
    plain_range request range = grind arith

pub starts-sit : StartsSit
starts-sit together records c desk request is few rests range =
    let had = has_owns records c desk rests.has in
    let now : DeskFacts = ready request desk in
    let asked : Request = meant request desk in
    let same = ready_settles together request desk had.shaped rests.empty in
    let owns = settles_owns records c desk now had same in
    begins records c is rests.idle now owns same.hand ((ready_hand request desk).1 ∙ rests.gained) asked
    (begins-know (mine_in records c (begin_stage asked now).arena) asked now (meant_range request desk range) (is_ready records c now (begin_stage asked now) owns rests.idle))
