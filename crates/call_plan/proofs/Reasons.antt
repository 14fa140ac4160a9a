-- The reasons of each point to which a call comes, and of its answer.
use Rattle.call_plan.proofs.Words.{rules, ◌≡◌, ℕ, ◌+◌, ◌-◌, ◌<◌, ◌*◌, ◌^◌, ◌⊎◌, inl, inr, Bool, true, false, not, max, List, [], ◌∷◌, ◌++◌, Option, None, Some, refl, sym, ◌∙◌, ap, subst, arith, nat_lt, append_assoc, Contains, cond_both, ltb-true, not-true, not-false, nat_tests, step_of, after_cut, after_commit, after_grow, Request, Malloc, Memalign, Free, FreeForeign, Publish, Take, Item, Replied, Told, Starved, Refused, BadAnswer, NotHeld, aligned_for, class_for, held_at, hit, Wish, AfterFlight, Batches, Visiting, Change, Stops, Visits, Leaves, TurnPoint, Filling, Looking, Landing, Finding, Taking, Offering, Advancing, Changing, Making, Resetting, Destroying, Owning, AskPoint, Skipping, Trimming, Growing, SplittingGrown, GrowingExactly, SplittingExact, Committing, Merging, PurgingLazily, Returning, Decommitting, Forcing, Point, Turns, Asks, Tells, Next, Go, InArena, NotLive, NextBatch, Ends, Stage, Reply, NoArena, Nothing, Noted, Taken, Took, Cut, Whole, Bad, Grown, Landed, Regions, Owned, Space, Span, Why, Sound, AskFacts, Held, DeskFacts, answered_span, alloc_of, ask_at, done_at, op_at, is_marked, starved, whole_chunks, step, turn_replied, told, commit, trim, put_next, took_over, begin, begin_free, begin_get, begin_malloc, begin_memalign, begin_publish, begin_stage, is_alignment, page_align, small_hit, step_next, wish_for, with_found, extent, extent_of, NothingFits, WasGranted, IsNeeded, IsWishOf, RegionCause, GivenCause, CauseIn, Came, AllCame, AnswersHaveCauses, Visit, visit_gives, visited, DoneCause, TakenBelow, FullCause, Empties, TellsTime, ◌==◌, cond, Finished, Giving, Widening, Narrowing, Moving, Cutting, Extending, Sparing, Backing, Joining, Move, Resize, Realloc, behind, spare, extend, got, gives, get, share, gaining, hitting, reclassing, resizing, taking_place, held_region, desk_turned, desk_told, desk_fed, desk_moved, desk_resized, desk_realloced, move_stage, are_large, resize_to, resize_at, begin_desk, begin_resize, begin_realloc, gave, eqb-true, run, sharing, landed_behind}
use Rattle.call_plan.specs.Causes.{CauseOf}
use Rattle.call_plan.specs.Desks.{meant, ready}
use Rattle.call_plan.specs.Words.{Answered, Ok, Refused, BadAnswer, TooLarge, BadAlign, NotHeld, NoSuchArena, Busy, NoMemory, ArenasFull, Automatic, NoCache, CachesFull}
use Rattle.call_plan.proofs.Swaps.{meant_slot}
use Rattle.call_plan.specs.Words.{Given, Region, NextFlight}
use Rattle.std.specs.Prelude.{replicate}
use Rattle.std.proofs.lemmas.List.{replicate-append-replicate}
use Rattle.call_plan.proofs.Aligned.{failing_is_not, passing_is}
use Rattle.call_plan.proofs.Bounds.{Settles, close_keeps, move_keeps, run_keeps}
use Rattle.call_plan.proofs.Causes.{cut_whole, commit_whole, grow_refused, grow_bad, grow_grown, last_in, more_in, extent_next, fits_more}
use Rattle.space_model.specs.declared.Answer.TheVariants as answers
use Rattle.space_model.specs.declared.Reply.TheVariants as replies

-- a choice of two things by one test
both_cond : {X Y : Type 0} (Q : X → Y → Type 0) (v : Bool) (a b : X) (x y : Y) → (v ≡ true → Q a x) → (v ≡ false → Q b y) → Q (cond v a b) (cond v x y)
both_cond Q true a b x y one other = one refl
both_cond Q false a b x y one other = other refl

-- what the client had at the start of its call
module _ (desk : DeskFacts) where
  -- ---- the reasons of each point

  -- the answer that comes in the end has its cause already
  abbrev pub VisitWhy : Request → List Item → Visit → Type 0
  VisitWhy request items visit = GivenCause desk request items (visit_gives visit.told visit.rest visit.keep visit.other)

  -- what the call gives in the end, of all that the client has
  abbrev pub given : Option Held → Given
  given None = Finished
  given (Some region) = Region region.addr region.class

  -- the end has its cause already
  abbrev pub EndWhy : Request → List Item → DeskFacts → Type 0
  EndWhy request items now = GivenCause desk request items (given (gives request now))

  -- another region of the class of the request takes the place of the one in hand, and is the one that was cached last at the start,
  -- if one was
  abbrev pub MoveWhy : Request → DeskFacts → ℕ → Type 0
  MoveWhy (Realloc at size) now class = (class ≡ class_for size) × (hit class now ≡ hit class desk)
  MoveWhy request now class = ⊥

  -- the region in hand is the one that the client held
  abbrev pub HandWhy : Request → Option Held → Type 0
  HandWhy (Realloc at size) (Some region) = held_at at desk ≡ Some region
  HandWhy request hand = ⊥

  abbrev pub ResizeWhy : Request → DeskFacts → Resize → Type 0
  ResizeWhy request now resize = MoveWhy request now resize.class × HandWhy request now.hand

  abbrev pub ThenWhy : Request → List Item → DeskFacts → AfterFlight → Type 0
  ThenWhy request items now Batches = EndWhy request items now
  ThenWhy request items now (Visiting visit left) = VisitWhy request items visit
  ThenWhy request items now (Moving class) = MoveWhy request now class

  abbrev pub ChangeWhy : Request → List Item → Change → Type 0
  ChangeWhy request items (Visits visit) = VisitWhy request items visit
  ChangeWhy request items change = DoneCause request

  -- the region that is taken over is that of the request, and goes back where it is to be freed
  abbrev pub OwnWhy : Request → ℕ → Bool → Type 0
  OwnWhy (Take at arena) addr false = addr ≡ at
  OwnWhy (FreeForeign at arena) addr true = addr ≡ at
  OwnWhy request addr frees = ⊥

  abbrev pub TurnWhy : Request → List Item → DeskFacts → TurnPoint → Type 0
  TurnWhy request items now (Filling wish count) = IsWishOf request wish
  TurnWhy request items now (Looking wish) = IsWishOf request wish
  TurnWhy request items now (Landing wish span) = IsWishOf request wish
  TurnWhy request items now (Finding own tries fresh later) = ThenWhy request items now later
  TurnWhy request items now (Taking visit left) = VisitWhy request items visit
  TurnWhy request items now (Offering span later) = ThenWhy request items now later
  TurnWhy request items now (Changing setting change) = ChangeWhy request items change
  TurnWhy request items now (Owning addr frees past) = OwnWhy request addr frees
  TurnWhy request items now (Giving addrs) = EndWhy request items now
  TurnWhy request items now (Widening resize) = ResizeWhy request now resize
  TurnWhy request items now (Narrowing resize) = ResizeWhy request now resize
  TurnWhy request items now (Making index setting) = TakenBelow request items index
  TurnWhy request items now (Advancing moment) = TellsTime request
  TurnWhy request items now (Resetting cached) = Empties request
  TurnWhy request items now (Destroying cached) = Empties request
  TurnWhy request items now point = DoneCause request

  -- the extent of a malloc is as the point says
  abbrev pub Had : Request → List Item → Wish → Span → Bool → Type 0
  Had request items wish span b = IsWishOf request wish × (extent_of items ≡ Some (extent span b))

  abbrev pub AskWhy : Request → List Item → DeskFacts → AskPoint → Type 0
  AskWhy request items now (Skipping wish span b skip) = Had request items wish span b
  AskWhy request items now (Trimming wish span b) = Had request items wish span b
  AskWhy request items now (Growing wish chunks) = IsWishOf request wish × NothingFits items
  AskWhy request items now (SplittingGrown wish span b) = Had request items wish span b
  AskWhy request items now (GrowingExactly wish) = IsWishOf request wish × NothingFits items
  AskWhy request items now (SplittingExact wish span b) = Had request items wish span b × WasGranted wish items span
  AskWhy request items now (Committing wish span) = Had request items wish span false
  AskWhy request items now (Merging low high own_low fresh later) = ThenWhy request items now later
  AskWhy request items now (PurgingLazily span later) = ThenWhy request items now later
  AskWhy request items now (Returning span later) = ThenWhy request items now later
  AskWhy request items now (Decommitting span later) = ThenWhy request items now later
  AskWhy request items now (Forcing span later) = ThenWhy request items now later
  AskWhy request items now (Cutting resize) = ResizeWhy request now resize
  AskWhy request items now (Extending resize) = ResizeWhy request now resize
  AskWhy request items now (Sparing resize span b) = ResizeWhy request now resize
  AskWhy request items now (Backing resize span) = ResizeWhy request now resize
  AskWhy request items now (Joining resize span) = ResizeWhy request now resize

  -- The ask was made after these items, and its answer is the last one since.
  pub record HeardWhy (request : Request) (items : List Item) (now : DeskFacts) (point : AskPoint) (asked : AskFacts) : Type 0 where
    pub earlier : List Item
    pub told : items ≡ earlier ++ Told asked ∷ []
    pub why : AskWhy request earlier now point
    pub is : asked.ask ≡ ask_at point

  abbrev pub PointWhy : Request → List Item → DeskFacts → Point → Type 0
  PointWhy request items now (Turns point) = TurnWhy request items now point
  PointWhy request items now (Asks point None) = AskWhy request items now point
  PointWhy request items now (Asks point (Some asked)) = HeardWhy request items now point asked
  PointWhy request items now (Tells span b) = DoneCause request

  abbrev pub NextWhy : Request → List Item → DeskFacts → Next → Type 0
  NextWhy request items now (Go point) = PointWhy request items now point
  NextWhy request items now (InArena index point) = PointWhy request items now point
  NextWhy request items now NotLive = Contains items (Replied NoArena)
  NextWhy request items now (Ends answer) = CauseIn desk request items answer
  NextWhy request items now NextBatch = EndWhy request items now
  NextWhy request items now (Move class) = MoveWhy request now class
  NextWhy request items now next = Unit {0}

  -- ---- reasons last

  region_more : (request : Request) (items : List Item) (item : Item) (addr class : ℕ) → RegionCause desk request items addr class → RegionCause desk request (items ++ item ∷ []) addr class
  region_more request items item addr class why = grind (arith, more_in)

  given_more : (request : Request) (items : List Item) (item : Item) (gained : Option Held) → GivenCause desk request items (given gained) → GivenCause desk request (items ++ item ∷ []) (given gained)
  given_more request items item None why = why
  given_more request items item (Some region) why = region_more request items item region.addr region.class why

  visit_more : (request : Request) (items : List Item) (item : Item) (visit : Visit) → VisitWhy request items visit → VisitWhy request (items ++ item ∷ []) visit
  visit_more request items item visit why = grind (arith, more_in)

  visited_why : (request : Request) (items : List Item) (now : DeskFacts) (visit : Visit) → VisitWhy request items visit → NextWhy request items now (visited visit)
  visited_why request items now visit why = grind arith

  then_more : (request : Request) (items : List Item) (now : DeskFacts) (item : Item) (later : AfterFlight) → ThenWhy request items now later → ThenWhy request (items ++ item ∷ []) now later
  then_more request items now item Batches why = given_more request items item (gives request now) why
  then_more request items now item (Visiting visit left) why = visit_more request items item visit why
  then_more request items now item (Moving class) why = why

  -- a request that empties an arena, or tells it the time, is one that is done without giving anything
  emptying_done : (request : Request) → Empties request → DoneCause request
  emptying_done request empties = grind arith

  -- ---- where a point leads

  commit_why : (request : Request) (items : List Item) (now : DeskFacts) (wish : Wish) (span : Span) (b : Bool) → Had request items wish span b → NextWhy request items now (commit wish span b)
  commit_why request items now wish span b had = grind arith

  trim_why : (request : Request) (items : List Item) (now : DeskFacts) (wish : Wish) (span : Span) (b : Bool) → Had request items wish span b → NextWhy request items now (trim wish span b)
  trim_why request items now wish span b had = grind (arith, commit_why)

  -- the region is resized still, or another one takes its place
  spare_why : (request : Request) (items : List Item) (now : DeskFacts) (resize : Resize) (span : Span) (b : Bool) → ResizeWhy request now resize → NextWhy request items now (spare resize span b)
  spare_why request items now resize span b why = grind (arith, nat_tests)

  extend_why : (request : Request) (items : List Item) (now : DeskFacts) (resize : Resize) (span : Span) (b : Bool) → ResizeWhy request now resize → NextWhy request items now (extend resize span b)
  extend_why request items now resize span b why = cond_both (span.first == behind resize) _ _ (NextWhy request items now) (λ _. spare_why request items now resize span b why) (λ _. why.0)

  -- the region in hand has its class
  reclassed_why : (request : Request) (items : List Item) (now : DeskFacts) (resize : Resize) → ResizeWhy request now resize → EndWhy request items (reclassing resize.class now)
  reclassed_why request items now resize why = grind arith

  put_why : (request : Request) (items : List Item) (now : DeskFacts) (later : AfterFlight) (next : Option Span) → ThenWhy request items now later → NextWhy request items now (put_next later next)
  put_why request items now later next why = grind (arith, nat_tests)

  -- a region that landed, or was free in a slab, is of the class of the request
  landed_why : (request : Request) (items : List Item) (wish : Wish) (addr : ℕ) → IsWishOf request wish →
      (((count : ℕ) × Contains items (Replied (Landed addr count))) ⊎ ((others : List ℕ) × Contains items (Replied (Regions (addr ∷ others))))) → RegionCause desk request items addr wish.class
  landed_why request items wish addr is has = grind arith

  owned_why : (request : Request) (items : List Item) (arena : ℕ) (now : DeskFacts) (addr class : ℕ) (frees past : Bool) → OwnWhy request addr frees → Contains items (Replied (Owned class)) →
      NextWhy request items (desk_turned now arena (Owning addr frees past) (Owned class)) (took_over addr class frees)
  owned_why request items arena now addr class frees past is has = grind arith

  unowned_why : (request : Request) (items : List Item) (addr : ℕ) (frees : Bool) → OwnWhy request addr frees → Contains items (Replied Nothing) → CauseIn desk request items (NotHeld addr)
  unowned_why request items addr frees is has = grind arith

  -- the next index is tried where one is taken, and the last one is 31
  below_more : (request : Request) (items : List Item) (index : ℕ) → TakenBelow request items index → index < 31 → TakenBelow request (items ++ Replied Nothing ∷ []) (index + 1)
  below_more request items index (creates, one, low, e) less =
      let more : index - 1 + 1 ≡ index + 1 - 1 = omega (arith, one) in (
        creates,
        omega arith,
        omega (arith, less),
        ap (λ xs. xs ++ Replied Nothing ∷ []) e ∙ replicate-append-replicate (index - 1) 1 (Replied Nothing) ∙ ap (λ n. replicate n (Replied Nothing)) more,
      )

  full_why : (request : Request) (items : List Item) (index : ℕ) → TakenBelow request items index → nat_lt index 31 ≡ false → FullCause request (items ++ Replied Nothing ∷ [])
  full_why request items index (creates, one, low, e) last =
      let is : index ≡ 31 = grind (arith, nat_tests) in (creates, rw e (rw is refl))

  -- a region that takes the place of the one in hand is the one gained
  gaining_gains : (region : Held) (now : DeskFacts) → (gaining region now).gained ≡ Some region
  gaining_gains region now = grind arith

  -- a region that was got is the answer, or is gained
  got_why : (request : Request) (items : List Item) (now : DeskFacts) (arena : ℕ) (wish : Wish) (addr : ℕ) → IsWishOf request wish → RegionCause desk request items addr wish.class →
      NextWhy request items (taking_place wish (held_region arena wish.class addr) now) (got wish addr)
  got_why request items now arena wish addr is cause =
      let gains = gaining_gains (held_region arena wish.class addr) now in grind arith

  -- regions that went back leave the one gained
  gave_gives : (request : Request) (arena : ℕ) (now : DeskFacts) → gives request (gave arena now) ≡ gives request now
  gave_gives request arena now = grind arith

  turned_why : (request : Request) (items : List Item) (now : DeskFacts) (arena : ℕ) (point : TurnPoint) (reply : Reply) → TurnWhy request items now point →
      NextWhy request (items ++ Replied reply ∷ []) (desk_turned now arena point reply) (turn_replied point reply)
  turned_why request items now arena (Filling wish count) (Regions []) why = tt
  turned_why request items now arena (Filling wish count) (Regions (addr ∷ addrs)) why =
      got_why request _ (sharing arena wish.class addrs now) arena wish addr why (landed_why request _ wish addr why (inr (addrs, last_in items (Replied (Regions (addr ∷ addrs))))))
  turned_why request items now arena (Looking wish) (Took span b skip) why =
      let had : Had request (items ++ Replied (Took span b skip) ∷ []) wish span b = (why, extent_next items (Replied (Took span b skip)) _ refl) in
      cond_both (nat_lt 0 skip) _ _ (NextWhy request _ now) (λ _. had) (λ _. trim_why request _ now wish span b had)
  turned_why request items now arena (Landing wish span) (Landed first count) why =
      got_why request _ (sharing arena wish.class (landed_behind first wish.class count) now) arena wish first why (landed_why request _ wish first why (inl (count, last_in items (Replied (Landed first count)))))
  turned_why request items now arena (Owning addr frees past) (Owned class) why = owned_why request _ arena now addr class frees past why (last_in items (Replied (Owned class)))
  turned_why request items now arena (Owning addr frees past) Nothing why = unowned_why request _ addr frees why (last_in items (Replied Nothing))
  turned_why request items now arena (Making index setting) Noted why = (items, why, refl)
  turned_why request items now arena (Making index setting) Nothing why = cond_both (nat_lt index 31) _ _ (NextWhy request _ now) (λ h. below_more request items index why (ltb-true _ _ h)) (λ h. full_why request items index why h)
  turned_why request items now arena (Changing setting Stops) Noted why = why
  turned_why request items now arena (Changing setting (Visits visit)) Noted why = visit_more request items (Replied Noted) visit why
  turned_why request items now arena (Changing setting (Leaves old)) Noted why = why
  turned_why request items now arena (Taking visit left) (Taken span true listed) why = visit_more request items (Replied (Taken span true listed)) visit why
  turned_why request items now arena (Taking visit left) (Taken span false listed) why = visit_more request items (Replied (Taken span false listed)) visit why
  turned_why request items now arena (Giving addrs) (NextFlight next) why =
      put_why request _ (gave arena now) Batches next
      (subst (λ o. GivenCause desk request (items ++ Replied (NextFlight next) ∷ []) (given o)) (sym (gave_gives request arena now)) (given_more request items (Replied (NextFlight next)) (gives request now) why))
  turned_why request items now arena (Widening resize) (Took span b skip) why = spare_why request _ now resize span b why
  turned_why request items now arena point Whole why = tt
  turned_why request items now arena point reply why =
      let last = last_in items (Replied reply) in
      first_of (search (rules, visit_more, visited_why, then_more, put_why, emptying_done), grind (arith, nat_tests, visit_more, visited_why, then_more, emptying_done))

  -- ---- after an answer was taken in

  -- the reply came of the turn in a sound space
  abbrev pub Turned : ℕ → AskPoint → AskFacts → Reply → Type 0
  Turned c point asked reply = (s : Space) × Sound s × (found : Option ℕ) × (reply ≡ (step_of s c (with_found found (done_at point asked))).reply)

  -- a piece of the extent is left after a cut
  cut_had : (request : Request) (items earlier : List Item) (asked : AskFacts) (wish : Wish) (span kept : Span) (b : Bool) → items ≡ earlier ++ Told asked ∷ [] → Had request earlier wish span b →
      Had request (items ++ Replied (Cut kept) ∷ []) wish kept b
  cut_had request items earlier asked wish span kept b told (wished, had) =
      (wished, extent_next items (Replied (Cut kept)) (Some (extent span b)) (ap extent_of told ∙ extent_next earlier (Told asked) (Some (extent span b)) had))

  -- nothing fits after a refused split
  whole_fits : (items : List Item) → NothingFits (items ++ Replied Whole ∷ [])
  whole_fits items = inr (last_in items (Replied Whole))

  -- a refused ask that was needed is why the call is refused
  refused_why : (request : Request) (items : List Item) (now : DeskFacts) (point : AskPoint) (asked : AskFacts) (wish : Wish) (reply : Reply) → IsWishOf request wish → (why : HeardWhy request items now point asked) →
      asked.answer ≡ answers.Refused → IsNeeded wish why.earlier (ask_at point) → CauseIn desk request (items ++ Replied reply ∷ []) (Refused asked)
  refused_why request items now point asked wish reply wished why refused needed = record {
    wish = wish;
    wished = wished;
    earlier = why.earlier;
    later = Replied reply ∷ [];
    told = ap (λ (xs : List Item). xs ++ Replied reply ∷ []) why.told ∙ append_assoc why.earlier (Told asked ∷ []) (Replied reply ∷ []);
    refused = refused;
    needed = subst (IsNeeded wish why.earlier) (sym why.is) needed;
  }

  -- the ask is among the items
  asked_in : (request : Request) (items : List Item) (now : DeskFacts) (point : AskPoint) (asked : AskFacts) (reply : Reply) → (why : HeardWhy request items now point asked) → Contains (items ++ Replied reply ∷ []) (Told asked)
  asked_in request items now point asked reply why = more_in items (Replied reply) (Told asked) (subst (λ (xs : List Item). Contains xs (Told asked)) (sym why.told) (last_in why.earlier (Told asked)))

  -- a range that can't be taken is why the call has a bad answer
  bad_why : (request : Request) (items : List Item) (now : DeskFacts) (point : AskPoint) (asked : AskFacts) (wish : Wish) (pages : ℕ) (why : Why) → IsWishOf request wish → HeardWhy request items now point asked →
      ask_at point ≡ alloc_of wish pages → (s : Space) → Sound s → (c : ℕ) (found : Option ℕ) → Bad why ≡ (after_grow s c found asked.ask asked.answer).reply →
      CauseIn desk request (items ++ Replied (Bad why) ∷ []) (BadAnswer (answered_span pages asked.answer) why)
  bad_why request items now point asked wish pages why wished heard is s sound c found replied =
      let ask : asked.ask ≡ alloc_of wish pages = heard.is ∙ is in
      let at = subst (λ a. Bad why ≡ (after_grow s c found a asked.answer).reply) ask replied in
      let bad = grow_bad s c found pages (max 512 wish.align) asked.answer why at in record {
        wish = wish;
        wished = wished;
        asked = asked;
        earlier = heard.earlier;
        told = ap (λ (xs : List Item). xs ++ Replied (Bad why) ∷ []) heard.told ∙ append_assoc heard.earlier (Told asked ∷ []) (Replied (Bad why) ∷ []);
        alloc = ask ∙ ap (alloc_of wish) (sym bad.0.pages_are);
        is_committed = bad.0.is_committed;
        zeroed = bad.0.zeroed;
        placed = bad.0.placed;
        found = found;
        space = s;
        sound = sound;
        against = bad.1;
      }

  -- what follows has its reasons still
  heard_more : (request : Request) (items earlier : List Item) (now : DeskFacts) (asked : AskFacts) (reply : Reply) (later : AfterFlight) → items ≡ earlier ++ Told asked ∷ [] → ThenWhy request earlier now later → ThenWhy request (items ++ Replied reply ∷ []) now later
  heard_more request items earlier now asked reply later told why =
      then_more request items now (Replied reply) later (subst (λ (xs : List Item). ThenWhy request xs now later) (sym told) (then_more request earlier now (Told asked) later why))

  told_why : (request : Request) (items : List Item) (now : DeskFacts) (c : ℕ) (point : AskPoint) (asked : AskFacts) (reply : Reply) → HeardWhy request items now point asked → Turned c point asked reply →
      NextWhy request (items ++ Replied reply ∷ []) (desk_told now point reply) (told point asked reply)
  told_why request items now c (Skipping wish span b skip) asked (Cut high) why came = trim_why request _ now wish high b (cut_had request items why.earlier asked wish span high b why.told why.why)
  told_why request items now c (Trimming wish span b) asked (Cut low) why came = commit_why request _ now wish low b (cut_had request items why.earlier asked wish span low b why.told why.why)
  told_why request items now c (SplittingGrown wish span b) asked (Cut low) why came = commit_why request _ now wish low b (cut_had request items why.earlier asked wish span low b why.told why.why)
  told_why request items now c (Growing wish chunks) asked replies.Refused why came =
      (why.why.0, fits_more items (Replied replies.Refused) (subst NothingFits (sym why.told) (fits_more why.earlier (Told asked) why.why.1)))
  told_why request items now c (Growing wish chunks) asked (Bad reason) why (s, sound, found, replied) = bad_why request items now (Growing wish chunks) asked wish (chunks * 512) reason why.why.0 why refl s sound c found replied
  told_why request items now c (Growing wish chunks) asked (Grown span b) why came = (why.why.0, extent_next items (Replied (Grown span b)) (extent_of items) refl)
  told_why request items now c (GrowingExactly wish) asked replies.Refused why (s, sound, found, replied) =
      refused_why request items now (GrowingExactly wish) asked wish replies.Refused why.why.0 why
      (grow_refused s c found (whole_chunks wish.pages) (max 512 wish.align) asked.answer (subst (λ a. replies.Refused ≡ (after_grow s c found a asked.answer).reply) why.is replied)) (refl, refl, why.why.1)
  told_why request items now c (GrowingExactly wish) asked (Bad reason) why (s, sound, found, replied) = bad_why request items now (GrowingExactly wish) asked wish (whole_chunks wish.pages) reason why.why.0 why refl s sound c found replied
  told_why request items now c (GrowingExactly wish) asked (Grown span b) why (s, sound, found, replied) =
      let had : Had request (items ++ Replied (Grown span b) ∷ []) wish span b = (why.why.0, extent_next items (Replied (Grown span b)) (extent_of items) refl) in
      let placed = grow_grown s c found (whole_chunks wish.pages) (max 512 wish.align) asked.answer span b (subst (λ a. Grown span b ≡ (after_grow s c found a asked.answer).reply) why.is replied) in
      cond_both (nat_lt wish.pages span.pages) _ _ (NextWhy request _ now)
      (λ h. (had, record { asked = asked; told = asked_in request items now (GrowingExactly wish) asked (Grown span b) why; exact = why.is; is_committed = b; zeroed = placed.0; placed = placed.1; replied = last_in items (Replied (Grown span b)); more = ltb-true _ _ h }))
      (λ h. commit_why request _ now wish span b had)
  told_why request items now c (SplittingExact wish span b) asked (Cut low) why came = commit_why request _ now wish low b (cut_had request items why.earlier asked wish span low b why.told why.why.0)
  told_why request items now c (SplittingExact wish span b) asked Whole why (s, sound, found, replied) =
      refused_why request items now (SplittingExact wish span b) asked wish Whole why.why.0.0 why
      (cut_whole s c true span wish.pages asked.answer (subst (λ a. Whole ≡ (after_cut s c true a asked.answer).reply) why.is replied)) (refl, why.why.1)
  told_why request items now c (Committing wish span) asked Whole why (s, sound, found, replied) =
      refused_why request items now (Committing wish span) asked wish Whole why.why.0 why
      (commit_whole s c span asked.answer (subst (λ a. Whole ≡ (after_commit s c a asked.answer).reply) why.is replied)) why.why.1
  told_why request items now c (Cutting resize) asked (Cut high) why came = reclassed_why request _ now resize why.why
  told_why request items now c (Cutting resize) asked Whole why came = why.why.0
  told_why request items now c (Extending resize) asked replies.Refused why came = why.why.0
  told_why request items now c (Extending resize) asked (Bad reason) why came = why.why.0
  told_why request items now c (Extending resize) asked (Grown span b) why came = extend_why request _ now resize span b why.why
  told_why request items now c (Sparing resize span true) asked (Cut low) why came = why.why
  told_why request items now c (Sparing resize span false) asked (Cut low) why came = why.why
  told_why request items now c (Sparing resize span b) asked Whole why came = why.why.0
  told_why request items now c (Backing resize span) asked Noted why came = why.why
  told_why request items now c (Backing resize span) asked Whole why came = why.why.0
  told_why request items now c (Joining resize span) asked (Landed first count) why came = reclassed_why request _ now resize why.why
  told_why request items now c (Joining resize span) asked Whole why came = why.why.0
  told_why request items now c point asked NoArena why came = tt
  told_why request items now c point asked reply why came =
      let more = λ (later : AfterFlight). heard_more request items why.earlier now asked reply later why.told in
      first_of (search (rules, put_why, whole_fits), grind (arith, nat_tests))

  -- ---- the fold

  cached_why : (request : Request) (items : List Item) (now : DeskFacts) (class : ℕ) (region : Held) → hit class now ≡ Some region → MoveWhy request now class → EndWhy request items (desk_moved class (Some region) now)
  cached_why (Realloc at size) items now class region e why =
      let gains = gaining_gains (record region { class = class }) (hitting class now) in
      let hits : hit class desk ≡ Some region = sym why.1 ∙ e in grind arith
  cached_why request items now class region e why = grind arith

  other_why : (request : Request) (items : List Item) (now : DeskFacts) (class count : ℕ) → MoveWhy request now class → NextWhy request items now (get true class 1 count)
  other_why request items now class count why = grind (arith, nat_tests)

  done_why : (request : Request) (items : List Item) (now : DeskFacts) (gained : Option Held) → gives request now ≡ gained → EndWhy request items now → GivenCause desk request items (given gained)
  done_why request items now gained e why = subst (λ o. GivenCause desk request items (given o)) e why

  pub settles_why : (request : Request) (items : List Item) → Settles request (NextWhy request items)
  settles_why request items = record {
    over = λ now index point why. why;
    gone = λ now arena why. inr why;
    batch = λ now addrs why. why;
    done = λ now e why. done_why request items now None e why;
    given = λ now region e why. done_why request items now (Some region) e why;
    cached = λ now class region e why. cached_why request items now class region e why;
    other = λ now class why. other_why request items now class (share class now) why;
  }

  starved_why : (request : Request) (items : List Item) (now : DeskFacts) (v : Bool) → NextWhy request (items ++ Starved ∷ []) now (starved v)
  starved_why request items now v = grind (arith, last_in)

  pub step_why : (request : Request) (items : List Item) (now : DeskFacts) (arena c : ℕ) (point : Point) (item : Item) → PointWhy request items now point → Came c (Go point) item →
      NextWhy request (items ++ item ∷ []) (desk_fed now arena (Go point) item) (step point item)
  step_why request items now arena c (Turns point) (Replied reply) why came = turned_why request items now arena point reply why
  step_why request items now arena c (Turns point) Starved why came = starved_why request items now (is_marked (op_at point))
  step_why request items now arena c (Asks point None) (Told asked) why (s, t, sound, (is, kind, same)) = record { earlier = items; told = refl; why = why; is = is }
  step_why request items now arena c (Asks point (Some asked)) (Replied reply) why (s, t, sound, (found, left, replied)) = told_why request items now c point asked reply why (s, sound, found, replied)
  step_why request items now arena c point item why came = grind arith

  next_why : (request : Request) (c : ℕ) (past : List Item) (now : DeskFacts) (arena : ℕ) (next : Next) (item : Item) → NextWhy request past now next → Came c next item →
      NextWhy request (past ++ item ∷ []) (desk_fed now arena next item) (step_next next item)
  next_why request c past now arena (Go point) item why came = step_why request past now arena c point item why came
  next_why request c past now arena next item why came = absurd came

  -- ---- where a request begins

  begun_why : (request : Request) (now : DeskFacts) (class align : ℕ) (found : Option Held) → ((count : ℕ) → IsWishOf request (wish_for false class align count)) →
      ((region : Held) → found ≡ Some region → RegionCause desk request [] region.addr class) → NextWhy request [] now (begin_get class align found desk).next
  begun_why request now class align found wished cause = grind (arith, nat_tests, wished, cause)

  malloc_why : (now : DeskFacts) (size : ℕ) → NextWhy (Malloc size) [] now (begin_malloc size desk).next
  malloc_why now size =
      cond_both (nat_lt (2 ^ 35) size) _ _ (λ (at : Stage). NextWhy (Malloc size) [] now at.next) (λ h. ltb-true _ _ h)
      (λ h. begun_why (Malloc size) now (class_for size) 1 (hit (class_for size) desk) (λ count. refl) (λ region e. (refl, inl (region, e, refl))))

  memalign_why : (now : DeskFacts) (align size : ℕ) → NextWhy (Memalign align size) [] now (begin_memalign align size desk).next
  memalign_why now align size =
      let class : ℕ = aligned_for size align in
      cond_both (not (is_alignment align)) _ _ (λ (at : Stage). NextWhy (Memalign align size) [] now at.next) (λ bad. failing_is_not align (not-true _ bad))
      (λ good. cond_both (nat_lt (2 ^ 35) size) _ _ (λ (at : Stage). NextWhy (Memalign align size) [] now at.next) (λ h. (passing_is align (not-false _ good), ltb-true _ _ h))
      (λ h. begun_why (Memalign align size) now class (page_align align) (small_hit class desk) (λ count. refl) (λ region e. (refl, inl (region, e, refl)))))

  free_why : (now : DeskFacts) (addr : ℕ) (held : Option Held) → held_at addr desk ≡ held → NextWhy (Free addr) [] now (begin_free addr held desk).next
  free_why now addr held e = grind arith

  publish_why : (now : DeskFacts) (addr : ℕ) (held : Option Held) → held_at addr desk ≡ held → NextWhy (Publish addr) [] now (begin_publish addr held).next
  publish_why now addr held e = grind arith

  -- ---- a realloc

  moved_why : (at size arena : ℕ) (now : DeskFacts) (class : ℕ) (found : Option Held) → hit class now ≡ found → MoveWhy (Realloc at size) now class →
      NextWhy (Realloc at size) [] (desk_moved class found now) (move_stage (Realloc at size) arena class found now).next
  moved_why at size arena now class found e why = move_keeps (Realloc at size) (NextWhy (Realloc at size) []) (settles_why (Realloc at size) []) now arena class found e why

  resized_why : (at size : ℕ) (region : Held) → held_at at desk ≡ Some region →
      NextWhy (Realloc at size) [] (desk_resized (class_for size) region (resizing at region desk)) (begin_resize (Realloc at size) (class_for size) region (resizing at region desk)).next
  resized_why at size region held =
      let now : DeskFacts = resizing at region desk in
      let class : ℕ = class_for size in
      both_cond (λ (d : DeskFacts) (at_it : Stage). NextWhy (Realloc at size) [] d at_it.next) (class == region.class) _ _ _ _
      (λ same. (sym (eqb-true _ _ same), inl (region, held, refl)))
      (λ _. both_cond (λ (d : DeskFacts) (at_it : Stage). NextWhy (Realloc at size) [] d at_it.next) (are_large class region.class) _ _ _ _
      (λ _. at_why class region now (((refl, refl), held)))
      (λ _. moved_why at size region.arena now class (hit class now) refl (refl, refl)))
    where
      at_why : (class : ℕ) (region : Held) (now : DeskFacts) → ResizeWhy (Realloc at size) now (resize_to class region) → NextWhy (Realloc at size) [] now (Go (Turns (resize_at class region)))
      at_why class region now why = cond_both (nat_lt class region.class) _ _ (λ point. NextWhy (Realloc at size) [] now (Go (Turns point))) (λ _. why) (λ _. why)

  realloc_why : (at size : ℕ) (held : Option Held) → held_at at desk ≡ held → NextWhy (Realloc at size) [] (desk_realloced at size held desk) (begin_realloc at size held desk).next
  realloc_why at size None e = (refl, e)
  realloc_why at size (Some region) e = both_cond (λ (d : DeskFacts) (at_it : Stage). NextWhy (Realloc at size) [] d at_it.next) (nat_lt (2 ^ 35) size) _ _ _ _ (λ h. ltb-true _ _ h) (λ _. resized_why at size region e)

  pub begin_why : (request : Request) → NextWhy request [] (begin_desk request desk) (begin_stage request desk).next
  begin_why (Realloc at size) = realloc_why at size (held_at at desk) refl
  begin_why request =
      let now : DeskFacts = begin_desk request desk in
      grind (arith, nat_tests, malloc_why now, memalign_why now, free_why now, publish_why now)

-- the cause of a request as it is carried out is that of the request
cause_of : (request : Request) (desk : DeskFacts) (items : List Item) (answer : Answered) → CauseIn (ready request desk) (meant request desk) items answer → CauseOf desk request items answer
cause_of request desk items (NoCache slot) cause = meant_slot request desk slot cause
cause_of request desk items (Ok given) cause = cause
cause_of request desk items (Refused asked) cause = cause
cause_of request desk items (BadAnswer span why) cause = cause
cause_of request desk items TooLarge cause = cause
cause_of request desk items BadAlign cause = cause
cause_of request desk items (NotHeld addr) cause = cause
cause_of request desk items (NoSuchArena index) cause = cause
cause_of request desk items (Busy others flights threads) cause = cause
cause_of request desk items NoMemory cause = cause
cause_of request desk items ArenasFull cause = cause
cause_of request desk items Automatic cause = cause
cause_of request desk items CachesFull cause = cause

pub answers-have_causes : AnswersHaveCauses
answers-have_causes c request had items answer came e =
    let asked : Request = meant request had in
    let desk : DeskFacts = ready request had in
    cause_of request had items answer (subst (NextWhy desk asked items (run (begin request had) items).desk) e
    (run_keeps (Came c) (AllCame c) (λ at item items came. came) asked (NextWhy desk asked) (λ past. (settles_why desk asked past, λ now other answer why. why)) (next_why desk asked c) items [] (begin request had) refl came
    (close_keeps (NextWhy desk asked []) (λ now other answer why. why) asked (begin_desk asked desk) (begin_stage asked desk).arena (begin_stage asked desk).next (begin_why desk asked))))
