-- The turn that a call wants leads on, with all that its client has.
use Rattle.sits.proofs.Words.{[], rules, ◌≡◌, ◌≢◌, ◌⊎◌, inl, inr, ℕ, ◌<◌, true, false, cond_both, List, ◌∷◌, Option, None, Some, slice_set, refl, sym, ◌∙◌, ap, subst, arith, count_by, Set, is_live, stands, step_of, Stepped, gave, Request, Item, Replied, Told, Starved, NoMemory, Change, Stops, Visits, Leaves, TurnPoint, Filling, Landing, Giving, Changing, Making, Owning, AskPoint, Skipping, Point, Turns, Asks, Next, Go, Op, Reply, Landed, NextFlight, Regions, Owned, Setting, Unbind, Bind, MakeLive, Space, Mine, mine, AskFacts, Held, DeskFacts, freeing, CallFacts, desk_fed, desk_turned, landed_behind, held_region, Idle, KnowsTurn, is_of_arena, after, moved, stage, step_next, WantTurn, WantAsk, done_at, is_marked, op_at, starved, step, want, record_after, record_at, reply_in, WaitsNext, mine_in, Record, AsksSit, Comes, HasRegions, IsSeated, Sits, SitsAt, StarvesSit, Suits, SuitsChange, SuitsTurn, TurnsSit, is_region, never_starves, is_in, Bool, with_found, AreApart, AreArenas, after_found, CanTake, OwnSits, Cutting, Joining, Resize, KnowsAsk, Heard, SuitsAsk, SuitsResize, desk_told, ask_at, reclassing, gaining, freed_with, empty_handed, taking_place, sharing, Wish}
use Rattle.space_model.specs.Resizing.{after_join, after_trim_done}
use Rattle.sits.proofs.Carrying.{carries}
use Rattle.sits.proofs.Resizes.{Resized, cut_resized, hands_reclass, join_resized}
use Rattle.sits.proofs.Clients.{asks-lead_on, found_is, idle_still, turns-lead_on, waits_still}
use Rattle.sits.proofs.Counting.{shifts}
use Rattle.sits.proofs.Indexes.{at_or_else, elsewhere_is, there_is}
use Rattle.sits.proofs.Having.{cache_arena, reclass_arena, reclass_shaped, share_stays}
use Rattle.sits.proofs.Regions.{BindsNobody, IsSteady, added_in, bind_keeps, count_at, op_bound, op_regions, set_bound}
use Rattle.sits.proofs.Settling.{Owns, comes_on, count_in, ends_rest, has_owns, single_in}
use Rattle.sits.proofs.Suiting.{Suited, came, told_suits, turned_suits}

-- ---- the arena from which the client allocates

gave_arena : (arena : ℕ) (desk : DeskFacts) → (gave arena desk).arena ≡ desk.arena
gave_arena arena desk = grind arith

free_arena : (r : Held) (desk : DeskFacts) → (freeing r desk).arena ≡ desk.arena
free_arena r desk = grind (arith, cache_arena)

gain_arena : (r : Held) (desk : DeskFacts) → (gaining r desk).arena ≡ desk.arena
gain_arena r desk = by desk.hand
  where
    by : (hand : Option Held) → (freed_with hand (record desk { gained = Some r })).arena ≡ desk.arena
    by None = refl
    by (Some old) = free_arena old (empty_handed (record desk { gained = Some r }))

place_arena : (wish : Wish) (r : Held) (desk : DeskFacts) → (taking_place wish r desk).arena ≡ desk.arena
place_arena wish r desk = grind (arith, gain_arena)

-- the client allocates from the same arena after a turn that changes no setting
pub turned_arena : (desk : DeskFacts) (arena : ℕ) (point : TurnPoint) (reply : Reply) → ((setting : Setting) (change : Change) → point ≡ Changing setting change → ⊥) → (desk_turned desk arena point reply).arena ≡ desk.arena
turned_arena desk arena (Filling wish count) (Regions (addr ∷ others)) else = place_arena wish (held_region arena wish.class addr) (sharing arena wish.class others desk) ∙ (share_stays arena wish.class others desk).1
turned_arena desk arena (Landing wish span) (Landed first count) else =
    place_arena wish (held_region arena wish.class first) (sharing arena wish.class (landed_behind first wish.class count) desk) ∙ (share_stays arena wish.class (landed_behind first wish.class count) desk).1
turned_arena desk arena (Giving addrs) (NextFlight next) else = gave_arena arena desk
turned_arena desk arena (Changing setting change) reply else = absurd (else setting change refl)
turned_arena desk arena (Owning addr true past) (Owned class) else = free_arena (held_region arena class addr) desk
turned_arena desk arena point reply else = grind arith

-- The client is bound to the arena from which it allocates then: to the one that it had, or to that of the turn.
abbrev pub BindsTo : DeskFacts → DeskFacts → ℕ → ℕ → Space → Type 0
BindsTo desk after arena c t = ((after.arena ≡ desk.arena) × (desk.arena ≡ arena → is_in c t.bound ≡ true)) ⊎ ((after.arena ≡ arena) × (is_in c t.bound ≡ true))

module _ (s : Space) (c arena : ℕ) (desk : DeskFacts) (request : Request) (was : desk.arena ≡ arena → is_in c s.bound ≡ true) where
  abbrev pub Binds : TurnPoint → Stepped → Type 0
  Binds point step = BindsTo desk (desk_turned desk arena point step.reply) arena c step.after

  same_bound : (point : TurnPoint) → ((setting : Setting) (change : Change) → point ≡ Changing setting change → ⊥) → (step_of s c (op_at point)).after.bound ≡ s.bound → Binds point (step_of s c (op_at point))
  same_bound point else same = inl (turned_arena desk arena point (step_of s c (op_at point)).reply else, λ home. ap (is_in c) same ∙ was home)

  change_binds : (setting : Setting) (change : Change) → SuitsChange desk arena setting change → Binds (Changing setting change) (step_of s c (Set setting))
  change_binds Bind (Leaves old) suits =
      cond_both (is_live s.life) _ _ (Binds (Changing Bind (Leaves old))) (λ _. inr (refl, added_in c s.bound)) (λ _. inl (refl, was))
  change_binds Bind change suits = inl (refl, λ home. bind_keeps s c (was home))
  change_binds Unbind Stops suits = inl (refl, λ home. absurd (suits (sym home)))
  change_binds Unbind (Visits visit) suits = inl (refl, λ home. absurd (suits (sym home)))
  change_binds setting (Leaves old) suits = absurd suits
  change_binds setting change suits = inl (refl, λ home. ap (is_in c) (set_bound s c setting tt) ∙ was home)

  -- a setting that makes an arena binds nobody
  make_bound : (setting : Setting) → is_of_arena setting ≡ false → (step_of s c (Set setting)).after.bound ≡ s.bound
  make_bound (MakeLive box_no dirty_ms muzzy_ms now) e = set_bound s c (MakeLive box_no dirty_ms muzzy_ms now) tt
  make_bound setting e = absurd (cc)

  pub binds : (point : TurnPoint) → KnowsTurn (mine c s) point → SuitsTurn desk request arena point → Binds point (step_of s c (op_at point))
  binds (Changing setting change) knows suits = change_binds setting change suits.1
  binds (Making index setting) knows suits = same_bound (Making index setting) (λ x y e. cc) (make_bound setting knows.2)
  binds point knows suits = same_bound point (λ x y e. cc) (op_bound s c (op_at point) tt)

-- ---- what a client has after its turn

-- the operation of a point enters a journal as it is
settled_of : (found : Option ℕ) (point : TurnPoint) → with_found found (op_at point) ≡ op_at point
settled_of found point = grind arith

-- an answer that is taken in moves no region, and binds nobody
-- the answer is to no split or merge of a region's extent
abbrev IsSteadyAsk : AskPoint → Type 0
IsSteadyAsk (Cutting resize) = ⊥
IsSteadyAsk (Joining resize span) = ⊥
IsSteadyAsk point = Unit {0}

steady_done : (found : Option ℕ) (point : AskPoint) (asked : AskFacts) → IsSteadyAsk point → IsSteady (with_found found (done_at point asked))
steady_done found (Skipping wish span b skip) asked is = tt
steady_done found (Cutting resize) asked is = absurd is
steady_done found (Joining resize span) asked is = absurd is
steady_done found point asked is = tt

binds_nobody : (found : Option ℕ) (point : AskPoint) (asked : AskFacts) → BindsNobody (with_found found (done_at point asked))
binds_nobody found (Skipping wish span b skip) asked = tt
binds_nobody found point asked = tt

module _ {together : Bool} (records : List Record) (c arena : ℕ) (desk : DeskFacts) (request : Request) (asked : Option AskFacts) (is : AreArenas together records) (there : arena < 32) (owns : Owns together records c [] desk) where
  abbrev pub s : Space
  s = (record_at records arena).space

  -- the arena after an operation, and all arenas
  abbrev pub new : Op → Record
  new op = record_after (record_at records arena) c op asked

  abbrev pub all_after : Op → List Record
  all_after op = slice_set records arena (new op)

  pub count_here : (op : Op) (a k : ℕ) → count_in (all_after op) c arena a k ≡ count_at c a k (step_of s c op).after.regions
  count_here op a k = ap (λ (r : Record). count_by (is_region a k) (mine c r.space).regions) (there_is records arena (new op) is.number there)

  pub count_else : (op : Op) (i a k : ℕ) → i ≢ arena → count_in (all_after op) c i a k ≡ count_in records c i a k
  count_else op i a k differ = ap (λ (r : Record). count_by (is_region a k) (mine c r.space).regions) (elsewhere_is records arena i (new op) differ)

  pub bound_here : (op : Op) → (mine_in (all_after op) c arena).bound ≡ is_in c (step_of s c op).after.bound
  bound_here op = ap (λ (r : Record). is_in c r.space.bound) (there_is records arena (new op) is.number there)

  bound_else : (op : Op) (i : ℕ) → i ≢ arena → (mine_in (all_after op) c i).bound ≡ (mine_in records c i).bound
  bound_else op i differ = ap (λ (r : Record). is_in c r.space.bound) (elsewhere_is records arena i (new op) differ)

  pub was_bound : desk.arena ≡ arena → is_in c s.bound ≡ true
  was_bound home = subst (λ n. (mine_in records c n).bound ≡ true) home owns.bound

  -- the client is bound to the arena from which it allocates then
  pub still_bound : (op : Op) (after : DeskFacts) → BindsTo desk after arena c (step_of s c op).after → (after.arena < 32) × ((mine_in (all_after op) c after.arena).bound ≡ true)
  still_bound op after (inr (home, so)) = (omega (arith, home, there), subst (λ n. (mine_in (all_after op) c n).bound ≡ true) (sym home) (bound_here op ∙ so))
  still_bound op after (inl (same, so)) = (
    omega (arith, same, owns.low),
    subst (λ n. (mine_in (all_after op) c n).bound ≡ true) (sym same)
        (at_or_else (λ n. (mine_in (all_after op) c n).bound ≡ true) desk.arena arena (λ home. bound_here op ∙ so home) (λ differ. bound_else op desk.arena differ ∙ owns.bound)),
  )

  pub turn_owns : (point : TurnPoint) → KnowsTurn (mine c s) point → SuitsTurn desk request arena point →
      Owns together (all_after (op_at point)) c (came arena point (step_of s c (op_at point)).reply) (desk_turned desk arena point (step_of s c (op_at point)).reply)
  turn_owns point knows suits =
      let op : Op = op_at point in
      let carried = carries together (count_in records c) (count_in (all_after op) c) c arena s desk request (is.sound arena there) (single_in records c is) owns.hands owns.shaped
      (λ a k. refl) (λ i a k differ. count_else op i a k differ) point knows suits (λ a k. count_here op a k) in
      let bound = still_bound op (desk_turned desk arena point (step_of s c op).reply) (binds s c arena desk request was_bound point knows suits) in record {
        hands = carried.hands;
        shaped = carried.shaped;
        low = bound.0;
        bound = bound.1;
      }

  -- where no region moves
  pub steady_owns : (op : Op) → (step_of s c op).after.regions ≡ s.regions → (step_of s c op).after.bound ≡ s.bound → Owns together (all_after op) c [] desk
  steady_owns op regions bound =
      let now = still_bound op desk (inl (refl, λ home. ap (is_in c) bound ∙ was_bound home)) in record {
        hands = λ i a k.
            let same = at_or_else (λ n. count_in (all_after op) c n a k ≡ count_in records c n a k) i arena (λ home. count_here op a k ∙ ap (count_at c a k) regions) (λ differ. count_else op i a k differ) in
            shifts (owns.hands i a k) (omega (arith, same));
        shaped = owns.shaped;
        low = owns.low;
        bound = now.1;
      }

  -- where a region of the client's may have taken another class
  pub resized_owns : (op : Op) (resize : Resize) (after : DeskFacts) → Resized c s desk resize (step_of s c op).after after → (step_of s c op).after.bound ≡ s.bound → SuitsResize desk arena resize →
      Owns together (all_after op) c [] after
  resized_owns op resize after (inl same) bound suits = subst (λ d. Owns together (all_after op) c [] d) (sym same.1) (steady_owns op same.0 bound)
  resized_owns op resize after (inr (class, large, regions, same)) bound suits =
      let now : DeskFacts = reclassing resize.class desk in
      let still = still_bound op now (inl (reclass_arena desk resize.class, λ home. ap (is_in c) bound ∙ was_bound home)) in
      subst (λ d. Owns together (all_after op) c [] d) (sym same) (record {
        hands = hands_reclass (count_in records c) (count_in (all_after op) c) c arena s (step_of s c op).after desk resize class large (is.sound arena there) (single_in records c is) owns.hands
            (λ a k. refl) (λ a k. count_here op a k) (λ i a k differ. count_else op i a k differ) regions suits;
        shaped = reclass_shaped desk resize.class owns.shaped;
        low = still.0;
        bound = still.1;
      })

  -- the turn that takes an answer in leaves the client with what it has
  pub told_owns : (found : Option ℕ) (point : AskPoint) (heard : AskFacts) → KnowsAsk (mine c s) point → Heard point (Some heard) → SuitsAsk desk arena point →
      Owns together (all_after (with_found found (done_at point heard))) c [] (desk_told desk point (step_of s c (with_found found (done_at point heard))).reply)
  told_owns found (Cutting resize) heard knows (ask, kind) suits =
      let op : Op = done_at (Cutting resize) heard in
      let at : step_of s c op ≡ after_trim_done s c resize.class (ask_at (Cutting resize)) heard.answer = ap (λ a. after_trim_done s c resize.class a heard.answer) ask in
      resized_owns op resize _ (cut_resized c s desk resize heard.answer (is.sound arena there) knows.3.0 kind (step_of s c op) at) (op_bound s c op tt) suits
  told_owns found (Joining resize span) heard knows (ask, kind) suits =
      let op : Op = done_at (Joining resize span) heard in
      let at : step_of s c op ≡ after_join s c resize.class (ask_at (Joining resize span)) heard.answer = ap (λ a. after_join s c resize.class a heard.answer) ask in
      resized_owns op resize _ (join_resized c s desk resize span heard.answer (is.sound arena there) knows.0.0 knows.1 kind (step_of s c op) at) (op_bound s c op tt) suits
  told_owns found (Skipping wish span b skip) heard knows so suits =
      let op : Op = with_found found (done_at (Skipping wish span b skip) heard) in steady_owns op (op_regions s c op tt) (op_bound s c op tt)
  told_owns found point heard knows so suits =
      let op : Op = with_found found (done_at point heard) in steady_owns op (op_regions s c op (steady_done found point heard tt)) (op_bound s c op (binds_nobody found point heard))

-- ---- the laws

module _ (together : Bool) (records : List Record) (c : ℕ) (desk : DeskFacts) (call : CallFacts) (found : Option ℕ) (op : Op) (asked : Option AskFacts) (is : AreArenas together records) where
  abbrev arena : ℕ
  arena = call.stage.arena

  abbrev done : Op
  done = with_found found op

  abbrev reply : Reply
  reply = (step_of (record_at records arena).space c done).reply

  abbrev rest : List Record
  rest = after_found records arena c found op asked

  -- where the call comes by the turn at a point, where no page is in two arenas then
  abbrev Turned : Point → Type 0
  Turned point = (together ≡ true → AreApart rest) → Comes together rest c (moved call.request (desk_fed desk arena (Go point) (Replied reply)) arena (step point (Replied reply)))

  turned_from : (point : Point) (extra : List Held) → Owns together rest c extra (desk_fed desk arena (Go point) (Replied reply)) → CanTake records c arena found op asked → arena < 32 →
      WaitsNext rest c arena (step point (Replied reply)) → Suited extra (desk_fed desk arena (Go point) (Replied reply)) call.request arena (step point (Replied reply)) → Turned point
  turned_from point extra owns can there waits suits apart =
      comes_on rest c arena call.request (desk_fed desk arena (Go point) (Replied reply)) extra (step point (Replied reply)) (found_is records arena c found op asked is there can.stands apart) owns waits suits

  turn_at : (point : Point) → Sits together records c desk call.request arena point → want point ≡ WantTurn op asked → CanTake records c arena found op asked →
      WaitsNext rest c arena (step point (Replied reply)) → Turned point
  turn_at (Turns point) sits wants can waits =
      let same : op_at point ≡ op = cc in
      let is_op : done ≡ op_at point = ap (with_found found) (sym same) ∙ settled_of found point in
      let owns = turn_owns records c arena desk call.request asked is sits.waits.there (has_owns records c desk sits.has) point sits.waits.knows sits.suits in
      turned_from (Turns point) (came arena point reply)
      (subst (λ (o : Op). Owns together (slice_set records arena (record_after (record_at records arena) c o asked)) c (came arena point (step_of (record_at records arena).space c o).reply)
      (desk_turned desk arena point (step_of (record_at records arena).space c o).reply)) (sym is_op) owns)
      can sits.waits.there waits (turned_suits desk call.request arena point reply sits.has.arena sits.suits)
  turn_at (Asks point (Some told_so)) sits wants can waits =
      let same : done_at point told_so ≡ op = cc in
      let is_op : done ≡ with_found found (done_at point told_so) = ap (with_found found) (sym same) in
      let owns = told_owns records c arena desk call.request asked is sits.waits.there (has_owns records c desk sits.has) found point told_so sits.waits.knows.0 sits.waits.knows.1 sits.suits in
      turned_from (Asks point (Some told_so)) []
      (subst (λ (o : Op). Owns together (slice_set records arena (record_after (record_at records arena) c o asked)) c [] (desk_told desk point (step_of (record_at records arena).space c o).reply)) (sym is_op) owns)
      can sits.waits.there waits (told_suits desk call.request arena point told_so reply sits.suits)
  turn_at point sits wants can waits = absurd (cc)

pub turns-sit : TurnsSit
turns-sit together records c desk call point found op asked is few at sits wants =
    let leads = turns-lead_on records c call.stage.arena point found op asked is few sits.waits wants in
    let turned = turn_at together records c desk call found op asked is point sits wants leads.0 leads.1 in
    let item : Item = Replied (reply_in records call.stage.arena c (with_found found op)) in (
      leads.0,
      λ apart. subst (λ next. Comes together (after_found records call.stage.arena c found op asked) c (moved call.request (desk_fed desk call.stage.arena next item) call.stage.arena (step_next next item))) (sym at) (turned apart),
    )

-- an answer to an ask leaves what the client has
ask_suits : (desk : DeskFacts) (request : Request) (arena : ℕ) (point : Point) (asked : AskFacts) → want point ≡ WantAsk asked.ask → Suits desk request arena point → Suited [] desk request arena (step point (Told asked))
ask_suits desk request arena point asked wants suits = grind arith

told_desk : (desk : DeskFacts) (index : ℕ) (point : Point) (asked : AskFacts) → desk_fed desk index (Go point) (Told asked) ≡ desk
told_desk desk index point asked = grind arith

pub asks-sit : AsksSit
asks-sit together records c desk call point asked is few at sits wants kind =
    let leads = asks-lead_on records c call.stage.arena point asked sits.waits wants kind in
    subst (λ next. Comes together records c (moved call.request (desk_fed desk call.stage.arena next (Told asked)) call.stage.arena (step_next next (Told asked)))) (sym at)
    (subst (λ d. Comes together records c (moved call.request d call.stage.arena (step point (Told asked)))) (sym (told_desk desk call.stage.arena point asked))
    (comes_on records c call.stage.arena call.request desk [] (step point (Told asked)) is (has_owns records c desk sits.has) leads (ask_suits desk call.request call.stage.arena point asked wants sits.suits)))

-- a turn that takes memory is wanted with nothing in flight
marked_idle : (records : List Record) (c arena : ℕ) (point : TurnPoint) → KnowsTurn (mine_in records c arena) point → is_marked (op_at point) ≡ true → Idle (mine_in records c arena)
marked_idle records c arena (Landing wish span) knows marked = absurd (cc)
marked_idle records c arena point knows marked = first_of (search rules, cc)

starve_at : (together : Bool) (records : List Record) (c : ℕ) (desk : DeskFacts) (call : CallFacts) (point : Point) (op : Op) (asked : Option AskFacts) → AreArenas together records →
    Sits together records c desk call.request call.stage.arena point → want point ≡ WantTurn op asked → is_marked op ≡ true →
    Comes together records c (moved call.request (desk_fed desk call.stage.arena (Go point) Starved) call.stage.arena (step point Starved))
starve_at together records c desk call (Turns point) op asked is sits wants marked =
    let same : op_at point ≡ op = cc in
    let takes : is_marked (op_at point) ≡ true = ap is_marked same ∙ marked in
    let idle = marked_idle records c call.stage.arena point sits.waits.knows takes in
    subst (λ v. Comes together records c (moved call.request desk call.stage.arena (starved v))) (sym takes)
    (tt, ends_rest records c call.stage.arena call.request desk [] NoMemory is (has_owns records c desk sits.has) (λ i. at_or_else (λ n. Idle (mine_in records c n)) i call.stage.arena (λ home. idle) (sits.waits.elsewhere i)) refl)
starve_at together records c desk call (Asks point (Some told_so)) op asked is sits wants marked =
    let same : done_at point told_so ≡ op = cc in
    let unmarked = never_starves point told_so in absurd (cc)
starve_at together records c desk call point op asked is sits wants marked = absurd (cc)

pub starves-sit : StarvesSit
starves-sit together records c desk call point op asked is few at sits wants marked =
    subst (λ next. Comes together records c (moved call.request (desk_fed desk call.stage.arena next Starved) call.stage.arena (step_next next Starved))) (sym at)
    (starve_at together records c desk call point op asked is sits wants marked)

-- ---- what others do meanwhile

pub own-sits : OwnSits
own-sits together records records' c seat mines rooms sound = by seat.call sound
  where
    has_still : (desk : DeskFacts) → HasRegions together records c desk → HasRegions together records' c desk
    has_still desk has = record {
      hands = λ i a k. shifts (has.hands i a k) (let same = ap (λ (m : Mine). count_by (is_region a k) m.regions) (mines i) in omega (arith, same));
      keyed = has.keyed;
      lists = has.lists;
      classed = has.classed;
      places = has.places;
      arena = has.arena;
      bound = ap (λ (m : Mine). m.bound) (mines desk.arena) ∙ has.bound;
    }

    sits_still : (call : CallFacts) (next : Next) → SitsAt together records c seat.desk call next → SitsAt together records' c seat.desk call next
    sits_still call (Go point) sits =
        record { has = has_still seat.desk sits.has; waits = waits_still records records' c call.stage.arena point mines rooms sits.waits; suits = sits.suits }
    sits_still call next sits = sits

    by : (call : Option CallFacts) → IsSeated together records c seat.desk call → IsSeated together records' c seat.desk call
    by None rests = record { has = has_still seat.desk rests.has; idle = idle_still records records' c mines rests.idle; empty = rests.empty; gained = rests.gained; own = rests.own }
    by (Some call) sits = (sits.0, sits_still call call.stage.next sits.1)
