-- What a turn of a play leaves as it was.
use Rattle.replay_run.proofs.Words.{◌≡◌, ◌⊎◌, ℕ, ◌<◌, Bool, true, false, inl, inr, List, Option, None, Some, IfSome, refl, sym, ◌∙◌, ap, subst, arith, nat_tests, nat_lt, both_true, Op, Reply, Span, Space, step_of, op_goes, Mine, mine_in, BadAnswer, NotHeld, NoSuchArena, AskFacts, DeskFacts, Answered, Replied, Request, AskPoint, Point, Turns, Asks, Tells, Next, Go, Ends, Skipping, Trimming, Growing, SplittingGrown, GrowingExactly, SplittingExact, Committing, CallFacts, Knows, ask_at, done_at, ended_by, desk_fed, settle, step, step_next, want, WantTurn, met_by_alloc, op_for, reply_in, record_at, spaces_of, HeapFacts, answered_by, holder_for, seat_at, sound_at, turns-sit, turn_line, turned_for, Tale, IsSound, IsWanted, Began, Turned, Told, Starved, Read, World, WorldEvent, after_event, Record, tale_at, Verb, beginning_in, begins, Beginning, WentOn}
use Rattle.std.specs.Prelude.{find}
use Rattle.space_model.specs.Outcome.{Outcome, PutDown, LookNoArena, CutKept, CutWhole, GrowRefused, GrowBad, GrowGrown, CommitNoted, CommitWhole, LandLanded, FillRegions, FillNothing, FillNoArena, AdvanceNoArena, PurgeNothing, PurgeNoArena, TakeNothing, TakeNoArena, ResetBusy, ResetNoArena, DestroyBusy, DestroyNoArena, CountsNoArena, SetNoted, SetNothing, SetNoArena, TrimCut, TrimWhole, WidenNothing}
use Rattle.space_model.specs.Clients.{without_client}
use Rattle.space_model.specs.Part.{is_flight_at}
use Rattle.space_model.specs.Step.{op_stands}
use Rattle.space_model.specs.declared.Ask.TheVariants.{Commit, Split}
use Rattle.space_model.specs.declared.Heard.{Heard}
use Rattle.space_model.specs.declared.Op.TheVariants.{Look, CutDone, GrowDone, CommitDone, Land, Fill, DestroyTake, Set, TrimDone}
use Rattle.space_model.specs.declared.Part.{Part}
use Rattle.space_model.specs.declared.Reply.TheVariants.{NoArena, Nothing, Noted, Bad}
use Rattle.space_model.specs.declared.Setting.{Setting}
use Rattle.hook_api.specs.Asked.{heard_in}
use Rattle.call_plan.specs.declared.needs.Answered.TheVariants.{ArenasFull, Busy}
use Rattle.call_plan.specs.declared.points.AskPoint.TheVariants.{Cutting, Extending, Sparing, Backing}
use Rattle.call_plan.specs.Table.{lacks}
use Rattle.sits.proofs.Indexes.{elsewhere_is, there_is}
use Rattle.recorded_arena.specs.Records.{record_after}
use Rattle.heap_core.specs.Sitting.{Sits}
use Rattle.replay_run.proofs.Getting.{PointGets}
use Rattle.replay_run.proofs.NewHeaps.{sits_there}
use Rattle.replay_run.proofs.Served.{Way, way_kept}
use Rattle.replay_run.proofs.Plays.{stepped_heap}
use Rattle.replay_run.proofs.Tales.{EndsHere, OfCall, each_event, line_heap, meant_in, seat_there}
use Rattle.replay_run.proofs.Ways.{Leads, bad_at, full_at, in_use_at, no_arena_reply, not_held_at}
use Rattle.replay_run.specs.World.{settled}
use Rattle.replay_run.specs.Leaving.{EventLeaves, EventsLeave, GivesRegions, IsCreate, IsFruitless, IsMalloc, Leaves, OwnTurnLeaves, RefusalLeaves}
use Rattle.space_model.specs.declared.Answer.TheVariants as answers
use Rattle.space_model.specs.declared.Reply.TheVariants as replies

-- ---- what a refusal leaves

module _ (c : ℕ) (s t : Space) where
  cut_leaves : (heard : Heard) (keep_low : Bool) (span : Span) (left : ℕ) (reply : Reply) → Outcome c s t (CutDone heard keep_low) reply → reply ≡ (step_of s c (CutDone heard keep_low)).reply →
      heard.ask ≡ Split span left → heard.answer ≡ answers.Refused → PutDown c s t span
  cut_leaves heard keep_low span left reply (CutKept of kept cut b asked flies is stays) told ask refuses = by (find (is_flight_at c span) s.parts) refl
    where
      by : (found : Option Part) → find (is_flight_at c span) s.parts ≡ found → PutDown c s t span
      by found is = absurd (grind (arith, told, ask, refuses))
  cut_leaves heard keep_low span left reply (CutWhole of cut asked down) told ask refuses =
      let same : of ≡ span = grind (arith, asked, ask) in subst (PutDown c s t) same down

  grow_leaves : (heard : Heard) (found : Option ℕ) (reply : Reply) → Outcome c s t (GrowDone heard found) reply → reply ≡ (step_of s c (GrowDone heard found)).reply → heard.answer ≡ answers.Refused → t ≡ s
  grow_leaves heard found reply (GrowRefused same) told refuses = same
  grow_leaves heard found reply (GrowBad why same) told refuses = same
  grow_leaves heard found reply (GrowGrown span b at align commit asked flies) told refuses = absurd (grind (arith, told, asked, refuses))

  commit_leaves : (heard : Heard) (span : Span) (reply : Reply) → Outcome c s t (CommitDone heard) reply → op_stands s c (CommitDone heard) ≡ true → reply ≡ (step_of s c (CommitDone heard)).reply → heard.ask ≡ Commit span → heard.answer ≡ answers.Refused → PutDown c s t span
  commit_leaves heard span reply (CommitNoted of asked flies) stands told ask refuses = by (find (is_flight_at c span) s.parts) refl
    where
      by : (found : Option Part) → find (is_flight_at c span) s.parts ≡ found → PutDown c s t span
      by found is = absurd (grind (arith, stands, told, ask, refuses))
  commit_leaves heard span reply (CommitWhole of asked down) stands told ask refuses =
      let same : of ≡ span = grind (arith, asked, ask) in subst (PutDown c s t) same down

  trim_leaves : (heard : Heard) (class : ℕ) (reply : Reply) → Outcome c s t (TrimDone heard class) reply → reply ≡ (step_of s c (TrimDone heard class)).reply → heard.answer ≡ answers.Refused →
      t ≡ record s { trims = without_client c s.trims }
  trim_leaves heard class reply (TrimWhole same) told refuses = same
  trim_leaves heard class reply (TrimCut span flies) told refuses = absurd (grind (arith, told, refuses))

-- ---- replies of turns that leave all as it was

abbrev IsIdle : Reply → Type 0
IsIdle NoArena = Unit {0}
IsIdle Nothing = Unit {0}
IsIdle (replies.Busy held flights threads) = Unit {0}
IsIdle (Bad why) = Unit {0}
IsIdle reply = ⊥

abbrev NoDoom : Op → Type 0
NoDoom DestroyTake = ⊥
NoDoom op = Unit {0}

idle_same : (c : ℕ) (s t : Space) (op : Op) (reply : Reply) → Outcome c s t op reply → IsIdle reply → NoDoom op → t ≡ s
idle_same c s t op reply (LookNoArena dead same) idle plain = same
idle_same c s t op reply (GrowBad why same) idle plain = same
idle_same c s t op reply (FillNothing same) idle plain = same
idle_same c s t op reply (FillNoArena dead same) idle plain = same
idle_same c s t op reply (AdvanceNoArena dead same) idle plain = same
idle_same c s t op reply (PurgeNothing same) idle plain = same
idle_same c s t op reply (PurgeNoArena dead same) idle plain = same
idle_same c s t op reply (TakeNothing same) idle plain = same
idle_same c s t op reply (TakeNoArena dead same) idle plain = same
idle_same c s t op reply (ResetBusy held flights threads same) idle plain = same
idle_same c s t op reply (ResetNoArena dead same) idle plain = same
idle_same c s t op reply (DestroyBusy held flights threads same) idle plain = same
idle_same c s t op reply (DestroyNoArena dead same) idle plain = same
idle_same c s t op reply (CountsNoArena dead same) idle plain = same
idle_same c s t op reply (SetNothing same) idle plain = same
idle_same c s t op reply (SetNoArena dead same) idle plain = same
idle_same c s t op reply (WidenNothing same) idle plain = same
idle_same c s t op reply other idle plain = absurd (grind (arith, idle, plain))

-- ---- turns of a malloc and of a create

look_regions : (s : Space) (c pages align : ℕ) → (step_of s c (Look pages align)).after.regions ≡ s.regions
look_regions s c pages align = grind arith

cut_regions : (s : Space) (c : ℕ) (heard : Heard) (keep_low : Bool) → (step_of s c (CutDone heard keep_low)).after.regions ≡ s.regions
cut_regions s c heard keep_low = grind arith

grow_regions : (s : Space) (c : ℕ) (heard : Heard) (found : Option ℕ) → (step_of s c (GrowDone heard found)).after.regions ≡ s.regions
grow_regions s c heard found = grind arith

commit_regions : (s : Space) (c : ℕ) (heard : Heard) → (step_of s c (CommitDone heard)).after.regions ≡ s.regions
commit_regions s c heard = grind arith

fill_regions : (c : ℕ) (s t : Space) (class count : ℕ) (reply : Reply) → Outcome c s t (Fill class count) reply → GivesRegions reply ⊎ (t.regions ≡ s.regions)
fill_regions c s t class count reply (FillRegions addrs held) = inl tt
fill_regions c s t class count reply (FillNothing same) = inr (ap (λ (x : Space). x.regions) same)
fill_regions c s t class count reply (FillNoArena dead same) = inr (ap (λ (x : Space). x.regions) same)

land_regions : (c : ℕ) (s t : Space) (span : Span) (class count : ℕ) (reply : Reply) → Outcome c s t (Land span class count) reply → GivesRegions reply
land_regions c s t span class count reply (LandLanded addr at held) = tt

set_leaves : (c : ℕ) (s t : Space) (setting : Setting) (reply : Reply) → Outcome c s t (Set setting) reply → (reply ≡ Noted) ⊎ (t ≡ s)
set_leaves c s t setting reply (SetNoted) = inl refl
set_leaves c s t setting reply (SetNothing same) = inr same
set_leaves c s t setting reply (SetNoArena dead same) = inr same

-- ---- a turn

-- a turn is made for a call that waits at a point: it goes as it may, and is replied so
record Made (w : World) (c : ℕ) (call : CallFacts) (op : Op) (asked : Option AskFacts) (point : Point) (s t : Space) (reply : Reply) : Type 0 where
  wants : want point ≡ WantTurn op asked
  hears : (place : AskPoint) (heard : AskFacts) → point ≡ Asks place (Some heard) → heard.ask ≡ ask_at place
  stands : op_stands s c (op_for w.heap call op) ≡ true
  goes : Outcome c s t (op_for w.heap call op) reply
  told : reply ≡ (step_of s c (op_for w.heap call op)).reply
  after : t ≡ (step_of s c (op_for w.heap call op)).after
  leads : Leads call.request (Go point)

-- an ask of the kinds of a malloc was refused
place_leaves : (w : World) (c : ℕ) (call : CallFacts) (place : AskPoint) (heard : AskFacts) (s t : Space) (reply : Reply) → op_stands s c (op_for w.heap call (done_at place heard)) ≡ true → Outcome c s t (op_for w.heap call (done_at place heard)) reply →
    reply ≡ (step_of s c (op_for w.heap call (done_at place heard))).reply → heard.ask ≡ ask_at place → heard.answer ≡ answers.Refused → RefusalLeaves c (done_at place heard) s t (ask_at place)
place_leaves w c call (Skipping wish span b skip) heard s t reply stands goes told is refuses = cut_leaves c s t (heard_in heard) false span skip reply goes told is refuses
place_leaves w c call (Trimming wish span b) heard s t reply stands goes told is refuses = cut_leaves c s t (heard_in heard) true span wish.pages reply goes told is refuses
place_leaves w c call (SplittingGrown wish span b) heard s t reply stands goes told is refuses = cut_leaves c s t (heard_in heard) true span wish.pages reply goes told is refuses
place_leaves w c call (SplittingExact wish span b) heard s t reply stands goes told is refuses = cut_leaves c s t (heard_in heard) true span wish.pages reply goes told is refuses
place_leaves w c call (Growing wish chunks) heard s t reply stands goes told is refuses = grow_leaves c s t (heard_in heard) (met_by_alloc (spaces_of w.heap.records) heard.ask heard.answer) reply goes told refuses
place_leaves w c call (GrowingExactly wish) heard s t reply stands goes told is refuses = grow_leaves c s t (heard_in heard) (met_by_alloc (spaces_of w.heap.records) heard.ask heard.answer) reply goes told refuses
place_leaves w c call (Committing wish span) heard s t reply stands goes told is refuses = commit_leaves c s t (heard_in heard) span reply goes stands told is refuses
place_leaves w c call (Cutting resize) heard s t reply stands goes told is refuses = trim_leaves c s t (heard_in heard) resize.class reply goes told refuses
place_leaves w c call (Extending resize) heard s t reply stands goes told is refuses = grow_leaves c s t (heard_in heard) (met_by_alloc (spaces_of w.heap.records) heard.ask heard.answer) reply goes told refuses
place_leaves w c call (Sparing resize span b) heard s t reply stands goes told is refuses = cut_leaves c s t (heard_in heard) true span (lacks resize) reply goes told is refuses
place_leaves w c call (Backing resize span) heard s t reply stands goes told is refuses = commit_leaves c s t (heard_in heard) span reply goes stands told is refuses
place_leaves w c call place heard s t reply stands goes told is refuses = tt

refused_leaves : (w : World) (c : ℕ) (call : CallFacts) (op : Op) (asked : Option AskFacts) (point : Point) (s t : Space) (reply : Reply) → Made w c call op asked point s t reply →
    (heard : AskFacts) → asked ≡ Some heard → heard.answer ≡ answers.Refused → RefusalLeaves c op s t heard.ask
refused_leaves w c call op asked (Asks place (Some before)) s t reply made heard is refuses =
    let same : before ≡ heard = cc in
    let same_op : done_at place before ≡ op = cc in
    let asks : before.ask ≡ ask_at place = made.hears place before refl in
    let refused : before.answer ≡ answers.Refused = subst (λ (a : AskFacts). a.answer ≡ answers.Refused) (sym same) refuses in
    let goes : Outcome c s t (op_for w.heap call (done_at place before)) reply = subst (λ (o : Op). Outcome c s t (op_for w.heap call o) reply) (sym same_op) made.goes in
    let stands : op_stands s c (op_for w.heap call (done_at place before)) ≡ true = subst (λ (o : Op). op_stands s c (op_for w.heap call o) ≡ true) (sym same_op) made.stands in
    let told : reply ≡ (step_of s c (op_for w.heap call (done_at place before))).reply = subst (λ (o : Op). reply ≡ (step_of s c (op_for w.heap call o)).reply) (sym same_op) made.told in
    subst (λ (o : Op). RefusalLeaves c o s t heard.ask) same_op
    (subst (λ (a : AskFacts). RefusalLeaves c (done_at place before) s t a.ask) same
    (subst (RefusalLeaves c (done_at place before) s t) (sym asks) (place_leaves w c call place before s t reply stands goes told asks refused)))
refused_leaves w c call op asked (Turns point) s t reply made heard is refuses = absurd (let none : None ≡ asked = cc in cc)
refused_leaves w c call op asked (Asks place None) s t reply made heard is refuses = absurd (cc)
refused_leaves w c call op asked (Tells span b) s t reply made heard is refuses = absurd (cc)

-- the regions that a malloc leaves
malloc_at : (w : World) (c : ℕ) (call : CallFacts) (op : Op) (asked : Option AskFacts) (point : Point) (s t : Space) (reply : Reply) → PointGets point → want point ≡ WantTurn op asked →
    Outcome c s t (op_for w.heap call op) reply → t ≡ (step_of s c (op_for w.heap call op)).after → GivesRegions reply ⊎ (t.regions ≡ s.regions)
malloc_at w c call (Fill class count) asked point s t reply gets wants goes after = fill_regions c s t class count reply goes
malloc_at w c call (Look pages align) asked point s t reply gets wants goes after = inr (ap (λ (x : Space). x.regions) after ∙ look_regions s c pages align)
malloc_at w c call (Land span class count) asked point s t reply gets wants goes after = inl (land_regions c s t span class count reply goes)
malloc_at w c call (CutDone heard keep_low) asked point s t reply gets wants goes after = inr (ap (λ (x : Space). x.regions) after ∙ cut_regions s c heard keep_low)
malloc_at w c call (GrowDone heard found) asked point s t reply gets wants goes after =
    inr (ap (λ (x : Space). x.regions) after ∙ grow_regions s c heard (met_by_alloc (spaces_of w.heap.records) heard.ask heard.answer))
malloc_at w c call (CommitDone heard) asked point s t reply gets wants goes after = inr (ap (λ (x : Space). x.regions) after ∙ commit_regions s c heard)
malloc_at w c call op asked point s t reply gets wants goes after = absurd (grind (arith, gets, wants))

malloc_leaves : (w : World) (c : ℕ) (call : CallFacts) (op : Op) (asked : Option AskFacts) (point : Point) (s t : Space) (reply : Reply) (request : Request) → Leads request (Go point) → want point ≡ WantTurn op asked →
    Outcome c s t (op_for w.heap call op) reply → t ≡ (step_of s c (op_for w.heap call op)).after → IsMalloc request → GivesRegions reply ⊎ (t.regions ≡ s.regions)
malloc_leaves w c call op asked point s t reply request leads wants goes after malloc =
    let gets : PointGets point = grind (arith, leads, malloc) in malloc_at w c call op asked point s t reply gets wants goes after

create_leaves : (w : World) (c : ℕ) (call : CallFacts) (op : Op) (asked : Option AskFacts) (point : Point) (s t : Space) (reply : Reply) (request : Request) → Leads request (Go point) → want point ≡ WantTurn op asked →
    Outcome c s t (op_for w.heap call op) reply → IsCreate request → (reply ≡ Noted) ⊎ (t ≡ s)
create_leaves w c call (Set setting) asked point s t reply request leads wants goes create = set_leaves c s t setting reply goes
create_leaves w c call op asked point s t reply request leads wants goes create = absurd (grind (arith, leads, wants, create))

-- an answer that nothing could be done comes of a reply that leaves all as it was
fruitless_idle : (of : Request) (desk : DeskFacts) (arena : ℕ) (point : Point) (reply : Reply) (answer : Answered) → (settle of desk arena (step point (Replied reply))).next ≡ Ends answer → IsFruitless answer → IsIdle reply
fruitless_idle of desk arena point reply (NotHeld addr) ends fruitless = subst IsIdle (sym (not_held_at of desk arena addr point reply ends).0) tt
fruitless_idle of desk arena point reply (NoSuchArena index) ends fruitless = subst IsIdle (sym (no_arena_reply of desk arena index point reply ends)) tt
fruitless_idle of desk arena point reply (Busy held flights threads) ends fruitless = subst IsIdle (sym (in_use_at of desk arena held flights threads point reply ends).0) tt
fruitless_idle of desk arena point reply (BadAnswer span why) ends fruitless = subst IsIdle (sym (bad_at of desk arena span why point reply ends)) tt
fruitless_idle of desk arena point reply ArenasFull ends fruitless = subst IsIdle (sym (full_at of desk arena point reply ends).0) tt
fruitless_idle of desk arena point reply answer ends fruitless = absurd fruitless

fruitless_plain : (w : World) (call : CallFacts) (of : Request) (desk : DeskFacts) (arena : ℕ) (point : Point) (op : Op) (asked : Option AskFacts) (reply : Reply) (answer : Answered) → want point ≡ WantTurn op asked →
    (settle of desk arena (step point (Replied reply))).next ≡ Ends answer → IsFruitless answer → NoDoom (op_for w.heap call op)
fruitless_plain w call of desk arena point op asked reply answer wants ends fruitless = grind (arith, nat_tests, fruitless, wants)

fruitless_leaves : (w : World) (c : ℕ) (call : CallFacts) (op : Op) (asked : Option AskFacts) (desk : DeskFacts) (point : Point) (s t : Space) (reply : Reply) → want point ≡ WantTurn op asked →
    Outcome c s t (op_for w.heap call op) reply → IfSome (ended_by (settle call.request desk call.stage.arena (step point (Replied reply))).next) (λ given. IsFruitless given → t ≡ s)
fruitless_leaves w c call op asked desk point s t reply wants goes = by (settle call.request desk call.stage.arena (step point (Replied reply))).next refl
  where
    by : (next : Next) → (settle call.request desk call.stage.arena (step point (Replied reply))).next ≡ next → IfSome (ended_by next) (λ given. IsFruitless given → t ≡ s)
    by (Ends answer) is = λ fruitless.
        idle_same c s t (op_for w.heap call op) reply goes (fruitless_idle call.request desk call.stage.arena point reply answer is fruitless)
        (fruitless_plain w call call.request desk call.stage.arena point op asked reply answer wants is fruitless)
    by next is = tt

-- what the turn of a client's own call leaves
own_turn : (w : World) (c : ℕ) (call : CallFacts) (op : Op) (asked : Option AskFacts) (holder : Option ℕ) (before : Option Tale) → IsSound w.heap → c < 32 → IsWanted w c call (WantTurn op asked) →
    OfCall Way c (seat_at w.heap.seats c).desk (Some call) before →
    OwnTurnLeaves w.heap (turned_for w.heap c call op asked holder) c call op asked holder
own_turn w c call op asked (Some holder) before sound there wants of = tt
own_turn w c call op asked None None sound there wants of = absurd of
own_turn w c call op asked None (Some before) sound there wants of =
    let desk : DeskFacts = (seat_at w.heap.seats c).desk in
    let arena : ℕ = call.stage.arena in
    let own : Record = record_at w.heap.records arena in
    let done : Op = op_for w.heap call op in
    let new : Record = record_after own c done asked in
    let reply : Reply = reply_in w.heap.records arena c done in
    let now : DeskFacts = desk_fed desk arena call.stage.next (Replied reply) in
    let sits : Sits w.heap.records c desk call.request arena wants.point = sits_there w.heap c call wants.point sound there wants.open_call wants.at in
    let can = (turns-sit w.heap.records c desk call wants.point op asked sound.arenas there wants.at sits wants.wants).0 in
    let stands : op_stands own.space c done ≡ true = (both_true (nat_lt c 32) _ can.stands).1 in
    let goes : Outcome c own.space new.space done reply = (op_goes c own.space done (sound_at w.heap.records arena sound.arenas sits.waits.there) stands).outcome in
    let leads : Leads call.request (Go wants.point) = subst (λ (r : Request). Leads r (Go wants.point)) (sym of.0) (subst (Leads (meant_in before)) wants.at of.1.1) in
    let made : Made w c call op asked wants.point own.space new.space reply =
    record { wants = wants.wants; hears = heard_is (mine_in w.heap.records c arena) wants.point sits.waits.knows; stands = stands; goes = goes; told = refl; after = refl; leads = leads } in
    let fruitless = subst (λ (n : Next). IfSome (ended_by (settle call.request now arena (step_next n (Replied reply))).next) (λ given. IsFruitless given → new.space ≡ own.space)) (sym wants.at)
    (fruitless_leaves w c call op asked now wants.point own.space new.space reply wants.wants goes) in
    let leaves : Leaves c op own.space new.space call.request asked reply (answered_by w.heap c call op None) = record {
      refused = refused_leaves w c call op asked wants.point own.space new.space reply made;
      malloc = malloc_leaves w c call op asked wants.point own.space new.space reply call.request leads wants.wants goes refl;
      create = create_leaves w c call op asked wants.point own.space new.space reply call.request leads wants.wants goes;
      fruitless = fruitless;
    } in (
      subst (λ (r : Record). Leaves c op own.space r.space call.request asked reply (answered_by w.heap c call op None)) (sym (there_is w.heap.records arena new sound.arenas.number sits.waits.there)) leaves,
      λ i other. elsewhere_is w.heap.records arena i new other,
    )
  where
    heard_is : (m : Mine) (point : Point) → Knows m point → (place : AskPoint) (heard : AskFacts) → point ≡ Asks place (Some heard) → heard.ask ≡ ask_at place
    heard_is m point knows place heard is = grind (arith, knows)

-- ---- the law

pub begun_records : (w : World) (c : ℕ) (verb : Verb) (whole : Bool) → (after_event w (Began c verb whole)).heap.records ≡ w.heap.records
begun_records w c verb whole = by (beginning_in w c verb)
  where
    by : (beginning : Beginning) → (begins (settled w verb) c verb whole beginning).heap.records ≡ w.heap.records
    by beginning = grind arith

event_leaves : (w : World) (tales : List (Option Tale)) (event : WorldEvent) → EndsHere Way w tales event → EventLeaves w tales event
event_leaves w tales (Read line) it = ap (λ (h : HeapFacts). h.records) (line_heap w line)
event_leaves w tales (Began c verb whole) it = begun_records w c verb whole
event_leaves w tales (WentOn c request behind) it = refl
event_leaves w tales (Turned c call op asked) it =
    let wants : IsWanted w c call (WantTurn op asked) = it.here.next in
    let heap : HeapFacts = turned_for w.heap c call op asked (holder_for w.heap call) in
    subst (λ (h : HeapFacts). OwnTurnLeaves w.heap h c call op asked (holder_for w.heap call)) (sym (stepped_heap w c heap (turn_line c) (answered_by w.heap c call op (holder_for w.heap call))))
    (own_turn w c call op asked (holder_for w.heap call) (tale_at tales c) it.here.sound (seat_there w.heap.seats c call it.here.clients wants.open_call) wants
    (subst (λ o. OfCall Way c (seat_at w.heap.seats c).desk o (tale_at tales c)) wants.open_call (it.open_calls.calls c)))
event_leaves w tales (Told c call asked) it = ap (λ (h : HeapFacts). h.records) (stepped_heap w c _ _ _)
event_leaves w tales (Starved c call) it = refl

pub events-leave : EventsLeave
events-leave events play sound = each_event Way EventLeaves event_leaves way_kept events play sound
