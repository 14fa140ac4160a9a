-- A valid request is served, unless a hook refused what it needed or answered wrongly, or memory was wanting.
use Rattle.replay_run.proofs.Words.{◌≡◌, ℕ, ◌<◌, Bool, true, false, List, [], ◌∷◌, Option, None, Some, IfSome, refl, sym, ◌∙◌, subst, arith, nat_tests, option_map, Contains, Op, Reply, Space, Sound, is_live, step_of, AskFacts, DeskFacts, Answered, NotHeld, NoSuchArena, BadAnswer, Item, Replied, ToldItem, Request, Point, Turns, Asks, Tells, Next, Go, Ends, Owning, Filling, Looking, CallFacts, ended_by, desk_fed, settle, step, step_next, want, WantTurn, WantAsk, op_for, reply_in, replied, record_at, answered_by, holder_for, answer_of, asked_for, moment_after, seat_at, sound_at, mine_in, Tale, answer_in, tale_at, tale_begun, tale_fed, tale_in, tale_turned, IsSound, IsWanted, IsTrueIn, Began, WentOn, Turned, Told, World, WorldEvent, Record}
use Rattle.std.proofs.lemmas.List.Elements.{Contains-append_right}
use Rattle.std.specs.List.{list_any}
use Rattle.std.specs.Prelude.{find}
use Rattle.space_model.specs.Clients.{is_in}
use Rattle.space_model.specs.Holding.{is_published_at}
use Rattle.space_model.specs.declared.Op.TheVariants.{Reset as ResetOp, Destroy as DestroyOp, TakeOver}
use Rattle.space_model.specs.declared.Region.{Region as SpaceRegion}
use Rattle.space_model.specs.declared.Reply.TheVariants.{Bad, NoArena, Nothing}
use Rattle.call_plan.proofs.Swaps.{meant_slot}
use Rattle.call_plan.specs.Causes.{CauseIn}
use Rattle.call_plan.specs.Clients.{has_cache, held_at}
use Rattle.call_plan.specs.Desks.{meant, ready, slot_of}
use Rattle.call_plan.specs.declared.needs.Answered.TheVariants.{Ok, Refused, NoMemory, Busy}
use Rattle.call_plan.specs.declared.needs.Request.TheVariants.{Malloc, Memalign, Realloc, Free, FreeForeign, Take, Destroy, Flush, MallocIn, FreeIn, FlushCache, EndCache}
use Rattle.std.proofs.lemmas.Bool.{cond_both}
use Rattle.call_plan.specs.declared.points.TurnPoint.TheVariants.{Resetting, Destroying}
use Rattle.heap_core.specs.Sitting.{Sits}
use Rattle.replay_run.proofs.Getting.{PointGets}
use Rattle.replay_run.proofs.NewHeaps.{sits_there}
use Rattle.replay_run.proofs.Reasons.{Why, answer_caused, why_kept}
use Rattle.replay_run.proofs.Tales.{EndsHere, EndsWith, Kept, OfCall, each_event, meant_in, ready_in, seat_there}
use Rattle.replay_run.proofs.Truths.{event_true}
use Rattle.replay_run.proofs.Ways.{CanGo, Empties, Leads, OwnsAt, PointDooms, PointFrees, PointResizes, begin_leads, in_use_at, no_arena_at, not_held_at, publish_leads, settle_leads, step_leads, takes_frees}
use Rattle.replay_run.specs.Served.{IsHelped, IsMet, IsMetBy, IsServed, IsServedThere, IsValid, MayCome, Serves, ValidAreServed}
use Rattle.space_model.specs.declared.Reply.TheVariants as replies

-- ---- arenas that serve somebody are live

bound_live : (s : Space) (c : ℕ) → Sound s → is_in c s.bound ≡ true → is_live s.life ≡ true
bound_live s c sound bound = by s.life refl
  where
    by : (now : _) → s.life ≡ now → is_live now ≡ true
    by now is = grind (arith, sound.quiet)

pub region_live : (s : Space) (test : SpaceRegion → Bool) → Sound s → list_any test s.regions ≡ true → is_live s.life ≡ true
region_live s test sound some = by s.life refl
  where
    by : (now : _) → s.life ≡ now → is_live now ≡ true
    by now is = grind (arith, sound.quiet)

-- ---- what a reply tells of its turn

none_found : (test : SpaceRegion → Bool) (rs : List SpaceRegion) → find test rs ≡ None → list_any test rs ≡ false
none_found test [] e = refl
none_found test (r ∷ rs) e = by (test r) refl (none_found test rs)
  where
    by : (v : Bool) → test r ≡ v → (find test rs ≡ None → list_any test rs ≡ false) → list_any test (r ∷ rs) ≡ false
    by v is more = grind (arith, more)

-- a region that is published is taken over
pub untaken : (s : Space) (c addr : ℕ) → (step_of s c (TakeOver addr)).reply ≡ Nothing → IsMetBy s c (TakeOver addr) → ⊥
untaken s c addr told some = by (find (is_published_at addr) s.regions) refl
  where
    by : (found : Option SpaceRegion) → find (is_published_at addr) s.regions ≡ found → ⊥
    by None is = let none = none_found (is_published_at addr) s.regions is in cc
    by (Some r) is = grind (arith, told)

-- an arena in nobody's use is emptied or ended
unused : (s : Space) (c cached held flights threads : ℕ) → (step_of s c (ResetOp cached)).reply ≡ replies.Busy held flights threads → IsMetBy s c (ResetOp cached) → ⊥
unused s c cached held flights threads told met = grind (arith, nat_tests)

unused_end : (s : Space) (c cached held flights threads : ℕ) → (step_of s c (DestroyOp cached)).reply ≡ replies.Busy held flights threads → IsMetBy s c (DestroyOp cached) → ⊥
unused_end s c cached held flights threads told met = grind (arith, nat_tests)

-- ---- what is so where an answer comes

-- what is seen of an answer: the turn that was told so didn't meet what the request needs
abbrev Seen : World → WorldEvent → Tale → Request → Answered → Type 0
Seen w event tale request (NotHeld addr) = Contains tale.items (Replied Nothing) → IsMet w.heap event → ⊥
Seen w event tale request (Busy held flights threads) = Contains tale.items (Replied (replies.Busy held flights threads)) → IsMet w.heap event → ⊥
Seen w event tale request (NoSuchArena index) = Contains tale.items (Replied NoArena) → IsValid w event tale request → ⊥
Seen w event tale request answer = Unit {0}

-- a tale as its request is carried out
abbrev as_meant : Tale → Tale
as_meant tale = record { began = ready_in tale; request = meant_in tale; items = tale.items }

-- an explicit cache that is swapped leaves the regions that are held
ready_held : (request : Request) (desk : DeskFacts) (addr : ℕ) → held_at addr (ready request desk) ≡ held_at addr desk
ready_held request desk addr = grind arith

-- a valid request is valid as it is carried out
valid_of : (w : World) (event : WorldEvent) (began : DeskFacts) (items : List Item) (request : Request) → IsValid w event (record { began = began; request = request; items = items }) request →
    IsValid w event (record { began = ready request began; request = meant request began; items = items }) (meant request began)
valid_of w event began items (MallocIn slot size) valid =
    cond_both (has_cache slot began) (Malloc size) (MallocIn slot size) (IsValid w event (record { began = ready (MallocIn slot size) began; request = meant (MallocIn slot size) began; items = items }))
    (λ _. valid.1) (λ none. absurd (cc))
valid_of w event began items (FreeIn slot addr) valid =
    cond_both (has_cache slot began) (Free addr) (FreeIn slot addr) (IsValid w event (record { began = ready (FreeIn slot addr) began; request = meant (FreeIn slot addr) began; items = items }))
    (λ _. (valid.1.0, ready_held (FreeIn slot addr) began addr ∙ valid.1.1)) (λ none. absurd (cc))
valid_of w event began items (FlushCache slot) valid =
    cond_both (has_cache slot began) Flush (FlushCache slot) (IsValid w event (record { began = ready (FlushCache slot) began; request = meant (FlushCache slot) began; items = items })) (λ _. tt) (λ none. absurd (cc))
valid_of w event began items (EndCache slot) valid =
    cond_both (has_cache slot began) Flush (EndCache slot) (IsValid w event (record { began = ready (EndCache slot) began; request = meant (EndCache slot) began; items = items })) (λ _. tt) (λ none. absurd (cc))
valid_of w event began items request valid = grind (arith, valid)

valid_meant : (w : World) (event : WorldEvent) (tale : Tale) → IsValid w event tale tale.request → IsValid w event (as_meant tale) (meant_in tale)
valid_meant w event tale valid = valid_of w event tale.began tale.items tale.request valid

-- and uses no explicit cache then that its client doesn't have
slot_there : (w : World) (event : WorldEvent) (tale : Tale) (request : Request) (slot : ℕ) → slot_of request ≡ Some slot → has_cache slot tale.began ≡ false → IsValid w event tale request → ⊥
slot_there w event tale request slot uses none valid = grind (arith, uses, none, valid)

-- so a valid request has no other answer
may_meant : (w : World) (event : WorldEvent) (tale : Tale) (request : Request) (answer : Answered) → CauseIn tale.began request tale.items answer → Seen w event tale request answer →
    ((slot : ℕ) → slot_of request ≡ Some slot → ⊥) → IsValid w event tale request → MayCome answer
may_meant w event tale request answer cause seen plain valid = grind (arith, cause, seen, plain, valid)

may : (w : World) (event : WorldEvent) (tale : Tale) (answer : Answered) → CauseIn (ready_in tale) (meant_in tale) tale.items answer → Seen w event (as_meant tale) (meant_in tale) answer →
    IsValid w event tale tale.request → MayCome answer
may w event tale answer cause seen valid =
    let plain = λ (slot : ℕ) (uses : slot_of (meant_in tale) ≡ Some slot).
    let none = meant_slot tale.request tale.began slot uses in slot_there w event tale tale.request slot none.0 none.1 valid in
    may_meant w event (as_meant tale) (meant_in tale) answer cause seen plain (valid_meant w event tale valid)

-- nor a refusal or a wrong answer where the hooks helped
serves : (desk : DeskFacts) (request : Request) (items : List Item) (answer : Answered) → CauseIn desk request items answer → MayCome answer → IsHelped request items → Serves answer
serves desk request items (Ok given) cause comes helped = tt
serves desk request items NoMemory cause comes helped = tt
serves desk request items (Refused asked) cause comes helped = absurd (helped.granted cause.wish cause.earlier cause.later asked cause.wished cause.told cause.needed cause.refused)
serves desk request items (BadAnswer span why) cause comes helped =
    absurd (helped.fitting why (subst (λ xs. Contains xs (Replied (Bad why))) (sym cause.told) (Contains-append_right cause.earlier (ToldItem cause.asked ∷ Replied (Bad why) ∷ []) (Replied (Bad why)) (1, omega arith, refl))))
serves desk request items answer cause comes helped = absurd comes

-- ---- a turn

-- A turn is made for a call that waits at a point, and is replied so.
record Met (w : World) (c : ℕ) (call : CallFacts) (op : Op) (asked : Option AskFacts) (desk : DeskFacts) (request : Request) (point : Point) (reply : Reply) : Type 0 where
  wants : want point ≡ WantTurn op asked
  sits : Sits w.heap.records c desk call.request call.stage.arena point
  sound : Sound (record_at w.heap.records call.stage.arena).space
  told : reply ≡ (step_of (record_at w.heap.records call.stage.arena).space c (op_for w.heap call op)).reply
  leads : Leads request (Go point)

-- a client that gets a region is bound to the arena of its turn
gets_live : (records : List Record) (c : ℕ) (desk : DeskFacts) (of : Request) (arena : ℕ) (point : Point) → Sits records c desk of arena point → Sound (record_at records arena).space → PointGets point → CanGo point →
    is_live (record_at records arena).space.life ≡ true
gets_live records c desk of arena (Turns (Filling wish count)) sits sound gets can =
    bound_live (record_at records arena).space c sound (subst (λ i. (mine_in records c i).bound ≡ true) (sym sits.suits.0.own) sits.has.bound)
gets_live records c desk of arena (Turns (Looking wish)) sits sound gets can =
    bound_live (record_at records arena).space c sound (subst (λ i. (mine_in records c i).bound ≡ true) (sym sits.suits.own) sits.has.bound)
gets_live records c desk of arena point sits sound gets can = absurd (grind arith)

-- and so is one whose region another one replaces
resizes_live : (records : List Record) (c : ℕ) (desk : DeskFacts) (of : Request) (arena : ℕ) (point : Point) → Sits records c desk of arena point → Sound (record_at records arena).space → PointResizes point → CanGo point →
    is_live (record_at records arena).space.life ≡ true
resizes_live records c desk of arena (Turns (Filling wish count)) sits sound gets can =
    bound_live (record_at records arena).space c sound (subst (λ i. (mine_in records c i).bound ≡ true) (sym sits.suits.0.own) sits.has.bound)
resizes_live records c desk of arena (Turns (Looking wish)) sits sound gets can =
    bound_live (record_at records arena).space c sound (subst (λ i. (mine_in records c i).bound ≡ true) (sym sits.suits.own) sits.has.bound)
resizes_live records c desk of arena point sits sound gets can = absurd (grind arith)

-- one that takes a region over meets it in a live arena
owns_live : (s : Space) (c : ℕ) (op : Op) (asked : Option AskFacts) (point : Point) → Sound s → want point ≡ WantTurn op asked → PointFrees point → CanGo point → IsMetBy s c op → is_live s.life ≡ true
owns_live s c op asked (Turns (Owning addr gives past)) sound wants frees can met =
    let is : TakeOver addr ≡ op = cc in region_live s (is_published_at addr) sound (subst (IsMetBy s c) (sym is) met)
owns_live s c op asked point sound wants frees can met = absurd (grind arith)

dooms_live : (s : Space) (c : ℕ) (op : Op) (asked : Option AskFacts) (point : Point) → want point ≡ WantTurn op asked → PointDooms point → CanGo point → IsMetBy s c op → is_live s.life ≡ true
dooms_live s c op asked (Turns (Destroying cached)) wants dooms can met = let is : DestroyOp cached ≡ op = cc in (subst (IsMetBy s c) (sym is) met).0
dooms_live s c op asked point wants dooms can met = absurd (grind arith)

-- where it is told that there is no arena, its request isn't valid
valid_live : (w : World) (c : ℕ) (call : CallFacts) (op : Op) (asked : Option AskFacts) (desk : DeskFacts) (tale : Tale) (request : Request) (point : Point) (reply : Reply) →
    Met w c call op asked desk request point reply → CanGo point → IsValid w (Turned c call op asked) tale request → is_live (record_at w.heap.records call.stage.arena).space.life ≡ true
valid_live w c call op asked desk tale (Malloc size) point reply met can valid = gets_live w.heap.records c desk call.request call.stage.arena point met.sits met.sound met.leads can
valid_live w c call op asked desk tale (Memalign align size) point reply met can valid = gets_live w.heap.records c desk call.request call.stage.arena point met.sits met.sound met.leads can
valid_live w c call op asked desk tale (Realloc addr size) point reply met can valid = resizes_live w.heap.records c desk call.request call.stage.arena point met.sits met.sound met.leads can
valid_live w c call op asked desk tale (Take addr arena) point reply met can valid = owns_live (record_at w.heap.records call.stage.arena).space c op asked point met.sound met.wants (takes_frees point met.leads) can valid.1
valid_live w c call op asked desk tale (FreeForeign addr arena) point reply met can valid = owns_live (record_at w.heap.records call.stage.arena).space c op asked point met.sound met.wants met.leads can valid.1
valid_live w c call op asked desk tale (Destroy arena) point reply met can valid = dooms_live (record_at w.heap.records call.stage.arena).space c op asked point met.wants met.leads can valid.2
valid_live w c call op asked desk tale request point reply met can valid = grind (arith, met.leads, can, valid)

taken_not : (w : World) (c : ℕ) (call : CallFacts) (op : Op) (asked : Option AskFacts) (point : Point) (reply : Reply) (addr : ℕ) → reply ≡ Nothing → OwnsAt addr point → want point ≡ WantTurn op asked →
    reply ≡ (step_of (record_at w.heap.records call.stage.arena).space c (op_for w.heap call op)).reply → IsMetBy (record_at w.heap.records call.stage.arena).space c op → ⊥
taken_not w c call op asked (Turns (Owning addr frees past)) reply at nothing owns wants told met =
    let is : TakeOver addr ≡ op = cc in
    untaken (record_at w.heap.records call.stage.arena).space c addr
    (sym (subst (λ (o : Op). Nothing ≡ (step_of (record_at w.heap.records call.stage.arena).space c (op_for w.heap call o)).reply) (sym is) (sym nothing ∙ told)))
    (subst (IsMetBy (record_at w.heap.records call.stage.arena).space c) (sym is) met)
taken_not w c call op asked point reply addr nothing owns wants told met = absurd (grind arith)

used_not : (w : World) (c : ℕ) (call : CallFacts) (op : Op) (asked : Option AskFacts) (point : Point) (reply : Reply) (held flights threads : ℕ) → reply ≡ replies.Busy held flights threads → Empties point → want point ≡ WantTurn op asked →
    reply ≡ (step_of (record_at w.heap.records call.stage.arena).space c (op_for w.heap call op)).reply → IsMetBy (record_at w.heap.records call.stage.arena).space c op → ⊥
used_not w c call op asked (Turns (Resetting cached)) reply held flights threads busy empties wants told met =
    let is : ResetOp cached ≡ op = cc in
    unused (record_at w.heap.records call.stage.arena).space c cached held flights threads
    (sym (subst (λ (o : Op). replies.Busy held flights threads ≡ (step_of (record_at w.heap.records call.stage.arena).space c (op_for w.heap call o)).reply) (sym is) (sym busy ∙ told)))
    (subst (IsMetBy (record_at w.heap.records call.stage.arena).space c) (sym is) met)
used_not w c call op asked (Turns (Destroying cached)) reply held flights threads busy empties wants told met =
    let is : DestroyOp cached ≡ op = cc in
    unused_end (record_at w.heap.records call.stage.arena).space c cached held flights threads
    (sym (subst (λ (o : Op). replies.Busy held flights threads ≡ (step_of (record_at w.heap.records call.stage.arena).space c (op_for w.heap call o)).reply) (sym is) (sym busy ∙ told)))
    (subst (IsMetBy (record_at w.heap.records call.stage.arena).space c) (sym is) met)
used_not w c call op asked point reply held flights threads busy empties wants told met = absurd (grind arith)

-- what is seen of the answer to which the turn leads
turn_seen : (w : World) (c : ℕ) (call : CallFacts) (op : Op) (asked : Option AskFacts) (desk now : DeskFacts) (tale : Tale) (point : Point) (reply : Reply) (answer : Answered) →
    Met w c call op asked desk (meant_in tale) point reply → (settle call.request now call.stage.arena (step point (Replied reply))).next ≡ Ends answer → IsTrueIn w (Turned c call op asked) answer →
    Seen w (Turned c call op asked) (as_meant tale) (meant_in tale) answer
turn_seen w c call op asked desk now tale point reply (NotHeld addr) met ends so = λ has found.
    let at = not_held_at call.request now call.stage.arena addr point reply ends in
    taken_not w c call op asked point reply addr at.0 at.1 met.wants met.told found
turn_seen w c call op asked desk now tale point reply (Busy held flights threads) met ends so = λ has found.
    let at = in_use_at call.request now call.stage.arena held flights threads point reply ends in
    used_not w c call op asked point reply held flights threads at.0 at.1 met.wants met.told found
turn_seen w c call op asked desk now tale point reply (NoSuchArena index) met ends so = λ has valid.
    let can = no_arena_at call.request now call.stage.arena index point reply ends in
    let live = valid_live w c call op asked desk (as_meant tale) (meant_in tale) point reply met can valid in
    let dead : is_live (record_at w.heap.records call.stage.arena).space.life ≡ false = subst (λ i. is_live (record_at w.heap.records i).space.life ≡ false) so.0 so.1 in
    cc
turn_seen w c call op asked desk now tale point reply answer met ends so = tt

-- ---- the law

-- a call is as its reasons say, and leads where its request does
abbrev pub Way : ℕ → Tale → DeskFacts → Next → Type 0
Way c tale now next = Why c tale now next × Leads (meant_in tale) next

pub way_kept : Kept Way
way_kept = record {
  begins = λ h c request sound clients. (why_kept.begins h c request sound clients, begin_leads (meant (asked_for h.seats c request) (seat_at h.seats c).desk) (ready (asked_for h.seats c request) (seat_at h.seats c).desk));
  steps = λ c tale now arena point item so came. (why_kept.steps c tale now arena point item so.0 came, step_leads (meant_in tale) point item so.1);
  settles = λ c tale now arena next so. (why_kept.settles c tale now arena next so.0, settle_leads (meant_in tale) (meant_in tale) now arena next so.1);
  closes = λ c tale now other answer so. (why_kept.closes c tale now other answer so.0, so.1);
  loses = λ c tale now addr next so. (why_kept.loses c tale now addr next so.0, so.1);
  publishes = λ c tale now addr so. (why_kept.publishes c tale now addr so.0, publish_leads (meant_in tale) addr so.1);
}

-- an answer with its cause, of which it is seen what it tells of
answer_served : (w : World) (event : WorldEvent) (tale : Tale) (answer : Answered) → CauseIn (ready_in tale) (meant_in tale) tale.items answer → Seen w event (as_meant tale) (meant_in tale) answer → IsServed w event tale answer
answer_served w event tale answer cause seen = record {
  fails = may w event tale answer cause seen;
  helped = λ valid helped. serves (ready_in tale) (meant_in tale) tale.items answer cause (may w event tale answer cause seen valid) helped;
}

-- nothing was replied where a request began
pub none_yet : (x : Item) → Contains [] x → ⊥
none_yet x has = absurd (omega (arith, has.1))

begun_seen : (w : World) (event : WorldEvent) (tale : Tale) (request : Request) (answer : Answered) → tale.items ≡ [] → Seen w event tale request answer
begun_seen w event tale request answer none = grind (arith, none_yet, none)

-- the answer of an event, by what is seen of each that it may give
each_answer : (w : World) (event : WorldEvent) (answer : Option Answered) (tale : Option Tale) → IfSome answer (EndsWith Way w event tale) → IfSome answer (IsTrueIn w event) →
    ((told : Tale) (given : Answered) → tale ≡ Some told → answer ≡ Some given → IsTrueIn w event given → Seen w event (as_meant told) (meant_in told) given) →
    IfSome answer (λ given. IfSome tale (λ told. IsServed w event told given))
each_answer w event None tale ends so seen = tt
each_answer w event (Some answer) None ends so seen = tt
each_answer w event (Some answer) (Some tale) ends so seen = answer_served w event tale answer ends.2.0 (seen tale answer refl refl so)

ended_is : (next : Next) (answer : Answered) → ended_by next ≡ Some answer → next ≡ Ends answer
ended_is next answer e = grind arith

begun_empty : (tale : Request → Tale) (request : Option Request) (told : Tale) → ((r : Request) → (tale r).items ≡ []) → option_map tale request ≡ Some told → told.items ≡ []
begun_empty tale (Some request) told empty e = let is : tale request ≡ told = cc in subst (λ (t : Tale). t.items ≡ []) is (empty request)
begun_empty tale None told empty e = absurd (cc)

-- a turn that isn't one of a holder who publishes
turned_seen : (w : World) (c : ℕ) (call : CallFacts) (op : Op) (asked : Option AskFacts) (before : Option Tale) (tale : Tale) (answer : Answered) → IsSound w.heap → c < 32 →
    (wants : IsWanted w c call (WantTurn op asked)) → OfCall Way c (seat_at w.heap.seats c).desk (Some call) before → option_map (tale_fed (replied w.heap c call op)) before ≡ Some tale →
    answer_of (moment_after w.heap c call (replied w.heap c call op)) ≡ Some answer → IsTrueIn w (Turned c call op asked) answer → Seen w (Turned c call op asked) (as_meant tale) (meant_in tale) answer
turned_seen w c call op asked None tale answer sound there wants of fed gives so = absurd of
turned_seen w c call op asked (Some before) tale answer sound there wants of fed gives so =
    let desk : DeskFacts = (seat_at w.heap.seats c).desk in
    let s : Space = (record_at w.heap.records call.stage.arena).space in
    let reply : Reply = reply_in w.heap.records call.stage.arena c (op_for w.heap call op) in
    let now : DeskFacts = desk_fed desk call.stage.arena call.stage.next (Replied reply) in
    let sits : Sits w.heap.records c desk call.request call.stage.arena wants.point = sits_there w.heap c call wants.point sound there wants.open_call wants.at in
    let leads : Leads (meant_in before) (Go wants.point) = subst (Leads (meant_in before)) wants.at of.1.1 in
    let is : tale_fed (Replied reply) before ≡ tale = cc in
    let met : Met w c call op asked desk (meant_in before) wants.point reply =
    record { wants = wants.wants; sits = sits; sound = sound_at w.heap.records call.stage.arena sound.arenas sits.waits.there; told = refl; leads = leads } in
    let ends : (settle call.request now call.stage.arena (step wants.point (Replied reply))).next ≡ Ends answer =
    ended_is _ answer (subst (λ (n : Next). ended_by (settle call.request now call.stage.arena (step_next n (Replied reply))).next ≡ Some answer) wants.at gives) in
    subst (λ (t : Tale). Seen w (Turned c call op asked) (as_meant t) (meant_in t) answer) is
    (turn_seen w c call op asked desk now (tale_fed (Replied reply) before) wants.point reply answer met ends so)

turned_served : (w : World) (c : ℕ) (call : CallFacts) (op : Op) (asked : Option AskFacts) (before : Option Tale) (holder : Option ℕ) → IsSound w.heap → c < 32 → IsWanted w c call (WantTurn op asked) →
    OfCall Way c (seat_at w.heap.seats c).desk (Some call) before → IfSome (answered_by w.heap c call op holder) (EndsWith Way w (Turned c call op asked) (tale_turned w.heap c call op holder before)) →
    IfSome (answered_by w.heap c call op holder) (IsTrueIn w (Turned c call op asked)) →
    IfSome (answered_by w.heap c call op holder) (λ given. IfSome (tale_turned w.heap c call op holder before) (λ told. IsServed w (Turned c call op asked) told given))
turned_served w c call op asked before (Some holder) sound there wants of ends so = tt
turned_served w c call op asked before None sound there wants of ends so =
    each_answer w (Turned c call op asked) (answered_by w.heap c call op None) (tale_turned w.heap c call op None before) ends so
    (λ told given fed gives true_there. turned_seen w c call op asked before told given sound there wants of fed gives true_there)

-- an answer to an ask ends no call
heard_served : (w : World) (c : ℕ) (call : CallFacts) (asked : AskFacts) (G : Answered → Type 0) → IsWanted w c call (WantAsk asked.ask) → IfSome (answer_of (moment_after w.heap c call (ToldItem asked))) G
heard_served w c call asked G wants =
    let desk : DeskFacts = (seat_at w.heap.seats c).desk in
    subst (λ (n : Next). IfSome (ended_by (settle call.request (desk_fed desk call.stage.arena call.stage.next (ToldItem asked)) call.stage.arena (step_next n (ToldItem asked))).next) G) (sym wants.at)
    (by (desk_fed desk call.stage.arena call.stage.next (ToldItem asked)) wants.point)
  where
    by : (desk : DeskFacts) (point : Point) → IfSome (ended_by (settle call.request desk call.stage.arena (step point (ToldItem asked))).next) G
    by desk (Turns point) = tt
    by desk (Asks point None) = tt
    by desk (Asks point (Some heard)) = tt
    by desk (Tells span b) = tt

causes_alone : (w : World) (event : WorldEvent) (answer : Option Answered) (tale : Option Tale) → IfSome answer (EndsWith Way w event tale) → IfSome answer (EndsWith Why w event tale)
causes_alone w event None tale ends = tt
causes_alone w event (Some answer) None ends = ends
causes_alone w event (Some answer) (Some tale) ends = (ends.0, ends.1, ends.2.0)

event_served : (w : World) (tales : List (Option Tale)) (event : WorldEvent) → EndsHere Way w tales event → IsServedThere w tales event
event_served w tales (Began c verb whole) it =
    let event : WorldEvent = Began c verb whole in
    each_answer w event (answer_in w event) (tale_in w tales event) it.ends
    (event_true w tales event it.here (answer_caused w event (answer_in w event) (tale_in w tales event) (causes_alone w event (answer_in w event) (tale_in w tales event) it.ends)))
    (λ told given begun gives so. begun_seen w event (as_meant told) (meant_in told) given (begun_empty (tale_begun w.heap.seats c) _ told (λ r. refl) begun))
event_served w tales (WentOn c request behind) it =
    let event : WorldEvent = WentOn c request behind in
    each_answer w event (answer_in w event) (tale_in w tales event) it.ends
    (event_true w tales event it.here (answer_caused w event (answer_in w event) (tale_in w tales event) (causes_alone w event (answer_in w event) (tale_in w tales event) it.ends)))
    (λ told given begun gives so. begun_seen w event (as_meant told) (meant_in told) given (begun_empty (tale_begun w.heap.seats c) (Some request) told (λ r. refl) begun))
event_served w tales (Turned c call op asked) it =
    let event : WorldEvent = Turned c call op asked in
    let wants : IsWanted w c call (WantTurn op asked) = it.here.next in
    turned_served w c call op asked (tale_at tales c) (holder_for w.heap call) it.here.sound (seat_there w.heap.seats c call it.here.clients wants.open_call) wants
    (subst (λ (o : Option CallFacts). OfCall Way c (seat_at w.heap.seats c).desk o (tale_at tales c)) wants.open_call (it.open_calls.calls c)) it.ends
    (event_true w tales event it.here (answer_caused w event (answer_in w event) (tale_in w tales event) (causes_alone w event (answer_in w event) (tale_in w tales event) it.ends)))
event_served w tales (Told c call asked) it = heard_served w c call asked _ it.here.next.0
event_served w tales event it = tt

pub valid-are_served : ValidAreServed
valid-are_served events play sound = each_event Way IsServedThere event_served way_kept events play sound
