-- The points to which a request leads, and the replies at which its call ends there.
use Rattle.replay_run.proofs.Words.{◌≡◌, ℕ, true, false, Option, None, Some, arith, nat_tests, Reply, DeskFacts, Item, Replied, Request, Span, Why, Answered, BadAnswer, NotHeld, NoSuchArena, TurnPoint, Filling, Looking, Owning, AskPoint, Point, Turns, Asks, Tells, Next, Go, InArena, NextBatch, NotLive, Ends, begin_stage, settle, step}
use Rattle.space_model.specs.declared.Reply.TheVariants.{Bad, NoArena, Nothing}
use Rattle.std.specs.Prelude.{◌==◌, ◌^◌, nat_lt}
use Rattle.std.proofs.lemmas.Bool.{cond_both}
use Rattle.size_classes.specs.Classes.{class_for}
use Rattle.thread_cache.specs.declared.Held.{Held}
use Rattle.call_plan.specs.Clients.{BatchFacts, batch_of, freeing, going, going_with, held_at, hit, resizing}
use Rattle.call_plan.specs.Desks.{flushes}
use Rattle.call_plan.specs.Runs.{are_large, batch_goes, begin_free, begin_malloc, begin_publish, begin_realloc, begin_resize, desk_moved, get, gives, move_stage, share}
use Rattle.call_plan.specs.Stages.{Move, Nowhere, Stage}
use Rattle.call_plan.specs.declared.needs.Answered.TheVariants.{Ok}
use Rattle.call_plan.specs.declared.needs.Given.{Given}
use Rattle.call_plan.specs.declared.needs.Request.TheVariants.{Malloc, Memalign, Realloc, Free, Publish, FreeForeign, Take, Flush, Cache, Create, Destroy, NewCache, MallocIn, FreeIn, FlushCache, EndCache}
use Rattle.call_plan.specs.declared.needs.Answered.TheVariants.{ArenasFull, Busy}
use Rattle.call_plan.specs.declared.points.AskPoint.TheVariants.{Merging, PurgingLazily, Returning, Decommitting, Forcing}
use Rattle.call_plan.specs.declared.points.AfterFlight.{AfterFlight}
use Rattle.call_plan.specs.declared.points.AfterFlight.TheVariants.{Batches, Visiting, Moving}
use Rattle.call_plan.specs.declared.points.TurnPoint.TheVariants.{Giving, Finding, Taking, Offering, Advancing, Changing, Making, Resetting, Destroying, Dooming, Publishing}
use Rattle.replay_run.proofs.Getting.{Gets, begin_gets, step_gets}
use Rattle.space_model.specs.declared.Reply.TheVariants as replies

-- ---- the points of a request

-- regions go back, and no extent of a visit
abbrev IsBatch : AfterFlight → Type 0
IsBatch Batches = Unit {0}
IsBatch (Visiting visit left) = ⊥
IsBatch (Moving class) = ⊥

abbrev TurnBacks : TurnPoint → Type 0
TurnBacks (Giving addrs) = Unit {0}
TurnBacks (Publishing addr) = Unit {0}
TurnBacks (Finding own tries fresh later) = IsBatch later
TurnBacks (Offering span later) = IsBatch later
TurnBacks point = ⊥

abbrev AskBacks : AskPoint → Type 0
AskBacks (Merging low high own_low fresh later) = IsBatch later
AskBacks (PurgingLazily span later) = IsBatch later
AskBacks (Returning span later) = IsBatch later
AskBacks (Decommitting span later) = IsBatch later
AskBacks (Forcing span later) = IsBatch later
AskBacks point = ⊥

abbrev PointBacks : Point → Type 0
PointBacks (Turns point) = TurnBacks point
PointBacks (Asks point heard) = AskBacks point
PointBacks (Tells span b) = ⊥

-- the call waits where regions go back or one is published, or has ended
abbrev Backs : Next → Type 0
Backs (Go point) = PointBacks point
Backs (Move class) = ⊥
Backs (InArena index point) = ⊥
Backs NotLive = ⊥
Backs next = Unit {0}

abbrev pub PointMakes : Point → Type 0
PointMakes (Turns (Making index setting)) = Unit {0}
PointMakes point = ⊥

-- the call waits where an arena is made, or has ended
abbrev Makes : Next → Type 0
Makes (Go point) = PointMakes point
Makes (Move class) = ⊥
Makes (InArena index point) = PointMakes point
Makes NotLive = ⊥
Makes NextBatch = ⊥
Makes next = Unit {0}

abbrev pub PointOwns : Point → Type 0
PointOwns (Turns (Owning addr false past)) = Unit {0}
PointOwns point = ⊥

-- the call waits where a region is taken over, or has ended
abbrev Owns : Next → Type 0
Owns (Go point) = PointOwns point
Owns (Move class) = ⊥
Owns (InArena index point) = ⊥
Owns NextBatch = ⊥
Owns next = Unit {0}

abbrev pub PointFrees : Point → Type 0
PointFrees (Turns (Owning addr frees past)) = Unit {0}
PointFrees point = PointBacks point

-- the call waits where a region is taken over, or goes back then
abbrev Frees : Next → Type 0
Frees (Go point) = PointFrees point
Frees (Move class) = ⊥
Frees (InArena index point) = ⊥
Frees next = Unit {0}

abbrev pub PointDooms : Point → Type 0
PointDooms (Turns (Destroying cached)) = Unit {0}
PointDooms (Turns Dooming) = Unit {0}
PointDooms (Tells span b) = Unit {0}
PointDooms point = ⊥

-- the call waits where an arena is ended, or has ended
abbrev Dooms : Next → Type 0
Dooms (Go point) = PointDooms point
Dooms (Move class) = ⊥
Dooms (InArena index point) = ⊥
Dooms NextBatch = ⊥
Dooms next = Unit {0}

-- no extent of a visit goes back
abbrev NoVisit : AfterFlight → Type 0
NoVisit (Visiting visit left) = ⊥
NoVisit later = Unit {0}

abbrev pub TurnResizes : TurnPoint → Type 0
TurnResizes (Finding own tries fresh later) = NoVisit later
TurnResizes (Offering span later) = NoVisit later
TurnResizes (Taking visit left) = ⊥
TurnResizes (Advancing now) = ⊥
TurnResizes (Changing setting change) = ⊥
TurnResizes (Making index setting) = ⊥
TurnResizes (Resetting cached) = ⊥
TurnResizes (Destroying cached) = ⊥
TurnResizes Dooming = ⊥
TurnResizes (Owning addr frees past) = ⊥
TurnResizes (Publishing addr) = ⊥
TurnResizes point = Unit {0}

abbrev pub AskResizes : AskPoint → Type 0
AskResizes (Merging low high own_low fresh later) = NoVisit later
AskResizes (PurgingLazily span later) = NoVisit later
AskResizes (Returning span later) = NoVisit later
AskResizes (Decommitting span later) = NoVisit later
AskResizes (Forcing span later) = NoVisit later
AskResizes point = Unit {0}

abbrev pub PointResizes : Point → Type 0
PointResizes (Turns point) = TurnResizes point
PointResizes (Asks point heard) = AskResizes point
PointResizes (Tells span b) = ⊥

-- the call waits where a region is resized, or another one takes its place, or has ended
abbrev pub Resizes : Next → Type 0
Resizes (Go point) = PointResizes point
Resizes (InArena index point) = ⊥
Resizes next = Unit {0}

-- the call has ended
abbrev pub Rests : Next → Type 0
Rests (Go point) = ⊥
Rests (Move class) = ⊥
Rests (InArena index point) = ⊥
Rests NextBatch = ⊥
Rests next = Unit {0}

-- where a request leads that isn't about a live arena at each of its turns
abbrev pub Leads : Request → Next → Type 0
Leads (Malloc size) next = Gets next
Leads (Memalign align size) next = Gets next
Leads (Realloc addr size) next = Resizes next
Leads (Free addr) next = Backs next
Leads (Publish addr) next = Backs next
Leads Flush next = Backs next
Leads (Cache on) next = Backs next
Leads (Create box_no dirty_ms muzzy_ms now) next = Makes next
Leads (Take addr arena) next = Owns next
Leads (FreeForeign addr arena) next = Frees next
Leads (Destroy arena) next = Dooms next
Leads NewCache next = Rests next
Leads (MallocIn slot size) next = Rests next
Leads (FreeIn slot addr) next = Rests next
Leads (FlushCache slot) next = Rests next
Leads (EndCache slot) next = Rests next
Leads request next = Unit {0}

step_backs : (point : Point) (item : Item) → PointBacks point → Backs (step point item)
step_backs point item backs = grind (arith, nat_tests)

step_makes : (point : Point) (item : Item) → PointMakes point → Makes (step point item)
step_makes point item makes = grind (arith, nat_tests)

step_owns : (point : Point) (item : Item) → PointOwns point → Owns (step point item)
step_owns point item owns = grind (arith, nat_tests)

step_frees : (point : Point) (item : Item) → PointFrees point → Frees (step point item)
step_frees point item frees = grind (arith, nat_tests)

step_dooms : (point : Point) (item : Item) → PointDooms point → Dooms (step point item)
step_dooms point item dooms = grind (arith, nat_tests)

step_resizes : (point : Point) (item : Item) → PointResizes point → Resizes (step point item)
step_resizes point item resizes = grind (arith, nat_tests)

pub step_leads : (request : Request) (point : Point) (item : Item) → Leads request (Go point) → Leads request (step point item)
step_leads request point item leads = grind (arith, step_gets, step_resizes, step_backs, step_makes, step_owns, step_frees, step_dooms)

-- a call that has ended leads nowhere else
ends_leads : (request : Request) (answer : Answered) → Leads request (Ends answer)
ends_leads request answer = grind arith

-- where all goes back, regions do or the call has ended
goes_backs : (arena : ℕ) (gained : Option Held) (batch : Option BatchFacts) → Backs (batch_goes arena gained batch).next
goes_backs arena None None = tt
goes_backs arena (Some region) None = tt
goes_backs arena gained (Some batch) = tt

goes_resizes : (arena : ℕ) (gained : Option Held) (batch : Option BatchFacts) → Resizes (batch_goes arena gained batch).next
goes_resizes arena None None = tt
goes_resizes arena (Some region) None = tt
goes_resizes arena gained (Some batch) = tt

goes_leads : (request : Request) (arena : ℕ) (gained : Option Held) (batch : Option BatchFacts) → Leads request NextBatch → Leads request (batch_goes arena gained batch).next
goes_leads request arena None None leads = ends_leads request _
goes_leads request arena (Some region) None leads = ends_leads request _
goes_leads request arena gained (Some batch) leads = grind arith

-- a region of a class is got in place of the one in hand
got_resizes : (class count : ℕ) → Resizes (get true class 1 count)
got_resizes class count = grind (arith, nat_tests)

move_resizes : (of : Request) (arena class : ℕ) (found : Option Held) (desk : DeskFacts) → Resizes (move_stage of arena class found desk).next
move_resizes of arena class (Some region) desk =
    let now : DeskFacts = desk_moved class (Some region) desk in goes_resizes arena (gives of now) (batch_of (going (flushes of) now))
move_resizes of arena class None desk = got_resizes class (share class desk)

resized_leads : (of : Request) (class : ℕ) (region : Held) (desk : DeskFacts) → Resizes (begin_resize of class region desk).next
resized_leads of class region desk =
    cond_both (class == region.class) _ _ (λ (at : Stage). Resizes at.next) (λ _. tt)
    (λ _. cond_both (are_large class region.class) _ _ (λ (at : Stage). Resizes at.next)
    (λ _. cond_both (nat_lt class region.class) _ _ (λ point. Resizes (Go (Turns point))) (λ _. tt) (λ _. tt))
    (λ _. move_resizes of region.arena class (hit class desk) desk))

realloc_leads : (addr size : ℕ) (held : Option Held) (desk : DeskFacts) → Resizes (begin_realloc addr size held desk).next
realloc_leads addr size None desk = tt
realloc_leads addr size (Some region) desk =
    cond_both (nat_lt (2 ^ 35) size) _ _ (λ (at : Stage). Resizes at.next) (λ _. tt) (λ _. resized_leads (Realloc addr size) (class_for size) region (resizing addr region desk))

malloc_leads : (size : ℕ) (desk : DeskFacts) → Gets (begin_malloc size desk).next
malloc_leads size desk = grind (arith, nat_tests)

free_leads : (addr : ℕ) (held : Option Held) (desk : DeskFacts) → Backs (begin_free addr held desk).next
free_leads addr None desk = tt
free_leads addr (Some region) desk = goes_backs region.arena None (batch_of (going_with (freeing region desk).hand false desk))

published_leads : (addr : ℕ) (held : Option Held) → Backs (begin_publish addr held).next
published_leads addr None = tt
published_leads addr (Some region) = tt

pub begin_leads : (request : Request) (desk : DeskFacts) → Leads request (begin_stage request desk).next
begin_leads (Malloc size) desk = malloc_leads size desk
begin_leads (Memalign align size) desk = begin_gets align size desk
begin_leads (Realloc addr size) desk = realloc_leads addr size (held_at addr desk) desk
begin_leads (Free addr) desk = free_leads addr (held_at addr desk) desk
begin_leads (Publish addr) desk = published_leads addr (held_at addr desk)
begin_leads Flush desk = goes_backs desk.arena None (batch_of (going true desk))
begin_leads (Cache true) desk = tt
begin_leads (Cache false) desk = goes_backs desk.arena None (batch_of (going true desk))
begin_leads request desk = grind (arith, nat_tests)

over_leads : (request : Request) (index : ℕ) (point : Point) → Leads request (InArena index point) → Leads request (Go point)
over_leads request index point leads = grind arith

-- where a cached region takes the place of the one in hand, that goes back
move_more : (request : Request) (class : ℕ) → Leads request (Move class) → Leads request NextBatch
move_more request class leads = grind arith

got_leads : (request : Request) (class count : ℕ) → Leads request (Move class) → Leads request (get true class 1 count)
got_leads request class count leads = grind (arith, got_resizes)

moved_leads : (request of : Request) (arena class : ℕ) (found : Option Held) (desk : DeskFacts) → Leads request (Move class) → Leads request (move_stage of arena class found desk).next
moved_leads request of arena class (Some region) desk leads =
    let now : DeskFacts = desk_moved class (Some region) desk in goes_leads request arena (gives of now) (batch_of (going (flushes of) now)) (move_more request class leads)
moved_leads request of arena class None desk leads = got_leads request class (share class desk) leads

pub settle_leads : (request : Request) (of : Request) (desk : DeskFacts) (arena : ℕ) (next : Next) → Leads request next → Leads request (settle of desk arena next).next
settle_leads request of desk arena (Go point) leads = leads
settle_leads request of desk arena (InArena index point) leads = over_leads request index point leads
settle_leads request of desk arena NextBatch leads = goes_leads request arena (gives of desk) (batch_of (going (flushes of) desk)) leads
settle_leads request of desk arena (Move class) leads = moved_leads request of arena class (hit class desk) desk leads
settle_leads request of desk arena NotLive leads = ends_leads request _
settle_leads request of desk arena (Ends answer) leads = leads
settle_leads request of desk arena Nowhere leads = leads

pub publish_leads : (request : Request) (addr : ℕ) → Leads request (Go (Turns (Owning addr true false))) → Leads request (Go (Turns (Owning addr true true)))
publish_leads request addr leads = grind arith

-- one that takes a region over leads where one that frees it does
pub takes_frees : (point : Point) → PointOwns point → PointFrees point
takes_frees point owns = grind arith

-- ---- the replies that end a call

-- an answer that gives nothing
abbrev Fails : Answered → Type 0
Fails (Ok given) = ⊥
Fails answer = Unit {0}

-- where such an answer comes from: a step led to it, or found no arena
abbrev IsFrom : ℕ → Next → Answered → Type 0
IsFrom arena (Ends told) answer = told ≡ answer
IsFrom arena NotLive answer = NoSuchArena arena ≡ answer
IsFrom arena next answer = ⊥

given_not : (given : Given) (answer : Answered) → Fails answer → Ends (Ok given) ≡ Ends answer → ⊥
given_not given (Ok other) fails is = fails
given_not given answer fails is = absurd (cc)

goes_not : (arena : ℕ) (gained : Option Held) (batch : Option BatchFacts) (answer : Answered) → Fails answer → (batch_goes arena gained batch).next ≡ Ends answer → ⊥
goes_not arena None None answer fails is = given_not _ answer fails is
goes_not arena (Some region) None answer fails is = given_not _ answer fails is
goes_not arena gained (Some batch) answer fails is = absurd (cc)

got_not : (class count : ℕ) (answer : Answered) → get true class 1 count ≡ Ends answer → ⊥
got_not class count answer is = grind (arith, nat_tests)

move_not : (of : Request) (arena class : ℕ) (found : Option Held) (desk : DeskFacts) (answer : Answered) → Fails answer → (move_stage of arena class found desk).next ≡ Ends answer → ⊥
move_not of arena class (Some region) desk answer fails is =
    let now : DeskFacts = desk_moved class (Some region) desk in goes_not arena (gives of now) (batch_of (going (flushes of) now)) answer fails is
move_not of arena class None desk answer fails is = got_not class (share class desk) answer is

ends_from : (of : Request) (desk : DeskFacts) (arena : ℕ) (next : Next) (answer : Answered) → Fails answer → (settle of desk arena next).next ≡ Ends answer → IsFrom arena next answer
ends_from of desk arena (Go point) answer fails is = absurd (cc)
ends_from of desk arena (InArena index point) answer fails is = absurd (cc)
ends_from of desk arena NextBatch answer fails is = goes_not arena (gives of desk) (batch_of (going (flushes of) desk)) answer fails is
ends_from of desk arena (Move class) answer fails is = move_not of arena class (hit class desk) desk answer fails is
ends_from of desk arena NotLive answer fails is = cc
ends_from of desk arena (Ends told) answer fails is = cc
ends_from of desk arena Nowhere answer fails is = absurd (cc)

-- a turn at the point may be told that there is no arena
abbrev pub CanGo : Point → Type 0
CanGo (Turns (Filling wish count)) = Unit {0}
CanGo (Turns (Looking wish)) = Unit {0}
CanGo (Turns (Taking visit left)) = Unit {0}
CanGo (Turns (Advancing now)) = Unit {0}
CanGo (Turns (Changing setting change)) = Unit {0}
CanGo (Turns (Resetting cached)) = Unit {0}
CanGo (Turns (Destroying cached)) = Unit {0}
CanGo (Turns (Owning addr frees past)) = Unit {0}
CanGo point = ⊥

-- no arena is answered at such a point alone
no_arena_step : (arena index : ℕ) (point : Point) (reply : Reply) → IsFrom arena (step point (Replied reply)) (NoSuchArena index) → CanGo point
no_arena_step arena index point reply from = grind (arith, nat_tests)

pub no_arena_at : (of : Request) (desk : DeskFacts) (arena index : ℕ) (point : Point) (reply : Reply) → (settle of desk arena (step point (Replied reply))).next ≡ Ends (NoSuchArena index) → CanGo point
no_arena_at of desk arena index point reply ends = no_arena_step arena index point reply (ends_from of desk arena (step point (Replied reply)) (NoSuchArena index) tt ends)

-- the region at an address is taken over there
abbrev pub OwnsAt : ℕ → Point → Type 0
OwnsAt addr (Turns (Owning at frees past)) = at ≡ addr
OwnsAt addr point = ⊥

-- that a region isn't held is answered where none was to be had
not_held_step : (arena addr : ℕ) (point : Point) (reply : Reply) → IsFrom arena (step point (Replied reply)) (NotHeld addr) → (reply ≡ Nothing) × OwnsAt addr point
not_held_step arena addr point reply from = grind (arith, nat_tests)

pub not_held_at : (of : Request) (desk : DeskFacts) (arena addr : ℕ) (point : Point) (reply : Reply) → (settle of desk arena (step point (Replied reply))).next ≡ Ends (NotHeld addr) → (reply ≡ Nothing) × OwnsAt addr point
not_held_at of desk arena addr point reply ends = not_held_step arena addr point reply (ends_from of desk arena (step point (Replied reply)) (NotHeld addr) tt ends)

-- that an arena is in use is answered where it was to be emptied or ended
abbrev pub Empties : Point → Type 0
Empties (Turns (Resetting cached)) = Unit {0}
Empties (Turns (Destroying cached)) = Unit {0}
Empties point = ⊥

in_use_step : (arena held flights threads : ℕ) (point : Point) (reply : Reply) → IsFrom arena (step point (Replied reply)) (Busy held flights threads) →
    (reply ≡ replies.Busy held flights threads) × Empties point
in_use_step arena held flights threads point reply from = grind (arith, nat_tests)

pub in_use_at : (of : Request) (desk : DeskFacts) (arena held flights threads : ℕ) (point : Point) (reply : Reply) → (settle of desk arena (step point (Replied reply))).next ≡ Ends (Busy held flights threads) →
    (reply ≡ replies.Busy held flights threads) × Empties point
in_use_at of desk arena held flights threads point reply ends = in_use_step arena held flights threads point reply (ends_from of desk arena (step point (Replied reply)) (Busy held flights threads) tt ends)

no_arena_step_reply : (arena index : ℕ) (point : Point) (reply : Reply) → IsFrom arena (step point (Replied reply)) (NoSuchArena index) → reply ≡ NoArena
no_arena_step_reply arena index point reply from = grind (arith, nat_tests)

pub no_arena_reply : (of : Request) (desk : DeskFacts) (arena index : ℕ) (point : Point) (reply : Reply) → (settle of desk arena (step point (Replied reply))).next ≡ Ends (NoSuchArena index) → reply ≡ NoArena
no_arena_reply of desk arena index point reply ends = no_arena_step_reply arena index point reply (ends_from of desk arena (step point (Replied reply)) (NoSuchArena index) tt ends)

-- that all indexes have an arena is answered where the last one has
full_step : (arena : ℕ) (point : Point) (reply : Reply) → IsFrom arena (step point (Replied reply)) ArenasFull → (reply ≡ Nothing) × PointMakes point
full_step arena point reply from = grind (arith, nat_tests)

pub full_at : (of : Request) (desk : DeskFacts) (arena : ℕ) (point : Point) (reply : Reply) → (settle of desk arena (step point (Replied reply))).next ≡ Ends ArenasFull → (reply ≡ Nothing) × PointMakes point
full_at of desk arena point reply ends = full_step arena point reply (ends_from of desk arena (step point (Replied reply)) ArenasFull tt ends)

-- a wrong answer is told as it was replied
bad_step : (arena : ℕ) (span : Span) (why : Why) (point : Point) (reply : Reply) → IsFrom arena (step point (Replied reply)) (BadAnswer span why) → reply ≡ Bad why
bad_step arena span why point reply from = grind (arith, nat_tests)

pub bad_at : (of : Request) (desk : DeskFacts) (arena : ℕ) (span : Span) (why : Why) (point : Point) (reply : Reply) → (settle of desk arena (step point (Replied reply))).next ≡ Ends (BadAnswer span why) → reply ≡ Bad why
bad_at of desk arena span why point reply ends = bad_step arena span why point reply (ends_from of desk arena (step point (Replied reply)) (BadAnswer span why) tt ends)
