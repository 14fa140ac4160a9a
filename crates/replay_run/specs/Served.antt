-- Which requests are valid, and what may still fail one: a refusal of what it needed, a wrong answer, or want of memory.
use Rattle.std.specs.Prelude.{◌≡◌, ◌≢◌, ℕ, ◌<◌, ◌≤◌, ◌^◌, true, replicate, List, ◌∷◌, ◌++◌, Contains, length, Option, None, Some, IfSome}
use Rattle.std.specs.List.{list_any}
use Rattle.space_model.specs.declared.Op.{Op}
use Rattle.space_model.specs.declared.Op.TheVariants.{Reset as ResetOp, Destroy as DestroyOp, TakeOver}
use Rattle.space_model.specs.Ending.{flight_count, held_count}
use Rattle.space_model.specs.Holding.{is_published_at}
use Rattle.space_model.specs.Step.{is_live}
use Rattle.space_model.specs.declared.Reply.TheVariants.{Bad, Nothing}
use Rattle.space_model.specs.declared.Space.{Space}
use Rattle.space_model.specs.declared.Why.{Why}
use Rattle.size_classes.specs.Classes.{IsAlignment}
use Rattle.hook_api.specs.Asked.{AskFacts}
use Rattle.call_plan.specs.Clients.{DeskFacts, has_cache, held_at}
use Rattle.cache_set.specs.Sets.{free_slot}
use Rattle.thread_cache.specs.declared.Held.{Held}
use Rattle.call_plan.specs.Causes.{IsNeeded, IsWishOf}
use Rattle.call_plan.specs.Desks.{meant}
use Rattle.call_plan.specs.Items.{Item, Replied, Told}
use Rattle.call_plan.specs.declared.needs.Answered.{Answered}
use Rattle.call_plan.specs.declared.needs.Answered.TheVariants.{Ok, Refused, BadAnswer, NoMemory}
use Rattle.call_plan.specs.declared.needs.Request.{Request}
use Rattle.call_plan.specs.declared.needs.Request.TheVariants.{Malloc, Memalign, Realloc, Free, FreeForeign, Publish, Take, Flush, Cache, Purge, Decay, Time, Reset, Destroy, Create, Bind, HookBox, GrowLimit, MallocIn, FreeIn, NewCache, FlushCache, EndCache}
use Rattle.call_plan.specs.declared.points.Wish.{Wish}
use Rattle.sits.specs.Arenas.{record_at}
use Rattle.heap_core.specs.Heaps.{HeapFacts}
use Rattle.replay_run.specs.Answers.{AllEvents, Tale, answer_in, no_tales, tale_in}
use Rattle.replay_run.specs.Plays.{AllWorlds, HasSoundHeap, IsPlay, Turned, WorldEvent}
use Rattle.replay_run.specs.World.{World, opening_world}
use Rattle.space_model.specs.declared.Answer.TheVariants as answers

-- ---- what a turn meets

-- the arena of a turn is live; no other event makes a turn
abbrev pub IsMetLive : HeapFacts → WorldEvent → Type 0
IsMetLive h (Turned c call op asked) = is_live (record_at h.records call.stage.arena).space.life ≡ true
IsMetLive h event = Unit {0}

-- what an operation of a client needs of an arena that it is to find there: a region to take over is published; an arena to empty
-- is in nobody else's use, and the client has cached no region of it; one to end is live beside, and nobody allocates from it
abbrev pub IsMetBy : Space → ℕ → Op → Type 0
IsMetBy s c (TakeOver addr) = list_any (is_published_at addr) s.regions ≡ true
IsMetBy s c (ResetOp cached) = (held_count s c cached ≡ 0) × (flight_count s c ≡ 0)
IsMetBy s c (DestroyOp cached) = (is_live s.life ≡ true) × (held_count s c cached ≡ 0) × (flight_count s c ≡ 0) × (length s.bound ≡ 0)
IsMetBy s c op = Unit {0}

-- a turn finds what it needs
abbrev pub IsMet : HeapFacts → WorldEvent → Type 0
IsMet h (Turned c call op asked) = IsMetBy (record_at h.records call.stage.arena).space c op
IsMet h event = Unit {0}

-- ---- valid requests

-- a client holds a region at an address
abbrev pub IsHeldBy : DeskFacts → ℕ → Type 0
IsHeldBy desk addr = (region : Held) × (held_at addr desk ≡ Some region)

-- A request is valid, by what its client had where it began (an explicit cache that it uses, or fewer than eight for one more), by what it was replied, and by what the turn meets that answers it: a
-- size of at most 2 ^ 35 bytes and an alignment that may be asked for; a region that its client holds, or that is published in the
-- arena where it is taken over; arenas that are live, one to empty or to end in nobody's use, and not arena 0; and for a create an
-- index that has no arena at its turn. A bind to a live arena is answered by the turn that leaves the old one, so that is to be live there too.
abbrev pub IsValid : World → WorldEvent → Tale → Request → Type 0
IsValid w event tale (Malloc size) = size ≤ 2 ^ 35
IsValid w event tale (Memalign align size) = IsAlignment align × (size ≤ 2 ^ 35)
IsValid w event tale (Realloc addr size) = IsHeldBy tale.began addr × (size ≤ 2 ^ 35)
IsValid w event tale (Free addr) = IsHeldBy tale.began addr
IsValid w event tale (Publish addr) = IsHeldBy tale.began addr
IsValid w event tale (FreeForeign addr arena) = (arena < 32) × IsMet w.heap event
IsValid w event tale (Take addr arena) = (arena < 32) × IsMet w.heap event
IsValid w event tale Flush = Unit {0}
IsValid w event tale (MallocIn slot size) = (has_cache slot tale.began ≡ true) × (size ≤ 2 ^ 35)
IsValid w event tale (FreeIn slot addr) = (has_cache slot tale.began ≡ true) × IsHeldBy tale.began addr
IsValid w event tale NewCache = free_slot tale.began.set ≢ None
IsValid w event tale (FlushCache slot) = has_cache slot tale.began ≡ true
IsValid w event tale (EndCache slot) = has_cache slot tale.began ≡ true
IsValid w event tale (Cache on) = Unit {0}
IsValid w event tale (Create box_no dirty_ms muzzy_ms now) = tale.items ≢ replicate 31 (Replied Nothing)
IsValid w event tale (Reset arena) = (arena ≢ 0) × (arena < 32) × IsMetLive w.heap event × IsMet w.heap event
IsValid w event tale (Destroy arena) = (arena ≢ 0) × (arena < 32) × IsMet w.heap event
IsValid w event tale (Purge arena) = (arena < 32) × IsMetLive w.heap event
IsValid w event tale (Decay arena now) = (arena < 32) × IsMetLive w.heap event
IsValid w event tale (Time arena rest ms now) = (arena < 32) × IsMetLive w.heap event
IsValid w event tale (Bind arena) = (arena < 32) × IsMetLive w.heap event
IsValid w event tale (HookBox arena box_no) = (arena < 32) × IsMetLive w.heap event
IsValid w event tale (GrowLimit arena chunks) = (arena < 32) × IsMetLive w.heap event

-- ---- their answers

-- the answers that a valid request may have: what it asked for, a refused ask, a wrong answer of a hook, or that memory was wanting
abbrev pub MayCome : Answered → Type 0
MayCome (Ok given) = Unit {0}
MayCome (Refused asked) = Unit {0}
MayCome (BadAnswer span why) = Unit {0}
MayCome NoMemory = Unit {0}
MayCome answer = ⊥

-- the answers that it may have where the hooks helped: what it asked for, or that memory was wanting
abbrev pub Serves : Answered → Type 0
Serves (Ok given) = Unit {0}
Serves NoMemory = Unit {0}
Serves answer = ⊥

-- The hooks helped a request: no ask that it needed was refused, and no alloc was placed wrongly.
pub record IsHelped (request : Request) (items : List Item) : Type 0 where
  pub granted : (wish : Wish) (earlier later : List Item) (asked : AskFacts) → IsWishOf request wish
      → items ≡ earlier ++ Told asked ∷ later → IsNeeded wish earlier asked.ask → asked.answer ≢ answers.Refused
  pub fitting : (why : Why) → Contains items (Replied (Bad why)) → ⊥

-- A valid request has one of these answers. Where it uses an explicit cache, what it needed is what the request needs as it is carried
-- out there.
pub record IsServed (w : World) (event : WorldEvent) (tale : Tale) (answer : Answered) : Type 0 where
  pub fails : IsValid w event tale tale.request → MayCome answer
  pub helped : IsValid w event tale tale.request → IsHelped (meant tale.request tale.began) tale.items → Serves answer

-- the answer that an event gives to a request is one that a valid request may have, if it is valid
abbrev pub IsServedThere : World → List (Option Tale) → WorldEvent → Type 0
IsServedThere w tales event = IfSome (answer_in w event) (λ answer. IfSome (tale_in w tales event) (λ tale. IsServed w event tale answer))

-- each valid request of a play with sound heaps is served, unless a hook refused what it needed or answered wrongly, or memory was wanting
abbrev pub ValidAreServed : Type 0
ValidAreServed = (events : List WorldEvent) → IsPlay opening_world events → AllWorlds HasSoundHeap opening_world events → AllEvents IsServedThere opening_world no_tales events
