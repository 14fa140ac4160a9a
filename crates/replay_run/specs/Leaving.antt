-- What a turn of a play leaves as it was: where a hook refused, and where a call gets nothing.
use Rattle.std.specs.Prelude.{◌≡◌, ◌≢◌, ◌⊎◌, ℕ, ◌<◌, false, List, Option, None, Some, IfSome}
use Rattle.space_model.specs.Clients.{is_in, without_client}
use Rattle.space_model.specs.Outcome.{PutDown}
use Rattle.space_model.specs.declared.Ask.{Ask}
use Rattle.space_model.specs.declared.Ask.TheVariants.{Alloc, Commit, Split}
use Rattle.space_model.specs.declared.Op.{Op}
use Rattle.space_model.specs.declared.Op.TheVariants.{TrimDone}
use Rattle.space_model.specs.declared.Reply.{Reply}
use Rattle.space_model.specs.declared.Reply.TheVariants.{Noted, Landed, Regions}
use Rattle.space_model.specs.declared.Space.{Space}
use Rattle.hook_api.specs.Asked.{AskFacts}
use Rattle.call_plan.specs.Calls.{CallFacts}
use Rattle.call_plan.specs.declared.needs.Answered.{Answered}
use Rattle.call_plan.specs.declared.needs.Answered.TheVariants.{BadAnswer, NotHeld, NoArena, Busy, ArenasFull}
use Rattle.call_plan.specs.declared.needs.Request.{Request}
use Rattle.call_plan.specs.declared.needs.Request.TheVariants.{Malloc, Memalign, Create}
use Rattle.sits.specs.Arenas.{record_at, reply_in}
use Rattle.heap_core.specs.Heaps.{HeapFacts, answered_by, holder_for, op_for}
use Rattle.heap_core.specs.Seats.{seat_at}
use Rattle.replay_run.specs.Answers.{AllEvents, Tale, no_tales}
use Rattle.replay_run.specs.Plays.{AllWorlds, HasSoundHeap, IsPlay, Turned, WorldEvent, after_event}
use Rattle.replay_run.specs.World.{World, opening_world}
use Rattle.space_model.specs.declared.Answer.TheVariants as answers

-- What a turn leaves of an arena that takes a refusal in: after that of a split or a commit the extent was put down whole, in the
-- list that it belongs to and as committed as it was, and nothing else changed; after that of an alloc nothing changed. After the
-- refusal to split the extent of a region that was to be cut in place, the region stands as it was.
abbrev pub RefusalLeaves : ℕ → Op → Space → Space → Ask → Type 0
RefusalLeaves c (TrimDone heard class) s t ask = t ≡ record s { trims = without_client c s.trims }
RefusalLeaves c op s t (Split span left) = PutDown c s t span
RefusalLeaves c op s t (Commit span) = PutDown c s t span
RefusalLeaves c op s t (Alloc commit at pages align) = t ≡ s
RefusalLeaves c op s t ask = Unit {0}

-- a malloc, aligned or not
abbrev pub IsMalloc : Request → Type 0
IsMalloc (Malloc size) = Unit {0}
IsMalloc (Memalign align size) = Unit {0}
IsMalloc request = ⊥

abbrev pub IsCreate : Request → Type 0
IsCreate (Create box_no dirty_ms muzzy_ms now) = Unit {0}
IsCreate request = ⊥

-- the reply gives regions
abbrev pub GivesRegions : Reply → Type 0
GivesRegions (Landed addr count) = Unit {0}
GivesRegions (Regions addrs) = Unit {0}
GivesRegions reply = ⊥

-- the answer says that nothing could be done
abbrev pub IsFruitless : Answered → Type 0
IsFruitless (NotHeld addr) = Unit {0}
IsFruitless (NoArena index) = Unit {0}
IsFruitless (Busy held flights threads) = Unit {0}
IsFruitless (BadAnswer span why) = Unit {0}
IsFruitless ArenasFull = Unit {0}
IsFruitless answer = ⊥

-- What a turn of a client's own call leaves of its arena: what a refusal leaves, where it takes one in; of a malloc all regions as
-- they were, unless it gives some; of a create all as it was, unless it makes the arena; and all as it was where the call ends and
-- nothing could be done.
pub record Leaves (c : ℕ) (op : Op) (s t : Space) (request : Request) (asked : Option AskFacts) (reply : Reply) (answer : Option Answered) : Type 0 where
  pub refused : (heard : AskFacts) → asked ≡ Some heard → heard.answer ≡ answers.Refused → RefusalLeaves c op s t heard.ask
  pub malloc : IsMalloc request → GivesRegions reply ⊎ (t.regions ≡ s.regions)
  pub create : IsCreate request → (reply ≡ Noted) ⊎ (t ≡ s)
  pub fruitless : IfSome answer (λ given. IsFruitless given → t ≡ s)

-- the turn for a call, unless it is the one by which a holder publishes its region, leads from one heap to another
abbrev pub OwnTurnLeaves : HeapFacts → HeapFacts → ℕ → CallFacts → Op → Option AskFacts → Option ℕ → Type 0
OwnTurnLeaves h h' c call op asked (Some holder) = Unit {0}
OwnTurnLeaves h h' c call op asked None =
    Leaves c op (record_at h.records call.stage.arena).space (record_at h'.records call.stage.arena).space call.request asked
    (reply_in h.records call.stage.arena c (op_for h call op)) (answered_by h c call op None)
    × ((i : ℕ) → i ≢ call.stage.arena → record_at h'.records i ≡ record_at h.records i)

-- What an event leaves of the arenas: a turn changes its own arena alone, and leaves of it what it has to; no other event changes any.
abbrev pub EventLeaves : World → List (Option Tale) → WorldEvent → Type 0
EventLeaves w tales (Turned c call op asked) = OwnTurnLeaves w.heap (after_event w (Turned c call op asked)).heap c call op asked (holder_for w.heap call)
EventLeaves w tales event = (after_event w event).heap.records ≡ w.heap.records

-- so it is of each event of a play with sound heaps
abbrev pub EventsLeave : Type 0
EventsLeave = (events : List WorldEvent) → IsPlay opening_world events → AllWorlds HasSoundHeap opening_world events → AllEvents EventLeaves opening_world no_tales events

-- no client without an open call is shrinking a region in place
abbrev pub HasNoTrims : World → Type 0
HasNoTrims w = (c : ℕ) → c < 32 → (seat_at w.heap.seats c).call ≡ None → (i : ℕ) → is_in c (record_at w.heap.records i).space.trims ≡ false

-- so no trim outlives its call in a play
abbrev pub NoTrimsOpen : Type 0
NoTrimsOpen = (events : List WorldEvent) → IsPlay opening_world events → AllWorlds HasSoundHeap opening_world events → AllWorlds HasNoTrims opening_world events
