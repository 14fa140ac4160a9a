-- What a realloc in a play leaves its client of what that held, whatever other clients do meanwhile.
use Rattle.std.specs.Prelude.{◌≡◌, ◌≢◌, ◌⊎◌, ℕ, ◌<◌, ◌^◌, ◌==◌, List, [], ◌∷◌, ◌++◌, Contains, Option, None, Some, IfSome, if◌then◌else◌}
use Rattle.size_classes.specs.Classes.{class_for}
use Rattle.thread_cache.specs.declared.Held.{Held}
use Rattle.call_plan.specs.Clients.{DeskFacts, held_at}
use Rattle.call_plan.specs.declared.needs.Answered.{Answered}
use Rattle.call_plan.specs.declared.needs.Answered.TheVariants.{Ok, NoMemory, NotHeld, TooLarge}
use Rattle.call_plan.specs.declared.needs.Given.TheVariants.{Region}
use Rattle.call_plan.specs.declared.needs.Request.{Request}
use Rattle.call_plan.specs.declared.needs.Request.TheVariants.{Realloc}
use Rattle.call_plan.specs.Items.{Starved as FoundNoMemory}
use Rattle.call_plan.specs.Reads.{taken_next}
use Rattle.heap_core.specs.Heaps.{holder_for, moment_after}
use Rattle.heap_core.specs.Seats.{answer_of, seat_at}
use Rattle.replay_run.specs.Answers.{Tale, answer_in, no_tales, tale_at, tale_in, tales_after}
use Rattle.replay_run.specs.Plays.{AllWorlds, HasSoundHeap, IsPlay, WorldEvent, Read, Began, WentOn, Turned, Told, Starved, after_event}
use Rattle.replay_run.specs.World.{World, opening_world}

-- ---- what others free meanwhile

-- one more address, where this client holds the region there
abbrev pub with_freed : ℕ → Option ℕ → Option ℕ → List ℕ → List ℕ
with_freed c (Some holder) (Some addr) freed = if holder == c then freed ++ addr ∷ [] else freed
with_freed c holder addr freed = freed

-- The addresses of the regions of a client that other clients freed since its last call began, after an event: those that it
-- published for the calls that free them.
abbrev pub freed_after : ℕ → World → WorldEvent → List ℕ → List ℕ
freed_after c w (Began other verb whole) freed = if other == c then [] else freed
freed_after c w (WentOn other request behind) freed = if other == c then [] else freed
freed_after c w (Turned other call op asked) freed = with_freed c (holder_for w.heap call) (taken_next call.stage.next) freed
freed_after c w event freed = freed

-- ---- what a realloc leaves

-- A client holds at an address what it held there, or nothing, where another client freed that meanwhile.
abbrev pub IsLeftAt : List ℕ → DeskFacts → DeskFacts → ℕ → Type 0
IsLeftAt freed had has at = (held_at at has ≡ held_at at had) ⊎ (Contains freed at × (held_at at has ≡ None))

-- A region of the class is held at an address in the place of the one at another, which is held no more. Each other address is
-- left as it was.
pub record TakesPlace (addr class : ℕ) (freed : List ℕ) (had : DeskFacts) (new : ℕ) (has : DeskFacts) : Type 0 where
  pub region : Held
  pub there : region.addr ≡ new
  pub sized : region.class ≡ class
  pub holds : held_at new has ≡ Some region
  pub gone : new ≢ addr → held_at addr has ≡ None
  pub others : (at : ℕ) → at ≢ addr → at ≢ new → IsLeftAt freed had has at

-- The region at the address is held as before, each other address is left as it was, and all that was cached is.
pub record IsStillHeld (addr : ℕ) (old : Held) (freed : List ℕ) (had has : DeskFacts) : Type 0 where
  pub holds : held_at addr has ≡ Some old
  pub others : (at : ℕ) → at ≢ addr → IsLeftAt freed had has at
  pub cached : has.cached ≡ had.cached

-- The region at the address is held as before, and one of the class at another. Each other address is left as it was.
pub record AreBothHeld (addr class : ℕ) (old : Held) (freed : List ℕ) (had has : DeskFacts) : Type 0 where
  pub region : Held
  pub sized : region.class ≡ class
  pub holds : held_at region.addr has ≡ Some region
  pub still : region.addr ≢ addr → held_at addr has ≡ Some old
  pub others : (at : ℕ) → at ≢ addr → at ≢ region.addr → IsLeftAt freed had has at

-- What a client has after a realloc of a region that it held at the address, by the answer. Where it is a region, that is one of the
-- class of the size, and is held in the place of the old one. Where memory was wanting, the old one is held, or both. Any other
-- refusal leaves the old one held, and what was cached.
abbrev pub ReallocLeaves : ℕ → ℕ → Held → List ℕ → DeskFacts → Answered → DeskFacts → Type 0
ReallocLeaves addr size old freed had (Ok (Region new class)) has = (class ≡ class_for size) × TakesPlace addr (class_for size) freed had new has
ReallocLeaves addr size old freed had (Ok given) has = ⊥
ReallocLeaves addr size old freed had TooLarge has = (2 ^ 35 < size) × IsStillHeld addr old freed had has
ReallocLeaves addr size old freed had NoMemory has = IsStillHeld addr old freed had has ⊎ AreBothHeld addr (class_for size) old freed had has
ReallocLeaves addr size old freed had answer has = IsStillHeld addr old freed had has

-- the same, where no region was held at the address: then nothing has changed
abbrev pub ReallocLeavesOf : ℕ → ℕ → Option Held → List ℕ → DeskFacts → Answered → DeskFacts → Type 0
ReallocLeavesOf addr size None freed had answer has = (answer ≡ NotHeld addr) × (has ≡ had)
ReallocLeavesOf addr size (Some old) freed had answer has = ReallocLeaves addr size old freed had answer has

-- what a client has after a request, by what it had before, if that is a realloc
abbrev pub IsLeftBy : Request → DeskFacts → List ℕ → Answered → DeskFacts → Type 0
IsLeftBy (Realloc addr size) had freed answer has = ReallocLeavesOf addr size (held_at addr had) freed had answer has
IsLeftBy request had freed answer has = Unit {0}

-- ---- in a play

-- the client whose call an event begins or carries on
abbrev pub client_in : WorldEvent → Option ℕ
client_in (Read line) = None
client_in (Began c verb whole) = Some c
client_in (WentOn c request behind) = Some c
client_in (Turned c call op asked) = Some c
client_in (Told c call asked) = Some c
client_in (Starved c call) = Some c

-- the answer with which an event ends a request, if it does, also where memory was wanting
abbrev pub end_in : World → WorldEvent → Option Answered
end_in w (Starved c call) = answer_of (moment_after w.heap c call FoundNoMemory)
end_in w event = answer_in w event

-- the tale of that request
abbrev pub ended_tale : World → List (Option Tale) → WorldEvent → Option Tale
ended_tale w tales (Starved c call) = tale_at tales c
ended_tale w tales event = tale_in w tales event

-- an event that ends a realloc of the client leaves it what the answer says, compared with what it had where the call began
abbrev pub IsReallocLeft : ℕ → World → List (Option Tale) → List ℕ → WorldEvent → Type 0
IsReallocLeft c w tales freed event = client_in event ≡ Some c → IfSome (end_in w event) (λ answer. IfSome (ended_tale w tales event) (λ tale.
    IsLeftBy tale.request tale.began (freed_after c w event freed) answer (seat_at (after_event w event).heap.seats c).desk))

-- something is true of each event of a play, with the world, the tales, and what others freed of a client's regions before it
abbrev pub AllEventsOf : ℕ → (World → List (Option Tale) → List ℕ → WorldEvent → Type 0) → World → List (Option Tale) → List ℕ → List WorldEvent → Type 0
AllEventsOf c P w tales freed [] = Unit {0}
AllEventsOf c P w tales freed (event ∷ events) = P w tales freed event × AllEventsOf c P (after_event w event) (tales_after w event tales) (freed_after c w event freed) events

-- each realloc of a play with sound heaps leaves its client what the answer says
abbrev pub ReallocsLeave : Type 0
ReallocsLeave = (c : ℕ) → c < 32 → (events : List WorldEvent) → IsPlay opening_world events → AllWorlds HasSoundHeap opening_world events
    → AllEventsOf c (IsReallocLeft c) opening_world no_tales [] events
