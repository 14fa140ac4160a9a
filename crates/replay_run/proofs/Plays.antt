-- Plays that grow by an event.
use Rattle.replay_run.proofs.Words.{◌≡◌, ℕ, Option, None, Some, refl, Answered, Request, HeapFacts, call_at, goes_on, stepped, stepped_on, List, [], ◌∷◌, ◌++◌, subst, Chain, ShelfEvent, Shelf, AllWorlds, WorldEvent, IsNext, IsPlay, after_event, world_after, World}

-- an event that can come next goes on with the play
pub play_push : (w : World) (events : List WorldEvent) (event : WorldEvent) → IsPlay w events → IsNext (world_after w events) event → IsPlay w (events ++ event ∷ [])
play_push w [] event play next = (next, tt)
play_push w (first ∷ events) event play next = (play.0, play_push (after_event w first) events event play.1 next)

-- what is true of all worlds is so with one more
pub worlds_push : (P : World → Type 0) (w : World) (events : List WorldEvent) (event : WorldEvent) → AllWorlds P w events → P (after_event (world_after w events) event) →
    AllWorlds P w (events ++ event ∷ [])
worlds_push P w [] event all more = (all, more)
worlds_push P w (first ∷ events) event all more = (all.0, worlds_push P (after_event w first) events event all.1 more)

-- it is true of the last one
pub last_world : (P : World → Type 0) (w : World) (events : List WorldEvent) → AllWorlds P w events → P (world_after w events)
last_world P w [] all = all
last_world P w (first ∷ events) all = last_world P (after_event w first) events all.1

-- one chain of a shelf goes on with another
pub chain_append : (old mid new : Shelf) (events more : List ShelfEvent) → Chain old events mid → Chain mid more new → Chain old (events ++ more) new
chain_append old mid new [] more first second = subst (λ (s : Shelf). Chain s more new) first second
chain_append old mid new (event ∷ events) more first second = (first.0, first.1, chain_append first.0 mid new events more first.2 second)

-- where a step leads, its heap is this one
pub stepped_heap : (w : World) (c : ℕ) (heap : HeapFacts) (line : List ℕ) (answer : Option Answered) → (stepped w c heap line answer).heap ≡ heap
stepped_heap w c heap line answer = by (goes_on (call_at w.calls c) answer)
  where
    by : (next : Option Request) → (stepped_on w c heap line answer next).heap ≡ heap
    by None = refl
    by (Some request) = refl
