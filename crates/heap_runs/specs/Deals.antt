-- How the passes of a lock come to the contexts of a new heap.
use Rattle.std.specs.Prelude.{◌≡◌, ℕ, ◌+◌, ◌<◌, ◌≤◌, ◌++◌, List, [], ◌∷◌, None, Some, false, length, replicate, slice_get}
use Rattle.std.specs.Arc.{arc_value}
use Rattle.sits.specs.Arenas.{AreArenas}
use Rattle.std.specs.declared.snapshot.Snapshot.{Snapshot}
use Rattle.turn_lock.specs.declared.machine.Machine.{Ghosts}
use Rattle.turn_lock.specs.declared.lock.TurnLock.{TurnLock}
use Rattle.turn_lock.specs.declared.lock.Pass.{Pass}
use Rattle.chunk_table.specs.declared.table.ChunkTable.{ChunkTable}
use Rattle.turn_lock.specs.Locks.{first, number, seat_count, seen, spare, IsPassOf}
use Rattle.deeds.specs.declared.deeds.Deed.{Deed}
use Rattle.deeds.specs.declared.deeds.Doing.{Doing}
use Rattle.deeds.specs.declared.deeds.Told.{Told}
use Rattle.heap_shared.specs.Shared.{Facts, Owned, opening_facts, seated_facts}
use Rattle.heap_shared.specs.declared.machine.ArenaTurns.{ArenaTurns}
use Rattle.hook_api.specs.declared.seat.AskSeat.{AskSeat}
use Rattle.call_plan.specs.Clients.{DeskFacts}
use Rattle.heap_runs.specs.Ways.{AreWays, known}
use Rattle.heap_runs.specs.declared.heaps.Ctx.{Ctx}
use Rattle.heap_runs.specs.declared.heaps.SharedHeap.{SharedHeap}
use Rattle.heap_runs.specs.Heaps.{Rests, log_of}

abbrev pub Lock : Type 0
Lock = TurnLock ArenaTurns Facts Doing (Snapshot Deed) Told Owned

module _ {g : Ghosts ArenaTurns Facts Doing (Snapshot Deed) Told Owned} where
  -- a pass that saw nothing yet has the numbers from j on, below the count
  pub record IsNext (lock : Lock) (j count : ℕ) (pass : Pass ArenaTurns Facts Doing (Snapshot Deed) Told Owned g) : Type 0 where
    pub own : IsPassOf lock pass
    pub number : number pass ≡ j
    pub spare : spare pass + (j + 1) ≡ count
    pub fresh : seen pass ≡ []

  -- one pass was added, which has the number j alone
  pub record IsDealt (lock : Lock) (j : ℕ) (olds news : List (Pass ArenaTurns Facts Doing (Snapshot Deed) Told Owned g)) : Type 0 where
    pub pass : Pass ArenaTurns Facts Doing (Snapshot Deed) Told Owned g
    pub items : news ≡ olds ++ pass ∷ []
    pub is : IsNext lock j (j + 1) pass

-- a context got a pass, and nothing else
pub record IsGiven (lock : Lock) (j : ℕ) (old new : Ctx) : Type 0 where
  pub client : new.client ≡ old.client
  pub desk : new.desk ≡ old.desk
  pub seat : new.seat ≡ old.seat
  pub passes : IsDealt lock j old.passes.items new.passes.items

-- the first j contexts did
pub record GivenTo (lock : Lock) (olds : List Ctx) (j : ℕ) (news : List Ctx) : Type 0 where
  pub count : length news ≡ length olds
  pub given : (k : ℕ) (old new : Ctx) → k < j → slice_get olds k ≡ Some old → slice_get news k ≡ Some new → IsGiven lock k old new
  pub kept : (k : ℕ) → j ≤ k → slice_get news k ≡ slice_get olds k

-- all did
pub record AreGiven (lock : Lock) (olds news : List Ctx) : Type 0 where
  pub count : length news ≡ length olds
  pub each : (k : ℕ) (old new : Ctx) → slice_get olds k ≡ Some old → slice_get news k ≡ Some new → IsGiven lock k old new

-- one more arena has its lock, as it is at the start with a seat of this number, and every context a pass of that
pub record IsAdded (table : ChunkTable) (number clients : ℕ) (old_locks new_locks : List Lock) (olds news : List Ctx) : Type 0 where
  pub lock : Lock
  pub locks : new_locks ≡ old_locks ++ lock ∷ []
  pub begun : first lock ≡ seated_facts (length old_locks) number table
  pub seats : seat_count lock ≡ clients
  pub given : AreGiven lock olds news

-- what a client has that has done nothing yet
abbrev pub no_desk : DeskFacts
no_desk = record { arena = 0; caches = false; cached = replicate 41 []; held = []; hand = None; gained = None; set = []; swapped = None }

-- a context that has no pass yet
pub record IsFresh (j : ℕ) (own : AskSeat) (ctx : Ctx) : Type 0 where
  pub client : ctx.client ≡ j
  pub desk : ctx.desk.facts ≡ no_desk
  pub seat : ctx.seat ≡ own
  pub passes : ctx.passes.items ≡ []

-- one for each seat
pub record AreFresh (seats : List AskSeat) (ctxs : List Ctx) : Type 0 where
  pub count : length ctxs ≡ length seats
  pub each : (j : ℕ) (seat : AskSeat) (ctx : Ctx) → slice_get seats j ≡ Some seat → slice_get ctxs j ≡ Some ctx → IsFresh j seat ctx

-- a context got a pass of each lock, and nothing else
pub record HasPasses (locks : List Lock) (j : ℕ) (old new : Ctx) : Type 0 where
  pub client : new.client ≡ old.client
  pub desk : new.desk ≡ old.desk
  pub seat : new.seat ≡ old.seat
  pub full : length new.passes.items ≡ length locks
  pub own : (i : ℕ) (lock : Lock) (pass : _) → slice_get locks i ≡ Some lock → slice_get new.passes.items i ≡ Some pass → IsNext lock j (j + 1) pass

-- so many arenas have their locks
pub record AreMade (table : ChunkTable) (clients : ℕ) (locks : List Lock) (olds news : List Ctx) : Type 0 where
  pub count : length news ≡ length olds
  pub begun : (i : ℕ) (lock : Lock) → slice_get locks i ≡ Some lock → (first lock ≡ opening_facts i table) × (seat_count lock ≡ clients)
  pub each : (j : ℕ) (old new : Ctx) → slice_get olds j ≡ Some old → slice_get news j ≡ Some new → HasPasses locks j old new

-- a context of a new heap: it has done nothing, and has seen nothing
pub record IsNewCtx (heap : SharedHeap) (j : ℕ) (own : AskSeat) (ctx : Ctx) : Type 0 where
  pub client : ctx.client ≡ j
  pub desk : ctx.desk.facts ≡ no_desk
  pub seat : ctx.seat ≡ own
  pub ways : AreWays heap.locks.items ctx.client ctx.passes.items
  pub fresh : (i : ℕ) → log_of ctx i ≡ []
  pub arenas : AreArenas false (known (arc_value heap.table) (log_of ctx))
  pub rests : Rests heap ctx

-- a new heap, with a context for each seat
pub record IsNew (heap : SharedHeap) (seats : List AskSeat) (ctxs : List Ctx) : Type 0 where
  pub clients : heap.clients ≡ length seats
  pub boxes : heap.boxes ≡ Some 0 ∷ replicate 31 None
  pub count : length ctxs ≡ length seats
  pub each : (j : ℕ) (seat : AskSeat) (ctx : Ctx) → slice_get seats j ≡ Some seat → slice_get ctxs j ≡ Some ctx → IsNewCtx heap j seat ctx
