-- The walk: the calls of some clients, and the journals in which just these were carried out.
use Rattle.std.specs.Prelude.{◌≡◌, ◌≢◌, ◌<◌, ◌++◌, ℕ, List, [], Some, map, slice_get}
use Rattle.std.specs.Arc.{arc_value}
use Rattle.std.specs.declared.snapshot.Snapshot.{Snapshot}
use Rattle.chunk_table.specs.declared.table.ChunkBook.{ChunkBook}
use Rattle.chunk_table.specs.declared.table.ChunkTable.{ChunkTable}
use Rattle.hook_api.specs.declared.kept.Journal.{Journal}
use Rattle.heap_shared.specs.Shared.{snap}
use Rattle.call_plan.specs.Clients.{DeskFacts}
use Rattle.call_plan.specs.declared.needs.Request.{Request}
use Rattle.hook_api.specs.declared.shared.SharedShelf.{SharedShelf}
use Rattle.deeds.specs.declared.deeds.Deed.{Deed}
use Rattle.heap_runs.specs.Ways.{told_of, took_in}
use Rattle.heap_runs.specs.declared.heaps.Ctx.{Ctx}
use Rattle.heap_runs.specs.declared.heaps.SharedHeap.{SharedHeap}
use Rattle.heap_runs.specs.Closes.{HasJournal}
use Rattle.heap_runs.specs.Heaps.{turns_of}
use Rattle.heap_runs.specs.Walks.{Done, Walk, Worked, dids_of}

-- A client's calls, from what it had at the start to what it has.
pub record Client : Type 0 where
  pub client : ℕ
  pub had : DeskFacts
  pub calls : List Done
  pub has : DeskFacts

-- Each client walked, and the journal of an arena has of each its own turns, in order, each with the reply that its place in the
-- journal gives it; and no other entry.
pub record Legal (table : ChunkTable) (clients : List Client) (i : ℕ) (deeds : List (Snapshot Deed)) : Type 0 where
  pub walks : (j : ℕ) (one : Client) → slice_get clients j ≡ Some one → Walk one.client one.had one.calls one.has
  pub turns : (j : ℕ) (one : Client) → slice_get clients j ≡ Some one → told_of table one.client i deeds ≡ took_in i (dids_of one.calls)
  pub others : (n : ℕ) → ((j : ℕ) (one : Client) → slice_get clients j ≡ Some one → one.client ≢ n) → told_of table n i deeds ≡ []

-- one of them is that of the context at a place
pub record IsClient {H : Type 0} (shelf : SharedShelf H) (heap : SharedHeap) (olds news : List Ctx) (j : ℕ) (one : Client) : Type 0 where
  pub old : Ctx
  pub new : Ctx
  pub was : slice_get olds j ≡ Some old
  pub is : slice_get news j ≡ Some new
  pub requests : List Request
  pub work : Worked shelf heap old requests new
  pub same : one ≡ record { client = new.client; had = old.desk.facts; calls = work.calls; has = new.desk.facts }

-- What the clients did over all phases: they are those of the contexts, and each context worked from its first to its last.
pub record AreClients {H : Type 0} (shelf : SharedShelf H) (heap : SharedHeap) (olds news : List Ctx) (clients : List Client) : Type 0 where
  pub each : (j : ℕ) (one : Client) → slice_get clients j ≡ Some one → IsClient shelf heap olds news j one
  pub all : (j : ℕ) (ctx : Ctx) → slice_get news j ≡ Some ctx → (one : Client) × (slice_get clients j ≡ Some one) × (one.client ≡ ctx.client)

-- ---- laws

-- none of the contexts had a turn of the arena
abbrev pub HadNone : SharedHeap → List Ctx → ℕ → Type 0
HadNone heap olds i = (j : ℕ) (old : Ctx) → slice_get olds j ≡ Some old → turns_of heap old i ≡ []

-- the journal that a closed heap left of an arena is legal, where the clients had no turn there before
abbrev pub JournalsAreLegal : Type 0 → Type 0
JournalsAreLegal H = (shelf : SharedShelf H) (heap : SharedHeap) (olds news : List Ctx) (clients : List Client) (book : ChunkBook) (i : ℕ) (journal : Journal)
    → i < 32 → HadNone heap olds i → HasJournal heap news book i journal → AreClients shelf heap olds news clients → Legal (arc_value heap.table) clients i (map snap journal.kept)

-- requests that were carried out one part after another were carried out
abbrev pub PhasesAddUp : Type 0 → Type 0
PhasesAddUp H = (shelf : SharedShelf H) (heap : SharedHeap) (old mid new : Ctx) (first later : List Request)
    → Worked shelf heap old first mid → Worked shelf heap mid later new → Worked shelf heap old (first ++ later) new
