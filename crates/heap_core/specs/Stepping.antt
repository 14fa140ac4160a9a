-- What the parts of a step of a client rest on.
use Rattle.std.specs.Prelude.{◌≡◌, ◌≢◌, ◌+◌, ◌<◌, ◌≤◌, ℕ, true, false, List, Option, None, Some, Result, Ok, Err, IfOk, IsOk, IsSomeAnd, OnOk, OnErr}
use Rattle.space_model.specs.declared.entries.Op.TheVariants.{Publish}
use Rattle.heap_core.specs.Words.{Op, Reply, AskFacts, Held, Item, Replied, Starved, Next, Go, Need, CallFacts, NeedIs, taken_next, Want, WantTurn, WantAsk, is_marked, want, Turn, opens, reply_in, room_in, records_turned, Record}
use Rattle.heap_core.specs.Arenas.{spaces_of}
use Rattle.heap_core.specs.Chunks.{with_chunk_found}
use Rattle.heap_core.specs.Clients.{after_turn}
use Rattle.heap_core.specs.Logs.{owed_to}
use Rattle.heap_core.specs.Heaps.{HeapFacts, holder_for, parted, region_for}

-- A turn with the ask whose answer its operation carries, where it carries one.
pub record TurnFacts : Type 0 where
  pub arena : ℕ
  pub client : ℕ
  pub op : Op
  pub asked : Option AskFacts

-- a turn of a call beside the ask whose answer it carries
abbrev pub with_ask : Turn → Option AskFacts → TurnFacts
with_ask turn asked = record { arena = turn.arena; client = turn.client; op = turn.op; asked = asked }

-- the reply in its place, where the turn was made
abbrev pub replied_by : {A E : Type 0} → Result A E → Reply → Result Reply E
replied_by (Ok done) reply = Ok reply
replied_by (Err error) reply = Err error

-- what a call is fed that wanted a turn
abbrev pub item_of : {E : Type 0} → Result Reply E → Item
item_of (Ok reply) = Replied reply
item_of (Err error) = Starved

-- the open call of a client needs this
abbrev pub Needs : Option CallFacts → Need → Type 0
Needs call need = IsSomeAnd call (λ call. NeedIs call.client call.stage.arena call.stage.next need)

-- the turn that is wanted may find no memory
abbrev pub IsMarked : Want → Type 0
IsMarked (WantTurn op asked) = is_marked op ≡ true
IsMarked (WantAsk ask) = ⊥

-- a call stands where the turn that it wants may find no memory
abbrev pub StarvesNext : Next → Type 0
StarvesNext (Go point) = IsMarked (want point)
StarvesNext next = ⊥

-- there is an open call, whose next turn may find no memory
abbrev pub StarvesAt : Option CallFacts → Type 0
StarvesAt call = IsSomeAnd call (λ call. StarvesNext call.stage.next)

-- there is an open call, which takes a region over next to free it
abbrev pub TakesAt : Option CallFacts → Type 0
TakesAt call = IsSomeAnd call (λ call. IsSomeAnd (taken_next call.stage.next) (λ addr. Unit {0}))

-- the client that holds the region which a call takes over next to free it, with that region, or that there is none
abbrev pub HolderIs : HeapFacts → CallFacts → Option (ℕ × Held) → Type 0
HolderIs h call None = holder_for h call ≡ None
HolderIs h call (Some found) = (found.0 < 32) × (holder_for h call ≡ Some found.0) × (region_for h call found.0 ≡ Some found.1)

-- the heap after a client published a region
abbrev pub IsPublished : HeapFacts → ℕ → Held → HeapFacts → Type 0
IsPublished h holder region new = new ≡ record (parted h holder region) { records = records_turned h.records region.arena holder (Publish region.addr) None }

-- A turn was made with the places that it takes for the asks that may follow it, or memory was wanting for it, which happens only
-- where it takes some.
pub record MadeTurn {E : Type 0} (records : List Record) (owed : List ℕ) (turn : TurnFacts) (made : Result Reply E) (records' : List Record) (owed' : List ℕ) : Type 0 where
  pub after : OnOk made (records' ≡ after_turn records turn.arena turn.client turn.op turn.asked)
  pub reply : IfOk made (λ told. told ≡ reply_in records turn.arena turn.client (with_chunk_found (spaces_of records) turn.arena turn.op))
  pub err : OnErr made (records' ≡ records)
  pub sure : opens turn.op ≡ false → IsOk made
  pub others : (other : ℕ) → other ≢ turn.client → owed_to owed' other ≡ owed_to owed other
  pub kept : owed_to owed turn.client ≤ owed_to owed' turn.client
  pub places : OnOk made (opens turn.op ≡ true → room_in records' turn.arena turn.client + 1 ≤ owed_to owed' turn.client)
