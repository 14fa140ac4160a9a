-- The locks of a heap's arenas, and what a client knows of the arenas by its passes.
use Rattle.std.specs.Prelude.{◌≡◌, ℕ, ◌<◌, ◌==◌, ◌++◌, ◌∷◌, List, [], Some, length, map, slice_get, if◌then◌else◌}
use Rattle.std.specs.List.{range_with_len}
use Rattle.std.specs.Option.{option_map_or}
use Rattle.std.specs.declared.snapshot.Snapshot.{Snapshot}
use Rattle.chunk_table.specs.Tables.{arena_count}
use Rattle.chunk_table.specs.declared.table.ChunkTable.{ChunkTable}
use Rattle.turn_lock.specs.declared.machine.Machine.{Ghosts}
use Rattle.turn_lock.specs.declared.lock.TurnLock.{TurnLock}
use Rattle.turn_lock.specs.declared.lock.Pass.{Pass}
use Rattle.turn_lock.specs.declared.view.Turn.{Turn}
use Rattle.turn_lock.specs.History.{replay_turns}
use Rattle.turn_lock.specs.Locks.{first, number, seat_count, seen, spare, IsPassOf}
use Rattle.recorded_arena.specs.Records.{Record}
use Rattle.deeds.specs.Dids.{Did, Took}
use Rattle.deeds.specs.declared.deeds.Deed.{Deed}
use Rattle.deeds.specs.declared.deeds.Doing.{Doing}
use Rattle.deeds.specs.declared.deeds.Told.{Told}
use Rattle.heap_shared.specs.Shared.{Facts, Owned, after_entry, opening_facts}
use Rattle.heap_runs.specs.Histories.{told_in, told_to}

module _ {M : Type 0} where
  -- Each of the 32 locks is that of the arena with its index, as it is at the start, and the table of chunks is for just these.
  pub record AreLocks (table : ChunkTable) (clients : ℕ) (locks : List (TurnLock M Facts Doing (Snapshot Deed) Told Owned)) : Type 0 where
    pub arenas : arena_count table ≡ 32
    pub number : length locks ≡ 32
    pub begun : (i : ℕ) (lock : TurnLock M Facts Doing (Snapshot Deed) Told Owned) → slice_get locks i ≡ Some lock → (first lock ≡ opening_facts i table) × (seat_count lock ≡ clients)

  module _ {g : Ghosts M Facts Doing (Snapshot Deed) Told Owned} where
    -- the history of an arena that its pass has seen
    abbrev pub seen_at : List (Pass M Facts Doing (Snapshot Deed) Told Owned g) → ℕ → List (Turn (Snapshot Deed))
    seen_at passes i = option_map_or (seen {g = g}) (slice_get passes i) []

    -- The passes are those of one client, one for each arena.
    pub record AreWays (locks : List (TurnLock M Facts Doing (Snapshot Deed) Told Owned)) (c : ℕ) (passes : List (Pass M Facts Doing (Snapshot Deed) Told Owned g)) : Type 0 where
      pub few : c < 32
      pub full : length passes ≡ 32
      pub own : (i : ℕ) (lock : TurnLock M Facts Doing (Snapshot Deed) Told Owned) (pass : Pass M Facts Doing (Snapshot Deed) Told Owned g)
          → slice_get locks i ≡ Some lock → slice_get passes i ≡ Some pass → IsPassOf lock pass × (number pass ≡ c) × (spare pass ≡ 0)

-- the arena with an index after a history
abbrev pub state_of : ChunkTable → ℕ → List (Turn (Snapshot Deed)) → Facts
state_of table i log = replay_turns after_entry (opening_facts i table) log

-- the 32 arenas, each after the history that is known of it
abbrev pub known : ChunkTable → (ℕ → List (Turn (Snapshot Deed))) → List Record
known table logs = map (λ i. (state_of table i (logs i)).arena) (range_with_len 0 32)

-- the entries of a client in the history of an arena, each with what its turn told
abbrev pub turns_in : ChunkTable → ℕ → ℕ → List (Turn (Snapshot Deed)) → List (Snapshot Deed × Told)
turns_in table c i log = told_to after_entry c (opening_facts i table) log

-- the client that an entry names
abbrev pub client_of : Snapshot Deed → ℕ
client_of e = e.value.client

-- the entries of a client in the journal of an arena, each with what its turn told
abbrev pub told_of : ChunkTable → ℕ → ℕ → List (Snapshot Deed) → List (Snapshot Deed × Told)
told_of table c i deeds = told_in after_entry client_of c (opening_facts i table) deeds

-- ---- what was done in one arena

-- an entry as the history of an arena's lock has it: it has no bytes
abbrev pub seal : Deed → Snapshot Deed
seal deed = record { marker = record {}; value = deed }

-- the entry of an arena that was made, with what its turn told
abbrev pub taken_in : ℕ → Did → List (Snapshot Deed × Told)
taken_in i (Took arena deed told) = if arena == i then (seal deed, told) ∷ [] else []
taken_in i did = []

-- the entries of an arena that were made, in order, each with what its turn told
abbrev pub took_in : ℕ → List Did → List (Snapshot Deed × Told)
took_in i [] = []
took_in i (did ∷ dids) = taken_in i did ++ took_in i dids
