-- An arena under a turn lock, and what belongs to one client of it.
use Rattle.std.specs.Prelude.{◌≡◌, ◌≢◌, ℕ, ◌<◌, [], Option, None, Some, IsTrue, false, length, if◌then◌else◌}
use Rattle.std.specs.declared.snapshot.Snapshot.{Snapshot}
use Rattle.space_model.specs.declared.counts.Counts.{Counts}
use Rattle.space_model.specs.declared.spaces.Space.{Space}
use Rattle.space_model.specs.Counts.{counts_of}
use Rattle.space_model.specs.Stepped.{is_live}
use Rattle.space_model.specs.Own.{Mine, mine}
use Rattle.space_model.specs.Sound.{Sound}
use Rattle.space_model.specs.Step.{space_after, reply_to, stands}
use Rattle.arena_core.specs.Arenas.{entry_of, opens, room_of}
use Rattle.hook_api.specs.Kept.{IsKept, KeptFacts}
use Rattle.chunk_table.specs.declared.table.ChunkTable.{ChunkTable}
use Rattle.call_plan.specs.Laws.{with_found}
use Rattle.recorded_arena.specs.Records.{IsReplayed, Record, opening_record, record_after}
use Rattle.deeds.specs.Dids.{deed_of}
use Rattle.deeds.specs.declared.deeds.Deed.{Deed}
use Rattle.deeds.specs.declared.deeds.Doing.{Doing}
use Rattle.deeds.specs.declared.deeds.Told.{Told}
use Rattle.heap_shared.specs.Claims.{IsElsewhere, wanted}

-- what contracts see under the lock: the arena with its journal, the number of its seat, and the table that all arenas share
pub record Facts : Type 0 where
  pub arena : Record
  pub number : ℕ
  pub table : ChunkTable

-- what belongs to a client: what it owns of the space, and how many operations it may make that take no memory
pub record Owned : Type 0 where
  pub client : ℕ
  pub has : Mine
  pub room : ℕ

-- what contracts see of an arena, the number of its seat, and the table
abbrev pub facts_of : Record → ℕ → ChunkTable → Facts
facts_of arena number table = record { arena = arena; number = number; table = table }

-- what belongs to a client
abbrev pub owned_by : Facts → ℕ → Owned
owned_by s c = record { client = c; has = mine c s.arena.space; room = room_of c s.arena.rooms }

-- an entry of the journal as the lock's history has it: it has no bytes
abbrev pub snap : KeptFacts → Snapshot Deed
snap k = record { marker = record {}; value = record { client = k.entry.client; op = k.entry.op; asked = k.asked } }

-- the arena after an entry, the reply, and the box that the arena asks then
abbrev pub after_deed : Facts → Deed → Facts × Told
after_deed s d = (
  record { arena = record_after s.arena d.client d.op d.asked; number = s.number; table = s.table },
  record { reply = reply_to s.arena.space (entry_of d.client d.op); box_no = (space_after s.arena.space (entry_of d.client d.op)).box_no },
)

abbrev pub after_entry : Facts → Snapshot Deed → Facts × Told
after_entry s e = after_deed s e.value

-- an operation may stand by what belongs to its client: it stands in every sound space in which the client owns that, and the ask
-- that it carries is at hand
abbrev pub MayStand : Owned → Doing → Type 0
MayStand w doing =
    (opens doing.op ≡ false → 0 < w.room)
    × ((s : Space) → Sound s → mine w.client s ≡ w.has → IsTrue (stands s (entry_of w.client doing.op)))
    × IsKept (entry_of w.client doing.op) doing.asked

-- an operation that takes no memory
abbrev pub IsSure : Owned → Doing → Type 0
IsSure w doing = opens doing.op ≡ false

-- An operation left its entry: it stood in a sound arena, with the chunk that was found in another one, if one was, and leaves
-- what belongs to every other client as it was.
pub record Logs (s : Facts) (c : ℕ) (doing : Doing) (e : Snapshot Deed) : Type 0 where
  pub chunk : Option ℕ
  pub is : e.value ≡ deed_of c doing chunk
  pub elsewhere : IsElsewhere (wanted doing.op) s.arena.space chunk
  pub replayed : IsReplayed s.arena.index s.arena.kept s.arena.space
  pub clients : length s.arena.rooms ≡ 32
  pub stands : IsTrue (stands s.arena.space (entry_of c (with_found chunk doing.op)))
  pub others : (k : ℕ) → k ≢ c → owned_by (after_entry s e).0 k ≡ owned_by s k

-- no arena, of which nobody owns anything
abbrev pub nothing_owned : Owned
nothing_owned = record { client = 0; has = record { flights = []; offers = []; regions = []; bound = false; trims = false; dying = false }; room = 0 }

-- an arena at the start, by its index and the number of its seat
abbrev pub seated_facts : ℕ → ℕ → ChunkTable → Facts
seated_facts index number table = facts_of (opening_record index) number table

-- an arena at the start, whose seat has its index as its number
abbrev pub opening_facts : ℕ → ChunkTable → Facts
opening_facts index table = seated_facts index index table

-- the counts of an arena that is live
abbrev pub live_counts : Space → Option Counts
live_counts s = if is_live s.life then Some (counts_of s) else None
