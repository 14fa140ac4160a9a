-- The arenas of a heap, each with its journal.
use Rattle.std.specs.Prelude.{◌≡◌, ℕ, ℤ, ◌<◌, ◌^◌, List, Option, None, Some, if◌then◌else◌, length, map}
use Rattle.heap_core.specs.Words.{range_with_len, is_live, IsReplayed, Journal, Record, Space, opening_record, record_at}
use Rattle.heap_core.specs.Chunks.{Apart}

-- the spaces of the arenas
abbrev pub spaces_of : List Record → List Space
spaces_of records = map (λ r. r.space) records

-- There are 32 arenas, each at its index, as its journal leaves it and with the rooms of 32 clients, and no chunk has two
-- owners.
pub record IsArenas (records : List Record) : Type 0 where
  pub number : length records ≡ 32
  pub replayed : (i : ℕ) → i < 32 → IsReplayed i (record_at records i).kept (record_at records i).space
  pub indexes : (i : ℕ) → i < 32 → (record_at records i).index ≡ i
  pub clients : (i : ℕ) → i < 32 → length (record_at records i).rooms ≡ 32
  pub apart : Apart (spaces_of records)

-- The arenas are as they have to be, and the entries of each journal can be counted.
pub record AreRecorded (records : List Record) : Type 0 where
  pub arenas : IsArenas records
  pub few : (i : ℕ) → i < 32 → length (record_at records i).kept < 2 ^ 64

-- the arenas of a new heap
abbrev pub opening_records : List Record
opening_records = map opening_record (range_with_len 0 32)

-- what is told of an arena that is live, and nothing of another one
abbrev pub where_live : {X : Type 0} → (Space → X) → Space → Option X
where_live told s = if is_live s.life then Some (told s) else None

-- the box of hooks of an arena and its decay times
abbrev pub setting_of : Space → ℕ × ℤ × ℤ
setting_of s = (s.box_no, s.dirty.ms, s.muzzy.ms)

-- the most chunks by which an arena grows where no request needs so many
abbrev pub grow_limit_of : Space → ℕ
grow_limit_of s = s.grow_limit

-- the journal of an arena
abbrev pub journal_of : Record → Journal
journal_of r = record { index = r.index; kept = r.kept }
