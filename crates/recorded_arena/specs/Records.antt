-- An arena with its journal.
use Rattle.std.specs.Prelude.{◌≡◌, ℕ, ◌*◌, ◌≤◌, ◌==◌, ◌++◌, ◌∷◌, [], true, List, Option, length, map, max, replicate, if◌then◌else◌}
use Rattle.arena_core.specs.Arenas.{all_rooms, entry_of, given_by, rooms_after}
use Rattle.hook_api.specs.Kept.{KeptFacts}
use Rattle.hook_api.specs.Asked.{AskFacts}
use Rattle.space_model.specs.Journal.{all_stand, replay}
use Rattle.space_model.specs.Opening.{absent_space, first_space}
use Rattle.space_model.specs.Step.{space_after}
use Rattle.space_model.specs.declared.entries.Entry.{Entry}
use Rattle.space_model.specs.declared.entries.Op.{Op}
use Rattle.space_model.specs.declared.spaces.Space.{Space}
use Rattle.recorded_arena.specs.declared.Recorded.TheInside.{Inside}

-- what callers see of an arena with its journal: its index, its space, the rooms of its clients, and the entries of its
-- journal with their asks
pub record Record : Type 0 where
  pub index : ℕ
  pub space : Space
  pub rooms : List ℕ
  pub kept : List KeptFacts

-- what the arena with an index begins as: arena 0 is there, and no other
abbrev pub opening_space : ℕ → Space
opening_space index = if index == 0 then first_space else absent_space

-- the arena with an index when a heap begins: its journal is empty
abbrev pub opening_record : ℕ → Record
opening_record i = record { index = i; space = opening_space i; rooms = replicate 32 0; kept = [] }

-- the entries of a journal
abbrev pub entries_of : List KeptFacts → List Entry
entries_of kept = map (λ k. k.entry) kept

-- what callers see
abbrev pub shown : Inside → Record
shown r = record { index = r.index; space = r.arena.space; rooms = r.arena.rooms; kept = r.journal.kept }

-- an arena with its journal after a turn of a client
abbrev pub record_after : Record → ℕ → Op → Option AskFacts → Record
record_after r client op asked = record {
  index = r.index;
  space = space_after r.space (entry_of client op);
  rooms = rooms_after (record { space = r.space; rooms = r.rooms }) client op;
  kept = r.kept ++ record { entry = entry_of client op; asked = asked } ∷ [];
}

-- a space is what a journal leaves of an opening, and each entry of that may stand where it comes
pub record IsReplayed (index : ℕ) (kept : List KeptFacts) (s : Space) : Type 0 where
  pub stand : all_stand (opening_space index) (entries_of kept) ≡ true
  pub space : s ≡ replay (opening_space index) (entries_of kept)

-- how many operations without memory may follow an operation at most that takes memory, by all that it may empty
abbrev pub most_room : Op → ℕ
most_room op = 16 * max 1 (given_by op)

-- the arena is what its journal leaves, and the journal has a place for each operation for which a client has room
pub record IsRecorded (r : Inside) : Type 0 where
  pub replayed : IsReplayed r.index r.journal.kept r.arena.space
  pub clients : length r.arena.rooms ≡ 32
  pub places : all_rooms r.arena.rooms ≤ r.journal.spare
