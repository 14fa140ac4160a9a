-- A log in which the entries of the journals of all arenas are mixed.
use Rattle.std.specs.Prelude.{◌≡◌, ◌==◌, ℕ, ◌+◌, Bool, Option, None, Some, List, [], ◌∷◌, length, map, slice_index_or, slice_set, Result, Ok, Err, if◌then◌else◌}
use Rattle.std.specs.List.{range_with_len, sum_by}
use Rattle.space_model.specs.declared.entries.Entry.{Entry}
use Rattle.space_model.specs.declared.spaces.Space.{Space}
use Rattle.space_model.specs.Counts.{counts_of}
use Rattle.space_model.specs.Opening.{absent_space, first_space}
use Rattle.space_model.specs.Stepped.{is_live}
use Rattle.space_model.specs.Step.{space_after, stands}
use Rattle.journal_check.specs.declared.says.Said.{Said}
use Rattle.journal_check.specs.declared.says.Said.TheVariants.{Nothing, Passed, Turn}
use Rattle.journal_check.specs.declared.verdicts.Bad.{Bad}
use Rattle.journal_check.specs.declared.verdicts.Bad.TheVariants.{NotEntry, NotStanding}
use Rattle.journal_check.specs.declared.verdicts.End.{End}

-- an arena as the entries of its journal leave it, and how many these are
pub record Logged : Type 0 where
  pub space : Space
  pub entries : ℕ

-- what the journal of an index begins from: arena 0 is there, and no other
abbrev pub opening_space : ℕ → Space
opening_space index = if index == 0 then first_space else absent_space

-- an arena before its first entry
unfoldable pub unlogged : ℕ → Logged
unlogged index = record { space = opening_space index; entries = 0 }

-- the arenas before the first line
unfoldable pub opening_log : List Logged
opening_log = map unlogged (range_with_len 0 32)

-- the arena with an index
abbrev pub arena_at : List Logged → ℕ → Logged
arena_at log index = slice_index_or log index (unlogged 32)

-- whether an entry may come next
unfoldable pub may_enter : Logged → Entry → Bool
may_enter arena entry = stands arena.space entry

-- the arena behind an entry
unfoldable pub entered : Logged → Entry → Logged
entered arena entry = record { space = space_after arena.space entry; entries = arena.entries + 1 }

-- how many entries all arenas have
abbrev pub all_entries : List Logged → ℕ
all_entries log = sum_by (λ arena. arena.entries) log

-- the arenas behind a line, or why it is bad
abbrev pub after_line : List Logged → Said → Result (List Logged) Bad
after_line log Nothing = Err NotEntry
after_line log Passed = Ok log
after_line log (Turn index entry) =
    if may_enter (arena_at log index) entry then Ok (slice_set log index (entered (arena_at log index) entry)) else Err NotStanding

-- a live arena at the end
unfoldable pub end_of : ℕ → Logged → End
end_of index arena = record { index = index; entries = arena.entries; counts = counts_of arena.space }

-- the live arenas, the first of which has this index
abbrev pub ends_from : ℕ → List Logged → List End
ends_from index [] = []
ends_from index (arena ∷ log) =
    if is_live arena.space.life then end_of index arena ∷ ends_from (index + 1) log else ends_from (index + 1) log

-- There are 32 arenas, and these are all their entries.
pub record IsLog (log : List Logged) (count : ℕ) : Type 0 where
  pub number : length log ≡ 32
  pub entries : count ≡ all_entries log

-- a line was taken, and the arenas are those behind it, or it is bad for this reason
abbrev pub Takes : Option Bad → Result (List Logged) Bad → List Logged → Type 0
Takes None after log = after ≡ Ok log
Takes (Some bad) after log = after ≡ Err bad
