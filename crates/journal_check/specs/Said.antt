-- What a line of an input says.
use Rattle.std.specs.Prelude.{ℕ, ◌<◌, Bool, ◌||◌, nat_lt, List, codes, Option, None, Some, eqb, if◌then◌else◌}
use Rattle.std.specs.List.{starts_with}
use Rattle.space_model.specs.declared.entries.Entry.{Entry}
use Rattle.journal.specs.Entries.{entry_of}
use Rattle.journal_check.specs.declared.says.Said.{Said}
use Rattle.journal_check.specs.declared.says.Said.TheVariants.{Nothing, Passed, Turn}

-- whether a line is passed over: it begins with one of these words and a space
abbrev pub is_passed : List ℕ → Bool
is_passed line = starts_with eqb line (codes "arena ") || starts_with eqb line (codes "threads ")

-- the entry of one of 32 arenas, by its index
abbrev pub turn_of : Option (ℕ × Entry) → Said
turn_of None = Nothing
turn_of (Some read) = if nat_lt read.0 32 then Turn read.0 read.1 else Nothing

-- what a line says: it is passed over, or it is the text of an entry, or it says nothing
unfoldable pub said_of : List ℕ → Said
said_of line = if is_passed line then Passed else turn_of (entry_of line)

-- the arena of an entry is one of 32
abbrev pub IsIndexed : Said → Type 0
IsIndexed (Turn index entry) = index < 32
IsIndexed other = Unit {0}
