-- The text of journals: by arena, entry by entry, a line each.
use Rattle.std.specs.Prelude.{◌≡◌, ℕ, List, [], ◌∷◌, ◌++◌, Some}
use Rattle.std.specs.List.{AllByRecursion, flat_map}
use Rattle.hook_api.specs.Kept.{KeptFacts}
use Rattle.hook_api.specs.declared.kept.Journal.{Journal}
use Rattle.journal.specs.Entries.{IsOneLine, entry_of, entry_text}

-- the line of an entry of an arena, with its newline
abbrev pub entry_line : ℕ → KeptFacts → List ℕ
entry_line index kept = entry_text index kept.entry ++ 10 ∷ []

-- the text of an arena's entries
abbrev pub entries_text : ℕ → List KeptFacts → List ℕ
entries_text index entries = flat_map (entry_line index) entries

-- the text of an entry is one line, and it is read as this entry again
abbrev pub IsReadAgain : ℕ → KeptFacts → Type 0
IsReadAgain index kept = (entry_of (entry_text index kept.entry) ≡ Some (index, kept.entry)) × IsOneLine (entry_text index kept.entry)

-- so are those of all entries of an arena
abbrev pub AreReadAgain : Journal → Type 0
AreReadAgain journal = AllByRecursion (IsReadAgain journal.index) journal.kept

-- the text of journals
abbrev pub journals_text : List Journal → List ℕ
journals_text journals = flat_map (λ j. entries_text j.index j.kept) journals
