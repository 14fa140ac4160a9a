-- Journals as a program prints them, behind lines that are passed over: what they have to be for a check to accept them.
use Rattle.std.specs.Prelude.{◌≡◌, ℕ, ◌≤◌, true, List, [], ◌∷◌, ◌++◌, length, map, slice_get, Some}
use Rattle.std.specs.List.{AllByRecursion}
use Rattle.space_model.specs.declared.entries.Entry.{Entry}
use Rattle.space_model.specs.Journal.{all_stand}
use Rattle.hook_api.specs.declared.kept.Journal.{Journal}
use Rattle.journal.specs.Texts.{AreReadAgain, journals_text}
use Rattle.line_reader.specs.Lines.{HasNoNewline, Line, lines_of}
use Rattle.journal_check.specs.Accepted.{AreAccepted, IsPassed, IsWithinLimits, owns_by}
use Rattle.journal_check.specs.Apart.{last_chunk}
use Rattle.journal_check.specs.Logs.{opening_space}
use Rattle.journal_check.specs.Said.{is_passed, said_of}
use Rattle.journal_check.specs.declared.says.Said.TheVariants.{Passed}

-- A text of journals is accepted, and a check of it says so, unless it passes one of the check's limits.
pub record IsAcceptedText (text : List ℕ) : Type 0 where
  pub accepted : AreAccepted (lines_of text)
  pub passes : IsWithinLimits (lines_of text) → IsPassed text

-- ---- journals of arenas

-- the entries of a journal
abbrev pub entries_in : Journal → List Entry
entries_in journal = map (λ k. k.entry) journal.kept

-- Journals of arenas, by index, the first of which is that of arena 0: the entries of each may stand in their order, and no chunk is met
-- by extents of the spaces that two of them leave.
pub record AreOfArenas (journals : List Journal) : Type 0 where
  pub few : length journals ≤ 32
  pub indexes : (i : ℕ) (journal : Journal) → slice_get journals i ≡ Some journal → journal.index ≡ i
  pub stand : (i : ℕ) (journal : Journal) → slice_get journals i ≡ Some journal → all_stand (opening_space i) (entries_in journal) ≡ true
  pub apart : (chunk i j : ℕ) (one other : Journal) → 1 ≤ chunk → chunk ≤ last_chunk → slice_get journals i ≡ Some one → slice_get journals j ≡ Some other
      → owns_by chunk i (entries_in one) ≡ true → owns_by chunk j (entries_in other) ≡ true → i ≡ j

-- ---- what stands before them

-- a line has its newline, and it is passed over
abbrev pub IsPassedLine : Line → Type 0
IsPassedLine line = (line.1 ≡ true) × (said_of line.0 ≡ Passed)

-- a text is whole lines, each of which is passed over
abbrev pub IsPassedOver : List ℕ → Type 0
IsPassedOver text = AllByRecursion IsPassedLine (lines_of text)

-- ---- the laws

-- journals of arenas whose entries' texts are read again are accepted, behind any lines that are passed over
abbrev pub PrintedJournalsAreAccepted : Type 0
PrintedJournalsAreAccepted = (before : List ℕ) (journals : List Journal) → IsPassedOver before → AreOfArenas journals → AllByRecursion AreReadAgain journals
    → IsAcceptedText (before ++ journals_text journals)

-- a line that begins with `arena ` or `threads ` is passed over
abbrev pub LinesArePassedOver : Type 0
LinesArePassedOver = (line : List ℕ) → is_passed line ≡ true → HasNoNewline line → IsPassedOver (line ++ 10 ∷ [])

-- texts that are passed over are so one behind the other
abbrev pub TextsArePassedOver : Type 0
TextsArePassedOver = (one other : List ℕ) → IsPassedOver one → IsPassedOver other → IsPassedOver (one ++ other)
