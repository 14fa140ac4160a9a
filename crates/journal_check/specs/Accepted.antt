-- What it means that an input has no bad line: each arena's entries stand in their order, and leave its space.
use Rattle.std.specs.Prelude.{◌≡◌, ◌≢◌, ◌==◌, ℕ, ◌^◌, ◌<◌, ◌≤◌, IsTrue, Bool, true, List, [], ◌∷◌, length, if◌then◌else◌}
use Rattle.std.specs.List.{AllByRecursion, list_any}
use Rattle.space_model.specs.declared.entries.Entry.{Entry}
use Rattle.space_model.specs.Journal.{Good, all_stand, replay, turns_of}
use Rattle.space_model.specs.Span.{chunk_span, meets}
use Rattle.line_reader.specs.Lines.{Line, lines_of}
use Rattle.journal_check.specs.Logs.{Logged, arena_at, opening_space}
use Rattle.journal_check.specs.Said.{said_of}
use Rattle.journal_check.specs.Apart.{last_chunk}
use Rattle.journal_check.specs.Verdicts.{IsAccepted, Left, judgement}
use Rattle.journal_check.specs.declared.verdicts.End.{End}
use Rattle.journal_check.specs.declared.says.Said.{Said}
use Rattle.journal_check.specs.declared.says.Said.TheVariants.{Nothing, Passed, Turn}

-- an entry of the arena with an index stands before those of later lines
abbrev pub with_own : ℕ → Said → List Entry → List Entry
with_own i (Turn index entry) later = if index == i then entry ∷ later else later
with_own i Nothing later = later
with_own i Passed later = later

-- the entries of the arena with an index, in order
abbrev pub entries_of : ℕ → List Line → List Entry
entries_of i [] = []
entries_of i (line ∷ lines) = with_own i (said_of line.0) (entries_of i lines)

-- a line has its newline, and it is passed over or is the text of an entry
abbrev pub IsWholeLine : Line → Type 0
IsWholeLine line = (line.1 ≡ true) × (said_of line.0 ≢ Nothing)

-- a line has at most so many bytes, it has its newline, and it is passed over or is the text of an entry
abbrev pub IsGoodLine : ℕ → Line → Type 0
IsGoodLine most line = (length line.0 ≤ most) × (line.1 ≡ true) × (said_of line.0 ≢ Nothing)

-- The lines are good and few enough, and each arena's entries stand in their order.
pub record IsStanding (lines : List Line) : Type 0 where
  pub few : length lines ≤ 2 ^ 24
  pub good : AllByRecursion (IsGoodLine (2 ^ 18)) lines
  pub stand : (i : ℕ) → i < 32 → IsTrue (all_stand (opening_space i) (entries_of i lines))

-- Each arena is as its own entries leave it.
pub record IsLeft (lines : List Line) (log : List Logged) : Type 0 where
  pub number : length log ≡ 32
  pub spaces : (i : ℕ) → i < 32 → (arena_at log i).space ≡ replay (opening_space i) (entries_of i lines)
  pub entries : (i : ℕ) → i < 32 → (arena_at log i).entries ≡ length (entries_of i lines)
  pub good : (i : ℕ) → i < 32 → Good (turns_of (opening_space i) (entries_of i lines)) (arena_at log i).space

-- an input that is read to its end without a bad line has just entries that stand, and leaves what they leave
abbrev pub WholeInputsStand : Type 0
WholeInputsStand = (input : List ℕ) (log : List Logged) → judgement input ≡ Left log → IsStanding (lines_of input) × IsLeft (lines_of input) log

-- and each input whose entries stand is read to its end without a bad line
abbrev pub StandingInputsAreWhole : Type 0
StandingInputsAreWhole = (input : List ℕ) → IsStanding (lines_of input) → (log : List Logged) × (judgement input ≡ Left log)

-- whether the arena with an index owns a chunk once it has these entries: an extent of it meets the chunk
abbrev pub owns_by : ℕ → ℕ → List Entry → Bool
owns_by chunk i entries = list_any (λ p. meets p.span (chunk_span chunk)) (replay (opening_space i) entries).parts

-- whether an arena owns a chunk, as its own entries leave it
abbrev pub owns_left : ℕ → List Line → ℕ → Bool
owns_left chunk lines i = owns_by chunk i (entries_of i lines)

-- Printed journals are accepted, however many lines they have: each line is whole, each arena's entries stand in their order, and
-- no chunk has two owners among the 32 arenas that they leave.
pub record AreAccepted (lines : List Line) : Type 0 where
  pub whole : AllByRecursion IsWholeLine lines
  pub stand : (i : ℕ) → i < 32 → IsTrue (all_stand (opening_space i) (entries_of i lines))
  pub apart : (chunk i j : ℕ) → 1 ≤ chunk → chunk ≤ last_chunk → i < 32 → j < 32 → owns_left chunk lines i ≡ true → owns_left chunk lines j ≡ true → i ≡ j

-- The lines pass no limit: there are at most 2^24, and each has at most 2^18 bytes.
pub record IsWithinLimits (lines : List Line) : Type 0 where
  pub few : length lines ≤ 2 ^ 24
  pub short : AllByRecursion (λ line. length line.0 ≤ 2 ^ 18) lines

-- the verdict on an input is that it is accepted
pub record IsPassed (input : List ℕ) : Type 0 where
  pub count : ℕ
  pub live : List End
  pub accepted : IsAccepted (judgement input) count live

-- journals that are accepted and pass no limit have that verdict
abbrev pub AcceptedInputsPass : Type 0
AcceptedInputsPass = (input : List ℕ) → AreAccepted (lines_of input) → IsWithinLimits (lines_of input) → IsPassed input

-- and only these have it
abbrev pub PassedInputsAreAccepted : Type 0
PassedInputsAreAccepted = (input : List ℕ) → IsPassed input → AreAccepted (lines_of input) × IsWithinLimits (lines_of input)
