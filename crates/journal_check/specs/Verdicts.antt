-- What an input comes to.
use Rattle.std.specs.Prelude.{◌≡◌, ℕ, ◌+◌, ◌-◌, ◌^◌, ◌<◌, Bool, true, false, List, [], ◌∷◌, ◌++◌, length, drop, nat_lt, Option, None, Some, Result, Ok, Err, if◌then◌else◌}
use Rattle.journal_check.specs.Apart.{IsApart, IsMeeting}
use Rattle.line_reader.specs.Lines.{IsFirst, Line, is_whole_line, lines_of}
use Rattle.line_reader.specs.declared.lines.Found.{Found}
use Rattle.line_reader.specs.declared.lines.Found.TheVariants as found
use Rattle.journal_check.specs.Logs.{Logged, after_line, all_entries, ends_from, opening_log}
use Rattle.journal_check.specs.Said.{said_of}
use Rattle.journal_check.specs.declared.verdicts.Bad.{Bad}
use Rattle.journal_check.specs.declared.verdicts.Bad.TheVariants.{NotEntry, NotStanding}
use Rattle.journal_check.specs.declared.verdicts.End.{End}
use Rattle.journal_check.specs.declared.verdicts.Limits.{Limits}
use Rattle.journal_check.specs.declared.verdicts.Verdict.{Verdict}
use Rattle.journal_check.specs.declared.verdicts.Verdict.TheVariants as verdict

-- how the lines of an input end: the arenas that all of them leave, the first bad line, or the first that passes a limit
pub data Judged : Type 0 where
  Left : (log : List Logged) → Judged
  BadLine : (line : ℕ) → Bad → Judged
  TooMany : (line : ℕ) → Judged
  TooLong : (line : ℕ) → Judged

-- a line that isn't bad, and then the next ones
abbrev pub go_on : ℕ → (List Logged → Judged) → Result (List Logged) Bad → Judged
go_on number next (Ok log) = next log
go_on number next (Err bad) = BadLine number bad

-- how lines end, the first of which has this number: it passes the limit of lines, or that of bytes, or it is cut, or it is
-- what it says
abbrev pub judged : Limits → ℕ → List Line → List Logged → Judged
judged limits number [] log = Left log
judged limits number (line ∷ lines) log =
    if nat_lt limits.lines number then TooMany number
    else if nat_lt limits.bytes (length line.0) then TooLong number
    else if line.1 then go_on number (judged limits (number + 1) lines) (after_line log (said_of line.0))
    else BadLine number NotEntry

-- an input has at most 2^24 lines, and a line at most 2^18 bytes
abbrev pub input_limits : Limits
input_limits = record { lines = 2 ^ 24; bytes = 2 ^ 18 }

-- how an input ends
unfoldable pub judgement : List ℕ → Judged
judgement input = judged input_limits 1 (lines_of input) opening_log

-- The input was read to its end, and it is accepted: no chunk has two owners among the arenas that it leaves, which are those
-- that are told.
pub record IsAccepted (how : Judged) (count : ℕ) (live : List End) : Type 0 where
  pub log : List Logged
  pub whole : how ≡ Left log
  pub apart : IsApart log
  pub entries : count ≡ all_entries log
  pub ends : live ≡ ends_from 0 log

-- The input was read to its end, and no line is bad, but this is the least chunk that has two owners among the arenas that it
-- leaves, and these are its two lowest.
pub record IsMet (how : Judged) (chunk low high : ℕ) : Type 0 where
  pub log : List Logged
  pub whole : how ≡ Left log
  pub meeting : IsMeeting log chunk low high

-- the line passes a limit: its own one, or that of lines
abbrev pub over_limit : ℕ → Bool → Judged
over_limit line true = TooLong line
over_limit line false = TooMany line

-- a verdict has its cause; a read that failed and want of memory have theirs elsewhere
abbrev pub Tells : Verdict → Judged → Type 0
Tells (verdict.Accepted entries ends) how = IsAccepted how entries ends
Tells (verdict.NotEntry line) how = how ≡ BadLine line NotEntry
Tells (verdict.NotStanding line) how = how ≡ BadLine line NotStanding
Tells (verdict.Met chunk low high) how = IsMet how chunk low high
Tells (verdict.Limit line bytes) how = how ≡ over_limit line bytes
Tells verdict.ReadFault how = Unit {0}
Tells verdict.NoMemory how = Unit {0}

-- that is the verdict on what the lines before come to, or they come to the same as those behind
abbrev pub Follows : Option Verdict → Judged → Judged → Type 0
Follows (Some verdict) before behind = Tells verdict before
Follows None before behind = before ≡ behind

-- the verdict is one on the whole input
abbrev pub is_whole : Verdict → Bool
is_whole (verdict.Accepted entries ends) = true
is_whole (verdict.Met chunk low high) = true
is_whole other = false

-- the verdict isn't one on the input
abbrev pub is_stop : Verdict → Bool
is_stop verdict.ReadFault = true
is_stop verdict.NoMemory = true
is_stop other = false

-- a line that was found ends before the last of the bytes
abbrev pub IsInside : Found → List ℕ → Type 0
IsInside (found.Line n) bytes = n < length bytes
IsInside other bytes = Unit {0}

-- the first line is there, and has no newline
abbrev pub BeginsCut : List Line → Type 0
BeginsCut [] = ⊥
BeginsCut (line ∷ lines) = line.1 ≡ false

-- the line with this number is cut
abbrev pub IsCut : ℕ → List Line → Type 0
IsCut number lines = BeginsCut (drop (number - 1) lines)

-- one line stands before the others
abbrev pub IsNext : List Line → List Line → Type 0
IsNext lines others = (line : Line) × (lines ≡ line ∷ others)

-- what is said of a verdict of one kind, and nothing of another one
abbrev pub IfAccepted : Verdict → (ℕ → List End → Type 0) → Type 0
IfAccepted (verdict.Accepted entries ends) P = P entries ends
IfAccepted other P = Unit {0}

abbrev pub IfNotEntry : Verdict → (ℕ → Type 0) → Type 0
IfNotEntry (verdict.NotEntry line) P = P line
IfNotEntry other P = Unit {0}

abbrev pub IfNotStanding : Verdict → (ℕ → Type 0) → Type 0
IfNotStanding (verdict.NotStanding line) P = P line
IfNotStanding other P = Unit {0}

abbrev pub IfMet : Verdict → (ℕ → ℕ → ℕ → Type 0) → Type 0
IfMet (verdict.Met chunk low high) P = P chunk low high
IfMet other P = Unit {0}

abbrev pub IfLimit : Verdict → (ℕ → Bool → Type 0) → Type 0
IfLimit (verdict.Limit line bytes) P = P line bytes
IfLimit other P = Unit {0}

-- a bad line has this number, and if it was found whole, it isn't cut, whatever comes behind it
abbrev pub IsUncut : Limits → ℕ → Found → List ℕ → ℕ → Type 0
IsUncut limits number what pending line =
    (line ≡ number) × (is_whole_line what ≡ true → IsFirst limits.bytes what pending → (more : List ℕ) → BeginsCut (lines_of (pending ++ more)) → ⊥)
