-- The lines of a trace, all of which are read before any is carried out.
use Rattle.std.specs.Prelude.{◌≡◌, ℕ, ◌+◌, List, [], ◌∷◌, ◌++◌, length, nat_lt, not, Option, None, Some, Result, Ok, Err, if◌then◌else◌}
use Rattle.line_reader.specs.Lines.{Line as Text, lines_of}
use Rattle.line_reader.specs.declared.stops.Stop.{Stop}
use Rattle.line_reader.specs.declared.stops.Stop.TheVariants as stop
use Rattle.report_text.specs.declared.causes.Cause.{Cause}
use Rattle.report_text.specs.declared.causes.Cause.TheVariants.{LimitLines, LimitBytes, Cut, Bytes, Words, Number, LimitThreads, Range, Clock, Phase}
use Rattle.trace_text.specs.declared.faults.LineFault.{LineFault}
use Rattle.trace_text.specs.declared.faults.LineFault.TheVariants as fault
use Rattle.trace_text.specs.declared.lines.Line.{Line}
use Rattle.trace_text.specs.Grammar.{line_of}
use Rattle.trace_phase.specs.declared.faults.PhaseCause.{PhaseCause}
use Rattle.trace_phase.specs.declared.faults.PhaseCause.TheVariants as phase
use Rattle.trace_phase.specs.declared.faults.PhaseFault.{PhaseFault}
use Rattle.trace_phase.specs.declared.faults.PhaseFault.TheVariants.{At, NoMemory}
use Rattle.trace_phase.specs.declared.parts.NumberedLine.{NumberedLine}
use Rattle.trace_phase.specs.declared.parts.Phases.{Phases}
use Rattle.trace_phase.specs.Rule.{first_fault, misplaced, opening, phases_of}
use Rattle.phase_run.specs.declared.reading.Unread.{Unread}
use Rattle.phase_run.specs.declared.reading.Unread.TheVariants as unread

-- how the lines of an input are read: all of them, or those before the line with this number, which is bad
pub data Reading : Type 0 where
  Whole : List NumberedLine → Reading
  BadLine : List NumberedLine → ℕ → Option Cause → Reading

-- how many lines a trace has at most
abbrev pub line_limit : ℕ
line_limit = 1048576

-- how many bytes a line has at most, without its newline
abbrev pub byte_limit : ℕ
byte_limit = 256

-- why a line isn't read; want of memory is no cause of a line
abbrev pub fault_cause : LineFault → Option Cause
fault_cause fault.NoMemory = None
fault_cause fault.Bytes = Some Bytes
fault_cause fault.Words = Some Words
fault_cause fault.Number = Some Number
fault_cause fault.Threads = Some LimitThreads
fault_cause fault.Range = Some Range

-- a line that is read, and then the next ones
abbrev pub read_on : List NumberedLine → ℕ → (Line → Reading) → Result Line LineFault → Reading
read_on lines number next (Ok line) = next line
read_on lines number next (Err fault) = BadLine lines number (fault_cause fault)

-- How lines are read behind those that were, the first of which has this number: it passes the limit of lines, or that of
-- bytes, or it is cut, or it says what it says.
abbrev pub read_from : ℕ → List NumberedLine → List Text → Reading
read_from number lines [] = Whole lines
read_from number lines (text ∷ texts) =
    if nat_lt line_limit number then BadLine lines number (Some LimitLines)
    else if nat_lt byte_limit (length text.0) then BadLine lines number (Some LimitBytes)
    else if not text.1 then BadLine lines number (Some Cut)
    else read_on lines number (λ line. read_from (number + 1) (lines ++ record { number = number; line = line } ∷ []) texts) (line_of text.0)

-- the lines of an input
unfoldable pub reading : List Text → Reading
reading texts = read_from 1 [] texts

-- why a reading stops in the middle
abbrev pub unread_by : Stop → Unread
unread_by stop.ReadFault = unread.ReadFault
unread_by stop.NoMemory = unread.NoMemory

-- what is told of a line that isn't read, by its number
abbrev pub unread_for : ℕ → LineFault → Unread
unread_for number fault.NoMemory = unread.NoMemory
unread_for number fault.Bytes = unread.Bad number Bytes
unread_for number fault.Words = unread.Bad number Words
unread_for number fault.Number = unread.Bad number Number
unread_for number fault.Threads = unread.Bad number LimitThreads
unread_for number fault.Range = unread.Bad number Range

-- a line isn't read, for this cause
abbrev pub IsFaulty : Result Line LineFault → Cause → Type 0
IsFaulty (Ok line) cause = ⊥
IsFaulty (Err fault) cause = fault_cause fault ≡ Some cause

-- what is told of a line that is bad, and nothing of a read that failed and of want of memory
abbrev pub IfBad : Unread → (ℕ → Cause → Type 0) → Type 0
IfBad (unread.Bad line cause) P = P line cause
IfBad other P = Unit {0}

-- of known bytes, this holds of those that weren't used before and of those that aren't used behind
abbrev pub Moves : List ℕ → Option (List ℕ) → List ℕ → Option (List ℕ) → (List ℕ → List ℕ → Type 0) → Type 0
Moves pending None pending' left' P = Unit {0}
Moves pending (Some left) pending' None P = ⊥
Moves pending (Some left) pending' (Some left') P = P (pending ++ left) (pending' ++ left')

-- The bytes begin with a line of this number that says this, whatever was read before, and the others stand behind it; or there
-- are none.
abbrev pub IsNext : ℕ → Option Line → List ℕ → List ℕ → Type 0
IsNext number None before behind = before ≡ []
IsNext number (Some line) before behind = (lines : List NumberedLine) →
    read_from number lines (lines_of before) ≡ read_from (number + 1) (lines ++ record { number = number; line = line } ∷ []) (lines_of behind)

-- the bytes begin with a line of this number, and the line told is the first bad one, whatever was read before
abbrev pub IsBadIn : ℕ → List ℕ → ℕ → Cause → Type 0
IsBadIn number before line cause = (lines : List NumberedLine) → read_from number lines (lines_of before) ≡ BadLine lines line (Some cause)

-- ---- the lines as phases

-- the cause of a line that can't stand, as it is printed
abbrev pub cause_of : PhaseCause → Cause
cause_of phase.Clock = Clock
cause_of phase.Phase = Phase
cause_of phase.NotJoined = Phase

-- what is told of lines that are no phases
abbrev pub unread_of : PhaseFault → Unread
unread_of (At line cause) = unread.Bad line (cause_of cause)
unread_of NoMemory = unread.NoMemory

-- what an input comes to: settings and phases, or the line with this number is the first bad one
pub data Outcome : Type 0 where
  Come : Phases → Outcome
  BadAt : ℕ → Option Cause → Outcome

-- a line that can't stand, or else this
abbrev pub unless_misplaced : Option (ℕ × PhaseCause) → Outcome → Outcome
unless_misplaced (Some fault) other = BadAt fault.0 (Some (cause_of fault.1))
unless_misplaced None other = other

-- The lines that were read are looked at as phases once reading is over. So a line that can't stand among them comes before the
-- one that is bad by itself; and a phase that isn't joined is bad only where no line is.
abbrev pub outcome : Reading → Outcome
outcome (Whole lines) = unless_misplaced (first_fault opening lines) (Come (phases_of lines))
outcome (BadLine lines number cause) = unless_misplaced (misplaced opening lines) (BadAt number cause)
