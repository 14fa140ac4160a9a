-- Why a line isn't carried out: the first cause that holds, in one order.
use Rattle.std.specs.Prelude.{ℕ, ◌==◌, Bool, not, List, [], ◌∷◌, Option, None, Some, Result, Ok, Err, length, nat_lt, if◌then◌else◌}
use Rattle.std.specs.List.{list_any}
use Rattle.report_text.specs.declared.causes.Cause.{Cause}
use Rattle.report_text.specs.declared.causes.Cause.TheVariants.{LimitLines, LimitBytes, Cut, Bytes, Words, Number, LimitThreads, Range, Clock, Phase}
use Rattle.trace_text.specs.declared.faults.LineFault.{LineFault}
use Rattle.trace_text.specs.declared.faults.LineFault.TheVariants as fault
use Rattle.trace_text.specs.declared.lines.Line.{Line}
use Rattle.trace_text.specs.declared.lines.Line.TheVariants as line
use Rattle.trace_text.specs.Grammar.{line_of}

-- how many lines a trace has at most
abbrev pub line_limit : ℕ
line_limit = 1048576

-- how many bytes a line has at most, without its newline
abbrev pub byte_limit : ℕ
byte_limit = 256

-- the bytes of the first line, without its newline: all bytes, where there is none
abbrev pub first_line : List ℕ → List ℕ
first_line [] = []
first_line (b ∷ bytes) = if b == 10 then [] else b ∷ first_line bytes

-- whether a newline is among the bytes
abbrev pub has_newline : List ℕ → Bool
has_newline bytes = list_any (λ b. b == 10) bytes

-- why a line isn't read; want of memory is no cause of a line
abbrev pub fault_cause : LineFault → Option Cause
fault_cause fault.NoMemory = None
fault_cause fault.Bytes = Some Bytes
fault_cause fault.Words = Some Words
fault_cause fault.Number = Some Number
fault_cause fault.Threads = Some LimitThreads
fault_cause fault.Range = Some Range

-- why a line that is read isn't carried out at a moment: its own moment is below that, or it is about phases
abbrev pub line_cause : ℕ → Line → Option Cause
line_cause now (line.At moment) = if nat_lt moment now then Some Clock else None
line_cause now (line.Phase rounds) = Some Phase
line_cause now line.Join = Some Phase
line_cause now line = None

-- why what a line was read as isn't carried out at a moment, if there is a cause
abbrev pub said_cause : ℕ → Result Line LineFault → Option Cause
said_cause now (Ok line) = line_cause now line
said_cause now (Err fault) = fault_cause fault

-- why a line of these bytes isn't carried out at a moment, by its number and by whether a newline ends it, if there is a cause
abbrev pub cause_of : ℕ → ℕ → List ℕ → Bool → Option Cause
cause_of now number text ended =
    if nat_lt line_limit number then Some LimitLines
    else if nat_lt byte_limit (length text) then Some LimitBytes
    else if not ended then Some Cut
    else said_cause now (line_of text)

-- the status with which a replay ends by a bad line
abbrev pub status_of : Cause → ℕ
status_of LimitLines = 7
status_of LimitBytes = 7
status_of LimitThreads = 7
status_of cause = 3
