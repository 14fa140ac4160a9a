-- What a look for a line found, and the lines that bytes are.
use Rattle.std.specs.Prelude.{◌≡◌, ◌≢◌, ℕ, ◌+◌, ◌<◌, ◌≤◌, Bool, true, List, [], ◌∷◌, ◌++◌, length, take, drop, Option, None, Some, Result, Ok, Err}
use Rattle.std.specs.Io.KnownBytes.{Consumes, IsAtEnd}
use Rattle.report_text.specs.declared.causes.Cause.{Cause}
use Rattle.trace_text.specs.declared.lines.Line.{Line as SaidLine}
use Rattle.trace_text.specs.Grammar.{IsWithinLimits, line_of}
use Rattle.trace_text.specs.Lines.{HasNoNewline}
use Rattle.replay_run.specs.Causes.{byte_limit, line_cause, said_cause}
use Rattle.replay_run.specs.declared.input.Found.{Found}
use Rattle.replay_run.specs.declared.input.Found.TheVariants.{Line, TooLong, End}

-- a line that was found ends before the last of the bytes, too many are more than a line may have, and at the end no more are
-- left than it may
abbrev pub InBounds : Found → List ℕ → Type 0
InBounds (Line n) bytes = (n ≤ byte_limit) × (n < length bytes)
InBounds TooLong bytes = byte_limit < length bytes
InBounds End bytes = length bytes ≤ byte_limit

-- No newline is in a line that was found, and one stands behind it. Too many bytes begin with 257 ones that are no newline,
-- and at the end no newline is left.
abbrev pub IsFirst : Found → List ℕ → Type 0
IsFirst (Line n) bytes = HasNoNewline (take n bytes) × (bytes ≡ take n bytes ++ 10 ∷ drop (n + 1) bytes)
IsFirst TooLong bytes = HasNoNewline (take 257 bytes)
IsFirst End bytes = HasNoNewline bytes

-- where the end was found, nothing is left, and the source has met its end
abbrev pub MetEnd : Found → Option (List ℕ) → Bool → Type 0
MetEnd (Line n) left met = Unit {0}
MetEnd TooLong left met = Unit {0}
MetEnd End left met = IsAtEnd left × (met ≡ true)

-- no line ends among the bytes, and they are no more than a line may have
abbrev pub IsUnended : List ℕ → Type 0
IsUnended bytes = HasNoNewline bytes × (length bytes ≤ byte_limit)

-- some bytes were taken behind the pending ones, and no line ends among them all, nor are they too many for one, where the read
-- failed behind them
abbrev pub TakesSome : Type 0 → List ℕ → Option (List ℕ) → Option (List ℕ) → Type 0
TakesSome failed pending before left = (bytes : List ℕ) × Consumes before left bytes × (failed → IsUnended (pending ++ bytes))

-- the pending bytes are those from before, and those that were taken
abbrev pub TakesMore : List ℕ → List ℕ → Option (List ℕ) → Option (List ℕ) → Type 0
TakesMore pending after before left = (bytes : List ℕ) × Consumes before left bytes × (after ≡ pending ++ bytes)

-- Bytes were taken behind the pending ones: together they are some, or none is left, and the source has met its end.
abbrev pub TakesAny : Bool → List ℕ → Option (List ℕ) → Option (List ℕ) → Bool → Type 0
TakesAny more pending before left met = (bytes : List ℕ) × Consumes before left bytes × (more ≡ true → pending ++ bytes ≢ [])
    × (more ≢ true → (pending ++ bytes ≡ []) × IsAtEnd left × (met ≡ true))

-- what was read from the bytes of a line is the line that they say, and it has no cause at that moment; or their cause
abbrev pub IsReading : ℕ → List ℕ → Result SaidLine Cause → Type 0
IsReading now text (Ok line) = (line_of text ≡ Ok line) × (line_cause now line ≡ None) × IsWithinLimits line
IsReading now text (Err cause) = said_cause now (line_of text) ≡ Some cause

-- the bytes are those of these lines in their order, each with its newline, and then the rest
abbrev pub ReadsTo : List SaidLine → List ℕ → List ℕ → Type 0
ReadsTo [] bytes rest = bytes ≡ rest
ReadsTo (line ∷ lines) bytes rest = (text : List ℕ) × (behind : List ℕ) × HasNoNewline text × (length text ≤ byte_limit)
    × (line_of text ≡ Ok line) × (bytes ≡ text ++ 10 ∷ behind) × ReadsTo lines behind rest
