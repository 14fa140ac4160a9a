-- The lines of an input, and what stands first among bytes of it.
use Rattle.std.specs.Prelude.{◌≡◌, ◌==◌, ℕ, ◌+◌, ◌<◌, ◌≤◌, Bool, true, false, List, [], ◌∷◌, ◌++◌, length, take, drop, Option, None, Some, if◌then◌else◌}
use Rattle.edge_io.specs.Bytes.{IsAtEnd, Rose}
use Rattle.std.specs.List.{All}
use Rattle.line_reader.specs.declared.lines.Found.{Found}
use Rattle.line_reader.specs.declared.lines.Found.TheVariants as found
use Rattle.line_reader.specs.declared.stops.Stop.{Stop}
use Rattle.line_reader.specs.declared.stops.Stop.TheVariants.{ReadFault, NoMemory}

-- a line by its bytes, and whether a newline stands behind it: only the last one may have none
abbrev pub Line : Type 0
Line = List ℕ × Bool

-- the lines with a byte before them that is no newline
abbrev pub longer : ℕ → List Line → List Line
longer b [] = (b ∷ [], false) ∷ []
longer b (line ∷ lines) = (b ∷ line.0, line.1) ∷ lines

-- the lines of bytes; nothing behind the last newline is no line
abbrev pub lines_of : List ℕ → List Line
lines_of [] = []
lines_of (b ∷ bytes) = if b == 10 then ([], true) ∷ lines_of bytes else longer b (lines_of bytes)

-- no newline is among the bytes
abbrev pub HasNoNewline : List ℕ → Type 0
HasNoNewline bytes = All (λ b. (b == 10) ≡ false) bytes

-- the first line has more bytes than this
abbrev pub BeginsLong : ℕ → List Line → Type 0
BeginsLong most [] = ⊥
BeginsLong most (line ∷ lines) = most < length line.0

-- What stands first, where a line may have so many bytes: a line, whatever more comes behind it; a line that is too long,
-- whatever comes; a line that is cut, if nothing comes; or nothing.
abbrev pub IsFirst : ℕ → Found → List ℕ → Type 0
IsFirst most (found.Line n) bytes = (n ≤ most) × (n < length bytes)
    × ((more : List ℕ) → lines_of (bytes ++ more) ≡ (take n bytes, true) ∷ lines_of (drop (n + 1) bytes ++ more))
IsFirst most found.TooLong bytes = (more : List ℕ) → BeginsLong most (lines_of (bytes ++ more))
IsFirst most found.Cut bytes = (length bytes ≤ most) × (lines_of bytes ≡ (bytes, false) ∷ [])
IsFirst most found.End bytes = bytes ≡ []

-- a cut line and the end are found only where nothing is left, and the source has met its end
abbrev pub MetEnd : Found → Option (List ℕ) → Bool → Type 0
MetEnd (found.Line n) left met = Unit {0}
MetEnd found.TooLong left met = Unit {0}
MetEnd found.Cut left met = IsAtEnd left × (met ≡ true)
MetEnd found.End left met = IsAtEnd left × (met ≡ true)

-- the bytes that aren't used yet, pending ones and those that the source has left, are the same as before
abbrev pub SameUnread : List ℕ → Option (List ℕ) → List ℕ → Option (List ℕ) → Type 0
SameUnread pending None pending' left' = Unit {0}
SameUnread pending (Some left) pending' None = ⊥
SameUnread pending (Some left) pending' (Some left') = pending ++ left ≡ pending' ++ left'

-- the line ends among the bytes, or is too long whatever comes
abbrev pub is_whole_line : Found → Bool
is_whole_line (found.Line n) = true
is_whole_line found.TooLong = true
is_whole_line found.Cut = false
is_whole_line found.End = false

-- So many bytes came behind the pending ones. Where none came, nothing is left, and the source has met its end.
abbrev pub IsMore : ℕ → List ℕ → List ℕ → Option (List ℕ) → Bool → Type 0
IsMore count pending pending' left met =
    (more : List ℕ) × (pending' ≡ pending ++ more) × (length more ≡ count) × (count ≡ 0 → IsAtEnd left × (met ≡ true))

-- of known bytes, this holds of all those that were there and of those that aren't used yet
abbrev pub Carries : Option (List ℕ) → List ℕ → Option (List ℕ) → (List ℕ → List ℕ → Type 0) → Type 0
Carries None pending left P = Unit {0}
Carries (Some input) pending None P = ⊥
Carries (Some input) pending (Some left) P = P input (pending ++ left)

-- a read failed, and the source's count of faults rose; or memory was wanting
abbrev pub HasStopCause : Stop → ℕ → ℕ → Type 0
HasStopCause ReadFault before after = Rose before after
HasStopCause NoMemory before after = Unit {0}
