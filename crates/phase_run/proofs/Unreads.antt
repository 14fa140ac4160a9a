-- What stands first among the bytes of an input, as a line that is read.
use Rattle.std.proofs.Common.{◌≡◌, ◌∙◌, ℕ, ◌+◌, ◌<◌, ◌≤◌, true, false, List, [], ◌∷◌, ◌++◌, length, take, drop, Option, None, Some, IfSome, Result, Ok, Err, refl, sym, ap, subst, arith, append-nil}
use Rattle.std.proofs.lemmas.Bool.{le-ltb, lt-ltb}
use Rattle.std.proofs.lemmas.List.{length-take-le}
use Rattle.edge_io.specs.Bytes.{IsAtEnd}
use Rattle.line_reader.specs.Lines.{BeginsLong, Carries, IsFirst, Line as Text, SameUnread, lines_of}
use Rattle.line_reader.specs.declared.lines.Found.{Found}
use Rattle.line_reader.specs.declared.lines.Found.TheVariants as found
use Rattle.report_text.specs.declared.causes.Cause.{Cause}
use Rattle.report_text.specs.declared.causes.Cause.TheVariants.{LimitLines, LimitBytes, Cut}
use Rattle.trace_text.specs.declared.faults.LineFault.{LineFault}
use Rattle.trace_text.specs.declared.lines.Line.{Line}
use Rattle.trace_text.specs.Grammar.{line_of}
use Rattle.trace_phase.specs.declared.parts.NumberedLine.{NumberedLine}
use Rattle.phase_run.specs.Reading.{BadLine, IsBadIn, IsFaulty, IsNext, Moves, Whole, byte_limit, line_limit, read_from, read_on, reading}

-- ---- the first line

-- a line within the limits comes to what it says
text_reads : (number : ℕ) (lines : List NumberedLine) (text : List ℕ) (texts : List Text) → number ≤ line_limit → length text ≤ byte_limit
    → read_from number lines ((text, true) ∷ texts) ≡ read_on lines number (λ line. read_from (number + 1) (lines ++ record { number = number; line = line } ∷ []) texts) (line_of text)
text_reads number lines text texts few short = rw (le-ltb line_limit number few, le-ltb byte_limit (length text) short) refl

-- the bytes of a line are as many as were told
short : (n most : ℕ) (bytes : List ℕ) → n ≤ most → n < length bytes → length (take n bytes) ≤ most
short n most bytes le lt = omega (arith, length-take-le n bytes (omega (arith, lt)))

-- what is read, and the others behind it
pub line_next : (number n : ℕ) (bytes : List ℕ) (said : Line) → number ≤ line_limit → IsFirst byte_limit (found.Line n) bytes → line_of (take n bytes) ≡ Ok said
    → (more : List ℕ) → IsNext number (Some said) (bytes ++ more) (drop (n + 1) bytes ++ more)
line_next number n bytes said few first is more lines =
    ap (read_from number lines) (first.2 more) ∙ text_reads number lines (take n bytes) (lines_of (drop (n + 1) bytes ++ more)) few (short n byte_limit bytes first.0 first.1)
    ∙ ap (read_on lines number (λ line. read_from (number + 1) (lines ++ record { number = number; line = line } ∷ []) (lines_of (drop (n + 1) bytes ++ more)))) is

-- what isn't read
pub line_bad : (number n : ℕ) (bytes : List ℕ) (cause : Cause) → number ≤ line_limit → IsFirst byte_limit (found.Line n) bytes → IsFaulty (line_of (take n bytes)) cause
    → (more : List ℕ) → IsBadIn number (bytes ++ more) number cause
line_bad number n bytes cause few first bad more lines =
    ap (read_from number lines) (first.2 more) ∙ text_reads number lines (take n bytes) (lines_of (drop (n + 1) bytes ++ more)) few (short n byte_limit bytes first.0 first.1) ∙ by (line_of (take n bytes)) bad
  where
    by : (r : Result Line LineFault) → IsFaulty r cause
        → read_on lines number (λ line. read_from (number + 1) (lines ++ record { number = number; line = line } ∷ []) (lines_of (drop (n + 1) bytes ++ more))) r ≡ BadLine lines number (Some cause)
    by (Ok line) is = absurd is
    by (Err fault) is = ap (BadLine lines number) is

-- a line that is too long
pub long_bad : (number : ℕ) (bytes : List ℕ) → number ≤ line_limit → IsFirst byte_limit found.TooLong bytes → (more : List ℕ) → IsBadIn number (bytes ++ more) number LimitBytes
long_bad number bytes few first more lines = by (lines_of (bytes ++ more)) (first more)
  where
    by : (texts : List Text) → BeginsLong byte_limit texts → read_from number lines texts ≡ BadLine lines number (Some LimitBytes)
    by [] long = absurd long
    by (text ∷ texts) long = rw (le-ltb line_limit number few, lt-ltb byte_limit (length text.0) long) refl

-- a line that is cut
pub cut_bad : (number : ℕ) (bytes : List ℕ) → number ≤ line_limit → IsFirst byte_limit found.Cut bytes → (more : List ℕ) → more ≡ [] → IsBadIn number (bytes ++ more) number Cut
cut_bad number bytes few first more none lines =
    ap (λ (xs : List ℕ). read_from number lines (lines_of (bytes ++ xs))) none ∙ ap (λ (xs : List ℕ). read_from number lines (lines_of xs)) (append-nil bytes)
    ∙ ap (read_from number lines) first.1 ∙ by
  where
    by : read_from number lines ((bytes, false) ∷ []) ≡ BadLine lines number (Some Cut)
    by = rw (le-ltb line_limit number few, le-ltb byte_limit (length bytes) first.0) refl

-- one line more than there may be
many_bad : (lines : List NumberedLine) (text : Text) (texts : List Text) → read_from 1048577 lines (text ∷ texts) ≡ BadLine lines 1048577 (Some LimitLines)
many_bad lines text texts = refl

pub more_bad : (what : Found) (bytes : List ℕ) → IsFirst 0 what bytes → (what ≡ found.End → ⊥) → (more : List ℕ) → (what ≡ found.Cut → more ≡ []) → IsBadIn 1048577 (bytes ++ more) 1048577 LimitLines
more_bad (found.Line n) bytes first some more end lines = ap (read_from 1048577 lines) (first.2 more) ∙ many_bad lines (take n bytes, true) (lines_of (drop (n + 1) bytes ++ more))
more_bad found.TooLong bytes first some more end lines = by (lines_of (bytes ++ more)) (first more)
  where
    by : (texts : List Text) → BeginsLong 0 texts → read_from 1048577 lines texts ≡ BadLine lines 1048577 (Some LimitLines)
    by [] long = absurd long
    by (text ∷ texts) long = many_bad lines text texts
more_bad found.Cut bytes first some more end lines =
    ap (λ (xs : List ℕ). read_from 1048577 lines (lines_of (bytes ++ xs))) (end refl) ∙ ap (λ (xs : List ℕ). read_from 1048577 lines (lines_of xs)) (append-nil bytes)
    ∙ ap (read_from 1048577 lines) first.1 ∙ many_bad lines (bytes, false) []
more_bad found.End bytes first some more end lines = absurd (some refl)

-- ---- known bytes

-- behind a read
pub moved : (P : List ℕ → List ℕ → Type 0) (pending pending' behind : List ℕ) (left left' : Option (List ℕ)) → SameUnread pending left pending' left' → ((more : List ℕ) → P (pending' ++ more) (behind ++ more))
    → Moves pending left behind left' P
moved P pending pending' behind None left' same h = tt
moved P pending pending' behind (Some left) None same h = absurd same
moved P pending pending' behind (Some left) (Some left') same h = subst (λ bytes. P bytes (behind ++ left')) (sym same) (h left')

-- where nothing is left
pub ended : (number : ℕ) (pending pending' : List ℕ) (left left' : Option (List ℕ)) → SameUnread pending left pending' left' → pending' ≡ [] → IsAtEnd left' → Moves pending left pending' left' (IsNext number None)
ended number pending pending' None left' same none end = tt
ended number pending pending' (Some left) None same none end = absurd same
ended number pending pending' (Some left) (Some left') same none end = same ∙ rw (none, end) refl

-- a bad line
pub told_bad : (number line : ℕ) (cause : Cause) (pending pending' : List ℕ) (left left' : Option (List ℕ)) → SameUnread pending left pending' left' → ((more : List ℕ) → left' ≡ Some more → IsBadIn number (pending' ++ more) line cause)
    → IfSome left (λ bytes. IsBadIn number (pending ++ bytes) line cause)
told_bad number line cause pending pending' None left' same h = tt
told_bad number line cause pending pending' (Some left) None same h = absurd same
told_bad number line cause pending pending' (Some left) (Some left') same h = subst (λ bytes. IsBadIn number bytes line cause) (sym same) (h left' refl)

pub at_end : (left : Option (List ℕ)) (more : List ℕ) → IsAtEnd left → left ≡ Some more → more ≡ []
at_end None more end is = absurd cc
at_end (Some left) more end is = let same : left ≡ more = cc in sym same ∙ end

-- ---- all lines

-- the lines that aren't used yet are read as all lines are
abbrev pub IsSame : ℕ → List NumberedLine → List ℕ → List ℕ → Type 0
IsSame number lines input rest = read_from number lines (lines_of rest) ≡ reading (lines_of input)

pub carry_start : (left : Option (List ℕ)) → Carries left [] left (IsSame 1 [])
unfolding reading
carry_start None = tt
carry_start (Some input) = refl

pub carry_next : (number : ℕ) (lines : List NumberedLine) (said : Line) (initial : Option (List ℕ)) (pending pending' : List ℕ) (left left' : Option (List ℕ)) → Carries initial pending left (IsSame number lines)
    → Moves pending left pending' left' (IsNext number (Some said)) → Carries initial pending' left' (IsSame (number + 1) (lines ++ record { number = number; line = said } ∷ []))
carry_next number lines said None pending pending' left left' so goes = tt
carry_next number lines said (Some input) pending pending' None left' so goes = absurd so
carry_next number lines said (Some input) pending pending' (Some left) None so goes = absurd goes
carry_next number lines said (Some input) pending pending' (Some left) (Some left') so goes = sym (goes lines) ∙ so

pub carry_end : (number : ℕ) (lines : List NumberedLine) (initial : Option (List ℕ)) (pending pending' : List ℕ) (left left' : Option (List ℕ)) → Carries initial pending left (IsSame number lines)
    → Moves pending left pending' left' (IsNext number None) → IfSome initial (λ input. reading (lines_of input) ≡ Whole lines)
carry_end number lines None pending pending' left left' so goes = tt
carry_end number lines (Some input) pending pending' None left' so goes = absurd so
carry_end number lines (Some input) pending pending' (Some left) None so goes = absurd goes
carry_end number lines (Some input) pending pending' (Some left) (Some left') so goes = sym so ∙ ap (λ bytes. read_from number lines (lines_of bytes)) goes

pub carry_bad : (number : ℕ) (lines : List NumberedLine) (line : ℕ) (cause : Cause) (initial : Option (List ℕ)) (pending : List ℕ) (left : Option (List ℕ)) → Carries initial pending left (IsSame number lines)
    → IfSome left (λ bytes. IsBadIn number (pending ++ bytes) line cause) → IfSome initial (λ input. reading (lines_of input) ≡ BadLine lines line (Some cause))
carry_bad number lines line cause None pending left so bad = tt
carry_bad number lines line cause (Some input) pending None so bad = absurd so
carry_bad number lines line cause (Some input) pending (Some left) so bad = sym so ∙ bad lines
