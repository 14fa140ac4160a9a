-- What the lines of an input come to, line by line.
use Rattle.std.proofs.Common.{◌≡◌, ◌∙◌, ℕ, ◌+◌, ◌-◌, ◌<◌, ◌≤◌, Bool, true, false, List, [], ◌∷◌, ◌++◌, length, take, drop, Option, None, Some, IfSome, Ok, Err, refl, sym, ap, subst, arith, append-nil}
use Rattle.std.proofs.lemmas.Bool.{le-ltb, lt-ltb}
use Rattle.std.proofs.lemmas.List.{drop-drop, length-take-le}
use Rattle.edge_io.specs.Bytes.{IsAtEnd}
use Rattle.line_reader.specs.Lines.{BeginsLong, IsFirst, Line, MetEnd, SameUnread, is_whole_line, lines_of}
use Rattle.line_reader.specs.declared.lines.Found.{Found}
use Rattle.line_reader.specs.declared.lines.Found.TheVariants as found
use Rattle.journal_check.specs.Logs.{Logged, after_line}
use Rattle.journal_check.specs.Said.{said_of}
use Rattle.journal_check.specs.Verdicts.{BadLine, Follows, IfNotEntry, IsCut, IsInside, IsNext, IsUncut, BeginsCut, is_whole, Left, Tells, TooLong, TooMany, go_on, judged}
use Rattle.journal_check.specs.declared.verdicts.Bad.{Bad}
use Rattle.journal_check.specs.declared.verdicts.Bad.TheVariants.{NotEntry}
use Rattle.journal_check.specs.declared.verdicts.Limits.{Limits}
use Rattle.journal_check.specs.declared.verdicts.Verdict.{Verdict}
use Rattle.journal_check.specs.declared.verdicts.Verdict.TheVariants as verdicts

-- a line within the limits comes to what it says
pub judged_line : (limits : Limits) (number : ℕ) (text : List ℕ) (lines : List Line) (log : List Logged) → number ≤ limits.lines → length text ≤ limits.bytes →
    judged limits number ((text, true) ∷ lines) log ≡ go_on number (judged limits (number + 1) lines) (after_line log (said_of text))
judged_line limits number text lines log few short = rw (le-ltb limits.lines number few, le-ltb limits.bytes (length text) short) refl

-- so a good one leads to the next lines, and a bad one is told
pub judged_taken : (limits : Limits) (number : ℕ) (text : List ℕ) (lines : List Line) (log new : List Logged) → number ≤ limits.lines → length text ≤ limits.bytes →
    after_line log (said_of text) ≡ Ok new → judged limits number ((text, true) ∷ lines) log ≡ judged limits (number + 1) lines new
judged_taken limits number text lines log new few short good = judged_line limits number text lines log few short ∙ ap (go_on number (judged limits (number + 1) lines)) good

pub judged_bad : (limits : Limits) (number : ℕ) (text : List ℕ) (lines : List Line) (log : List Logged) (bad : Bad) → number ≤ limits.lines → length text ≤ limits.bytes →
    after_line log (said_of text) ≡ Err bad → judged limits number ((text, true) ∷ lines) log ≡ BadLine number bad
judged_bad limits number text lines log bad few short is = judged_line limits number text lines log few short ∙ ap (go_on number (judged limits (number + 1) lines)) is

-- a line that is too long
pub judged_long : (limits : Limits) (number : ℕ) (lines : List Line) (log : List Logged) → number ≤ limits.lines → BeginsLong limits.bytes lines → judged limits number lines log ≡ TooLong number
judged_long limits number [] log few long = absurd long
judged_long limits number (line ∷ lines) log few long = rw (le-ltb limits.lines number few, lt-ltb limits.bytes (length line.0) long) refl

-- a line that is cut
pub judged_cut : (limits : Limits) (number : ℕ) (text : List ℕ) (log : List Logged) → number ≤ limits.lines → length text ≤ limits.bytes → judged limits number ((text, false) ∷ []) log ≡ BadLine number NotEntry
judged_cut limits number text log few short = rw (le-ltb limits.lines number few, le-ltb limits.bytes (length text) short) refl

-- one line more than there may be
pub judged_many : (limits : Limits) (line : Line) (lines : List Line) (log : List Logged) → judged limits (limits.lines + 1) (line ∷ lines) log ≡ TooMany (limits.lines + 1)
judged_many limits line lines log = rw (lt-ltb limits.lines (limits.lines + 1) (omega arith)) refl

-- the bytes of a line are as many as were told
short : (n most : ℕ) (bytes : List ℕ) → n ≤ most → n < length bytes → length (take n bytes) ≤ most
short n most bytes le lt = omega (arith, length-take-le n bytes (omega (arith, lt)))

-- ---- what is left of known bytes

-- of known bytes, this holds of all those that there were and of those that aren't used yet
abbrev pub Carries : Option (List ℕ) → List ℕ → Option (List ℕ) → (List ℕ → List ℕ → Type 0) → Type 0
Carries None pending left P = Unit {0}
Carries (Some input) pending None P = ⊥
Carries (Some input) pending (Some left) P = P input (pending ++ left)

-- the lines that aren't used yet are those from this number on, and come to what all lines come to
abbrev pub IsSame : Limits → List Logged → ℕ → List Logged → List ℕ → List ℕ → Type 0
IsSame limits opening number log input rest = (judged limits number (lines_of rest) log ≡ judged limits 1 (lines_of input) opening) × (drop (number - 1) (lines_of input) ≡ lines_of rest)

-- at the start
pub carry_start : (limits : Limits) (opening : List Logged) (left : Option (List ℕ)) → Carries left [] left (IsSame limits opening 1 opening)
carry_start limits opening None = tt
carry_start limits opening (Some input) = (refl, refl)

-- and behind a read
pub carry_read : (P : List ℕ → List ℕ → Type 0) (initial : Option (List ℕ)) (pending pending' : List ℕ) (left left' : Option (List ℕ)) →
    Carries initial pending left P → SameUnread pending left pending' left' → Carries initial pending' left' P
carry_read P None pending pending' left left' so same = tt
carry_read P (Some input) pending pending' None left' so same = absurd so
carry_read P (Some input) pending pending' (Some left) None so same = absurd same
carry_read P (Some input) pending pending' (Some left) (Some left') so same = subst (P input) same so

-- where the line found isn't whole, nothing is left
pub met_end : (found : Found) (left : Option (List ℕ)) (met : Bool) → MetEnd found left met → is_whole_line found ≡ false → IsAtEnd left × (met ≡ true)
met_end (found.Line n) left met end part = absurd cc
met_end found.TooLong left met end part = absurd cc
met_end found.Cut left met end part = end
met_end found.End left met end part = end

-- what one line comes to, whatever is left behind it
abbrev pub Goes : Limits → ℕ → Found → List ℕ → List ℕ → List Logged → List Logged → Option Verdict → Type 0
Goes limits number found pending pending' log log' verdict = (more : List ℕ) → (is_whole_line found ≡ false → more ≡ []) →
    Follows verdict (judged limits number (lines_of (pending ++ more)) log) (judged limits (number + 1) (lines_of (pending' ++ more)) log')

-- and without one the next lines are
pub carry_next : (limits : Limits) (opening : List Logged) (number : ℕ) (found : Found) (pending pending' : List ℕ) (log log' : List Logged) (initial left : Option (List ℕ)) →
    Carries initial pending left (IsSame limits opening number log) → Goes limits number found pending pending' log log' None → (is_whole_line found ≡ false → IsAtEnd left) →
    0 < number → ((more : List ℕ) → IsNext (lines_of (pending ++ more)) (lines_of (pending' ++ more))) → Carries initial pending' left (IsSame limits opening (number + 1) log')
carry_next limits opening number found pending pending' log log' None left so goes end some next = tt
carry_next limits opening number found pending pending' log log' (Some input) None so goes end some next = absurd so
carry_next limits opening number found pending pending' log log' (Some input) (Some left) so goes end some next = (
  sym (goes left end) ∙ so.0,
  ap (λ (n : ℕ). drop n (lines_of input)) (omega (arith, some)) ∙ sym (drop-drop 1 (number - 1) (lines_of input)) ∙ ap (drop 1) (so.1 ∙ (next left).1),
)

-- a line that was found ends before the last of the bytes
pub first_inside : (most : ℕ) (what : Found) (bytes : List ℕ) → IsFirst most what bytes → IsInside what bytes
first_inside most (found.Line n) bytes first = first.1
first_inside most found.TooLong bytes first = tt
first_inside most found.Cut bytes first = tt
first_inside most found.End bytes first = tt

-- where nothing is left, the input is judged
pub goes_end : (limits : Limits) (number : ℕ) (pending : List ℕ) (log : List Logged) → pending ≡ [] → (more : List ℕ) → more ≡ [] → judged limits number (lines_of (pending ++ more)) log ≡ Left log
goes_end limits number pending log none more nothing = rw (none, nothing) refl

pub goes_bad : (limits : Limits) (number n : ℕ) (pending : List ℕ) (log : List Logged) (bad : Bad) → number ≤ limits.lines → IsFirst limits.bytes (found.Line n) pending → after_line log (said_of (take n pending)) ≡ Err bad →
    (more : List ℕ) → judged limits number (lines_of (pending ++ more)) log ≡ BadLine number bad
goes_bad limits number n pending log bad few first is more =
    ap (λ (lines : List Line). judged limits number lines log) (first.2 more) ∙ judged_bad limits number (take n pending) (lines_of (drop (n + 1) pending ++ more)) log bad few (short n limits.bytes pending first.0 first.1) is

pub goes_taken : (limits : Limits) (number n : ℕ) (pending : List ℕ) (log new : List Logged) → number ≤ limits.lines → IsFirst limits.bytes (found.Line n) pending → after_line log (said_of (take n pending)) ≡ Ok new →
    (more : List ℕ) → judged limits number (lines_of (pending ++ more)) log ≡ judged limits (number + 1) (lines_of (drop (n + 1) pending ++ more)) new
goes_taken limits number n pending log new few first is more =
    ap (λ (lines : List Line). judged limits number lines log) (first.2 more) ∙ judged_taken limits number (take n pending) (lines_of (drop (n + 1) pending ++ more)) log new few (short n limits.bytes pending first.0 first.1) is

-- ---- the end

-- where the input has ended, the arenas are those that all lines leave
pub carry_end : (limits : Limits) (opening : List Logged) (number : ℕ) (pending : List ℕ) (log : List Logged) (verdict : Verdict) (initial left : Option (List ℕ)) →
    Carries initial pending left (IsSame limits opening number log) → pending ≡ [] → IsAtEnd left → Tells verdict (Left log) → IfSome initial (λ input. Tells verdict (judged limits 1 (lines_of input) opening))
carry_end limits opening number pending log verdict None left so none end tells = tt
carry_end limits opening number pending log verdict (Some input) None so none end tells = absurd so
carry_end limits opening number pending log verdict (Some input) (Some left) so none end tells = subst (Tells verdict) (sym (goes_end limits number pending log none left end) ∙ so.0) tells

-- and where something more stands there than so many lines, they are too many
pub carry_many : (limits : Limits) (opening : List Logged) (what : Found) (pending : List ℕ) (log : List Logged) (initial left : Option (List ℕ)) →
    Carries initial pending left (IsSame limits opening (limits.lines + 1) log) → IsFirst limits.bytes what pending → (what ≡ found.End → ⊥) → (is_whole_line what ≡ false → IsAtEnd left) →
    IfSome initial (λ input. judged limits 1 (lines_of input) opening ≡ TooMany (limits.lines + 1))
carry_many limits opening what pending log None left so first some end = tt
carry_many limits opening what pending log (Some input) None so first some end = absurd so
carry_many limits opening what pending log (Some input) (Some left) so first some end = sym so.0 ∙ many what first some end
  where
    long : (lines : List Line) → BeginsLong limits.bytes lines → judged limits (limits.lines + 1) lines log ≡ TooMany (limits.lines + 1)
    long [] begins = absurd begins
    long (line ∷ lines) begins = judged_many limits line lines log

    many : (what : Found) → IsFirst limits.bytes what pending → (what ≡ found.End → ⊥) → (is_whole_line what ≡ false → left ≡ []) → judged limits (limits.lines + 1) (lines_of (pending ++ left)) log ≡ TooMany (limits.lines + 1)
    many (found.Line n) first some end = ap (λ (lines : List Line). judged limits (limits.lines + 1) lines log) (first.2 left) ∙ judged_many limits (take n pending, true) (lines_of (drop (n + 1) pending ++ left)) log
    many found.TooLong first some end = long (lines_of (pending ++ left)) (first left)
    many found.Cut first some end =
        ap (λ (bytes : List ℕ). judged limits (limits.lines + 1) (lines_of bytes) log) (ap (λ (xs : List ℕ). pending ++ xs) (end refl) ∙ append-nil pending)
        ∙ ap (λ (lines : List Line). judged limits (limits.lines + 1) lines log) first.1 ∙ judged_many limits (pending, false) [] log
    many found.End first some end = absurd (some refl)

-- ---- a line that is cut

-- a line that is cut is told only where the source has met its end
pub carry_cut : (limits : Limits) (opening : List Logged) (number : ℕ) (what : Found) (pending : List ℕ) (log : List Logged) (verdict : Verdict) (initial left : Option (List ℕ)) (met : Bool) →
    Carries initial pending left (IsSame limits opening number log) → IsFirst limits.bytes what pending → MetEnd what left met → IfNotEntry verdict (IsUncut limits number what pending) →
    IfNotEntry verdict (λ line. IfSome initial (λ input. IsCut line (lines_of input) → met ≡ true))
carry_cut limits opening number what pending log (verdicts.Accepted entries ends) initial left met so first end uncut = tt
carry_cut limits opening number what pending log (verdicts.NotEntry line) None left met so first end uncut = tt
carry_cut limits opening number what pending log (verdicts.NotEntry line) (Some input) None met so first end uncut = absurd so
carry_cut limits opening number what pending log (verdicts.NotEntry line) (Some input) (Some left) met so first end uncut = λ cut. by_kind (is_whole_line what) refl cut
  where
    by_kind : (whole : Bool) → is_whole_line what ≡ whole → IsCut line (lines_of input) → met ≡ true
    by_kind false part cut = (met_end what (Some left) met end part).1
    by_kind true whole cut = absurd (uncut.1 whole first left (subst BeginsCut (ap (λ (n : ℕ). drop (n - 1) (lines_of input)) uncut.0 ∙ so.1) cut))
carry_cut limits opening number what pending log (verdicts.NotStanding line) initial left met so first end uncut = tt
carry_cut limits opening number what pending log (verdicts.Met chunk low high) initial left met so first end uncut = tt
carry_cut limits opening number what pending log (verdicts.Limit line bytes) initial left met so first end uncut = tt
carry_cut limits opening number what pending log verdicts.ReadFault initial left met so first end uncut = tt
carry_cut limits opening number what pending log verdicts.NoMemory initial left met so first end uncut = tt

-- a verdict on the whole input tells no line
pub whole_uncut : (limits : Limits) (number : ℕ) (what : Found) (pending : List ℕ) (verdict : Verdict) → is_whole verdict ≡ true → IfNotEntry verdict (IsUncut limits number what pending)
whole_uncut limits number what pending (verdicts.Accepted entries ends) whole = tt
whole_uncut limits number what pending (verdicts.NotEntry line) whole = absurd cc
whole_uncut limits number what pending (verdicts.NotStanding line) whole = tt
whole_uncut limits number what pending (verdicts.Met chunk low high) whole = tt
whole_uncut limits number what pending (verdicts.Limit line bytes) whole = tt
whole_uncut limits number what pending verdicts.ReadFault whole = tt
whole_uncut limits number what pending verdicts.NoMemory whole = tt

-- a line with its newline isn't cut
pub line_uncut : (limits : Limits) (number n : ℕ) (pending : List ℕ) (verdict : Verdict) → IfNotEntry verdict (λ line. line ≡ number) → IfNotEntry verdict (IsUncut limits number (found.Line n) pending)
line_uncut limits number n pending (verdicts.Accepted entries ends) is = tt
line_uncut limits number n pending (verdicts.NotEntry line) is =
    (is, λ whole first more cut. let none = subst BeginsCut (first.2 more) cut in absurd (let differ : true ≡ false = none in cc))
line_uncut limits number n pending (verdicts.NotStanding line) is = tt
line_uncut limits number n pending (verdicts.Met chunk low high) is = tt
line_uncut limits number n pending (verdicts.Limit line bytes) is = tt
line_uncut limits number n pending verdicts.ReadFault is = tt
line_uncut limits number n pending verdicts.NoMemory is = tt
