-- Texts whose lines are passed over.
use Rattle.std.proofs.Common.{◌≡◌, ◌≢◌, ◌∙◌, ℕ, zero, suc, ◌/◌, ◌%◌, Bool, true, false, cond, eqb, List, [], ◌∷◌, ◌++◌, refl, sym, ap, subst, arith}
use Rattle.std.specs.List.{AllByRecursion, list_all}
use Rattle.std.specs.Fmt.{decimal, digit_glyph, digits_onto}
use Rattle.std.proofs.DigitsParse.{digits_onto-nil}
use Rattle.std.proofs.lemmas.Bool.Decides.{nat_tests}
use Rattle.text_words.specs.Words.{is_in_word}
use Rattle.line_reader.specs.Lines.{Line, lines_of, longer}
use Rattle.line_reader.proofs.Breaks.{lines_of-line}
use Rattle.journal_check.specs.Accepted.{IsWholeLine, entries_of, with_own}
use Rattle.journal_check.specs.Printed.{IsPassedLine, IsPassedOver, LinesArePassedOver, TextsArePassedOver}
unfoldable use Rattle.journal_check.specs.Said.{said_of}
use Rattle.journal_check.specs.Said.{is_passed, turn_of}
use Rattle.journal_check.specs.declared.says.Said.{Said}
use Rattle.journal_check.specs.declared.says.Said.TheVariants.{Nothing, Passed}
use Rattle.journal.specs.Entries.{entry_of}

-- ---- whole lines in front

abbrev HasNewline : Line → Type 0
HasNewline line = line.1 ≡ true

-- where bytes are whole lines, those behind them begin with a line of their own
whole_front : (text behind : List ℕ) → AllByRecursion HasNewline (lines_of text) → lines_of (text ++ behind) ≡ lines_of text ++ lines_of behind
whole_front [] behind whole = refl
whole_front (b ∷ text) behind whole = next (eqb b 10) (lines_of text) (lines_of (text ++ behind)) whole (whole_front text behind)
  where
    after : (lines all : List Line) → AllByRecursion HasNewline (longer b lines) → (AllByRecursion HasNewline lines → all ≡ lines ++ lines_of behind) → longer b all ≡ longer b lines ++ lines_of behind
    after [] all whole same = absurd (let cut : false ≡ true = whole.0 in cc)
    after (line ∷ lines) all whole same = ap (longer b) (same whole)

    next : (newline : Bool) (lines all : List Line) → AllByRecursion HasNewline (cond newline (([], true) ∷ lines) (longer b lines)) → (AllByRecursion HasNewline lines → all ≡ lines ++ lines_of behind) →
        cond newline (([], true) ∷ all) (longer b all) ≡ cond newline (([], true) ∷ lines) (longer b lines) ++ lines_of behind
    next true lines all whole same = ap (λ (ls : List Line). ([], true) ∷ ls) (same whole.1)
    next false lines all whole same = after lines all whole same

have_newlines : (lines : List Line) → AllByRecursion IsPassedLine lines → AllByRecursion HasNewline lines
have_newlines [] passed = tt
have_newlines (line ∷ lines) passed = (passed.0.0, have_newlines lines passed.1)

-- lines that are passed over stand before those of what comes behind them
pub passed_front : (before behind : List ℕ) → IsPassedOver before → lines_of (before ++ behind) ≡ lines_of before ++ lines_of behind
passed_front before behind passed = whole_front before behind (have_newlines (lines_of before) passed)

-- what is so of two lists of lines is so of one behind the other
pub both : (P : Line → Type 0) (xs ys : List Line) → AllByRecursion P xs → AllByRecursion P ys → AllByRecursion P (xs ++ ys)
both P [] ys p q = q
both P (x ∷ xs) ys p q = (p.0, both P xs ys p.1 q)

pub texts_passed : TextsArePassedOver
texts_passed one other first second =
    subst (AllByRecursion IsPassedLine) (sym (passed_front one other first)) (both IsPassedLine (lines_of one) (lines_of other) first second)

-- ---- what they say

-- they are whole
pub passed_whole : (lines : List Line) → AllByRecursion IsPassedLine lines → AllByRecursion IsWholeLine lines
passed_whole [] passed = tt
passed_whole (line ∷ lines) passed = ((passed.0.0, says (said_of line.0) passed.0.1), passed_whole lines passed.1)
  where
    says : (said : Said) → said ≡ Passed → said ≢ Nothing
    says said is none = absurd (let same : Passed ≡ Nothing = sym is ∙ none in cc)

-- and add no entry to those of later lines
pub passed_entries : (i : ℕ) (lines later : List Line) → AllByRecursion IsPassedLine lines → entries_of i (lines ++ later) ≡ entries_of i later
passed_entries i [] later passed = refl
passed_entries i (line ∷ lines) later passed =
    ap (λ (said : Said). with_own i said (entries_of i (lines ++ later))) passed.0.1 ∙ passed_entries i lines later passed.1

-- ---- one line

said_passed : (line : List ℕ) → is_passed line ≡ true → said_of line ≡ Passed
unfolding said_of
said_passed line passed = ap (λ (b : Bool). cond b Passed (turn_of (entry_of line))) passed

pub lines_passed : LinesArePassedOver
lines_passed line passed plain = subst (AllByRecursion IsPassedLine) (sym (lines_of-line line [] plain)) ((refl, said_passed line passed), tt)

-- a number has no newline, whichever it is
pub number_plain : (n : ℕ) → list_all (is_in_word 10) (decimal n) ≡ true
number_plain n = subst (λ (ds : List ℕ). list_all (is_in_word 10) ds ≡ true) (digits_onto-nil 10 false n) (digits 64 n [] refl)
  where
    digit : (d : ℕ) → is_in_word 10 (digit_glyph false d) ≡ true
    digit d = grind (arith, nat_tests)

    either : (b : Bool) (xs ys : List ℕ) → list_all (is_in_word 10) xs ≡ true → list_all (is_in_word 10) ys ≡ true → list_all (is_in_word 10) (cond b xs ys) ≡ true
    either true xs ys p q = p
    either false xs ys p q = q

    digits : (k n : ℕ) (behind : List ℕ) → list_all (is_in_word 10) behind ≡ true → list_all (is_in_word 10) (digits_onto k 10 false n behind) ≡ true
    digits zero n behind plain = plain
    digits (suc k) n behind plain =
        let more : list_all (is_in_word 10) (digit_glyph false (n % 10) ∷ behind) ≡ true = rw (digit (n % 10), plain) refl in
        either (eqb (n / 10) 0) (digit_glyph false (n % 10) ∷ behind) _ more (digits k (n / 10) (digit_glyph false (n % 10) ∷ behind) more)
