-- The text of journals, as the lines of an input, and that these are accepted.
use Rattle.std.proofs.Common.{◌≡◌, ◌≢◌, ◌∙◌, ℕ, zero, suc, ◌+◌, ◌<◌, ◌≤◌, ◌^◌, Bool, true, false, cond, eqb, List, [], ◌∷◌, ◌++◌, length, map, Option, None, Some, if◌then◌else◌, refl, sym, ap, subst, arith, append_assoc, append-nil}
use Rattle.std.specs.Prelude.{◌==◌, not, ◌&&◌, ◌||◌, slice_get}
use Rattle.std.specs.List.{AllByRecursion, flat_map, list_all, list_any}
use Rattle.std.specs.Fmt.{decimal}
use Rattle.std.proofs.lemmas.Bool.{and_parts, lt-ltb}
use Rattle.std.proofs.lemmas.Bool.Decides.{nat_tests}
use Rattle.std.proofs.lemmas.Option.{none-some}
use Rattle.text_words.specs.Words.{is_in_word}
use Rattle.text_words.proofs.Numerals.{decimal_plain}
use Rattle.space_model.specs.declared.entries.Entry.{Entry}
use Rattle.space_model.specs.Journal.{all_stand}
use Rattle.space_model.specs.Opening.{absent_space, first_space}
use Rattle.space_model.specs.Span.{chunk_span, meets}
use Rattle.hook_api.specs.Kept.{KeptFacts}
use Rattle.hook_api.specs.declared.kept.Journal.{Journal}
use Rattle.journal.specs.Entries.{entry_of, entry_text, spaced}
use Rattle.journal.specs.Ops.{op_words}
use Rattle.journal.proofs.Exact.{same_some}
use Rattle.line_reader.specs.Lines.{Line, lines_of}
use Rattle.line_reader.proofs.Breaks.{lines_of-line}
use Rattle.journal_check.specs.Accepted.{AreAccepted, IsWholeLine, entries_of, owns_by, with_own}
use Rattle.journal_check.specs.Logs.{opening_space}
use Rattle.journal_check.specs.Printed.{AreOfArenas, PrintedJournalsAreAccepted, entries_in}
use Rattle.journal_check.proofs.Passed.{both, passed_entries, passed_front, passed_whole}
use Rattle.journal_check.proofs.Passing.{accepted_passes}
unfoldable use Rattle.journal_check.specs.Said.{said_of}
use Rattle.journal_check.specs.Said.{is_passed, turn_of}
use Rattle.journal_check.specs.declared.says.Said.{Said}
use Rattle.journal_check.specs.declared.says.Said.TheVariants.{Nothing, Passed, Turn}
use Rattle.journal.specs.Texts.{AreReadAgain, IsReadAgain, entries_text, journals_text}

-- ---- lines

-- the line of an entry, and those of an arena's entries
abbrev pub entry_printed : ℕ → KeptFacts → Line
entry_printed index kept = (entry_text index kept.entry, true)

abbrev pub arena_printed : Journal → List Line
arena_printed journal = map (entry_printed journal.index) journal.kept

abbrev pub all_printed : List Journal → List Line
all_printed journals = flat_map arena_printed journals

-- the text of entries is a line for each, whatever stands behind them
entries_lines : (index : ℕ) (kept : List KeptFacts) (behind : List ℕ) → AllByRecursion (IsReadAgain index) kept → lines_of (entries_text index kept ++ behind) ≡ map (entry_printed index) kept ++ lines_of behind
entries_lines index [] behind again = refl
entries_lines index (k ∷ kept) behind again =
    let text = entry_text index k.entry in
    let later = entries_text index kept in
    ap lines_of (append_assoc (text ++ 10 ∷ []) later behind ∙ append_assoc text (10 ∷ []) (later ++ behind))
    ∙ lines_of-line text (later ++ behind) again.0.1 ∙ ap (λ (lines : List Line). (text, true) ∷ lines) (entries_lines index kept behind again.1)

-- so is that of journals
pub journals_lines : (journals : List Journal) → AllByRecursion AreReadAgain journals → lines_of (journals_text journals) ≡ all_printed journals
journals_lines [] again = refl
journals_lines (j ∷ journals) again =
    entries_lines j.index j.kept (journals_text journals) again.0 ∙ ap (λ (lines : List Line). arena_printed j ++ lines) (journals_lines journals again.1)

-- ---- what a line says

differs : (a c : ℕ) → not (eqb c a) ≡ true → eqb a c ≡ false
differs a c h = grind (arith, nat_tests)

neither : (a b x y : Bool) → a ≡ false → b ≡ false → ((a && x) || (b && y)) ≡ false
neither a b x y no_a no_b = rw (no_a, no_b) refl

-- a line whose first word has neither an `a` nor a `t` isn't passed over
not_passed : (word behind : List ℕ) → list_all (is_in_word 97) word ≡ true → list_all (is_in_word 116) word ≡ true → is_passed (word ++ 32 ∷ behind) ≡ false
not_passed [] behind a t = refl
not_passed (c ∷ word) behind a t =
    neither (eqb 97 c) (eqb 116 c) _ _ (differs 97 c (and_parts (is_in_word 97 c) (list_all (is_in_word 97) word) a).0)
    (differs 116 c (and_parts (is_in_word 116 c) (list_all (is_in_word 116) word) t).0)

-- what the text of an entry of one of the arenas says is this entry
pub said_again : (index : ℕ) (kept : KeptFacts) → index < 32 → IsReadAgain index kept → said_of (entry_text index kept.entry) ≡ Turn index kept.entry
unfolding said_of
said_again index kept lt again =
    let line = entry_text index kept.entry in
    let small : index < 2 ^ 64 = omega (arith, lt) in
    let other : is_passed line ≡ false =
    not_passed (decimal index) (decimal kept.entry.client ++ spaced (op_words kept.entry.op)) (decimal_plain 97 index refl small) (decimal_plain 116 index refl small) in
    ap (λ (b : Bool). cond b Passed (turn_of (entry_of line))) other ∙ ap turn_of again.0 ∙ ap (λ (b : Bool). cond b (Turn index kept.entry) Nothing) (lt-ltb index 32 lt)

-- ---- the lines of one arena

-- they are whole
pub arena_whole : (index : ℕ) (kept : List KeptFacts) → index < 32 → AllByRecursion (IsReadAgain index) kept → AllByRecursion IsWholeLine (map (entry_printed index) kept)
arena_whole index [] lt again = tt
arena_whole index (k ∷ kept) lt again = ((refl, says (said_of (entry_text index k.entry)) (said_again index k lt again.0)), arena_whole index kept lt again.1)
  where
    says : (said : Said) → said ≡ Turn index k.entry → said ≢ Nothing
    says said is none = absurd (let both : Turn index k.entry ≡ Nothing = sym is ∙ none in cc)

-- they add its own entries to those of later lines
pub own_entries : (i index : ℕ) (kept : List KeptFacts) (later : List Line) → eqb index i ≡ true → index < 32 → AllByRecursion (IsReadAgain index) kept →
    entries_of i (map (entry_printed index) kept ++ later) ≡ map (λ k. k.entry) kept ++ entries_of i later
own_entries i index [] later own lt again = refl
own_entries i index (k ∷ kept) later own lt again =
    let behind = entries_of i (map (entry_printed index) kept ++ later) in
    ap (λ (said : Said). with_own i said behind) (said_again index k lt again.0) ∙ ap (λ (b : Bool). cond b (k.entry ∷ behind) behind) own
    ∙ ap (λ (es : List Entry). k.entry ∷ es) (own_entries i index kept later own lt again.1)

-- and none to those of another arena
pub other_entries : (i index : ℕ) (kept : List KeptFacts) (later : List Line) → eqb index i ≡ false → index < 32 → AllByRecursion (IsReadAgain index) kept →
    entries_of i (map (entry_printed index) kept ++ later) ≡ entries_of i later
other_entries i index [] later other lt again = refl
other_entries i index (k ∷ kept) later other lt again =
    let behind = entries_of i (map (entry_printed index) kept ++ later) in
    ap (λ (said : Said). with_own i said behind) (said_again index k lt again.0) ∙ ap (λ (b : Bool). cond b (k.entry ∷ behind) behind) other
    ∙ other_entries i index kept later other lt again.1

-- ---- journals one behind the other

-- the indexes of journals are numbers one behind the other
abbrev AreFrom : ℕ → List Journal → Type 0
AreFrom n [] = Unit {0}
AreFrom n (j ∷ journals) = (j.index ≡ n) × AreFrom (n + 1) journals

are_from : (n : ℕ) (journals : List Journal) → ((i : ℕ) (journal : Journal) → slice_get journals i ≡ Some journal → journal.index ≡ n + i) → AreFrom n journals
are_from n [] is = tt
are_from n (j ∷ journals) is =
    let first : n + 0 ≡ n = omega arith in
    let later : (i : ℕ) → n + suc i ≡ n + 1 + i = λ i. omega arith in
    (is 0 j refl ∙ first, are_from (n + 1) journals (λ i journal at. is (suc i) journal at ∙ later i))

eqb-refl : (j : ℕ) → eqb j j ≡ true
eqb-refl j = grind (arith, nat_tests)

eqb-other : (i j : ℕ) → j ≢ i → eqb j i ≡ false
eqb-other i j other = grind (arith, nat_tests)

-- all lines are whole
all_whole : (n : ℕ) (journals : List Journal) → AreFrom n journals → n + length journals ≤ 32 → AllByRecursion AreReadAgain journals → AllByRecursion IsWholeLine (all_printed journals)
all_whole n [] from few again = tt
all_whole n (j ∷ journals) from few again =
    both IsWholeLine (arena_printed j) (all_printed journals) (arena_whole j.index j.kept (omega (arith, from.0, few)) again.0) (all_whole (n + 1) journals from.1 (omega (arith, few)) again.1)

-- an arena that has none of the journals has no entry among their lines
none_among : (i n : ℕ) (journals : List Journal) → ((k : ℕ) (journal : Journal) → slice_get journals k ≡ Some journal → n + k ≢ i) → AreFrom n journals → n + length journals ≤ 32 → AllByRecursion AreReadAgain journals →
    entries_of i (all_printed journals) ≡ []
none_among i n [] other from few again = refl
none_among i n (j ∷ journals) other from few again =
    let first : n + 0 ≡ n = omega arith in
    let later : (k : ℕ) → n + suc k ≡ n + 1 + k = λ k. omega arith in
    other_entries i j.index j.kept (all_printed journals) (eqb-other i j.index (λ same. other 0 j refl (first ∙ sym from.0 ∙ same))) (omega (arith, from.0, few)) again.0
    ∙ none_among i (n + 1) journals (λ k journal at same. other (suc k) journal at (later k ∙ same)) from.1 (omega (arith, few)) again.1

-- and each of them has its own
own_among : (k n : ℕ) (journals : List Journal) (journal : Journal) → slice_get journals k ≡ Some journal → AreFrom n journals → n + length journals ≤ 32 → AllByRecursion AreReadAgain journals →
    entries_of (n + k) (all_printed journals) ≡ entries_in journal
own_among k n [] journal at from few again = absurd cc
own_among zero n (j ∷ journals) journal at from few again =
    let same : n + 0 ≡ j.index = omega (arith, from.0) in
    let is : j ≡ journal = same_some at in
    own_entries (n + 0) j.index j.kept (all_printed journals) (ap (eqb j.index) same ∙ eqb-refl j.index) (omega (arith, from.0, few)) again.0
    ∙ ap (λ (es : List Entry). entries_in j ++ es) (none_among (n + 0) (n + 1) journals (λ k other at is. omega (arith, is)) from.1 (omega (arith, few)) again.1) ∙ append-nil (entries_in j) ∙ ap entries_in is
own_among (suc k) n (j ∷ journals) journal at from few again =
    let later = all_printed journals in
    let same : n + suc k ≡ n + 1 + k = omega arith in
    other_entries (n + suc k) j.index j.kept later (eqb-other (n + suc k) j.index (λ is. omega (arith, is, from.0))) (omega (arith, from.0, few)) again.0
    ∙ ap (λ (i : ℕ). entries_of i later) same ∙ own_among k (n + 1) journals journal at from.1 (omega (arith, few)) again.1

-- ---- all of them

-- an arena without an entry owns nothing
owns_none : (chunk i : ℕ) → owns_by chunk i [] ≡ false
owns_none chunk i = either (i == 0)
  where
    either : (b : Bool) → list_any (λ p. meets p.span (chunk_span chunk)) (if b then first_space else absent_space).parts ≡ false
    either true = refl
    either false = refl

-- What entries an arena has: those of its journal, or none where it has no journal.
record HasEntries (journals : List Journal) (i : ℕ) (entries : List Entry) : Type 0 where
  own : (journal : Journal) → slice_get journals i ≡ Some journal → entries ≡ entries_in journal
  none : slice_get journals i ≡ None → entries ≡ []

-- they may stand
entries_stand : (journals : List Journal) (i : ℕ) (entries : List Entry) → AreOfArenas journals → HasEntries journals i entries → all_stand (opening_space i) entries ≡ true
entries_stand journals i entries are has = by_journal (slice_get journals i) refl
  where
    by_journal : (o : Option Journal) → slice_get journals i ≡ o → all_stand (opening_space i) entries ≡ true
    by_journal (Some journal) at = ap (all_stand (opening_space i)) (has.own journal at) ∙ are.stand i journal at
    by_journal None gone = ap (all_stand (opening_space i)) (has.none gone)

-- an arena that owns a chunk has a journal that leaves it so
owner_has : (journals : List Journal) (chunk i : ℕ) (entries : List Entry) → HasEntries journals i entries → owns_by chunk i entries ≡ true →
    (journal : Journal) × (slice_get journals i ≡ Some journal) × (owns_by chunk i (entries_in journal) ≡ true)
owner_has journals chunk i entries has owns = by_journal (slice_get journals i) refl
  where
    by_journal : (o : Option Journal) → slice_get journals i ≡ o → (journal : Journal) × (slice_get journals i ≡ Some journal) × (owns_by chunk i (entries_in journal) ≡ true)
    by_journal (Some journal) at = (journal, at, ap (owns_by chunk i) (sym (has.own journal at)) ∙ owns)
    by_journal None gone = absurd (let both : true ≡ false = sym owns ∙ ap (owns_by chunk i) (has.none gone) ∙ owns_none chunk i in cc)

pub printed_accepted : PrintedJournalsAreAccepted
printed_accepted before journals passed are again =
    let text = before ++ journals_text journals in
    let lines = lines_of text in
    let front = lines_of before in
    let printed : lines ≡ front ++ all_printed journals = passed_front before (journals_text journals) passed ∙ ap (λ (ls : List Line). front ++ ls) (journals_lines journals again) in
    let few : 0 + length journals ≤ 32 = omega (arith, are.few) in
    let counted : (i : ℕ) → i ≡ 0 + i = λ i. omega arith in
    let from : AreFrom 0 journals = are_from 0 journals (λ i journal at. are.indexes i journal at ∙ counted i) in
    let behind : (i : ℕ) → entries_of i lines ≡ entries_of i (all_printed journals) =
    λ i. ap (entries_of i) printed ∙ passed_entries i front (all_printed journals) passed in
    let own : (i : ℕ) (journal : Journal) → slice_get journals i ≡ Some journal → entries_of i lines ≡ entries_in journal =
    λ i journal at. behind i ∙ ap (λ (k : ℕ). entries_of k (all_printed journals)) (counted i) ∙ own_among i 0 journals journal at from few again in
    let none : (i : ℕ) → slice_get journals i ≡ None → entries_of i lines ≡ [] =
    λ i gone. behind i ∙ none_among i 0 journals (λ k journal at same. none-some journal (sym gone ∙ ap (slice_get journals) (sym (counted k ∙ same)) ∙ at)) from few again in
    let has : (i : ℕ) → HasEntries journals i (entries_of i lines) = λ i. record { own = own i; none = none i } in
    let accepted : AreAccepted lines = record {
      whole = subst (AllByRecursion IsWholeLine) (sym printed) (both IsWholeLine front (all_printed journals) (passed_whole front passed) (all_whole 0 journals from few again));
      stand = λ i lt. entries_stand journals i (entries_of i lines) are (has i);
      apart = λ chunk i j from_one to i_lt j_lt own_i own_j.
          let one = owner_has journals chunk i (entries_of i lines) (has i) own_i in
          let other = owner_has journals chunk j (entries_of j lines) (has j) own_j in
          are.apart chunk i j one.0 other.0 from_one to one.1 other.1 one.2 other.2;
    } in record { accepted = accepted; passes = accepted_passes text accepted }
