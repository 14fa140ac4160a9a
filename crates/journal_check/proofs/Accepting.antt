-- An input has no bad line just where each arena's entries stand, and leaves what they leave.
use Rattle.std.proofs.Common.{◌≡◌, ◌≢◌, ◌∙◌, ℕ, ◌+◌, ◌<◌, ◌≤◌, Bool, true, false, IsTrue, cond, eqb, List, [], ◌∷◌, length, Ok, Err, refl, sym, ap, subst, arith, nat_lt}
use Rattle.std.specs.Prelude.{slice_set, ◌&&◌, Option, None, Some}
use Rattle.std.specs.List.{AllByRecursion}
use Rattle.std.proofs.lemmas.Bool.{and_parts, eqb-true, le-ltb, ltb-false, ltb-true}
use Rattle.std.proofs.lemmas.Bool.Decides.{nat_tests}
use Rattle.std.proofs.lemmas.Grind.{get_or-set_at}
use Rattle.std.proofs.lemmas.List.{get_or-set_other, length-set}
use Rattle.std.proofs.lemmas.List.FromFn.{get_or-map-range_with_len}
use Rattle.space_model.specs.declared.entries.Entry.{Entry}
use Rattle.space_model.specs.declared.spaces.Space.{Space}
use Rattle.space_model.specs.Journal.{Good, all_stand, replay, turns_of}
use Rattle.space_model.specs.Opening.{absent_space, first_space}
use Rattle.space_model.proofs.LawLemmas.{absent_replays_are_good, first_replays_are_good}
use Rattle.journal.specs.Entries.{entry_of}
use Rattle.line_reader.specs.Lines.{Line, lines_of}
use Rattle.journal_check.specs.Accepted.{IsGoodLine, StandingInputsAreWhole, WholeInputsStand, entries_of, with_own}
use Rattle.journal_check.specs.Logs.{Logged, after_line, arena_at, entered, may_enter, opening_log, opening_space, unlogged}
use Rattle.journal_check.specs.Said.{is_passed, said_of, turn_of}
use Rattle.journal_check.specs.Verdicts.{BadLine, Judged, Left, TooLong, TooMany, go_on, input_limits, judged, judgement}
use Rattle.journal_check.specs.declared.says.Said.{Said}
use Rattle.journal_check.specs.declared.says.Said.TheVariants.{Nothing, Passed, Turn}
use Rattle.journal_check.specs.declared.verdicts.Bad.TheVariants.{NotEntry, NotStanding}
use Rattle.journal_check.specs.declared.verdicts.Limits.{Limits}
use Rattle.journal_check.proofs.Totals.{opening_length}

-- ---- the entries of one arena

-- whether each may come where it comes, and the arena behind them
abbrev all_may : Logged → List Entry → Bool
all_may a [] = true
all_may a (e ∷ es) = may_enter a e && all_may (entered a e) es

abbrev leaves : Logged → List Entry → Logged
leaves a [] = a
leaves a (e ∷ es) = leaves (entered a e) es

-- the arena with an index behind an entry, by whether that is its own
own : (old : List Logged) (index : ℕ) (e : Entry) (later : List Entry) (i : ℕ) (b : Bool) → eqb index i ≡ b → i < length old → may_enter (arena_at old index) e ≡ true →
    (all_may (arena_at (slice_set old index (entered (arena_at old index) e)) i) later ≡ all_may (arena_at old i) (cond b (e ∷ later) later))
    × (leaves (arena_at (slice_set old index (entered (arena_at old index) e)) i) later ≡ leaves (arena_at old i) (cond b (e ∷ later) later))
own old index e later i true is lt ok =
    let same : index ≡ i = eqb-true index i is in
    let mine : may_enter (arena_at old i) e ≡ true = subst (λ (j : ℕ). may_enter (arena_at old j) e ≡ true) same ok in
    let state : arena_at (slice_set old index (entered (arena_at old index) e)) i ≡ entered (arena_at old i) e =
    get_or-set_at old index i (entered (arena_at old index) e) (unlogged 32) (sym same) (omega (arith, same, lt)) ∙ ap (λ (j : ℕ). entered (arena_at old j) e) same in
    (ap (λ (a : Logged). all_may a later) state ∙ sym (ap (λ (t : Bool). t && all_may (entered (arena_at old i) e) later) mine), ap (λ (a : Logged). leaves a later) state)
own old index e later i false is lt ok =
    let state = get_or-set_other old index i (entered (arena_at old index) e) (unlogged 32) (λ same. differ index i is same) in
    (ap (λ (a : Logged). all_may a later) state, ap (λ (a : Logged). leaves a later) state)
  where
    differ : (j i : ℕ) → eqb j i ≡ false → i ≡ j → ⊥
    differ j i is same = grind (arith, nat_tests)

-- ---- what a judgement without a bad line tells

same_left : (old new : List Logged) → Left old ≡ Left new → old ≡ new
same_left old new e = cc

-- a line that is taken
picks : (many long whole : Bool) (go : Judged) (n : ℕ) (new : List Logged) → cond many (TooMany n) (cond long (TooLong n) (cond whole go (BadLine n NotEntry))) ≡ Left new →
    (many ≡ false) × (long ≡ false) × (whole ≡ true) × (go ≡ Left new)
picks true long whole go n new is = absurd cc
picks false true whole go n new is = absurd cc
picks false false false go n new is = absurd cc
picks false false true go n new is = (refl, refl, refl, is)

stands_first : (b : Bool) (number : ℕ) (next : List Logged → Judged) (mid new : List Logged) → go_on number next (cond b (Ok mid) (Err NotStanding)) ≡ Left new → (b ≡ true) × (next mid ≡ Left new)
stands_first true number next mid new is = (refl, is)
stands_first false number next mid new is = absurd cc

-- what a good line leads to
record Steps (limits : Limits) (number : ℕ) (rest : List Line) (said : Said) (old new : List Logged) : Type 0 where
  mid : List Logged
  on : judged limits (number + 1) rest mid ≡ Left new
  says : said ≢ Nothing
  size : length mid ≡ length old
  alone : (i : ℕ) (later : List Entry) → i < length old → (all_may (arena_at mid i) later ≡ all_may (arena_at old i) (with_own i said later)) × (leaves (arena_at mid i) later ≡ leaves (arena_at old i) (with_own i said later))

stepped : (limits : Limits) (number : ℕ) (rest : List Line) (said : Said) (old new : List Logged) → go_on number (judged limits (number + 1) rest) (after_line old said) ≡ Left new → Steps limits number rest said old new
stepped limits number rest Nothing old new is = absurd cc
stepped limits number rest Passed old new is = record { mid = old; on = is; says = λ no. absurd cc; size = refl; alone = λ i later lt. (refl, refl) }
stepped limits number rest (Turn index e) old new is =
    let behind = entered (arena_at old index) e in
    let first = stands_first (may_enter (arena_at old index) e) number (judged limits (number + 1) rest) (slice_set old index behind) new is in record {
      mid = slice_set old index behind;
      on = first.1;
      says = λ no. absurd cc;
      size = length-set old index behind;
      alone = λ i later lt. own old index e later i (eqb index i) refl lt first.0;
    }

-- what all lines leave
record Leaves (limits : Limits) (number : ℕ) (lines : List Line) (old new : List Logged) : Type 0 where
  few : number + length lines ≤ limits.lines + 1
  good : AllByRecursion (IsGoodLine limits.bytes) lines
  size : length new ≡ length old
  stand : (i : ℕ) → i < length old → all_may (arena_at old i) (entries_of i lines) ≡ true
  left : (i : ℕ) → i < length old → arena_at new i ≡ leaves (arena_at old i) (entries_of i lines)

whole_leaves : (limits : Limits) (number : ℕ) (lines : List Line) (old new : List Logged) → number ≤ limits.lines + 1 → judged limits number lines old ≡ Left new → Leaves limits number lines old new
whole_leaves limits number [] old new at is =
    let same = same_left old new is in record {
      few = omega (arith, at);
      good = tt;
      size = ap length (sym same);
      stand = λ i lt. refl;
      left = λ i lt. ap (λ (log : List Logged). arena_at log i) (sym same);
    }
whole_leaves limits number (line ∷ lines) old new at is =
    let p = picks (nat_lt limits.lines number) (nat_lt limits.bytes (length line.0)) line.1 (go_on number (judged limits (number + 1) lines) (after_line old (said_of line.0))) number new is in
    let few : number ≤ limits.lines = ltb-false limits.lines number p.0 in
    let s = stepped limits number lines (said_of line.0) old new p.3 in
    let h = whole_leaves limits (number + 1) lines s.mid new (omega (arith, few)) s.on in record {
      few = omega (arith, h.few);
      good = ((ltb-false limits.bytes (length line.0) p.1, p.2, s.says), h.good);
      size = h.size ∙ s.size;
      stand = λ i lt. sym (s.alone i (entries_of i lines) lt).0 ∙ h.stand i (omega (arith, lt, s.size));
      left = λ i lt. h.left i (omega (arith, lt, s.size)) ∙ (s.alone i (entries_of i lines) lt).1;
    }

-- ---- and back

-- the arena of an entry is one of 32
said_index : (line : List ℕ) (index : ℕ) (e : Entry) → said_of line ≡ Turn index e → index < 32
unfolding said_of
said_index line index e is = passed (is_passed line) (entry_of line) is
  where
    within : (b : Bool) (x : ℕ × Entry) → nat_lt x.0 32 ≡ b → cond b (Turn x.0 x.1) Nothing ≡ Turn index e → index < 32
    within true x lt is = let same : x.0 ≡ index = cc in omega (arith, ltb-true x.0 32 lt, same)
    within false x lt is = absurd cc

    turned : (x : Option (ℕ × Entry)) → turn_of x ≡ Turn index e → index < 32
    turned None is = absurd cc
    turned (Some x) is = within (nat_lt x.0 32) x refl is

    passed : (b : Bool) (x : Option (ℕ × Entry)) → cond b Passed (turn_of x) ≡ Turn index e → index < 32
    passed true x is = absurd cc
    passed false x is = turned x is

-- what a line does of which each arena's entry may come
record Behind (said : Said) (later : ℕ → List Entry) (old : List Logged) : Type 0 where
  mid : List Logged
  is : after_line old said ≡ Ok mid
  size : length mid ≡ length old
  stand : (i : ℕ) → i < length old → all_may (arena_at mid i) (later i) ≡ true

eqb-refl : (j : ℕ) → eqb j j ≡ true
eqb-refl j = grind (arith, nat_tests)

stood : (said : Said) (later : ℕ → List Entry) (old : List Logged) → said ≢ Nothing → ((index : ℕ) (e : Entry) → said ≡ Turn index e → index < length old) →
    ((i : ℕ) → i < length old → all_may (arena_at old i) (with_own i said (later i)) ≡ true) → Behind said later old
stood Nothing later old says within stand = absurd (says refl)
stood Passed later old says within stand = record { mid = old; is = refl; size = refl; stand = stand }
stood (Turn index e) later old says within stand =
    let behind = entered (arena_at old index) e in
    let lt = within index e refl in
    let ok = first index (arena_at old index) e (later index) (stand index lt) in record {
      mid = slice_set old index behind;
      is = rw ok refl;
      size = length-set old index behind;
      stand = λ i below. (own old index e (later i) i (eqb index i) refl below ok).0 ∙ stand i below;
    }
  where
    first : (j : ℕ) (a : Logged) (e : Entry) (rest : List Entry) → all_may a (cond (eqb j j) (e ∷ rest) rest) ≡ true → may_enter a e ≡ true
    first j a e rest h = (and_parts (may_enter a e) (all_may (entered a e) rest) (rw (eqb-refl j) at h)).0

standing_goes : (limits : Limits) (number : ℕ) (lines : List Line) (old : List Logged) → length old ≡ 32 → number + length lines ≤ limits.lines + 1 → AllByRecursion (IsGoodLine limits.bytes) lines →
    ((i : ℕ) → i < length old → all_may (arena_at old i) (entries_of i lines) ≡ true) → (new : List Logged) × (judged limits number lines old ≡ Left new)
standing_goes limits number [] old all few good stand = (old, refl)
standing_goes limits number (line ∷ lines) old all few good stand =
    let b = stood (said_of line.0) (λ i. entries_of i lines) old good.0.2 (λ index e is. omega (arith, said_index line.0 index e is, all)) stand in
    let h = standing_goes limits (number + 1) lines b.mid (b.size ∙ all) (omega (arith, few)) good.1 (λ i lt. b.stand i (omega (arith, lt, b.size))) in
    (h.0, rw (le-ltb limits.lines number (omega (arith, few)), le-ltb limits.bytes (length line.0) good.0.0, good.0.1) (ap (go_on number (judged limits (number + 1) lines)) b.is ∙ h.1))

-- ---- in the words of journals

may-stand : (a : Logged) (es : List Entry) → all_may a es ≡ all_stand a.space es
unfolding may_enter entered
may-stand a [] = refl
may-stand a (e ∷ es) = ap (λ (b : Bool). may_enter a e && b) (may-stand (entered a e) es)

leaves-space : (a : Logged) (es : List Entry) → (leaves a es).space ≡ replay a.space es
unfolding entered
leaves-space a [] = refl
leaves-space a (e ∷ es) = leaves-space (entered a e) es

leaves-entries : (a : Logged) (es : List Entry) → (leaves a es).entries ≡ a.entries + length es
unfolding entered
leaves-entries a [] = omega arith
leaves-entries a (e ∷ es) = omega (arith, leaves-entries (entered a e) es)

-- an arena before its first entry
opening_at : (i : ℕ) → i < 32 → arena_at opening_log i ≡ unlogged i
unfolding opening_log
opening_at i lt = get_or-map-range_with_len unlogged 0 32 i i (unlogged 32) lt (omega arith)

opened : (i : ℕ) → (unlogged i).space ≡ opening_space i
unfolding unlogged
opened i = refl

none_yet : (i : ℕ) → (unlogged i).entries ≡ 0
unfolding unlogged
none_yet i = refl

opening_good : (b : Bool) (es : List Entry) → IsTrue (all_stand (cond b first_space absent_space) es) → Good (turns_of (cond b first_space absent_space) es) (replay (cond b first_space absent_space) es)
opening_good true es h = first_replays_are_good es h
opening_good false es h = absent_replays_are_good es h

pub whole_stands : WholeInputsStand
unfolding judgement
whole_stands input log is =
    let lines = lines_of input in
    let h = whole_leaves input_limits 1 lines opening_log log (omega arith) is in
    let stand : (i : ℕ) → i < 32 → IsTrue (all_stand (opening_space i) (entries_of i lines)) =
    λ i lt. ap (λ (s : Space). all_stand s (entries_of i lines)) (sym (ap (λ (a : Logged). a.space) (opening_at i lt) ∙ opened i)) ∙ sym (may-stand (arena_at opening_log i) (entries_of i lines)) ∙ h.stand i (rw opening_length lt) in
    let left : (i : ℕ) → i < 32 → arena_at log i ≡ leaves (unlogged i) (entries_of i lines) =
    λ i lt. h.left i (rw opening_length lt) ∙ ap (λ (a : Logged). leaves a (entries_of i lines)) (opening_at i lt) in
    let spaces : (i : ℕ) → i < 32 → (arena_at log i).space ≡ replay (opening_space i) (entries_of i lines) =
    λ i lt. ap (λ (a : Logged). a.space) (left i lt) ∙ leaves-space (unlogged i) (entries_of i lines) ∙ ap (λ (s : Space). replay s (entries_of i lines)) (opened i) in (
      record { few = omega (arith, h.few); good = h.good; stand = stand },
      record {
        number = h.size ∙ opening_length;
        spaces = spaces;
        entries = λ i lt. ap (λ (a : Logged). a.entries) (left i lt) ∙ leaves-entries (unlogged i) (entries_of i lines) ∙ omega (arith, none_yet i);
        good = λ i lt. subst (λ (s : Space). Good (turns_of (opening_space i) (entries_of i lines)) s) (sym (spaces i lt)) (opening_good (eqb i 0) (entries_of i lines) (stand i lt));
      },
    )

pub standing_whole : StandingInputsAreWhole
unfolding judgement
standing_whole input standing =
    let lines = lines_of input in
    standing_goes input_limits 1 lines opening_log opening_length (omega (arith, standing.few)) standing.good
    (λ i lt.
    let below : i < 32 = rw opening_length at lt in
    may-stand (arena_at opening_log i) (entries_of i lines) ∙ ap (λ (s : Space). all_stand s (entries_of i lines)) (ap (λ (a : Logged). a.space) (opening_at i below) ∙ opened i) ∙ standing.stand i below)
