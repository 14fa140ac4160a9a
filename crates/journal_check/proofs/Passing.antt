-- An input is accepted just where its journals are.
use Rattle.std.proofs.Common.{◌≡◌, ◌∙◌, ℕ, ◌^◌, ◌<◌, ◌≤◌, List, [], ◌∷◌, length, refl, sym, ap, arith}
use Rattle.std.specs.List.{AllByRecursion, list_any}
use Rattle.space_model.specs.declared.spaces.Space.{Space}
use Rattle.space_model.specs.Span.{chunk_span, meets}
use Rattle.line_reader.specs.Lines.{Line, lines_of}
use Rattle.journal_check.specs.Accepted.{AcceptedInputsPass, IsGoodLine, IsLeft, IsStanding, IsWholeLine, PassedInputsAreAccepted, owns_left}
use Rattle.journal_check.specs.Apart.{IsApart, owns_at}
use Rattle.journal_check.specs.Logs.{Logged, all_entries, ends_from}
use Rattle.journal_check.proofs.Accepting.{standing_whole, whole_stands}
use Rattle.journal_check.proofs.Owners.{owner_within}

-- lines are good where they are whole and short
good_lines : (lines : List Line) → AllByRecursion IsWholeLine lines → AllByRecursion (λ line. length line.0 ≤ 2 ^ 18) lines → AllByRecursion (IsGoodLine (2 ^ 18)) lines
good_lines [] whole short = tt
good_lines (line ∷ lines) whole short = ((short.0, whole.0.0, whole.0.1), good_lines lines whole.1 short.1)

whole_lines : (lines : List Line) → AllByRecursion (IsGoodLine (2 ^ 18)) lines → AllByRecursion IsWholeLine lines
whole_lines [] good = tt
whole_lines (line ∷ lines) good = ((good.0.1, good.0.2), whole_lines lines good.1)

short_lines : (lines : List Line) → AllByRecursion (IsGoodLine (2 ^ 18)) lines → AllByRecursion (λ line. length line.0 ≤ 2 ^ 18) lines
short_lines [] good = tt
short_lines (line ∷ lines) good = (good.0.0, short_lines lines good.1)

-- what an arena owns is what its own entries leave it
owns_own : (lines : List Line) (log : List Logged) → IsLeft lines log → (chunk i : ℕ) → i < 32 → owns_at chunk log i ≡ owns_left chunk lines i
owns_own lines log left chunk i lt = ap (λ (s : Space). list_any (λ p. meets p.span (chunk_span chunk)) s.parts) (left.spaces i lt)

pub accepted_passes : AcceptedInputsPass
accepted_passes input accepted within =
    let lines = lines_of input in
    let standing : IsStanding lines = record { few = within.few; good = good_lines lines accepted.whole within.short; stand = accepted.stand } in
    let whole = standing_whole input standing in
    let log = whole.0 in
    let left = (whole_stands input log whole.1).1 in
    let apart : IsApart log = λ chunk from to i j own_i own_j.
    let i_lt : i < 32 = omega (arith, owner_within log chunk i own_i, left.number) in
    let j_lt : j < 32 = omega (arith, owner_within log chunk j own_j, left.number) in
    accepted.apart chunk i j from to i_lt j_lt (sym (owns_own lines log left chunk i i_lt) ∙ own_i) (sym (owns_own lines log left chunk j j_lt) ∙ own_j) in record {
      count = all_entries log;
      live = ends_from 0 log;
      accepted = record { log = log; whole = whole.1; apart = apart; entries = refl; ends = refl };
    }

pub passed_accepted : PassedInputsAreAccepted
passed_accepted input passed =
    let lines = lines_of input in
    let log = passed.accepted.log in
    let stands = whole_stands input log passed.accepted.whole in (
      record {
        whole = whole_lines lines stands.0.good;
        stand = stands.0.stand;
        apart = λ chunk i j from to i_lt j_lt own_i own_j.
            passed.accepted.apart chunk from to i j (owns_own lines log stands.1 chunk i i_lt ∙ own_i) (owns_own lines log stands.1 chunk j j_lt ∙ own_j);
      },
      record { few = stands.0.few; short = short_lines lines stands.0.good },
    )
