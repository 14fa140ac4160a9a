-- The entries of all arenas, and the live ones at the end.
use Rattle.std.proofs.Common.{◌≡◌, ◌∙◌, ℕ, ◌+◌, ◌<◌, ◌≤◌, true, false, List, [], ◌∷◌, ◌++◌, length, drop, get_or, map, refl, sym, ap, arith, append_assoc, append-nil}
use Rattle.std.specs.Prelude.{slice_set}
use Rattle.std.proofs.Math.Seq.{drop-length}
use Rattle.std.proofs.lemmas.List.{drop_more, get_or_default, length-set}
use Rattle.std.proofs.lemmas.List.Sums.{get_or-le-sum_by, sum_by-set}
use Rattle.space_model.specs.declared.entries.Entry.{Entry}
use Rattle.space_model.specs.Stepped.{is_live}
use Rattle.journal_check.specs.Logs.{IsLog, Logged, all_entries, arena_at, end_of, ends_from, entered, opening_log, unlogged}
use Rattle.std.specs.List.{range_with_len}
use Rattle.journal_check.specs.declared.verdicts.End.{End}

-- one entry more
pub entries_more : (log : List Logged) (index : ℕ) (entry : Entry) → index < length log → all_entries (slice_set log index (entered (arena_at log index) entry)) ≡ all_entries log + 1
unfolding entered
entries_more log index entry within = omega (arith, sum_by-set (λ arena. arena.entries) log index (entered (arena_at log index) entry) (unlogged 32) within)

-- an arena has at most those of all
pub entries_few : (log : List Logged) (index : ℕ) (d : Logged) → index < length log → (get_or log index d).entries ≤ all_entries log
entries_few log index d within = get_or-le-sum_by (λ arena. arena.entries) log index d within

-- the arenas behind an entry, which was read and taken in
pub turned_entries : (log : List Logged) (index : ℕ) (read new : Logged) (entry : Entry) → index < length log → read ≡ get_or log index read → new ≡ entered read entry → all_entries (slice_set log index new) ≡ all_entries log + 1
turned_entries log index read new entry within is made =
    ap (λ (a : Logged). all_entries (slice_set log index a)) (made ∙ ap (λ (a : Logged). entered a entry) (is ∙ get_or_default log index read (unlogged 32) within)) ∙ entries_more log index entry within

pub turned_log : (log : List Logged) (index : ℕ) (read new : Logged) (entry : Entry) (count : ℕ) → index < length log → read ≡ get_or log index read → new ≡ entered read entry → IsLog log count → IsLog (slice_set log index new) (count + 1)
turned_log log index read new entry count within is made so = record {
  number = length-set log index new ∙ so.number;
  entries = omega (arith, so.entries, turned_entries log index read new entry within is made);
}

-- at the start there is none
pub opening_entries : all_entries opening_log ≡ 0
unfolding opening_log unlogged
opening_entries = refl

pub opening_shown : map unlogged (range_with_len 0 32) ≡ opening_log
unfolding opening_log
opening_shown = refl

pub opening_length : length opening_log ≡ 32
unfolding opening_log
opening_length = refl

-- the live arenas from one on: it is among them where it is live
pub ends_step : (log : List Logged) (index : ℕ) (d : Logged) (ends all : List End) → index < length log → ends ++ ends_from index (drop index log) ≡ all →
    ((is_live (get_or log index d).space.life ≡ true → (ends ++ end_of index (get_or log index d) ∷ []) ++ ends_from (index + 1) (drop (index + 1) log) ≡ all)
    × (is_live (get_or log index d).space.life ≡ false → ends ++ ends_from (index + 1) (drop (index + 1) log) ≡ all))
ends_step log index d ends all within same =
    let more : ends ++ ends_from index (get_or log index d ∷ drop (index + 1) log) ≡ all = ap (λ (xs : List Logged). ends ++ ends_from index xs) (sym (drop_more log index d within)) ∙ same in (
      λ live. append_assoc ends (end_of index (get_or log index d) ∷ []) (ends_from (index + 1) (drop (index + 1) log)) ∙ rw live at more,
      λ dead. rw dead at more,
    )

-- behind the last one there are none
pub ends_done : (log : List Logged) (index : ℕ) (ends all : List End) → index ≡ length log → ends ++ ends_from index (drop index log) ≡ all → ends ≡ all
ends_done log index ends all last same =
    sym (append-nil ends) ∙ ap (λ (xs : List Logged). ends ++ ends_from index xs) (sym (drop-length log) ∙ ap (λ (n : ℕ). drop n log) (sym last)) ∙ same
