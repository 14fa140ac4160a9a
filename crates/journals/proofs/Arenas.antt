-- The journals of arenas that are as they have to be are accepted.
use Rattle.std.proofs.Common.{◌≡◌, ◌∙◌, ℕ, ◌<◌, true, List, [], length, map, Some, sym, ap, arith}
use Rattle.std.specs.Prelude.{option_map, slice_get}
use Rattle.std.specs.List.{AllByRecursion}
use Rattle.std.proofs.lemmas.List.{length-map}
use Rattle.std.proofs.lemmas.Option.{slice_get-get_or, slice_get-map, slice_get_within}
use Rattle.space_model.specs.Journal.{all_stand}
use Rattle.hook_api.specs.declared.kept.Journal.{Journal}
use Rattle.heap_core.specs.Arenas.{IsArenas, journal_of, spaces_of}
use Rattle.heap_core.specs.Chunks.{owns_chunk, space_at}
use Rattle.heap_core.proofs.Turned.{space_of_record}
use Rattle.sits.specs.Arenas.{no_record, record_at}
use Rattle.recorded_arena.specs.Records.{Record, opening_space}
use Rattle.journal.specs.Texts.{AreReadAgain, journals_text}
use Rattle.journal.proofs.Exact.{same_some}
use Rattle.journal_check.specs.Accepted.{owns_by}
use Rattle.journal_check.specs.Printed.{AreOfArenas, IsAcceptedText, entries_in}
use Rattle.journal_check.proofs.Printed.{printed_accepted}

-- a journal of arenas is that of the arena with its index
journal_at : (records : List Record) (i : ℕ) (journal : Journal) → slice_get (map journal_of records) i ≡ Some journal → (i < length records) × (journal ≡ journal_of (record_at records i))
journal_at records i journal at =
    let within : i < length records = omega (arith, slice_get_within (map journal_of records) i journal at, length-map records journal_of) in (
      within,
      same_some (sym at ∙ slice_get-map journal_of records i ∙ ap (option_map journal_of) (slice_get-get_or records i no_record within)),
    )

-- so journals of arenas are as they have to be to be accepted
of_arenas : (records : List Record) → IsArenas records → AreOfArenas (map journal_of records)
of_arenas records is = record {
  few = omega (arith, length-map records journal_of, is.number);
  indexes = λ i journal at. let here = journal_at records i journal at in ap (λ (j : Journal). j.index) here.1 ∙ is.indexes i (omega (arith, here.0, is.number));
  stand = λ i journal at.
      let here = journal_at records i journal at in
      ap (λ (j : Journal). all_stand (opening_space i) (entries_in j)) here.1 ∙ (is.replayed i (omega (arith, here.0, is.number))).stand;
  apart = λ chunk i j one other _ _ one_at other_at owns_one owns_other. is.apart chunk i j (owned chunk i one one_at owns_one) (owned chunk j other other_at owns_other);
}
  where
    owned : (chunk i : ℕ) (journal : Journal) → slice_get (map journal_of records) i ≡ Some journal → owns_by chunk i (entries_in journal) ≡ true → owns_chunk chunk (space_at (spaces_of records) i) ≡ true
    owned chunk i journal at owns =
        let here = journal_at records i journal at in
        ap (owns_chunk chunk) (space_of_record records i ∙ (is.replayed i (omega (arith, here.0, is.number))).space) ∙ ap (λ (j : Journal). owns_by chunk i (entries_in j)) (sym here.1) ∙ owns

pub arenas_accepted : (records : List Record) → IsArenas records → AllByRecursion AreReadAgain (map journal_of records) → IsAcceptedText (journals_text (map journal_of records))
arenas_accepted records is again = printed_accepted [] (map journal_of records) tt (of_arenas records is) again
