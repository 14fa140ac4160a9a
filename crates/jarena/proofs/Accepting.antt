-- What a run of threads prints with its journals is accepted.
use Rattle.std.proofs.Common.{◌≡◌, ◌∙◌, inl, inr, ℕ, ◌<◌, ◌≤◌, Bool, true, false, List, [], ◌∷◌, ◌++◌, Option, None, Some, refl, arith, length}
use Rattle.std.specs.Prelude.{IsTrue, codes}
use Rattle.std.specs.List.{list_all}
use Rattle.std.specs.Fmt.{decimal}
use Rattle.std.proofs.lemmas.List.Folds.{list_all-append}
use Rattle.chunk_table.specs.Rule.{owns}
use Rattle.chunk_table.specs.Tables.{accounts}
use Rattle.chunk_table.specs.declared.table.ChunkBook.{ChunkBook}
use Rattle.edge_io.specs.Bytes.{Appends}
use Rattle.heap_runs.proofs.Apart.{only_one}
use Rattle.heap_runs.specs.Closes.{counts_left}
use Rattle.hook_api.specs.Shelf.{Shelf}
use Rattle.hook_api.specs.declared.kept.Journal.{Journal}
use Rattle.hook_api.specs.declared.orders.Orders.{Orders}
use Rattle.journal.proofs.EntryLaws.{no_newline}
use Rattle.journal_check.proofs.Passed.{lines_passed, number_plain, texts_passed}
use Rattle.journal_check.proofs.Printed.{printed_accepted}
use Rattle.journal_check.specs.Printed.{AreOfArenas, IsAcceptedText, IsPassedOver}
use Rattle.space_model.specs.declared.counts.Counts.{Counts}
use Rattle.text_words.specs.Words.{is_in_word}
use Rattle.report_text.specs.Lines.{bad_line}
unfoldable use Rattle.report_text.specs.Lines.{counts_text, entries_line, mapped_text, threads_line, unused_text, used_text}
use Rattle.trace_phase.specs.declared.parts.Part.{Part}
use Rattle.phase_run.specs.Stands.{Stand}
use Rattle.phase_run.specs.Summaries.{arena_text, arenas_text, phase_count, summary_text}
use Rattle.phase_run.specs.Threads.{AreCarried, Held, Left, Runs, TellsText, TellsWhole, numbers_of, status_of}
use Rattle.jarena.proofs.Threading.{bad_status}

-- ---- the summary

counts_plain : (counts : Counts) → list_all (is_in_word 10) (counts_text counts) ≡ true
unfolding counts_text used_text unused_text mapped_text
counts_plain counts = simp (list_all-append, number_plain) refl

-- the line of an arena
entries_passed : (index entries : ℕ) (counts : Counts) → IsPassedOver (entries_line index entries counts)
unfolding entries_line
entries_passed index entries counts =
    let line = codes "arena " ++ decimal index ++ codes " entries " ++ decimal entries ++ codes " " ++ counts_text counts in
    lines_passed line refl (no_newline line (simp (list_all-append, number_plain, counts_plain) refl))

-- the line of all calls
threads_passed : (clients phases calls failed : ℕ) → IsPassedOver (threads_line clients phases calls failed)
unfolding threads_line
threads_passed clients phases calls failed =
    let line = codes "threads " ++ decimal clients ++ codes " phases " ++ decimal phases ++ codes " calls " ++ decimal calls ++ codes " failed " ++ decimal failed in
    lines_passed line refl (no_newline line (simp (list_all-append, number_plain) refl))

arena_passed : (journal : Journal) (counts : Option Counts) → IsPassedOver (arena_text journal counts)
arena_passed journal None = tt
arena_passed journal (Some counts) = entries_passed journal.index (length journal.kept) counts

arenas_passed : (journals : List Journal) → IsPassedOver (arenas_text journals)
arenas_passed [] = tt
arenas_passed (j ∷ journals) = texts_passed (arena_text j (counts_left j)) (arenas_text journals) (arena_passed j (counts_left j)) (arenas_passed journals)

-- ---- the journals

of_arenas : (orders : List Orders) (parts : List Part) (last : Stand) (journals : List Journal) (book : ChunkBook) → AreCarried orders parts last journals book → AreOfArenas journals
of_arenas orders parts last journals book carried = record {
  few = (let count = carried.count in omega (arith, count));
  indexes = λ i journal at. (carried.each i journal at).index;
  stand = λ i journal at. (carried.each i journal at).stand;
  apart = λ chunk i j one other low high at there owned also.
      let first = carried.each i one at in
      let second = carried.each j other there in
      only_one (owns chunk) (accounts book) i j first.share second.share (carried.once chunk) first.account second.account (first.owned chunk ∙ owned) (second.owned chunk ∙ also);
}

-- what a run of threads prints at status 0 is accepted, where its journals are printed
pub threads_accepted : (with_journals : Bool) (input : Option (List ℕ)) (ended : Bool) (faults faults' : ℕ) (shelf shelf' : Shelf) (left : Left) (sink sink' : Held)
    → Runs with_journals input ended faults faults' shelf shelf' left sink sink' → IsTrue with_journals → left.status ≡ 0 → (text : List ℕ) × Appends sink.bytes sink'.bytes text × IsAcceptedText text
threads_accepted false input ended faults faults' shelf shelf' left sink sink' runs journals good = absurd cc
threads_accepted true input ended faults faults' shelf shelf' left sink sink' (inl ran) journals good = told ran.carried.tells
  where
    accepted : IsAcceptedText (summary_text left.journals (numbers_of ran.phases ran.carried.last) true)
    accepted =
        printed_accepted _ left.journals
        (texts_passed (arenas_text left.journals) (threads_line ran.phases.clients (phase_count ran.phases.parts) ran.carried.last.tally.calls ran.carried.last.tally.failed) (arenas_passed left.journals) (threads_passed _ _ _ _))
        (of_arenas ran.carried.orders ran.phases.parts ran.carried.last left.journals ran.carried.book ran.carried.carried) (ran.carried.again journals)

    told : TellsWhole (summary_text left.journals (numbers_of ran.phases ran.carried.last) true) 0 left.status sink sink' → (text : List ℕ) × Appends sink.bytes sink'.bytes text × IsAcceptedText text
    told (inl done) = (summary_text left.journals (numbers_of ran.phases ran.carried.last) true, done.1.0, accepted)
    told (inr failed) = absurd (omega (arith, good, failed.0))
threads_accepted true input ended faults faults' shelf shelf' left sink sink' (inr (inl bad)) journals good = told bad.tells
  where
    told : TellsText (bad_line bad.line bad.cause) (status_of bad.cause) left.status sink sink' → (text : List ℕ) × Appends sink.bytes sink'.bytes text × IsAcceptedText text
    told (inl (inl done)) = absurd (let high = bad_status bad.cause in omega (arith, good, done.0, high))
    told (inl (inr failed)) = absurd (omega (arith, good, failed.0))
    told (inr lacked) = absurd (omega (arith, good, lacked.0))
threads_accepted true input ended faults faults' shelf shelf' left sink sink' (inr (inr (inl failed))) journals good = absurd (omega (arith, good, failed.status))
threads_accepted true input ended faults faults' shelf shelf' left sink sink' (inr (inr (inr lacked))) journals good = absurd (omega (arith, good, lacked.status))
