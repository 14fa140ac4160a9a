-- What is printed of a trace that threads carried out.
use Rattle.std.specs.Prelude.{ℕ, ◌++◌, [], Bool, true, false, List, Option, None, Some, length}
use Rattle.std.specs.List.{count_by, flat_map}
use Rattle.heap_runs.specs.Closes.{counts_left}
use Rattle.hook_api.specs.declared.kept.Journal.{Journal}
use Rattle.journal.specs.Texts.{journals_text}
use Rattle.report_text.specs.Lines.{entries_line, threads_line}
use Rattle.space_model.specs.declared.counts.Counts.{Counts}
use Rattle.trace_phase.specs.declared.parts.Part.{Part}
use Rattle.trace_phase.specs.declared.parts.Part.TheVariants as part
use Rattle.phase_run.specs.declared.summaries.Numbers.{Numbers}

-- the line of an arena that is live at the end of its journal
abbrev pub arena_text : Journal → Option Counts → List ℕ
arena_text journal None = []
arena_text journal (Some counts) = entries_line journal.index (length journal.kept) counts

-- the lines of the arenas that are live at the end of their journals, by the counts of what these leave
abbrev pub arenas_text : List Journal → List ℕ
arenas_text journals = flat_map (λ j. arena_text j (counts_left j)) journals

-- the journals, where they are wanted
abbrev pub journals_if : Bool → List Journal → List ℕ
journals_if true journals = journals_text journals
journals_if false journals = []

-- the summary of a trace, by its journals and its numbers, and behind it the journals where they are wanted
abbrev pub summary_text : List Journal → Numbers → Bool → List ℕ
summary_text journals numbers with_journals =
    arenas_text journals ++ threads_line numbers.clients numbers.phases numbers.tally.calls numbers.tally.failed ++ journals_if with_journals journals

-- a part is a phase
abbrev pub is_phase : Part → Bool
is_phase (part.Setting setting) = false
is_phase (part.Phase phase) = true

-- how many phases there are
abbrev pub phase_count : List Part → ℕ
phase_count parts = count_by is_phase parts
