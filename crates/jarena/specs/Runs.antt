-- What a run of the program does, by the list of words that it is given: one record for each list.
use Rattle.std.specs.Prelude.{◌≡◌, ◌≢◌, ◌⊎◌, ℕ, Bool, true, false, IsTrue, List, [], Option, None}
use Rattle.chunk_table.specs.declared.table.ChunkBook.{ChunkBook}
use Rattle.edge_io.specs.Bytes.{Appends, AppendsPrefix, Rose}
use Rattle.hook_api.specs.Asked.{AskFacts}
use Rattle.hook_api.specs.Shelf.{Shelf}
use Rattle.hook_api.specs.declared.kept.Journal.{Journal}
use Rattle.report_text.specs.Lines.{usage_line}
use Rattle.report_text.specs.declared.causes.Cause.{Cause}
use Rattle.replay_run.specs.declared.replays.Closing.{Closing}
use Rattle.replay_run.specs.Replays.{Bad, DoesNothing, HandsOut, ReplayOf}
use Rattle.replay_run.specs.Soaks.{IsSoakStatus, SoakOf}
use Rattle.replay_run.specs.Stops.{IsReplayStatus, IsWholeStatus}
use Rattle.trace_soak.specs.Soak.{lines}
use Rattle.journal_check.specs.Printed.{IsAcceptedText}
use Rattle.phase_run.specs.Threads.{HasRun, Runs, held_by, left_by}
use Rattle.jarena.specs.Served.{AllServed}
use Rattle.jarena.specs.Checks.{IsChecked}
pub use Rattle.jarena.specs.Facts.{SinkFacts, SourceFacts, sink_facts, source_facts}

-- what a run leaves: its status, the shelf, the journals, what was heard, and the chunks that the arenas owned at the end
pub record RunFacts : Type 0 where
  pub status : ℕ
  pub shelf : Shelf
  pub journals : List Journal
  pub heard : List AskFacts
  pub chunks : Option ChunkBook

-- what is left, by its parts
abbrev pub run_facts : ℕ → Shelf → List Journal → List AskFacts → Option ChunkBook → RunFacts
run_facts status shelf journals heard chunks = record { status = status; shelf = shelf; journals = journals; heard = heard; chunks = chunks }

-- status 2 and the whole usage line; or status 5, where the sink's count of faults rose, and a beginning of that line
abbrev pub TellsUsage : ℕ → SinkFacts → SinkFacts → Type 0
TellsUsage status old new =
    ((status ≡ 2) × Appends old.held new.held usage_line) ⊎
    ((status ≡ 5) × Rose old.faults new.faults × AppendsPrefix old.held new.held usage_line)

-- Words in no list: the usage line is written, and nothing else is done. At status 2 nothing failed and nothing waits.
pub record OnlyTellsUsage (run : RunFacts) (shelf : Shelf) (sink sink' : SinkFacts) : Type 0 where
  pub tells : TellsUsage run.status sink sink'
  pub unfailed : run.status ≡ 2 → sink'.faults ≡ sink.faults
  pub handed_on : run.status ≡ 2 → sink'.waits ≡ false
  pub unasked : run.heard ≡ []
  pub no_journals : run.journals ≡ []
  pub no_chunks : run.chunks ≡ None
  pub same_shelf : run.shelf ≡ shelf

-- `replay`, or `replay --json` by another form of the counts: the lines of the source are replayed. Where the status says that the report is whole, nothing failed and nothing
-- waits; and where no count of faults rose and no line is bad, the status is 0, or 6 for want of memory.
pub record Replays (form : Closing) (run : RunFacts) (shelf : Shelf) (source source' : SourceFacts) (sink sink' : SinkFacts) : Type 0 where
  pub journals : List Journal
  pub replay : ReplayOf form run.status journals run.heard shelf run.shelf source'.ended source.left source'.left sink.held sink'.held
  pub hands_out : HandsOut journals run.journals (DoesNothing run.status run.heard shelf run.shelf source.left source'.left sink.held sink'.held)
  pub ended : run.status ≡ 0 → source'.ended ≡ true
  pub read_fault : run.status ≡ 4 → Rose source.faults source'.faults
  pub write_fault : run.status ≡ 5 → Rose sink.faults sink'.faults
  pub unfailed : IsWholeStatus run.status → (source'.faults ≡ source.faults) × (sink'.faults ≡ sink.faults)
  pub handed_on : IsWholeStatus run.status → sink'.waits ≡ false
  pub known : IsReplayStatus run.status
  pub completes : ((cause : Cause) → replay.ending ≢ Bad cause) → (Rose source.faults source'.faults → ⊥) → (Rose sink.faults sink'.faults → ⊥)
      → (run.status ≡ 0) ⊎ (run.status ≡ 6)
  pub no_chunks : run.chunks ≡ None

-- `soak START CALLS`: the lines that are drawn from the start, so many, are carried out. At status 0 nothing failed and nothing
-- waits; and where the count of faults didn't rise, the status is 0, or 6 for want of memory.
pub record Soaks (start calls : ℕ) (run : RunFacts) (shelf : Shelf) (sink sink' : SinkFacts) : Type 0 where
  pub journals : List Journal
  pub soak : SoakOf run.status (lines start calls) journals run.heard shelf run.shelf sink.held sink'.held
  pub hands_out : HandsOut journals run.journals (DoesNothing run.status run.heard shelf run.shelf None None sink.held sink'.held)
  pub write_fault : run.status ≡ 5 → Rose sink.faults sink'.faults
  pub unfailed : run.status ≡ 0 → sink'.faults ≡ sink.faults
  pub handed_on : run.status ≡ 0 → sink'.waits ≡ false
  pub known : IsSoakStatus run.status
  pub completes : (Rose sink.faults sink'.faults → ⊥) → (run.status ≡ 0) ⊎ (run.status ≡ 6)
  pub no_chunks : run.chunks ≡ None

-- `check`: the lines of the source are judged as journals, and nothing else is done.
pub record Checks (run : RunFacts) (shelf : Shelf) (source source' : SourceFacts) (sink sink' : SinkFacts) : Type 0 where
  pub checks : IsChecked run.status source source' sink sink'
  pub unasked : run.heard ≡ []
  pub no_journals : run.journals ≡ []
  pub no_chunks : run.chunks ≡ None
  pub same_shelf : run.shelf ≡ shelf

-- a text was written whose journals are accepted
abbrev pub WritesAccepted : SinkFacts → SinkFacts → Type 0
WritesAccepted old new = (text : List ℕ) × Appends old.held new.held text × IsAcceptedText text

-- `threads`, or `threads --journal` where the journals are printed behind the summary: all lines of the source are read, and then carried
-- out by the clients of the trace, each phase's beside each other; or the first bad line is told. Where they were carried out,
-- each valid call was served. Journals that are printed whole are accepted.
pub record RunsThreads (with_journals : Bool) (run : RunFacts) (shelf : Shelf) (source source' : SourceFacts) (sink sink' : SinkFacts) : Type 0 where
  pub runs : Runs with_journals source.left source'.ended source.faults source'.faults shelf run.shelf (left_by run.status run.journals run.chunks)
      (held_by sink.held sink.faults sink.waits) (held_by sink'.held sink'.faults sink'.waits)
  pub served : (ran : HasRun with_journals source.left source'.ended shelf run.shelf (left_by run.status run.journals run.chunks)
      (held_by sink.held sink.faults sink.waits) (held_by sink'.held sink'.faults sink'.waits)) → AllServed run.journals ran.carried.carried.dones
  pub unheard : run.heard ≡ []
  pub accepted : IsTrue with_journals → run.status ≡ 0 → WritesAccepted sink sink'
