-- What a check of journals does.
use Rattle.std.specs.Prelude.{◌≡◌, ◌⊎◌, ℕ, true, false, List, [], ◌++◌, IfSome}
use Rattle.std.specs.List.{flat_map}
use Rattle.edge_io.specs.Bytes.{Appends, AppendsPrefix, Rose}
use Rattle.line_reader.specs.Lines.{lines_of}
use Rattle.journal_check.specs.declared.verdicts.End.{End}
use Rattle.journal_check.specs.declared.verdicts.Verdict.{Verdict}
use Rattle.journal_check.specs.declared.verdicts.Verdict.TheVariants.{Accepted, NotEntry, NotStanding, Met, Limit, ReadFault, NoMemory}
use Rattle.journal_check.specs.Verdicts.{IfNotEntry, IsCut, Tells, is_whole, judgement}
use Rattle.report_text.specs.declared.causes.Cause.TheVariants.{LimitBytes, LimitLines}
use Rattle.report_text.specs.Lines.{accepted_line, bad_line, entries_line, met_line, no_entry_line, no_step_line}
use Rattle.jarena.specs.Facts.{SinkFacts, SourceFacts}

-- the lines of the live arenas
abbrev pub ends_text : List End → List ℕ
ends_text ends = flat_map (λ e. entries_line e.index e.entries e.counts) ends

-- the text of a verdict
abbrev pub verdict_text : Verdict → List ℕ
verdict_text (Accepted entries ends) = ends_text ends ++ accepted_line entries
verdict_text (NotEntry line) = no_entry_line line
verdict_text (NotStanding line) = no_step_line line
verdict_text (Met chunk low high) = met_line chunk low high
verdict_text (Limit line true) = bad_line line LimitBytes
verdict_text (Limit line false) = bad_line line LimitLines
verdict_text ReadFault = []
verdict_text NoMemory = []

-- the status of a verdict
abbrev pub verdict_status : Verdict → ℕ
verdict_status (Accepted entries ends) = 0
verdict_status (NotEntry line) = 8
verdict_status (NotStanding line) = 8
verdict_status (Met chunk low high) = 8
verdict_status (Limit line bytes) = 7
verdict_status ReadFault = 4
verdict_status NoMemory = 6

-- the verdict is told whole with its status, and nothing waits; or a beginning of it, with status 5, where a write failed; or
-- nothing, with status 6, for want of memory
abbrev pub TellsVerdict : Verdict → ℕ → SinkFacts → SinkFacts → Type 0
TellsVerdict verdict status sink sink' =
    ((status ≡ verdict_status verdict) × Appends sink.held sink'.held (verdict_text verdict) × (sink'.faults ≡ sink.faults) × (sink'.waits ≡ false)) ⊎
    (((status ≡ 5) × Rose sink.faults sink'.faults × AppendsPrefix sink.held sink'.held (verdict_text verdict)) ⊎
    ((status ≡ 6) × (sink' ≡ sink)))

-- The verdict on the bytes of the source is right and is told: accepted at status 0, a bad line or a chunk of two owners at 8, a
-- limit that is passed at 7, a read that failed at 4, each of these exactly where it is told so.
pub record IsChecked (status : ℕ) (source source' : SourceFacts) (sink sink' : SinkFacts) : Type 0 where
  pub verdict : Verdict
  pub right : IfSome source.left (λ input. Tells verdict (judgement input))
  pub cut : IfNotEntry verdict (λ line. IfSome source.left (λ input. IsCut line (lines_of input) → source'.ended ≡ true))
  pub ended : is_whole verdict ≡ true → source'.ended ≡ true
  pub read_fault : verdict ≡ ReadFault → Rose source.faults source'.faults
  pub tells : TellsVerdict verdict status sink sink'
