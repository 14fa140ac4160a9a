-- The lines of a report. Each ends with one newline, byte 10.
use Rattle.std.specs.Prelude.{ℕ, List, [], ◌∷◌, ◌++◌, codes}
use Rattle.std.specs.Fmt.{decimal}
use Rattle.space_model.specs.declared.counts.Counts.{Counts}
use Rattle.space_model.specs.declared.asks.Ask.{Ask}
use Rattle.space_model.specs.declared.asks.Answer.{Answer}
use Rattle.call_plan.specs.declared.needs.Answered.{Answered}
use Rattle.report_text.specs.declared.heads.Head.{Head}
use Rattle.report_text.specs.declared.causes.Cause.{Cause}
use Rattle.report_text.specs.Heads.{head_word, head_name}
use Rattle.report_text.specs.Answers.{kind_text, ended_text, said_text}
use Rattle.report_text.specs.Causes.{cause_text}
use Rattle.report_text.specs.Controls.{ctl_text}
use Rattle.report_text.specs.declared.controls.CtlAnswer.{CtlAnswer}

-- the end of a line
abbrev pub newline : List ℕ
newline = 10 ∷ []

-- a call that has ended: its client, which call it was, and the answer
unfoldable pub call_line : ℕ → Head → Answered → List ℕ
call_line client head answered =
    codes "t" ++ decimal client ++ codes " " ++ head_word head ++ head_name head ++
    codes " " ++ ended_text head answered ++ newline

-- a line of a control that is answered where it begins: its client, the name, and the answer
unfoldable pub ctl_line : ℕ → List ℕ → CtlAnswer → List ℕ
ctl_line client name answer =
    codes "t" ++ decimal client ++ codes " ctl " ++ name ++ codes " " ++ ctl_text answer ++ newline

-- a turn that a client's step took
unfoldable pub turn_line : ℕ → List ℕ
turn_line client = codes "t" ++ decimal client ++ codes " turn" ++ newline

-- an ask that a client's step made: its kind and its answer
unfoldable pub ask_line : ℕ → Ask → Answer → List ℕ
ask_line client ask answer =
    codes "t" ++ decimal client ++ codes " ask " ++ kind_text ask ++ codes " " ++ said_text answer ++ newline

-- a step or an end where the client has no open call
unfoldable pub idle_line : ℕ → List ℕ
idle_line client = codes "t" ++ decimal client ++ codes " idle" ++ newline

-- the counts of an arena that serve or served regions, in bytes
unfoldable pub used_text : Counts → List ℕ
used_text counts = codes "allocated " ++ decimal counts.allocated ++ codes " active " ++ decimal counts.active

-- the counts of the three lists of unused extents, in bytes
unfoldable pub unused_text : Counts → List ℕ
unused_text counts =
    codes "dirty " ++ decimal counts.dirty ++ codes " muzzy " ++ decimal counts.muzzy ++ codes " retained " ++ decimal counts.retained

-- the counts of what is in flight, and of all that is mapped, in bytes
unfoldable pub mapped_text : Counts → List ℕ
mapped_text counts = codes "flight " ++ decimal counts.flight ++ codes " mapped " ++ decimal counts.mapped

-- the counts of an arena
unfoldable pub counts_line : ℕ → Counts → List ℕ
counts_line index counts =
    codes "arena " ++ decimal index ++
    codes " " ++ used_text counts ++ codes " " ++ unused_text counts ++ codes " " ++ mapped_text counts ++ newline

-- what stands in place of the counts of an arena that isn't live
unfoldable pub no_arena_line : ℕ → List ℕ
no_arena_line index = codes "no arena " ++ decimal index ++ newline

-- a line of the input that can't be carried out, by its number, and the cause
unfoldable pub bad_line : ℕ → Cause → List ℕ
bad_line number cause = codes "line " ++ decimal number ++ codes ": " ++ cause_text cause ++ newline

-- so many calls, of which so many answered Ok, and so many otherwise
unfoldable pub calls_line : ℕ → ℕ → ℕ → List ℕ
calls_line calls good failed = codes "calls " ++ decimal calls ++ codes " ok " ++ decimal good ++ codes " failed " ++ decimal failed ++ newline

-- all these counts
unfoldable pub counts_text : Counts → List ℕ
counts_text counts = used_text counts ++ codes " " ++ unused_text counts ++ codes " " ++ mapped_text counts

-- a live arena at the end of its journal: how many entries that has, and the arena's counts
unfoldable pub entries_line : ℕ → ℕ → Counts → List ℕ
entries_line index entries counts =
    codes "arena " ++ decimal index ++ codes " entries " ++ decimal entries ++ codes " " ++ counts_text counts ++ newline

-- so many clients that were workers or had settings, in so many phases with so many calls, of which so many weren't answered Ok
unfoldable pub threads_line : ℕ → ℕ → ℕ → ℕ → List ℕ
threads_line clients phases calls failed =
    codes "threads " ++ decimal clients ++ codes " phases " ++ decimal phases ++
    codes " calls " ++ decimal calls ++ codes " failed " ++ decimal failed ++ newline

-- journals of so many entries are accepted
unfoldable pub accepted_line : ℕ → List ℕ
accepted_line entries = codes "accepted " ++ decimal entries ++ newline

-- the line of a journal with this number is no entry's text
unfoldable pub no_entry_line : ℕ → List ℕ
no_entry_line number = codes "line " ++ decimal number ++ codes ": entry" ++ newline

-- the entry of the line with this number may not stand where it comes
unfoldable pub no_step_line : ℕ → List ℕ
no_step_line number = codes "line " ++ decimal number ++ codes ": step" ++ newline

-- a chunk that two arenas own
unfoldable pub met_line : ℕ → ℕ → ℕ → List ℕ
met_line chunk low high = codes "chunk " ++ decimal chunk ++ codes ": arenas " ++ decimal low ++ codes " " ++ decimal high ++ newline

-- the word lists that there are
unfoldable pub usage_line : List ℕ
usage_line = codes "usage: jarena replay [--json] | threads [--journal] | soak START CALLS | check" ++ newline
