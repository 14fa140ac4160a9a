-- What is known of a run while it goes on.
use Rattle.std.specs.Prelude.{◌≡◌, ◌≢◌, ◌≤◌, ◌+◌, ℕ, Bool, true, false, List, [], ◌++◌, Option, None, Some, Result, Ok, Err, length, map}
use Rattle.edge_io.specs.Bytes.{Appends, AppendsPrefix, Consumes, IsAtEnd}
use Rattle.hook_api.specs.Asked.{AskFacts}
use Rattle.hook_api.specs.Chain.{Chain}
use Rattle.hook_api.specs.Shelf.{Shelf}
use Rattle.hook_api.specs.declared.kept.Journal.{Journal}
use Rattle.heap_core.specs.declared.heaps.Did.{Did}
use Rattle.heap_core.specs.declared.heaps.Did.TheVariants.{Idle, Turn, Ask}
use Rattle.heap_core.specs.Arenas.{journal_of}
use Rattle.heap_core.specs.declared.heaps.Stepped.{Stepped}
use Rattle.heap_core.specs.Heaps.{HeapFacts}
use Rattle.heap_core.specs.Logs.{last_asked}
use Rattle.report_text.specs.declared.causes.Cause.TheVariants.{Cut, LimitBytes}
use Rattle.report_text.specs.Lines.{ask_line, turn_line}
use Rattle.trace_text.specs.declared.lines.Line.{Line}
use Rattle.trace_text.specs.declared.lines.Verb.{Verb}
use Rattle.call_plan.specs.declared.needs.Request.{Request}
use Rattle.replay_run.specs.declared.beginnings.Beginning.{Beginning}
use Rattle.replay_run.specs.declared.input.Found.{Found}
use Rattle.replay_run.specs.declared.input.Found.TheVariants.{Line as FoundLine, TooLong, End as FoundEnd}
use Rattle.replay_run.specs.declared.input.Stop.{Stop}
use Rattle.replay_run.specs.declared.replays.Closing.{Closing}
use Rattle.replay_run.specs.declared.replays.Next.{Next}
use Rattle.replay_run.specs.declared.replays.Next.TheVariants.{Carried, Bad, Over}
use Rattle.replay_run.specs.declared.state.State.{State}
use Rattle.replay_run.specs.declared.sweeps.OpenCall.{OpenCall}
use Rattle.replay_run.specs.declared.tally.Tally.{Tally}
use Rattle.replay_run.specs.Beginnings.{beginning_of, controls_of}
use Rattle.replay_run.specs.Causes.{line_limit}
use Rattle.replay_run.specs.Controls.{ControlFacts}
use Rattle.replay_run.specs.Input.{ReadsTo}
use Rattle.replay_run.specs.Plays.{AllWorlds, WorldEvent, HasSoundHeap, IsPlay, lines_in, shelf_events, world_after}
use Rattle.replay_run.specs.Replays.{IsBadLine, ReplayOf, RunOf}
use Rattle.replay_run.specs.Stops.{status_for}
use Rattle.replay_run.specs.World.{Awaits, Nothing, OneStep, TheNext, TheStart, World, awaits_after, ended_line, has_open_call, opening_world, verb_at}

-- What a run has at a moment: the heap, what the open calls are, the names, the tally, the controls, the moment in nanoseconds,
-- the shelf, and the bytes that the sink holds.
pub record Now : Type 0 where
  pub heap : HeapFacts
  pub calls : List (Option OpenCall)
  pub names : List (List ℕ × ℕ)
  pub tally : Tally
  pub controls : ControlFacts
  pub moment : ℕ
  pub shelf : Shelf
  pub held : Option (List ℕ)

-- Where the reading of a trace stands: the bytes that were read and not used, those left, and whether the end was met.
pub record Reading : Type 0 where
  pub pending : List ℕ
  pub left : Option (List ℕ)
  pub met : Bool

-- how far the input was read: what is pending, what is left, and whether its end was met
abbrev pub reading : List ℕ → Option (List ℕ) → Bool → Reading
reading pending left met = record { pending = pending; left = left; met = met }

-- what a run has, by its state and what stands beside that
abbrev pub now_of : State → Shelf → Option (List ℕ) → Now
now_of state shelf held = record {
  heap = state.heap;
  calls = state.calls.items;
  names = state.names;
  tally = state.tally;
  controls = state.controls;
  moment = state.moment;
  shelf = shelf;
  held = held;
}

-- What a run begins with: the shelf, what the sink holds, and how the counts are told at the end.
pub record Outset : Type 0 where
  pub shelf : Shelf
  pub held : Option (List ℕ)
  pub form : Closing

-- the world at a moment, with this text, where this is waited for
abbrev pub world_at : Now → List ℕ → Awaits → World
world_at now text awaits =
    record { heap = now.heap; calls = now.calls; names = now.names; tally = now.tally; controls = now.controls; moment = now.moment; text = text; awaits = awaits }

-- A play came to this moment, at which this is waited for, and its text is this one. These are its lines, wherever they come from,
-- and the last of them, those ahead, are read next.
pub record Reached (from : Outset) (lines : List Line) (awaits : Awaits) (ahead : List Line) (text : List ℕ) (now : Now) : Type 0 where
  pub events : List WorldEvent
  pub play : IsPlay opening_world events
  pub here : world_after opening_world events ≡ world_at now text awaits
  pub sound : AllWorlds HasSoundHeap opening_world events
  pub chain : Chain from.shelf (shelf_events events) now.shelf
  pub of_lines : lines_in events ++ ahead ≡ lines

-- A play came to this moment, and its text was printed.
pub record Here (from : Outset) (lines : List Line) (awaits : Awaits) (ahead : List Line) (now : Now) : Type 0 where
  pub text : List ℕ
  pub came : Reached from lines awaits ahead text now
  pub prints : Appends from.held now.held text

-- Events of these lines were carried out, and then something stopped the run that was no read of a source; a beginning of their
-- text was printed at least.
pub record StopOf (lines : List Line) (stop : Stop) (journals : List Journal) (heard : List AskFacts) (shelf_before shelf_after : Shelf) (before after : Option (List ℕ)) : Type 0 where
  pub events : List WorldEvent
  pub ran : RunOf journals heard shelf_before shelf_after events
  pub of_lines : lines_in events ≡ lines
  pub begun : AppendsPrefix before after (world_after opening_world events).text
  pub why : status_for stop ≢ 4

-- a run that stopped at this moment
abbrev pub Halted : Outset → List Line → Stop → Now → Type 0
Halted from lines stop now = StopOf lines stop (map journal_of now.heap.records) now.heap.heard from.shelf now.shelf from.held now.held

-- The bytes that were taken since so many were left are these lines, so many, and then the bytes that are pending.
pub record HasRead (left : Option (List ℕ)) (lines : List Line) (count : ℕ) (at : Reading) : Type 0 where
  pub taken : List ℕ
  pub takes : Consumes left at.left taken
  pub reads : ReadsTo lines taken at.pending
  pub number : length lines ≡ count
  pub few : count ≤ line_limit

-- So many lines were read, and a play of them came to this moment, at which nothing is waited for.
pub record Between (from : Outset) (left : Option (List ℕ)) (count : ℕ) (at : Reading) (now : Now) : Type 0 where
  pub lines : List Line
  pub read : HasRead left lines count at
  pub here : Here from lines Nothing [] now

-- whether one step is waited for
abbrev pub is_one_step : Awaits → Bool
is_one_step (OneStep c) = true
is_one_step awaits = false

-- the line of an ask, if there is one
abbrev pub asked_line : ℕ → Option AskFacts → List ℕ
asked_line c (Some asked) = ask_line c asked.ask asked.answer
asked_line c None = []

-- the line of what a step did, where this is the last ask then
abbrev pub did_line : ℕ → Did → Option AskFacts → List ℕ
did_line c Idle last = []
did_line c Turn last = turn_line c
did_line c Ask last = asked_line c last

-- what is printed of a step: its line, where it is to be shown, and that of its call, where it has ended
abbrev pub shown_line : Bool → ℕ → Did → Option AskFacts → List ℕ
shown_line true c did last = did_line c did last
shown_line false c did last = []

-- what is printed of a step that told this, and led to this heap
abbrev pub step_line : Bool → ℕ → List (Option OpenCall) → Stepped → HeapFacts → List ℕ
step_line shown c calls told heap = shown_line shown c told.did (last_asked heap.heard) ++ ended_line c (verb_at calls c) told.ended

-- what a call of a line comes to at a moment
abbrev pub beginning_at : Now → ℕ → Verb → Beginning
beginning_at now c verb = beginning_of now.heap now.names now.controls now.moment c verb

-- A run came to the beginning of a call, which comes to this, and nothing of it is done but what its line sets of the controls.
pub record Starting (from : Outset) (lines : List Line) (c : ℕ) (verb : Verb) (whole : Bool) (begins : Beginning) (now : Now) : Type 0 where
  pub before : ControlFacts
  pub here : Here from lines (TheStart c verb whole) [] (record now { controls = before })
  pub comes : beginning_at (record now { controls = before }) c verb ≡ begins
  pub sets : now.controls ≡ controls_of now.heap.records before now.moment verb

-- a run went on to where this is waited for, or it stopped
abbrev pub GoesOn : {A : Type 0} → Outset → List Line → Awaits → Result A Stop → Now → Type 0
GoesOn from lines awaits (Ok done) now = Here from lines awaits [] now
GoesOn from lines awaits (Err stop) now = Halted from lines stop now

-- a step led on: to where its client's call goes on with a request, if it does, and else to what is waited for behind it; or the
-- run stopped
abbrev pub StepsOn : Outset → List Line → Awaits → ℕ → Result (Option Request) Stop → Now → Type 0
StepsOn from lines awaits c (Ok (Some request)) now = Here from lines (TheNext c request awaits) [] now
StepsOn from lines awaits c (Ok None) now = Here from lines (awaits_after awaits (has_open_call now.heap c)) [] now
StepsOn from lines awaits c (Err stop) now = Halted from lines stop now

-- a replay that ends here with a status
abbrev pub EndsHere : Outset → Option (List ℕ) → ℕ → Reading → Now → Type 0
EndsHere from left status at now = ReplayOf from.form status (map journal_of now.heap.records) now.heap.heard from.shelf now.shelf at.met
    left at.left from.held now.held

-- the next line was carried out, or it is bad, or there is none; or the replay stopped
abbrev pub GoesNext : Outset → Option (List ℕ) → ℕ → Result Next Stop → Reading → Now → Type 0
GoesNext from left count (Ok Carried) at now = Between from left (count + 1) at now
GoesNext from left count (Ok (Bad cause)) at now = Between from left count at now × IsBadLine now.moment (count + 1) at.pending at.met cause
GoesNext from left count (Ok Over) at now = Between from left count at now × (at.pending ≡ []) × IsAtEnd at.left × (at.met ≡ true)
GoesNext from left count (Err stop) at now = EndsHere from left (status_for stop) at now

-- what bytes without a whole line lead to: they are too many for one, or none are left, or the last line is cut
abbrev pub IsUnread : Found → List ℕ → Next → Type 0
IsUnread (FoundLine n) bytes next = Unit {0}
IsUnread TooLong bytes next = next ≡ Bad LimitBytes
IsUnread FoundEnd bytes next = (bytes ≡ [] → next ≡ Over) × (bytes ≢ [] → next ≡ Bad Cut)
