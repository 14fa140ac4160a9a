-- Plays: what happens to a world, event by event.
use Rattle.std.specs.Prelude.{◌≡◌, ℕ, ◌<◌, Bool, true, List, [], ◌∷◌, Option, None, Some, fold}
use Rattle.std.specs.List.{flat_map}
use Rattle.space_model.specs.declared.Op.{Op}
use Rattle.hook_api.specs.Asked.{AskFacts}
use Rattle.hook_api.specs.Chain.{Event as ShelfEvent, Made, PlanSet}
use Rattle.hook_api.specs.Hooks.{Answers as AnswersTo}
use Rattle.call_plan.specs.Stages.{Go, Point}
use Rattle.call_plan.specs.Calls.{CallFacts}
use Rattle.call_plan.specs.Items.{Told as ToldItem}
use Rattle.call_plan.specs.Table.{Want, WantAsk, WantTurn, is_marked, want}
use Rattle.heap_core.specs.Arenas.{IsArenas}
use Rattle.sits.specs.Arenas.{record_at}
use Rattle.heap_core.specs.Heaps.{HeapFacts, answered_by, holder_for, moment_after, starved_on, told_to, turned_for}
use Rattle.heap_core.specs.Seats.{answer_of, seat_at}
use Rattle.heap_core.specs.Sitting.{SeatSound}
use Rattle.report_text.specs.Lines.{ask_line, turn_line}
use Rattle.trace_text.specs.declared.lines.Line.{Line}
use Rattle.trace_text.specs.declared.lines.Line.TheVariants.{Refuse}
use Rattle.trace_text.specs.declared.lines.Verb.{Verb}
use Rattle.call_plan.specs.declared.needs.Request.{Request}
use Rattle.replay_run.specs.declared.beginnings.Beginning.{Beginning}
use Rattle.replay_run.specs.Beginnings.{beginning_of}
use Rattle.replay_run.specs.Causes.{line_cause}
use Rattle.replay_run.specs.World.{Awaits, Memory, Nothing, OneStep, TheEnd, TheEndBefore, TheStart, TheNext, World, begins, goes_on_with, line_read, settled, stepped}

-- What happens to a world: a line is read; the call that is waited for begins, or the next request of one; a turn is made for a
-- client's open call, or an ask of it is answered; or memory was wanting for a turn, or to name what goes back by it, and then no
-- turn was made.
pub data WorldEvent : Type 0 where
  Read : Line → WorldEvent
  Began : (client : ℕ) (verb : Verb) (whole : Bool) → WorldEvent
  WentOn : (client : ℕ) (request : Request) (behind : Awaits) → WorldEvent
  Turned : (client : ℕ) (call : CallFacts) (op : Op) (asked : Option AskFacts) → WorldEvent
  Told : (client : ℕ) (call : CallFacts) (asked : AskFacts) → WorldEvent
  Starved : (client : ℕ) (call : CallFacts) → WorldEvent

-- no memory was left, and nothing more is to come
abbrev pub ran_out : World → HeapFacts → World
ran_out w heap = record w { heap = heap; awaits = Memory }

-- what the call of a line comes to
abbrev pub beginning_in : World → ℕ → Verb → Beginning
beginning_in w c verb = beginning_of w.heap w.names w.controls w.moment c verb

-- the world after an event
abbrev pub after_event : World → WorldEvent → World
after_event w (Read line) = line_read w line
after_event w (Began c verb whole) = begins (settled w verb) c verb whole (beginning_in w c verb)
after_event w (WentOn c request behind) = goes_on_with w c request behind
after_event w (Turned c call op asked) =
    stepped w c (turned_for w.heap c call op asked (holder_for w.heap call)) (turn_line c) (answered_by w.heap c call op (holder_for w.heap call))
after_event w (Told c call asked) =
    stepped w c (told_to w.heap c call asked) (ask_line c asked.ask asked.answer) (answer_of (moment_after w.heap c call (ToldItem asked)))
after_event w (Starved c call) = ran_out w (starved_on w.heap c call)

-- the client whose open call is waited for
abbrev pub client_awaited : Awaits → Option ℕ
client_awaited (OneStep c) = Some c
client_awaited (TheEnd c) = Some c
client_awaited (TheEndBefore c verb whole) = Some c
client_awaited awaits = None

-- A step of a client's open call is waited for, and this is what the call wants.
pub record IsWanted (w : World) (c : ℕ) (call : CallFacts) (wanted : Want) : Type 0 where
  pub awaited : client_awaited w.awaits ≡ Some c
  pub open_call : (seat_at w.heap.seats c).call ≡ Some call
  pub point : Point
  pub at : call.stage.next ≡ Go point
  pub wants : want point ≡ wanted

-- an ask of the box of the call's arena, with an answer of its kind
pub record IsAskOf (w : World) (call : CallFacts) (asked : AskFacts) : Type 0 where
  pub box_no : asked.box_no ≡ (record_at w.heap.records call.stage.arena).space.box_no
  pub answers : AnswersTo asked.ask asked.answer

-- an event is one that can come next
abbrev pub IsNext : World → WorldEvent → Type 0
IsNext w (Read line) = (w.awaits ≡ Nothing) × (line_cause w.moment line ≡ None)
IsNext w (Began c verb whole) = w.awaits ≡ TheStart c verb whole
IsNext w (WentOn c request behind) = w.awaits ≡ TheNext c request behind
IsNext w (Turned c call op asked) = IsWanted w c call (WantTurn op asked)
IsNext w (Told c call asked) = IsWanted w c call (WantAsk asked.ask) × IsAskOf w call asked
IsNext w (Starved c call) = (op : Op) × (asked : Option AskFacts) × IsWanted w c call (WantTurn op asked) × (is_marked op ≡ true)

-- the events of a play from a world on: each one can come next where it comes
abbrev pub IsPlay : World → List WorldEvent → Type 0
IsPlay w [] = Unit {0}
IsPlay w (event ∷ events) = IsNext w event × IsPlay (after_event w event) events

-- the world after the events
abbrev pub world_after : World → List WorldEvent → World
world_after w events = fold after_event w events

-- something is true of the world before the events, and of that after each one
abbrev pub AllWorlds : (World → Type 0) → World → List WorldEvent → Type 0
AllWorlds P w [] = P w
AllWorlds P w (event ∷ events) = P w × AllWorlds P (after_event w event) events

-- The arenas of a heap are what their journals say, no chunk has two owners, and each client holds just what it has, and knows
-- what its call has to.
pub record IsSound (h : HeapFacts) : Type 0 where
  pub arenas : IsArenas h.records
  pub seats : (c : ℕ) → c < 32 → SeatSound h.records c (seat_at h.seats c)

-- a world of which the heap is sound
abbrev pub HasSoundHeap : World → Type 0
HasSoundHeap w = IsSound w.heap

-- the line that an event reads
abbrev pub line_in : WorldEvent → List Line
line_in (Read line) = line ∷ []
line_in event = []

-- the ask that an event tells of
abbrev pub ask_in : WorldEvent → List AskFacts
ask_in (Told c call asked) = asked ∷ []
ask_in event = []

-- the plan that a line sets
abbrev pub plan_in : Line → List ShelfEvent
plan_in (Refuse box_no kind nth) = PlanSet box_no kind nth ∷ []
plan_in line = []

-- what an event does to the shelf of hooks
abbrev pub shelf_event : WorldEvent → List ShelfEvent
shelf_event (Read line) = plan_in line
shelf_event (Told c call asked) = Made asked ∷ []
shelf_event event = []

-- the lines that events read, in order
abbrev pub lines_in : List WorldEvent → List Line
lines_in events = flat_map line_in events

-- the asks that they tell of, in order
abbrev pub asks_among : List WorldEvent → List AskFacts
asks_among events = flat_map ask_in events

-- what they do to the shelf, in order
abbrev pub shelf_events : List WorldEvent → List ShelfEvent
shelf_events events = flat_map shelf_event events
