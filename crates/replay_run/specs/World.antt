-- Worlds: everything that the rest of a replay can depend on, and how a line, a turn or an ask leads from one to the next.
use Rattle.std.specs.Prelude.{ℕ, ◌+◌, ◌-◌, ◌^◌, min, Bool, true, false, List, [], ◌++◌, Option, None, Some, if◌then◌else◌, is_none, is_some, replicate, slice_index_or, slice_set}
use Rattle.std.specs.List.{flat_map, range_with_len}
use Rattle.std.specs.Option.{option_map}
use Rattle.space_model.specs.declared.Counts.{Counts}
use Rattle.space_model.specs.declared.Space.{Space}
use Rattle.space_model.specs.Counts.{counts_of}
use Rattle.call_plan.specs.declared.needs.Answered.{Answered}
use Rattle.call_plan.specs.declared.needs.Answered.TheVariants.{Ok, NotHeld}
use Rattle.call_plan.specs.declared.needs.Given.TheVariants.{Region}
use Rattle.call_plan.specs.declared.needs.Request.{Request}
use Rattle.sits.specs.Arenas.{record_at}
use Rattle.heap_core.specs.Arenas.{where_live}
use Rattle.heap_core.specs.Heaps.{HeapFacts, opening_heap, started}
use Rattle.heap_core.specs.Seats.{answer_of, begun, seat_at}
use Rattle.report_text.specs.Lines.{counts_line, idle_line, no_arena_line}
use Rattle.trace_text.specs.declared.lines.Verb.{Verb}
use Rattle.trace_text.specs.declared.lines.Verb.TheVariants.{Malloc, Memalign, MallocIn, Realloc}
use Rattle.trace_text.specs.declared.lines.Line.{Line}
use Rattle.trace_text.specs.declared.lines.Line.TheVariants.{Call, Start, Step, End, At, Counts as CountsOf}
use Rattle.replay_run.specs.declared.beginnings.Beginning.{Beginning}
use Rattle.replay_run.specs.declared.beginnings.Beginning.TheVariants.{Asks, Tells, FindsNone}
use Rattle.replay_run.specs.declared.sweeps.OpenCall.{OpenCall}
use Rattle.replay_run.specs.declared.tally.Tally.{Tally}
use Rattle.replay_run.specs.Beginnings.{controls_of, target_of}
use Rattle.replay_run.specs.Controls.{ControlFacts, opening_controls}
use Rattle.replay_run.specs.Heads.{answer_line, told_line}
use Rattle.replay_run.specs.Names.{named}
use Rattle.replay_run.specs.Sweeps.{SweepFacts, advanced, request_next}

-- What a world waits for before the next line is read: nothing; one step of a client's open call; its end; its end, behind
-- which this call of the client begins, and is carried out to its end or not; that beginning; or the next request of an open
-- call, behind which this is waited for. Nothing more comes where memory was wanting.
pub data Awaits : Type 0 where
  Nothing : Awaits
  OneStep : (client : ℕ) → Awaits
  TheEnd : (client : ℕ) → Awaits
  TheEndBefore : (client : ℕ) (verb : Verb) (whole : Bool) → Awaits
  TheStart : (client : ℕ) (verb : Verb) (whole : Bool) → Awaits
  TheNext : (client : ℕ) (request : Request) (behind : Awaits) → Awaits
  Memory : Awaits

-- A world: the heap, what each client's open call is, the names that are bound, each with its address, how many calls have
-- answered Ok and how many otherwise, what controls read and write beside the heap, the moment in nanoseconds, the text of the
-- lines so far, and what is waited for.
pub record World : Type 0 where
  pub heap : HeapFacts
  pub calls : List (Option OpenCall)
  pub names : List (List ℕ × ℕ)
  pub tally : Tally
  pub controls : ControlFacts
  pub moment : ℕ
  pub text : List ℕ
  pub awaits : Awaits

-- no call has an answer
abbrev pub no_answers : Tally
no_answers = record { good = 0; failed = 0 }

-- the world before the first line
abbrev pub opening_world : World
opening_world = record {
  heap = opening_heap;
  calls = replicate 32 None;
  names = [];
  tally = no_answers;
  controls = opening_controls;
  moment = 0;
  text = [];
  awaits = Nothing;
}

-- what a client's open call is
abbrev pub call_at : List (Option OpenCall) → ℕ → Option OpenCall
call_at calls c = slice_index_or calls c None

-- what the line of an open call said, if there is one
abbrev pub verb_in : Option OpenCall → Option Verb
verb_in call = option_map (λ call. call.verb) call

-- what the line of a client's open call said
abbrev pub verb_at : List (Option OpenCall) → ℕ → Option Verb
verb_at calls c = verb_in (call_at calls c)

-- whether a client has an open call
abbrev pub has_open_call : HeapFacts → ℕ → Bool
has_open_call h c = is_some (seat_at h.seats c).call

-- ---- how calls end and begin

-- the names after a call with its answer: where a malloc, a memalign, a realloc or a mallocx gave a region, its name is bound to the address
abbrev pub names_ended : List (List ℕ × ℕ) → Verb → Answered → List (List ℕ × ℕ)
names_ended names (Malloc name size) (Ok (Region addr class)) = named names name addr
names_ended names (Memalign name align size) (Ok (Region addr class)) = named names name addr
names_ended names (Realloc name size) (Ok (Region addr class)) = named names name addr
names_ended names (MallocIn name size slot) (Ok (Region addr class)) = named names name addr
names_ended names verb answer = names

-- a count with one more, up to the greatest `u64`
abbrev pub one_more : ℕ → ℕ
one_more n = min (n + 1) (2 ^ 64 - 1)

-- whether a call answered Ok
abbrev pub is_good : Answered → Bool
is_good (Ok given) = true
is_good answer = false

-- the tally with one more answer: Ok, or another one
abbrev pub tallied : Tally → Answered → Tally
tallied tally answer =
    if is_good answer then record tally { good = one_more tally.good }
    else record tally { failed = one_more tally.failed }

-- what is waited for behind the beginning of a call: its end, where it is carried out whole
abbrev pub awaits_begun : ℕ → Bool → Awaits
awaits_begun c true = TheEnd c
awaits_begun c false = Nothing

-- a call that has begun is open, with what is left of its sweep, or has its answer at once
abbrev pub begun_as : World → ℕ → Verb → Bool → Option SweepFacts → Option Answered → World
begun_as w c verb whole sweep (Some answer) =
    record w { text = w.text ++ answer_line c verb answer; names = names_ended w.names verb answer; tally = tallied w.tally answer; awaits = Nothing }
begun_as w c verb whole sweep None = record w { calls = slice_set w.calls c (Some (record { verb = verb; sweep = sweep })); awaits = awaits_begun c whole }

-- a call of a client begins, by what it comes to: it asks for something, is a line of a control that tells this at once, or
-- looked for a region where no arena has an extent
abbrev pub begins : World → ℕ → Verb → Bool → Beginning → World
begins w c verb whole (Asks request sweep) =
    begun_as (record w { heap = started w.heap c request }) c verb whole sweep (answer_of (begun w.heap.seats c request))
begins w c verb whole (Tells answer) = record w { text = w.text ++ told_line c verb answer; awaits = Nothing }
begins w c verb whole FindsNone = begun_as w c verb whole None (Some (NotHeld (target_of w.names verb)))

-- the world where the line of a control has set what it sets
abbrev pub settled : World → Verb → World
settled w verb = record w { controls = controls_of w.heap.records w.controls w.moment verb }

-- what is waited for behind a step of a call that was waited for, which goes on or has ended
abbrev pub awaits_after : Awaits → Bool → Awaits
awaits_after (OneStep c) goes = Nothing
awaits_after (TheEndBefore c verb whole) false = TheStart c verb whole
awaits_after awaits true = awaits
awaits_after awaits false = Nothing

-- the line of a call that has ended, if it has
abbrev pub ended_line : ℕ → Option Verb → Option Answered → List ℕ
ended_line c (Some verb) (Some answer) = answer_line c verb answer
ended_line c verb answer = []

-- the names behind a step
abbrev pub names_closed : List (List ℕ × ℕ) → Option Verb → Option Answered → List (List ℕ × ℕ)
names_closed names (Some verb) (Some answer) = names_ended names verb answer
names_closed names verb answer = names

-- the tally behind a step
abbrev pub tally_closed : Tally → Option Answered → Tally
tally_closed tally (Some answer) = tallied tally answer
tally_closed tally None = tally

-- what the open calls are once a client's call has its answer, if it has
abbrev pub calls_closed : List (Option OpenCall) → ℕ → Option Answered → List (Option OpenCall)
calls_closed calls c (Some answer) = slice_set calls c None
calls_closed calls c None = calls

-- the line of a step is printed where one step was waited for
abbrev pub step_text : Awaits → List ℕ → List ℕ
step_text (OneStep c) line = line
step_text awaits line = []

-- A client's open call came to this heap, prints this line, and ends with this answer, if it does; that is printed behind it.
abbrev pub came_to : World → ℕ → HeapFacts → List ℕ → Option Answered → World
came_to w c heap line answer = record w {
  heap = heap;
  calls = calls_closed w.calls c answer;
  names = names_closed w.names (verb_at w.calls c) answer;
  tally = tally_closed w.tally answer;
  text = w.text ++ (step_text w.awaits line ++ ended_line c (verb_at w.calls c) answer);
  awaits = awaits_after w.awaits (is_none answer);
}

-- the next request of a sweep, if there is a sweep and an arena is left
abbrev pub sweep_next : Option SweepFacts → Option Request
sweep_next None = None
sweep_next (Some sweep) = request_next sweep

-- what an open call asks for next where a request of it has this answer: only a sweep goes on, and only behind an Ok
abbrev pub goes_on : Option OpenCall → Option Answered → Option Request
goes_on (Some call) (Some (Ok given)) = sweep_next call.sweep
goes_on call answer = None

-- an open call of which the next request of its sweep isn't left any more
abbrev pub swept : OpenCall → OpenCall
swept call = record call { sweep = option_map advanced call.sweep }

-- the open calls where a client's one has begun with that
abbrev pub calls_swept : List (Option OpenCall) → ℕ → List (Option OpenCall)
calls_swept calls c = slice_set calls c (option_map swept (call_at calls c))

-- a step of a client's open call leads to this heap and prints this line; the request that it carries on has this answer, if it
-- has ended, and then the call goes on with this request, or it ends with that answer
abbrev pub stepped_on : World → ℕ → HeapFacts → List ℕ → Option Answered → Option Request → World
stepped_on w c heap line answer None = came_to w c heap line answer
stepped_on w c heap line answer (Some request) = record w {
  heap = heap;
  calls = calls_swept w.calls c;
  text = w.text ++ step_text w.awaits line;
  awaits = TheNext c request w.awaits;
}

-- A step of a client's open call leads to this heap, and prints this line; the request that it carries on has this answer, if it
-- has ended.
abbrev pub stepped : World → ℕ → HeapFacts → List ℕ → Option Answered → World
stepped w c heap line answer = stepped_on w c heap line answer (goes_on (call_at w.calls c) answer)

-- the next request of a client's open call begins, behind which this is waited for
abbrev pub goes_on_with : World → ℕ → Request → Awaits → World
goes_on_with w c request behind =
    came_to (record w { awaits = behind }) c (started w.heap c request) [] (answer_of (begun w.heap.seats c request))

-- ---- lines

-- a client's call is to begin, behind the end of the one that is open
abbrev pub awaits_call : Bool → ℕ → Verb → Bool → Awaits
awaits_call true c verb whole = TheEndBefore c verb whole
awaits_call false c verb whole = TheStart c verb whole

-- the counts of an arena that is live
abbrev pub live_counts : Space → Option Counts
live_counts s = where_live counts_of s

-- the counts of an arena, or that it isn't live
abbrev pub counts_text : ℕ → Option Counts → List ℕ
counts_text index (Some counts) = counts_line index counts
counts_text index None = no_arena_line index

-- a step or the end of a client's open call is waited for, or there is none
abbrev pub awaits_or_idle : World → ℕ → Bool → Awaits → World
awaits_or_idle w c true awaits = record w { awaits = awaits }
awaits_or_idle w c false awaits = record w { text = w.text ++ idle_line c }

-- a line is read
abbrev pub line_read : World → Line → World
line_read w (Call c verb) = record w { awaits = awaits_call (has_open_call w.heap c) c verb true }
line_read w (Start c verb) = record w { awaits = awaits_call (has_open_call w.heap c) c verb false }
line_read w (Step c) = awaits_or_idle w c (has_open_call w.heap c) (OneStep c)
line_read w (End c) = awaits_or_idle w c (has_open_call w.heap c) (TheEnd c)
line_read w (At moment) = record w { moment = moment }
line_read w (CountsOf index) = record w { text = w.text ++ counts_text index (live_counts (record_at w.heap.records index).space) }
line_read w line = w

-- ---- the end

-- the closing line of an arena, where it is live
abbrev pub closing_line : ℕ → Option Counts → List ℕ
closing_line index (Some counts) = counts_line index counts
closing_line index None = []

-- the count lines of the live arenas, by index
abbrev pub closing : HeapFacts → List ℕ
closing h = flat_map (λ i. closing_line i (live_counts (record_at h.records i).space)) (range_with_len 0 32)
