-- What a call of a line comes to where it begins: a request, a sweep, or an answer.
use Rattle.std.specs.Prelude.{ℕ, ◌/◌, List, Option, None, Some, Result, Ok, Err}
use Rattle.std.specs.List.{list_any, position}
use Rattle.std.specs.Option.{ok_or, option_map_or}
use Rattle.space_model.specs.declared.Rest.{Rest}
use Rattle.space_model.specs.declared.Rest.TheVariants.{Dirty, Muzzy}
use Rattle.space_model.specs.Span.{has_page}
use Rattle.call_plan.specs.declared.needs.Request.{Request}
use Rattle.call_plan.specs.declared.needs.Request.TheVariants as request
use Rattle.call_plan.specs.Laws.{IsInRange}
use Rattle.ctl_names.specs.declared.names.CtlError.{CtlError}
use Rattle.ctl_names.specs.declared.names.CtlError.TheVariants.{Enoent}
use Rattle.ctl_names.specs.Names.{name_of}
use Rattle.ctl_values.specs.declared.steps.CtlStep.{CtlStep}
use Rattle.ctl_values.specs.declared.steps.CtlStep.TheVariants as steps
use Rattle.ctl_values.specs.declared.steps.Times.{Times}
use Rattle.ctl_values.specs.declared.steps.Upkeep.{Upkeep}
use Rattle.ctl_values.specs.Plans.{plan_of}
use Rattle.ctl_values.specs.Steps.{create_of}
use Rattle.ctl_values.specs.Values.{◌>>=◌}
use Rattle.heap_core.specs.Heaps.{HeapFacts}
use Rattle.recorded_arena.specs.Records.{Record}
use Rattle.heap_stats.specs.Stats.{stat_of}
use Rattle.report_text.specs.declared.controls.CtlAnswer.TheVariants.{Done, Number}
use Rattle.trace_text.specs.declared.lines.Verb.{Verb}
use Rattle.trace_text.specs.declared.lines.Verb.TheVariants.{Malloc, Memalign, Free, Publish, Take, Purge, Decay, Time, Reset, Destroy, Create, Bind, Cache, Flush, MallocIn, FreeIn, CtlPlain, CtlWrite, Realloc}
use Rattle.replay_run.specs.declared.beginnings.Beginning.{Beginning}
use Rattle.replay_run.specs.declared.beginnings.Beginning.TheVariants.{Asks, Tells, FindsNone}
use Rattle.replay_run.specs.Controls.{ControlFacts, arena_answer, controls_by, error_answer, live_arenas, lookup_answer, setting_answer, times_at}
use Rattle.replay_run.specs.Names.{address_at, address_in}
use Rattle.replay_run.specs.Sweeps.{SweepFacts, advanced, request_next}

-- ---- calls by their own words

-- the index of the arena of which an extent has the page of an address, if there is one
abbrev pub arena_with : List Record → ℕ → Option ℕ
arena_with records addr = position (λ r. list_any (λ p. has_page (addr / 4096) p.span) r.space.parts) records

-- a take of the region at an address, in the arena of which an extent has it
abbrev pub take_in : ℕ → Option ℕ → Option Request
take_in addr None = None
take_in addr (Some arena) = Some (request.Take addr arena)

-- the list of extents of which a line sets the decay time: the dirty one, or else the muzzy one
abbrev pub decay_list : Rest → Rest
decay_list Dirty = Dirty
decay_list rest = Muzzy

-- what a call asks for that is about regions; nothing, for another one and where no arena has an extent at the address
abbrev pub region_request : List Record → List (List ℕ × ℕ) → Verb → Option Request
region_request records names (Malloc name size) = Some (request.Malloc size)
region_request records names (Memalign name align size) = Some (request.Memalign align size)
region_request records names (Realloc name size) = Some (request.Realloc (address_in names name) size)
region_request records names (Free target) = Some (request.Free (address_at names target))
region_request records names (Publish target) = Some (request.Publish (address_at names target))
region_request records names (Take target) = take_in (address_at names target) (arena_with records (address_at names target))
region_request records names (MallocIn name size slot) = Some (request.MallocIn slot size)
region_request records names (FreeIn target slot) = Some (request.FreeIn slot (address_at names target))
region_request records names verb = None

-- what a call asks for that is about an arena or about what its client keeps, if it is one, at a moment and with the decay times
-- with which arenas are created
abbrev pub arena_request : Times → Verb → Option Request
arena_request t (Purge index) = Some (request.Purge index)
arena_request t (Decay index) = Some (request.Decay index t.now)
arena_request t (Time index rest ms) = Some (request.Time index (decay_list rest) ms t.now)
arena_request t (Reset index) = Some (request.Reset index)
arena_request t (Destroy index) = Some (request.Destroy index)
arena_request t (Create box_no) = Some (create_of box_no t)
arena_request t (Bind index) = Some (request.Bind index)
arena_request t (Cache on) = Some (request.Cache on)
arena_request t Flush = Some request.Flush
arena_request t verb = None

-- the first of two requests, or else the second
abbrev pub first_request : Option Request → Option Request → Option Request
first_request (Some request) other = Some request
first_request None other = other

-- what a call asks for that isn't one of `ctl`: nothing, for a take of what no arena has
abbrev pub request_of : List Record → List (List ℕ × ℕ) → Times → Verb → Option Request
request_of records names t verb = first_request (arena_request t verb) (region_request records names verb)

-- a call that asks for this alone, or looked for a region where no arena has an extent
abbrev pub request_begins : Option Request → Beginning
request_begins (Some request) = Asks request None
request_begins None = FindsNone

-- the address that a call which asks for nothing looked for
abbrev pub target_of : List (List ℕ × ℕ) → Verb → ℕ
target_of names (Take target) = address_at names target
target_of names verb = 0

-- ---- calls of `ctl`

-- what a plain line of a control comes to, or a write of a text where there is one
abbrev pub ctl_step : List ℕ → Option (List ℕ) → Times → Result CtlStep CtlError
ctl_step name text t = ok_or (name_of name) Enoent >>= λ found. plan_of found text t

-- the same for a call, if it is one of `ctl`
abbrev pub step_of : Times → Verb → Option (Result CtlStep CtlError)
step_of t (CtlPlain name) = Some (ctl_step name None t)
step_of t (CtlWrite name value) = Some (ctl_step name (Some value) t)
step_of t verb = None

-- a sweep begins with its first request; where no arena is live, it is done
abbrev pub sweep_begins : SweepFacts → Option Request → Beginning
sweep_begins sweep (Some request) = Asks request (Some (advanced sweep))
sweep_begins sweep None = Tells Done

-- a sweep over the arenas that are live
abbrev pub sweep_over : List Record → Upkeep → SweepFacts
sweep_over records upkeep = record { upkeep = upkeep; arenas = live_arenas records }

-- what a line of a control comes to where it begins
abbrev pub ctl_begins : HeapFacts → ControlFacts → ℕ → Result CtlStep CtlError → Beginning
ctl_begins h k c (Err error) = Tells (error_answer error)
ctl_begins h k c (Ok (steps.Number number)) = Tells (Number number)
ctl_begins h k c (Ok (steps.Call request)) = Asks request None
ctl_begins h k c (Ok (steps.CallAll upkeep)) = sweep_begins (sweep_over h.records upkeep) (request_next (sweep_over h.records upkeep))
ctl_begins h k c (Ok (steps.Setting reading)) = Tells (setting_answer h k c reading)
ctl_begins h k c (Ok (steps.ArenaSetting index reading)) = Tells (arena_answer h.records index reading)
ctl_begins h k c (Ok (steps.Default rest ms)) = Tells Done
ctl_begins h k c (Ok steps.Refresh) = Tells Done
ctl_begins h k c (Ok (steps.Stat whose count)) = Tells (Number (stat_of whose count k.snapshot))
ctl_begins h k c (Ok (steps.Lookup addr)) = Tells (lookup_answer (arena_with h.records addr))

-- ---- all calls

-- what a call comes to, by its step, if it is one of `ctl`
abbrev pub begins_by : HeapFacts → List (List ℕ × ℕ) → ControlFacts → Times → ℕ → Verb → Option (Result CtlStep CtlError) → Beginning
begins_by h names k t c verb (Some step) = ctl_begins h k c step
begins_by h names k t c verb None = request_begins (request_of h.records names t verb)

-- What a call of a line comes to where it begins, at a moment.
abbrev pub beginning_of : HeapFacts → List (List ℕ × ℕ) → ControlFacts → ℕ → ℕ → Verb → Beginning
beginning_of h names k now c verb = begins_by h names k (times_at k now) c verb (step_of (times_at k now) verb)

-- the controls behind the beginning of a call
abbrev pub controls_of : List Record → ControlFacts → ℕ → Verb → ControlFacts
controls_of records k now verb = option_map_or (controls_by records k) (step_of (times_at k now) verb) k

-- what a beginning asks for is in range
abbrev pub IsBeginning : Beginning → Type 0
IsBeginning (Asks request sweep) = IsInRange request
IsBeginning begins = Unit {0}
