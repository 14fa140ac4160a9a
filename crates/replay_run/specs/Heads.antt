-- How a report names the call of a line.
use Rattle.std.specs.Prelude.{ℕ, ◌==◌, Bool, true, false, List, []}
use Rattle.std.specs.Borrow.{Bor}
use Rattle.std.specs.Option.{option_map_or}
use Rattle.space_model.specs.declared.Rest.{Rest}
use Rattle.space_model.specs.declared.Rest.TheVariants.{Dirty, Muzzy, Retained}
use Rattle.call_plan.specs.declared.needs.Answered.{Answered}
use Rattle.ctl_names.specs.Names.{name_of}
use Rattle.report_text.specs.declared.heads.Head.{Head}
use Rattle.report_text.specs.declared.heads.Head.TheVariants as head
use Rattle.report_text.specs.declared.controls.CtlAnswer.{CtlAnswer}
use Rattle.report_text.specs.Lines.{call_line, ctl_line}
use Rattle.trace_text.specs.declared.lines.Verb.{Verb}
use Rattle.trace_text.specs.declared.lines.Verb.TheVariants.{Malloc, Memalign, Free, Publish, Take, Purge, Decay, Time, Reset, Destroy, Create, Bind, Cache, Flush, MallocIn, FreeIn, CtlPlain, CtlWrite, Realloc}

-- the bytes of a name, as a reference to them
abbrev pub borrowed : List ℕ → Bor (List ℕ)
borrowed name = record { ref_ptr = (0, 0); now = name }

-- the head of a call that sets how long the extents of a list may stay
abbrev pub time_head : Rest → Head
time_head Dirty = head.Dirty
time_head Muzzy = head.Muzzy
time_head Retained = head.Muzzy

-- whether a control is one of all arenas, by the index 4096 in its name
abbrev pub is_of_all : List ℕ → Bool
is_of_all name = option_map_or (λ found. found.i == 4096) (name_of name) false

-- the head of a call of a control: where it is one of all arenas, nothing is told of what each of them gives
abbrev pub ctl_head : List ℕ → Bool → Head
ctl_head name true = head.CtlDone (borrowed name)
ctl_head name false = head.Ctl (borrowed name)

-- the head of the call of a line
abbrev pub head_of : Verb → Head
head_of (Malloc name size) = head.Malloc (borrowed name)
head_of (Memalign name align size) = head.Memalign (borrowed name)
head_of (Realloc name size) = head.Realloc (borrowed name)
head_of (Free target) = head.Free
head_of (Publish target) = head.Publish
head_of (Take target) = head.Take
head_of (Purge index) = head.Purge
head_of (Decay index) = head.Decay
head_of (Time index rest ms) = time_head rest
head_of (Reset index) = head.Reset
head_of (Destroy index) = head.Destroy
head_of (Create box_no) = head.Create
head_of (Bind index) = head.Arena
head_of (Cache on) = head.Cache
head_of Flush = head.Flush
head_of (MallocIn name size slot) = head.MallocIn (borrowed name)
head_of (FreeIn region slot) = head.FreeIn
head_of (CtlPlain name) = ctl_head name (is_of_all name)
head_of (CtlWrite name value) = head.Ctl (borrowed name)

-- the line of a call that has its answer
abbrev pub answer_line : ℕ → Verb → Answered → List ℕ
answer_line c verb answer = call_line c (head_of verb) answer

-- the name of the control that a call is about, if it is about one
abbrev pub control_in : Verb → List ℕ
control_in (CtlPlain name) = name
control_in (CtlWrite name value) = name
control_in verb = []

-- the line of a control that has its answer where it begins
abbrev pub told_line : ℕ → Verb → CtlAnswer → List ℕ
told_line c verb answer = ctl_line c (control_in verb) answer
