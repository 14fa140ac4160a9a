-- The calls that may stand within phases and outside, and what each client does in a phase.
use Rattle.std.specs.Prelude.{ℕ, ◌==◌, List, [], ◌∷◌, ◌++◌, Option, None, Some, if◌then◌else◌}
use Rattle.trace_text.specs.declared.lines.Ptr.TheVariants.{Name}
use Rattle.trace_text.specs.declared.lines.Verb.{Verb}
use Rattle.trace_text.specs.declared.lines.Verb.TheVariants as verb
use Rattle.trace_phase.specs.declared.parts.PhaseCall.{PhaseCall}
use Rattle.trace_phase.specs.declared.parts.PhaseCall.TheVariants.{Malloc, Memalign, Free, Publish, Take, Flush, Purge, Decay}
use Rattle.trace_phase.specs.declared.parts.SettingCall.{SettingCall}
use Rattle.trace_phase.specs.declared.parts.SettingCall.TheVariants.{Create, Time, Bind, Cache}
use Rattle.trace_phase.specs.declared.parts.Work.{Work}

-- the calls that may stand within a phase: they are about regions by their names, the client's cache and unused pages. No realloc may,
-- and no call in an explicit cache
abbrev pub phase_call : Verb → Option PhaseCall
phase_call (verb.Malloc name size) = Some (Malloc name size)
phase_call (verb.Memalign name align size) = Some (Memalign name align size)
phase_call (verb.Free (Name name)) = Some (Free name)
phase_call (verb.Publish (Name name)) = Some (Publish name)
phase_call (verb.Take (Name name)) = Some (Take name)
phase_call verb.Flush = Some Flush
phase_call (verb.Purge arena) = Some (Purge arena)
phase_call (verb.Decay arena) = Some (Decay arena)
phase_call call = None

-- the name of the region that a call is about, if it is about one
abbrev pub call_name : PhaseCall → Option (List ℕ)
call_name (Malloc name size) = Some name
call_name (Memalign name align size) = Some name
call_name (Free name) = Some name
call_name (Publish name) = Some name
call_name (Take name) = Some name
call_name call = None

-- the calls that may stand outside phases: they are about arenas, and about where and how a client allocates
abbrev pub setting_call : Verb → Option SettingCall
setting_call (verb.Create box_no) = Some (Create box_no)
setting_call (verb.Time arena rest ms) = Some (Time arena rest ms)
setting_call (verb.Bind arena) = Some (Bind arena)
setting_call (verb.Cache is_on) = Some (Cache is_on)
setting_call call = None

-- what a client does, with one more call behind the others
abbrev pub with_more : Work → PhaseCall → Work
with_more work call = record work { calls = work.calls ++ call ∷ [] }

-- what a client does that has one call
abbrev pub first_work : ℕ → PhaseCall → Work
first_work client call = record { client = client; calls = call ∷ [] }

-- what each client does, with one more call of a client
abbrev pub with_call : ℕ → PhaseCall → List Work → List Work
with_call client call [] = first_work client call ∷ []
with_call client call (work ∷ works) =
    if work.client == client then with_more work call ∷ works else work ∷ with_call client call works
