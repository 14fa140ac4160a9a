-- What the calls of a trace ask for.
use Rattle.std.specs.Prelude.{ℕ, pos, ◌<◌, ◌≡◌, Bool, true, false, List, Option, None, Some}
use Rattle.space_model.specs.Purging.{is_purgeable}
use Rattle.space_model.specs.Settings.{is_decay_time}
use Rattle.call_plan.specs.declared.needs.Answered.{Answered}
use Rattle.call_plan.specs.declared.needs.Answered.TheVariants.{Ok}
use Rattle.call_plan.specs.declared.needs.Given.TheVariants.{Region}
use Rattle.call_plan.specs.declared.needs.Request.{Request}
use Rattle.call_plan.specs.declared.needs.Request.TheVariants as request
use Rattle.trace_phase.specs.declared.parts.PhaseCall.{PhaseCall}
use Rattle.trace_phase.specs.declared.parts.PhaseCall.TheVariants.{Malloc, Memalign, Free, Publish, Take, Flush, Purge, Decay}
use Rattle.trace_phase.specs.declared.parts.SettingCall.{SettingCall}
use Rattle.trace_phase.specs.declared.parts.SettingCall.TheVariants.{Create, Time, Bind, Cache}
use Rattle.call_plan.specs.Clients.{DeskFacts, held_at}
use Rattle.thread_cache.specs.declared.Held.{Held}
use Rattle.phase_run.specs.declared.names.Place.{Place}
use Rattle.phase_run.specs.Names.{named, place_in}

-- what a call of a phase asks for, at the phase's moment: a name stands for where its region lies
abbrev pub request_of : ℕ → List (List ℕ × Place) → PhaseCall → Request
request_of now names (Malloc name size) = request.Malloc size
request_of now names (Memalign name align size) = request.Memalign align size
request_of now names (Free name) = request.Free (place_in names name).addr
request_of now names (Publish name) = request.Publish (place_in names name).addr
request_of now names (Take name) = request.Take (place_in names name).addr (place_in names name).arena
request_of now names Flush = request.Flush
request_of now names (Purge arena) = request.Purge arena
request_of now names (Decay arena) = request.Decay arena now

-- what a call outside phases asks for, at its moment: arenas are created with the default decay times
abbrev pub setting_request : ℕ → SettingCall → Request
setting_request now (Create box_no) = request.Create box_no (pos 10000) (pos 0) now
setting_request now (Time arena rest ms) = request.Time arena rest ms now
setting_request now (Bind arena) = request.Bind arena
setting_request now (Cache is_on) = request.Cache is_on

-- such a call is in range
abbrev pub IsSettingInRange : SettingCall → Type 0
IsSettingInRange (Create box_no) = box_no < 32
IsSettingInRange (Time arena rest ms) = (is_decay_time ms ≡ true) × (is_purgeable rest ≡ true)
IsSettingInRange (Bind arena) = Unit {0}
IsSettingInRange (Cache is_on) = Unit {0}

-- the name that a call binds, if it is one that gets a region
abbrev pub binds : PhaseCall → Option (List ℕ)
binds (Malloc name size) = Some name
binds (Memalign name align size) = Some name
binds call = None

-- where a region lies
abbrev pub place_of : Held → Place
place_of region = record { addr = region.addr; arena = region.arena }

-- the names with this one bound to where the region lies that the client now holds at an address
abbrev pub bound_to : List (List ℕ × Place) → List ℕ → Option Held → List (List ℕ × Place)
bound_to names name (Some region) = named names name (place_of region)
bound_to names name None = names

-- the names behind an answer, by what the client has then: a name is bound where its call was given a region
abbrev pub bound_by : List (List ℕ × Place) → Option (List ℕ) → Answered → DeskFacts → List (List ℕ × Place)
bound_by names (Some name) (Ok (Region addr class)) desk = bound_to names name (held_at addr desk)
bound_by names name answer desk = names

-- the names behind a call of a phase
abbrev pub names_after : List (List ℕ × Place) → PhaseCall → Answered → DeskFacts → List (List ℕ × Place)
names_after names call answer desk = bound_by names (binds call) answer desk

-- an answer other than Ok
abbrev pub is_failed : Answered → Bool
is_failed (Ok given) = false
is_failed answer = true
