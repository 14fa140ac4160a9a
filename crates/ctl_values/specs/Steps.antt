-- What is to be done for a line of a control.
use Rattle.std.specs.Prelude.{◌≡◌, ◌==◌, ℕ, true, if◌then◌else◌}
use Rattle.space_model.specs.Purging.{is_purgeable}
use Rattle.space_model.specs.Settings.{is_decay_time}
use Rattle.call_plan.specs.declared.Request.{Request}
use Rattle.call_plan.specs.declared.Request.TheVariants as requests
use Rattle.call_plan.specs.Laws.{IsInRange}
use Rattle.heap_stats.specs.declared.Whose.{Whose}
use Rattle.heap_stats.specs.declared.Whose.TheVariants as whose
use Rattle.ctl_values.specs.declared.steps.CtlStep.{CtlStep}
use Rattle.ctl_values.specs.declared.steps.CtlStep.TheVariants.{Call, CallAll, Default}
use Rattle.ctl_values.specs.declared.steps.Times.{Times}
use Rattle.ctl_values.specs.declared.steps.Upkeep.{Upkeep}
use Rattle.ctl_values.specs.declared.steps.Upkeep.TheVariants.{Purge, Decay}

-- the times with which arenas are created are decay times
pub record AreTimes (t : Times) : Type 0 where
  pub dirty : is_decay_time t.dirty_ms ≡ true
  pub muzzy : is_decay_time t.muzzy_ms ≡ true

-- the request that does an upkeep to one arena
abbrev pub request_of : Upkeep → ℕ → Request
request_of Purge arena = requests.Purge arena
request_of (Decay now) arena = requests.Decay arena now

-- the upkeep of one arena, or of all by the index 4096
abbrev pub on_arenas : Upkeep → ℕ → CtlStep
on_arenas upkeep index = if index == 4096 then CallAll upkeep else Call (request_of upkeep index)

-- whose counts an index stands for: 4096 for all, and 4097 for arenas that were destroyed
abbrev pub whose_of : ℕ → Whose
whose_of index = if index == 4096 then whose.All else (if index == 4097 then whose.Destroyed else whose.Arena index)

-- the request that creates an arena with a box of hooks
abbrev pub create_of : ℕ → Times → Request
create_of box_no t = requests.Create box_no t.dirty_ms t.muzzy_ms t.now

-- what is to be done is in range: its request is, and a time for new arenas is a decay time of a list that is purged
abbrev pub IsStep : CtlStep → Type 0
IsStep (Call request) = IsInRange request
IsStep (Default rest ms) = (is_purgeable rest ≡ true) × (is_decay_time ms ≡ true)
IsStep step = Unit {0}
