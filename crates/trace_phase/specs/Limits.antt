-- What the parts of a trace keep to.
use Rattle.std.specs.Prelude.{◌≡◌, ℕ, ◌^◌, ◌<◌, ◌≤◌, true, List}
use Rattle.std.specs.List.{All, AllByRecursion}
use Rattle.space_model.specs.Purging.{is_purgeable}
use Rattle.space_model.specs.Settings.{is_decay_time}
use Rattle.trace_text.specs.Grammar.{IsWithinLimits}
use Rattle.trace_phase.specs.declared.parts.NumberedLine.{NumberedLine}
use Rattle.trace_phase.specs.declared.parts.Part.{Part}
use Rattle.trace_phase.specs.declared.parts.Part.TheVariants.{Setting, Phase}
use Rattle.trace_phase.specs.declared.parts.Setting.TheVariants as setting
use Rattle.trace_phase.specs.declared.parts.SettingCall.{SettingCall}
use Rattle.trace_phase.specs.declared.parts.SettingCall.TheVariants.{Create, Time, Bind, Cache}
use Rattle.trace_phase.specs.Rule.{phases_of}

-- what a call outside phases keeps to: its box is below 32, its arena below 2 ^ 32, and its time one that may be set of a list
-- that is purged
abbrev pub IsCallWithinLimits : SettingCall → Type 0
IsCallWithinLimits (Create box_no) = box_no < 32
IsCallWithinLimits (Time arena rest ms) = (arena < 2 ^ 32) × (is_decay_time ms ≡ true) × (is_purgeable rest ≡ true)
IsCallWithinLimits (Bind arena) = arena < 2 ^ 32
IsCallWithinLimits (Cache is_on) = Unit {0}

-- what a part keeps to: its clients and its box are below 32, its rounds at most 1000, and so is its call
abbrev pub IsPartWithinLimits : Part → Type 0
IsPartWithinLimits (Setting (setting.Refuse box_no kind nth)) = box_no < 32
IsPartWithinLimits (Setting (setting.Call client moment call)) = (client < 32) × IsCallWithinLimits call
IsPartWithinLimits (Phase phase) = (phase.rounds ≤ 1000) × AllByRecursion (λ work. work.client < 32) phase.works

-- lines that were read come to parts that keep to their limits
abbrev pub PartsKeepLimits : Type 0
PartsKeepLimits = (lines : List NumberedLine) → All (λ line. IsWithinLimits line.line) lines → AllByRecursion IsPartWithinLimits (phases_of lines).parts
