-- Controls: what a line of one comes to where it begins.
use Rattle.std.specs.Prelude.{ℕ, ◌+◌, ◌*◌, ◌^◌, ◌-◌, ℤ, pos, min, Bool, true, List, fold, map, Option, None, Some, replicate, Result, Ok, if◌then◌else◌}
use Rattle.std.specs.List.{filter, range_with_len}
use Rattle.space_model.specs.declared.Counts.{Counts}
use Rattle.space_model.specs.declared.Rest.{Rest}
use Rattle.space_model.specs.declared.Rest.TheVariants.{Dirty}
use Rattle.space_model.specs.declared.Space.{Space}
use Rattle.space_model.specs.Step.{is_live}
use Rattle.ctl_names.specs.declared.names.CtlError.{CtlError}
use Rattle.ctl_names.specs.declared.names.CtlError.TheVariants as errors
use Rattle.ctl_names.specs.declared.rows.Reading.{Reading}
use Rattle.ctl_names.specs.declared.rows.Reading.TheVariants.{Refreshes, ThreadArena, CacheIsOn, ArenaCount, NewDirtyTime, NewMuzzyTime}
use Rattle.ctl_names.specs.declared.rows.ArenaReading.{ArenaReading}
use Rattle.ctl_names.specs.declared.rows.ArenaReading.TheVariants.{IsLive, DirtyTime, MuzzyTime, HookBox, GrowLimit}
use Rattle.ctl_values.specs.declared.steps.CtlStep.{CtlStep}
use Rattle.ctl_values.specs.declared.steps.CtlStep.TheVariants as steps
use Rattle.ctl_values.specs.declared.steps.Times.{Times}
use Rattle.sits.specs.Arenas.{record_at}
use Rattle.heap_core.specs.Arenas.{where_live}
use Rattle.recorded_arena.specs.Records.{Record}
use Rattle.heap_core.specs.Heaps.{HeapFacts}
use Rattle.heap_core.specs.Seats.{seat_at}
use Rattle.heap_stats.specs.Stats.{counts_or_none, no_counts}
use Rattle.replay_run.specs.Counts.{all_counts}
use Rattle.report_text.specs.declared.controls.CtlAnswer.{CtlAnswer}
use Rattle.report_text.specs.declared.controls.CtlAnswer.TheVariants.{Number, Truth, Time, Enoent, Eperm, Einval, Gone}

-- What controls read and write beside the heap: the counts of the last refresh, how often there was one, and the decay times in
-- milliseconds with which arenas are created.
pub record ControlFacts : Type 0 where
  pub snapshot : List Counts
  pub refreshes : ℕ
  pub dirty_ms : ℤ
  pub muzzy_ms : ℤ

-- before the first line nothing was refreshed, and all counts are 0
abbrev pub opening_controls : ControlFacts
opening_controls = record { snapshot = replicate 32 no_counts; refreshes = 0; dirty_ms = pos 10000; muzzy_ms = pos 0 }

-- the moment of a line in nanoseconds, and the decay times with which arenas are created
abbrev pub times_at : ControlFacts → ℕ → Times
times_at k now = record { now = now; dirty_ms = k.dirty_ms; muzzy_ms = k.muzzy_ms }

-- ---- what is read

-- whether the arena with an index is live
abbrev pub is_live_at : List Record → ℕ → Bool
is_live_at records index = is_live (record_at records index).space.life

-- the indexes of the arenas that are live, rising
abbrev pub live_arenas : List Record → List ℕ
live_arenas records = filter (is_live_at records) (range_with_len 0 32)

-- the highest live index and one
abbrev pub arena_count : List Record → ℕ
arena_count records = fold (λ count index. if is_live_at records index then index + 1 else count) 0 (range_with_len 0 32)

-- what is read of the heap, of a client, or of the controls
abbrev pub setting_answer : HeapFacts → ControlFacts → ℕ → Reading → CtlAnswer
setting_answer h k c Refreshes = Number k.refreshes
setting_answer h k c ThreadArena = Number (seat_at h.seats c).desk.arena
setting_answer h k c CacheIsOn = Truth (seat_at h.seats c).desk.caches
setting_answer h k c ArenaCount = Number (arena_count h.records)
setting_answer h k c NewDirtyTime = Time k.dirty_ms
setting_answer h k c NewMuzzyTime = Time k.muzzy_ms

-- what is read of an arena that is live
abbrev pub live_answer : ArenaReading → Space → CtlAnswer
live_answer IsLive s = Truth true
live_answer DirtyTime s = Time s.dirty.ms
live_answer MuzzyTime s = Time s.muzzy.ms
live_answer HookBox s = Number s.box_no
live_answer GrowLimit s = Number (s.grow_limit * 2097152)

-- a value of an arena, or that it isn't live
abbrev pub or_gone : ℕ → Option CtlAnswer → CtlAnswer
or_gone index None = Gone index
or_gone index (Some answer) = answer

-- what is read of an arena, live or not
abbrev pub arena_answer : List Record → ℕ → ArenaReading → CtlAnswer
arena_answer records index IsLive = Truth (is_live_at records index)
arena_answer records index reading = or_gone index (where_live (live_answer reading) (record_at records index).space)

-- the index of the arena that was looked up, if there is one
abbrev pub lookup_answer : Option ℕ → CtlAnswer
lookup_answer None = Einval
lookup_answer (Some index) = Number index

-- an error
abbrev pub error_answer : CtlError → CtlAnswer
error_answer errors.Enoent = Enoent
error_answer errors.Eperm = Eperm
error_answer errors.Einval = Einval

-- ---- what is set

-- the controls with the counts of all arenas as they are, and one refresh more, up to the greatest `u64`
abbrev pub refreshed : List Record → ControlFacts → ControlFacts
refreshed records k = record k { snapshot = map counts_or_none (all_counts records); refreshes = min (k.refreshes + 1) (2 ^ 64 - 1) }

-- the controls with another decay time of a list, the dirty one or else the muzzy one, for arenas that are created later
abbrev pub with_default : Rest → ℤ → ControlFacts → ControlFacts
with_default Dirty ms k = record k { dirty_ms = ms }
with_default rest ms k = record k { muzzy_ms = ms }

-- the controls behind a line of one
abbrev pub controls_by : List Record → ControlFacts → Result CtlStep CtlError → ControlFacts
controls_by records k (Ok steps.Refresh) = refreshed records k
controls_by records k (Ok (steps.Default rest ms)) = with_default rest ms k
controls_by records k planned = k
