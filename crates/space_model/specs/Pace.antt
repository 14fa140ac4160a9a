-- How a decay goes: how much of an addition is left after so many epochs, how many pages may stay, and what a moment changes.
use Rattle.std.specs.Prelude.{ℕ, ◌+◌, ◌-◌, ◌*◌, ◌/◌, ◌^◌, min, ◌==◌, nat_lt, List, [], ◌∷◌, ◌++◌, filter, ℤ, pos, negsuc, Option, None, Some, if◌then◌else◌}
use Rattle.std.specs.List.{sum_by}
use Rattle.space_model.specs.Types.{Limits, Added, Pace, Space}
use Rattle.space_model.specs.Part.{pages_listed}
use Rattle.space_model.specs.Stepped.{Stepped, if_live}
use Rattle.space_model.specs.declared.parts.Rest.TheVariants as rests

-- How much of 2 ^ 24 an addition weighs while so many epochs are left to it, from 1 to 200: smootherstep, rounded down.
unfoldable pub weight : ℕ → ℕ
weight left = 2 ^ 24 * ((6 * left ^ 5 + 400000 * left ^ 3) - 3000 * left ^ 4) / 200 ^ 5

-- what an addition weighs at an epoch: nothing from the age of 200 epochs on
abbrev pub weighed : ℕ → Added → ℕ
weighed epoch a = let age = epoch - a.epoch in if nat_lt age 200 then a.pages * weight (200 - age) else 0

-- how many pages may stay at an epoch, after all these additions
abbrev pub limit_at : ℕ → List Added → ℕ
limit_at epoch added = sum_by (weighed epoch) added / 2 ^ 24

-- a pace without the additions that weigh nothing any more: a body may forget them
abbrev pub recent : Pace → Pace
recent pace = record pace { added = filter (λ a. nat_lt (pace.epoch - a.epoch) 200) pace.added }

-- Two spaces stand for the same arena where they are equal in this form.
abbrev pub settled : Space → Space
settled space = record space { dirty = recent space.dirty; muzzy = recent space.muzzy }

-- the additions with the pages that became unused since the last epoch, if there are any
abbrev pub with_new : Pace → ℕ → ℕ → List Added
with_new pace epoch current =
    if nat_lt pace.left current then pace.added ++ record { epoch = epoch; pages = current - pace.left } ∷ [] else pace.added

-- How a pace stands after a moment has come, and how many unused pages may stay, where that is told.
pub record Paced : Type 0 where
  pub pace : Pace
  pub limit : Option ℕ

-- so many epochs pass, each of an interval in nanoseconds, while the current pages are unused
abbrev pub passed : Pace → ℕ → ℕ → ℕ → Paced
passed pace interval epochs current =
    let epoch = pace.epoch + epochs in let added = with_new pace epoch current in let limit = limit_at epoch added in record {
      pace = record pace { start = pace.start + epochs * interval; epoch = epoch; left = min current limit; added = added };
      limit = Some limit;
    }

-- Nothing changes before a whole epoch has passed.
abbrev pub passed_if_any : Pace → ℕ → ℕ → ℕ → Paced
passed_if_any pace interval epochs current =
    if epochs == 0 then record { pace = pace; limit = None } else passed pace interval epochs current

-- What a moment changes: where the time is -1 all may stay, where it is 0 none, and else an epoch is 5000 nanoseconds for
-- each millisecond of it, so that 200 epochs are the time.
abbrev pub advanced_in : ℤ → Pace → ℕ → ℕ → Paced
advanced_in (negsuc n) pace now current = record { pace = pace; limit = None }
advanced_in (pos ms) pace now current =
    if ms == 0 then record { pace = pace; limit = Some 0 }
    else passed_if_any pace (ms * 5000) ((now - pace.start) / (ms * 5000)) current

-- what a moment changes in a pace of its own time
abbrev pub advanced : Pace → ℕ → ℕ → Paced
advanced pace now current = advanced_in pace.ms pace now current

-- both decays of an arena go on to a moment
abbrev pub advance_all : Space → ℕ → Stepped
advance_all space now =
    let dirty = advanced space.dirty now (pages_listed rests.Dirty space.parts) in
    let muzzy = advanced space.muzzy now (pages_listed rests.Muzzy space.parts) in
    record { after = record space { dirty = dirty.pace; muzzy = muzzy.pace }; reply = Limits dirty.limit muzzy.limit }

-- tells both decays what time it is
abbrev pub after_advance : Space → ℕ → Stepped
after_advance space now = if_live space (advance_all space now)
