-- How many calls were made in phases, and how many of them weren't answered Ok, each up to the greatest number that is counted.
use Rattle.std.specs.Prelude.{ℕ, ◌+◌, ◌-◌, ◌≤◌, ◌^◌, min, List, [], ◌∷◌, if◌then◌else◌}
use Rattle.call_plan.specs.declared.needs.Answered.{Answered}
use Rattle.phase_run.specs.declared.tally.Tally.{Tally}
use Rattle.phase_run.specs.Requests.{is_failed}

-- the greatest number that is counted
abbrev pub most : ℕ
most = 2 ^ 64 - 1

-- a sum, up to the greatest `u64`
abbrev pub capped_sum : ℕ → ℕ → ℕ
capped_sum n more = min (n + more) most

-- no call was made
abbrev pub no_answers : Tally
no_answers = record { calls = 0; failed = 0 }

-- both counts are such as are counted
pub record IsCapped (tally : Tally) : Type 0 where
  pub calls : tally.calls ≤ most
  pub failed : tally.failed ≤ most

-- the tally with what another one counted
abbrev pub added : Tally → Tally → Tally
added tally other = record { calls = capped_sum tally.calls other.calls; failed = capped_sum tally.failed other.failed }

-- the tally with one more answer
abbrev pub tallied : Tally → Answered → Tally
tallied tally answer = added tally (record { calls = 1; failed = if is_failed answer then 1 else 0 })

-- the tally with each of some answers counted
abbrev pub tally_with : Tally → List Answered → Tally
tally_with tally [] = tally
tally_with tally (answer ∷ answers) = tally_with (tallied tally answer) answers
