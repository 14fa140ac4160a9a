-- The plans of a box number: which of its next asks are refused without being passed on.
use Rattle.std.specs.Prelude.{◌≡◌, ◌↔◌, ◌⊎◌, ℕ, zero, suc, ◌+◌, ◌-◌, ◌==◌, IsTrue, Bool, true, false, if◌then◌else◌, List, slice_index_or, slice_set, replicate, Option, Some, None}
use Rattle.space_model.specs.declared.Ask.{Ask}
use Rattle.space_model.specs.declared.Ask.TheVariants as ask
use Rattle.hook_api.specs.declared.plans.Kind.{Kind}
use Rattle.hook_api.specs.declared.plans.Kind.TheVariants.{Alloc, Dalloc, Commit, Decommit, PurgeLazy, PurgeForced, Split, Merge}
use Rattle.hook_api.specs.declared.plans.Plan.{Plan}
use Rattle.hook_api.specs.declared.plans.Plan.TheVariants.{Pass, After, All}

-- the kind of an ask; a destroy has none
abbrev pub kind_of : Ask → Option Kind
kind_of (ask.Alloc commit at pages align) = Some Alloc
kind_of (ask.Dalloc span committed) = Some Dalloc
kind_of (ask.Destroy span committed) = None
kind_of (ask.Commit span) = Some Commit
kind_of (ask.Decommit span) = Some Decommit
kind_of (ask.PurgeLazy span) = Some PurgeLazy
kind_of (ask.PurgeForced span) = Some PurgeForced
kind_of (ask.Split span left) = Some Split
kind_of (ask.Merge low high) = Some Merge

-- the number of a kind
abbrev pub kind_index : Kind → ℕ
kind_index Alloc = 0
kind_index Dalloc = 1
kind_index Commit = 2
kind_index Decommit = 3
kind_index PurgeLazy = 4
kind_index PurgeForced = 5
kind_index Split = 6
kind_index Merge = 7

-- the plan that refuses the nth ask from now on, or every ask where nth is 0
abbrev pub plan_of : ℕ → Plan
plan_of nth = if nth == 0 then All else After (nth - 1)

-- whether a plan refuses the next ask
abbrev pub refuses_next : Plan → Bool
refuses_next Pass = false
refuses_next (After passing) = passing == 0
refuses_next All = true

-- the plan after one ask: a refused nth ends it
abbrev pub next_plan : Plan → Plan
next_plan Pass = Pass
next_plan (After passing) = if passing == 0 then Pass else After (passing - 1)
next_plan All = All

-- no plan of any kind
abbrev pub no_plans : List Plan
no_plans = replicate 8 Pass

-- the plan of a kind
abbrev pub plan_at : List Plan → Kind → Plan
plan_at plans kind = slice_index_or plans (kind_index kind) Pass

-- the plans with another one for a kind
abbrev pub with_plan : List Plan → Kind → Plan → List Plan
with_plan plans kind plan = slice_set plans (kind_index kind) plan

-- whether a plan in force refuses an ask of this kind
abbrev pub refuses : List Plan → Option Kind → Bool
refuses plans None = false
refuses plans (Some kind) = refuses_next (plan_at plans kind)

-- the plans after an ask of this kind
abbrev pub plans_after : List Plan → Option Kind → List Plan
plans_after plans None = plans
plans_after plans (Some kind) = with_plan plans kind (next_plan (plan_at plans kind))

-- the plan after so many asks of its kind
abbrev pub plan_after : Plan → ℕ → Plan
plan_after plan zero = plan
plan_after plan (suc asks) = plan_after (next_plan plan) asks

-- a plan of nth refuses, after so many asks of its kind, the next one exactly where that is the nth, or where nth is 0
abbrev pub PlanRefusesNth : Type 0
PlanRefusesNth = (nth asks : ℕ) → IsTrue (refuses_next (plan_after (plan_of nth) asks)) ↔ ((nth ≡ 0) ⊎ (nth ≡ asks + 1))
