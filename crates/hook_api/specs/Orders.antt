-- Plans that are set outside the lock of their box.
use Rattle.std.specs.Prelude.{◌≡◌, ℕ, ◌+◌, ◌<◌, ◌%◌, ◌^◌, Bool, List, slice_index_or, slice_set, replicate, Option, Some, None}
use Rattle.hook_api.specs.declared.plans.Plan.{Plan}
use Rattle.hook_api.specs.declared.plans.Plan.TheVariants.{Pass}
use Rattle.hook_api.specs.declared.plans.Kind.{Kind}
use Rattle.hook_api.specs.declared.orders.Order.{Order}
use Rattle.hook_api.specs.declared.orders.Orders.{Orders}
use Rattle.hook_api.specs.Plans.{kind_index, plan_after, plan_of, refuses_next}

-- no plan was ever set
abbrev pub no_order : Order
no_order = record { number = 0; plan = Pass }

-- no plan of any kind was ever set
abbrev pub no_orders : Orders
no_orders = record { kinds = replicate 8 no_order }

-- what was set last for a kind
abbrev pub order_at : Orders → Kind → Order
order_at orders kind = slice_index_or orders.kinds (kind_index kind) no_order

-- the plan that was set last for the kind of an ask, which a destroy has none of
abbrev pub plan_for : Orders → Option Kind → Plan
plan_for orders None = Pass
plan_for orders (Some kind) = (order_at orders kind).plan

-- one more plan is set for a kind
abbrev pub with_order : Orders → Kind → ℕ → Orders
with_order orders kind nth = record { kinds = slice_set orders.kinds (kind_index kind) record { number = ((order_at orders kind).number + 1) % 2 ^ 64; plan = plan_of nth } }

-- it is what some asks of its kind leave of a plan
abbrev pub IsLeftOf : Plan → Plan → Type 0
IsLeftOf plan left = (asks : ℕ) × (left ≡ plan_after plan asks)

-- whether an ask was refused as planned is what is left of this plan tells
abbrev pub IsByPlanOf : Plan → Bool → Type 0
IsByPlanOf plan planned = (left : Plan) × IsLeftOf plan left × (planned ≡ refuses_next left)

-- each plan is the one that was set last, as it was set
abbrev pub AreOf : Orders → List Plan → Type 0
AreOf orders plans = (i : ℕ) → i < 8 → (slice_index_or orders.kinds i no_order).plan ≡ slice_index_or plans i Pass

-- each plan is what is left of the one that was set last
abbrev pub AreInForce : Orders → List Plan → Type 0
AreInForce orders plans = (i : ℕ) → i < 8 → IsLeftOf (slice_index_or orders.kinds i no_order).plan (slice_index_or plans i Pass)
