-- What a clause says of a shared shelf.
use Rattle.std.specs.Prelude.{ℕ, ◌≡◌, ◌+◌, ◌≤◌, ◌⊎◌, replicate, List, slice_index_or, slice_set, Option}
use Rattle.hook_api.specs.declared.orders.Orders.{Orders}
use Rattle.hook_api.specs.declared.plans.Kind.{Kind}
use Rattle.hook_api.specs.declared.plans.Plan.{Plan}
use Rattle.hook_api.specs.declared.seat.AskSeat.{AskSeat}
use Rattle.hook_api.specs.declared.shared.SharedShelf.{SharedShelf}
use Rattle.hook_api.specs.Asked.{AskFacts}
use Rattle.hook_api.specs.Counts.{greatest}
use Rattle.hook_api.specs.Orders.{no_orders, plan_for, with_order}
use Rattle.hook_api.specs.Shelf.{BoxState, BoxStep}

-- an ask of a box number in some state, as a shelf asks it
abbrev pub IsAskOfSome : AskFacts → Type 0
IsAskOfSome asked = (from : BoxState) × (after : BoxState) × BoxStep from asked after

-- one more plan is set for a box number and a kind
abbrev pub with_plan_set : List Orders → ℕ → Kind → ℕ → List Orders
with_plan_set orders n kind nth = slice_set orders n (with_order (slice_index_or orders n no_orders) kind nth)

module _ {H : Type 0} where
  -- how many clients it is shared by
  abbrev pub client_count : SharedShelf H → ℕ
  client_count shelf = shelf.locks.table.shared.key.clients

  -- the boxes' own counts when they came to be shared
  abbrev pub own_at_share : SharedShelf H → List ℕ
  own_at_share shelf = shelf.locks.table.shared.key.own

  -- the plans that were set last for each box number
  abbrev pub orders_of : SharedShelf H → List Orders
  orders_of shelf = shelf.orders

  -- the plan that was set last for a box number and the kind of an ask
  abbrev pub plan_of_kind : SharedShelf H → ℕ → Option Kind → Plan
  plan_of_kind shelf n kind = plan_for (slice_index_or shelf.orders n no_orders) kind

  -- it is a seat of this shelf
  abbrev pub IsSeatOf : SharedShelf H → AskSeat → Type 0
  IsSeatOf shelf seat = seat.badge.table_id ≡ shelf.locks.table.shared.table_id

  -- the locks are the same, and so are the seats and the counts when they were made
  abbrev pub same_locks : SharedShelf H → SharedShelf H → Type 0
  same_locks old new = new.locks ≡ old.locks

-- a seat that has asked nothing
abbrev pub IsNewSeat : AskSeat → Type 0
IsNewSeat seat = (seat.places ≡ replicate 32 0) × (seat.refused ≡ replicate 32 0)

-- A box that counted `first` refusals when it came to be shared, and counts `own` now, has counted at least so many
-- since, or its count stands at the greatest u64.
abbrev pub HasCounted : ℕ → ℕ → ℕ → Type 0
HasCounted first own refused = (first + refused ≤ own) ⊎ (greatest ≤ own)
