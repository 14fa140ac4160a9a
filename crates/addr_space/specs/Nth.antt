-- What contracts see of a box of which one call is refused.
use Rattle.std.specs.Prelude.{◌≡◌, ◌≢◌, ℕ, ◌+◌}
use Rattle.hook_api.specs.Counts.{capped}
use Rattle.hook_api.specs.Hooks.{Account}
use Rattle.addr_space.specs.Hooks.{Placing, placing_account}

-- the box behind, and which of the calls to come is refused, counted from 1; 0 where none is
pub record Nth : Type 0 where
  pub inner : Placing
  pub nth : ℕ

-- the call that comes is the one that is refused
abbrev pub RefusesNow : Nth → Type 0
RefusesNow hooks = hooks.nth ≡ 1

-- the call that comes isn't the one that is refused
abbrev pub PassesNow : Nth → Type 0
PassesNow hooks = hooks.nth ≢ 1

-- the box behind after a refusal of its own or one that is planned: nothing else changed
abbrev pub refused_once : Placing → Placing
refused_once old = record old { refusals = capped (old.refusals + 1) }

-- what is told and counted is what the box behind tells and counts
abbrev pub nth_account : Nth → Account
nth_account hooks = placing_account hooks.inner
