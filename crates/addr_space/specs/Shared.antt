-- What contracts see of a box over a shared space.
use Rattle.std.specs.Prelude.{ℕ, None}
use Rattle.hook_api.specs.Hooks.{Account}

-- the box tells nothing, and counts what it refused itself
abbrev pub shared_account : ℕ → Account
shared_account refusals = record { told = None; refusals = refusals }
