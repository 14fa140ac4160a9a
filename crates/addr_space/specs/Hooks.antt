-- What contracts see of the boxes.
use Rattle.std.specs.Prelude.{ℕ, List, None}
use Rattle.hook_api.specs.Hooks.{Account}

-- how many pages of each chunk are placed, and how often the provider has refused
pub record Placing : Type 0 where
  pub placed : List ℕ
  pub refusals : ℕ

-- the provider tells nothing, and counts what it refuses
abbrev pub placing_account : Placing → Account
placing_account facts = record { told = None; refusals = facts.refusals }
