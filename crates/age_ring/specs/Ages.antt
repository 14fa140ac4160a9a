-- What callers see of a ring.
use Rattle.std.specs.Prelude.{ℕ, List}

-- the numbers in the order in which they came, each below the number of places
pub record Ages : Type 0 where
  pub numbers : List ℕ
  pub places : ℕ
