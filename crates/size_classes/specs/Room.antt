-- What a contract sees of a list of addresses.
use Rattle.std.specs.Prelude.{ℕ, List}

-- the addresses in order, and how many more fit before memory is needed
pub record AddrList : Type 0 where
  pub items : List ℕ
  pub room : ℕ
