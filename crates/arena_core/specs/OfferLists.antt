-- The offers of an arena with the places that are left.
use Rattle.std.specs.Prelude.{ℕ, ◌-◌, List, vec_capacity, vec_len}
use Rattle.space_model.specs.declared.parts.Offered.{Offered}
use Rattle.arena_core.specs.declared.offer_list.OfferList.TheInside.{Inside}

-- what callers see of a list of offers: the offers in order, and how many more there are places for
pub record Offering : Type 0 where
  pub offers : List Offered
  pub spare : ℕ

-- the offers of the list, and the places behind them
abbrev pub shown : Inside → Offering
shown list = record { offers = list.offers.items; spare = vec_capacity list.offers - vec_len list.offers }
