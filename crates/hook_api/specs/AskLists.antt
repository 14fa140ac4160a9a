-- Asks in order, of which some stand in a list of their own.
use Rattle.std.specs.Prelude.{ℕ, ◌-◌, List, min, vec_capacity, vec_len}
use Rattle.hook_api.specs.Asked.{AskFacts}
use Rattle.hook_api.specs.Filling.{FillsIn, filled_in}
use Rattle.hook_api.specs.declared.ask_list.AskList.TheInside.{Inside}

-- what callers see of a list of asks: its asks in order, and how many more there are places for
pub record AskListFacts : Type 0 where
  pub items : List AskFacts
  pub spare : ℕ

-- the asks in order, and the places in both lists
abbrev pub asks_listed : Inside → AskListFacts
asks_listed list = record {
  items = filled_in list.narrow.items list.whole.items;
  spare = min (vec_capacity list.narrow - vec_len list.narrow) (vec_capacity list.whole - vec_len list.whole);
}

-- there are just as many whole asks as marks
abbrev pub IsAskList : Inside → Type 0
IsAskList list = FillsIn list.narrow.items list.whole.items
