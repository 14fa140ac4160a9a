-- Entries of a journal in few bytes, and their asks in a list of their own.
use Rattle.std.specs.Prelude.{◌≡◌, ℕ, ◌-◌, List, [], ◌∷◌, Option, None, Some, if◌then◌else◌, count_by, drop, length, min, slice_get, vec_capacity, vec_len}
use Rattle.hook_api.specs.Asked.{AskFacts}
use Rattle.hook_api.specs.Kept.{KeptFacts}
use Rattle.hook_api.specs.Deeds.{Bare, carried, with_heard}
use Rattle.hook_api.specs.Filling.{FillsIn, filled_in}
use Rattle.hook_api.specs.declared.kepts.Writing.TheInside.{Inside}

-- an entry again, beside the ask that was made for it
abbrev pub kept_of : Bare → Option AskFacts → KeptFacts
kept_of slot asked = record { entry = record { client = slot.client; op = with_heard slot.op (carried asked) }; asked = asked }

-- the ask of an entry: the first one that is left, where it has one
abbrev pub ask_of : Bare → List AskFacts → Option AskFacts
ask_of slot asks = if slot.asks then slice_get asks 0 else None

-- the asks that are left behind an entry
abbrev pub asks_after : Bare → List AskFacts → List AskFacts
asks_after slot asks = if slot.asks then drop 1 asks else asks

-- the entries, each beside its ask
abbrev pub paired : List Bare → List AskFacts → List KeptFacts
paired [] asks = []
paired (slot ∷ slots) asks = kept_of slot (ask_of slot asks) ∷ paired slots (asks_after slot asks)

-- there are just as many asks as entries that have one
abbrev pub IsPaired : List Bare → List AskFacts → Type 0
IsPaired slots asks = length asks ≡ count_by (λ (s : Bare). s.asks) slots

-- the ask that there is, if there is one
abbrev pub asks_in : Option AskFacts → List AskFacts
asks_in None = []
asks_in (Some asked) = asked ∷ []

-- what callers see of a journal that goes on: its entries with their asks, and for how many more it has places
pub record Written : Type 0 where
  pub kept : List KeptFacts
  pub spare : ℕ

-- the entries with their asks, and the places in each of the lists
abbrev pub written_pairs : Inside → Written
written_pairs w = record {
  kept = paired (filled_in w.few.items w.whole.items) w.asks.items;
  spare = min (min (vec_capacity w.few - vec_len w.few) (vec_capacity w.whole - vec_len w.whole)) w.asks.spare;
}

-- there are just as many whole entries as marks, and just as many asks as entries that have one
abbrev pub AreKept : List (Option Bare) → List Bare → List AskFacts → Type 0
AreKept few whole asks = FillsIn few whole × IsPaired (filled_in few whole) asks

-- the lists belong together
abbrev pub IsWriting : Inside → Type 0
IsWriting w = AreKept w.few.items w.whole.items w.asks.items
