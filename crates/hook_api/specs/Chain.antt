-- The chain of asks of a shelf, and what it is at each box number.
use Rattle.std.specs.Prelude.{◌≡◌, ℕ, ◌+◌, ◌≤◌, ◌==◌, not, List, [], ◌∷◌, ◌++◌, count_by, map, filter, Option, IfSome, IsSomeAnd}
use Rattle.space_model.specs.declared.Heard.{Heard}
use Rattle.hook_api.specs.declared.plans.Kind.{Kind}
use Rattle.hook_api.specs.Asked.{AskFacts, heard_in}
use Rattle.hook_api.specs.Counts.{capped}
use Rattle.hook_api.specs.Shelf.{AskStep, BoxState, PlanStep, Shelf, box_at, count_of}

-- what happens to a shelf: an ask is made, or a plan is set
pub data Event : Type 0 where
  Made : AskFacts → Event
  PlanSet : (box_no : ℕ) (kind : Kind) (nth : ℕ) → Event

-- one event of a shelf
abbrev pub EventStep : Shelf → Event → Shelf → Type 0
EventStep old (Made asked) new = AskStep old asked new
EventStep old (PlanSet box_no kind nth) new = PlanStep old box_no kind nth new

-- these events, one after another, lead from one shelf to the other
abbrev pub Chain : Shelf → List Event → Shelf → Type 0
Chain old [] new = new ≡ old
Chain old (event ∷ events) new = (mid : Shelf) × EventStep old event mid × Chain mid events new

-- these asks alone, one after another, lead from one shelf to the other
abbrev pub AskChain : Shelf → List AskFacts → Shelf → Type 0
AskChain old asks new = Chain old (map Made asks) new

-- the asks among the events, in order
abbrev pub asks_in : List Event → List AskFacts
asks_in [] = []
asks_in (Made asked ∷ events) = asked ∷ asks_in events
asks_in (PlanSet box_no kind nth ∷ events) = asks_in events

-- the asks of a box number, in order
abbrev pub asks_of : ℕ → List AskFacts → List AskFacts
asks_of n asks = filter (λ asked. asked.box_no == n) asks

-- so many places from this one on: each is the next number, or all stand at the greatest u64 once it is reached
abbrev pub places_from : ℕ → List AskFacts → List ℕ
places_from place [] = []
places_from place (asked ∷ asks) = place ∷ places_from (capped (place + 1)) asks

-- the place after those of the asks
abbrev pub place_after : ℕ → List AskFacts → ℕ
place_after place [] = place
place_after place (asked ∷ asks) = place_after (capped (place + 1)) asks

-- The count of refusals rises along the asks: it is at least `low` before the first, never falls in an ask or
-- between two, and is at most `high` after the last.
abbrev pub CountsRise : ℕ → List AskFacts → ℕ → Type 0
CountsRise low [] high = low ≤ high
CountsRise low (asked ∷ asks) high = (low ≤ asked.before) × (asked.before ≤ asked.after) × CountsRise asked.after asks high

-- what a box heard: the asks that no plan refused, with their answers
abbrev pub heard_by_box : List AskFacts → List Heard
heard_by_box asks = map heard_in (filter (λ asked. not asked.planned) asks)

-- who tells now told before too, and has told just this more
abbrev pub TellsAll : Option (List Heard) → List Heard → Option (List Heard) → Type 0
TellsAll old heard new = IfSome new (λ all. IsSomeAnd old (λ before. all ≡ before ++ heard))

-- a chain at one box number: its state before, its asks, and its state after
pub record BoxChain (old : BoxState) (asks : List AskFacts) (new : BoxState) : Type 0 where
  pub places : map (λ (asked : AskFacts). asked.place) asks ≡ places_from old.book.next_place asks
  pub next_place : new.book.next_place ≡ place_after old.book.next_place asks
  pub counts : CountsRise (count_of old) asks (count_of new)
  pub planned : capped new.book.planned ≡ capped (old.book.planned + count_by (λ (asked : AskFacts). asked.planned) asks)
  pub told : TellsAll old.account.told (heard_by_box asks) new.account.told

-- after an event of the shelf that it leads to, a chain goes on
abbrev pub ChainExtends : Type 0
ChainExtends = (old mid new : Shelf) (events : List Event) (event : Event)
    → Chain old events mid → EventStep mid event new → Chain old (events ++ event ∷ []) new

-- after an ask of the shelf that it leads to, a chain of asks goes on
abbrev pub AskChainExtends : Type 0
AskChainExtends = (old mid new : Shelf) (asks : List AskFacts) (asked : AskFacts)
    → AskChain old asks mid → AskStep mid asked new → AskChain old (asks ++ asked ∷ []) new

-- a chain is a chain at each box number
abbrev pub ChainAtEachBox : Type 0
ChainAtEachBox = (old new : Shelf) (events : List Event) (n : ℕ)
    → Chain old events new → BoxChain (box_at old n) (asks_of n (asks_in events)) (box_at new n)

-- a chain of asks is a chain at each box number
abbrev pub AskChainAtEachBox : Type 0
AskChainAtEachBox = (old new : Shelf) (asks : List AskFacts) (n : ℕ)
    → AskChain old asks new → BoxChain (box_at old n) (asks_of n asks) (box_at new n)
