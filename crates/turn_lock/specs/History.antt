-- Histories: the turns that were taken under a lock, in their order.
use Rattle.std.specs.Prelude.{ℕ, ◌==◌, List, [], ◌∷◌, map}
use Rattle.std.specs.List.{filter, fold}
use Rattle.turn_lock.specs.declared.view.Turn.{Turn}

-- the turn of a number, with its entry
abbrev pub turn_of : {E : Type 0} → ℕ → E → Turn E
turn_of n e = record { number = n; entry = e }

-- the entries of a history
abbrev pub entries : {E : Type 0} → List (Turn E) → List E
entries turns = map (λ t. t.entry) turns

-- the entries that were made under a number
abbrev pub entries_by : {E : Type 0} → ℕ → List (Turn E) → List E
entries_by n turns = entries (filter (λ t. t.number == n) turns)

-- the state after all turns of a history, where it was s before
abbrev pub replay_turns : {S E R : Type 0} → (S → E → S × R) → S → List (Turn E) → S
replay_turns after s turns = fold (λ s t. (after s t.entry).0) s turns

module _ {S O E R : Type 0} (logs : S → ℕ → O → E → Type 0) (after : S → E → S × R) where
  -- each entry is what the machine logs at its place, of some operation
  abbrev pub IsLegal : S → List (Turn E) → Type 0
  IsLegal s [] = Unit {0}
  IsLegal s (t ∷ ts) = ((op : O) × logs s t.number op t.entry) × IsLegal (after s t.entry).0 ts
