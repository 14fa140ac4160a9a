-- The claims of a pass, and what a turn does to them.
use Rattle.std.specs.Prelude.{ℕ, ◌≡◌, ◌<◌, List, [], ◌∷◌, ◌++◌}
use mathlib.Core.List.{IsPrefix}
use Rattle.turn_lock.specs.declared.view.Turn.{Turn}
use Rattle.turn_lock.specs.declared.view.Claim.{Claim}
use Rattle.turn_lock.specs.History.{turn_of, entries_by, replay_turns, IsLegal}
use Rattle.turn_lock.specs.Rule.{times}

module _ {E : Type 0} where
  -- the history of the first claim
  abbrev pub seen_by : List (Claim E) → List (Turn E)
  seen_by [] = []
  seen_by (c ∷ cs) = c.seen

  -- the numbers of the first claim
  abbrev pub first_numbers : List (Claim E) → List ℕ
  first_numbers [] = []
  first_numbers (c ∷ cs) = c.numbers

module _ {S O E R W : Type 0} (logs : S → ℕ → O → E → Type 0) (after : S → E → S × R) (own : S → ℕ → W) where
  -- a turn of the number n replied r: what was seen before, what was seen after it, and what it met
  pub record Served (first : S) (n : ℕ) (numbers : List ℕ) (op : O) (r : R) (old new : List (Turn E)) : Type 0 where
    pub before : List (Turn E)
    pub entry : E
    pub ends : new ≡ before ++ turn_of n entry ∷ []
    pub begins : IsPrefix old before
    pub legal : IsLegal logs after first new
    pub logged : logs (replay_turns after first before) n op entry
    pub reply : r ≡ (after (replay_turns after first before) entry).1
    pub made : (m : ℕ) → 0 < times m numbers → entries_by m before ≡ entries_by m old
    pub met : own (replay_turns after first before) n ≡ own (replay_turns after first old) n
