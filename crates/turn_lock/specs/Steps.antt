-- What each step on the table tells.
use Rattle.std.specs.Prelude.{ℕ, ◌≡◌, ◌≢◌, ◌%◌, List, [], ◌∷◌, ◌++◌, map, take, drop, slice_index, Some, None}
use mathlib.Core.Option.{some}
use lib.ListN.{get_elem?}
use Rattle.atomic_table.specs.Table.{Me, Step, rest}
use Rattle.turn_lock.specs.declared.view.Turn.{Turn}
use Rattle.turn_lock.specs.declared.view.Claim.{Claim}
use Rattle.turn_lock.specs.declared.view.Stage.TheVariants.{Idle, Waiting, Serving}
use Rattle.turn_lock.specs.declared.view.View.{View}
use Rattle.turn_lock.specs.History.{turn_of, entries, replay_turns, IsLegal}
use Rattle.turn_lock.specs.Rule.{IsClaim, staged}

-- a seat at the table
abbrev pub Sat : Type 0 → Type 0 → Type 0
Sat S E = Me S (View S E)

-- the claim after a turn: its history is the whole one and then the turn of its first number
abbrev pub with_turn : {E : Type 0} → Claim E → List (Turn E) → E → Claim E
with_turn c whole e = record { numbers = c.numbers; seen = whole ++ turn_of (slice_index c.numbers 0) e ∷ [] }

module _ {S E : Type 0} where
  -- a ticket was drawn, of which the low 64 bits were found
  abbrev pub drew : Step S → Sat S E → ℕ → Sat S E → Type 0
  drew st m r n = (k : ℕ) × (k % 18446744073709551616 ≡ r) × (n ≡ (staged m.0 (Waiting k), m.1))

  -- the slot went home with one more entry than the whole history had, which is now the history's last turn
  abbrev pub entry_added : (S → List E) → Step S → Sat S E → ℕ → Sat S E → Type 0
  entry_added kept st m r n = (k : ℕ) (whole : List (Turn E)) (c : Claim E) (y : S) (e : E)
      → m.0.stage ≡ Serving k whole → m.0.claims ≡ c ∷ [] → m.1 ≡ (0, y) ∷ [] → kept y ≡ entries whole ++ e ∷ []
      → n ≡ (record { first = m.0.first; stage = Idle; claims = with_turn c whole e ∷ [] }, [])

  -- the slot went home, and the seat knows what it knew before
  abbrev pub nothing_added : Step S → Sat S E → ℕ → Sat S E → Type 0
  nothing_added st m r n = n ≡ (staged m.0 Idle, rest m.1)

  -- the first number alone
  abbrev pub first_part : View S E → View S E
  first_part v = record { first = v.first; stage = v.stage; claims = map (λ c. record { numbers = take 1 c.numbers; seen = c.seen }) v.claims }

  -- the numbers after the first
  abbrev pub later_part : View S E → View S E
  later_part v = record { first = v.first; stage = Idle; claims = map (λ c. record { numbers = drop 1 c.numbers; seen = c.seen }) v.claims }

  -- the claims of both
  abbrev pub both_views : View S E → View S E → View S E
  both_views v w = record { first = v.first; stage = v.stage; claims = w.claims ++ v.claims }

  -- a view that was joined to another knows nothing
  abbrev pub spent : View S E
  spent = record { first = None; stage = Idle; claims = [] }

module _ {S O E R : Type 0} (logs : S → ℕ → O → E → Type 0) (after : S → E → S × R) (kept : S → List E) where
  -- the seat with the ticket k took the slot, whose value is the replay of the whole history
  pub record Enters (k : ℕ) (v : View S E) (n : Sat S E) : Type 0 where
    pub log : List (Turn E)
    pub value : S
    pub seat : n ≡ (staged v (Serving k log), (0, value) ∷ [])
    pub replayed : (s : S) → v.first ≡ Some s → (value ≡ replay_turns after s log) × IsLegal logs after s log
    pub keeps : kept value ≡ entries log
    pub claims : (i : ℕ) (c : Claim E) → get_elem? v.claims i ≡ some c → IsClaim log c

  -- nothing changed where the ticket is not served, and else the seat entered
  abbrev pub looked : Step S → Sat S E → ℕ → Sat S E → Type 0
  looked st m r n = (k : ℕ) → m.0.stage ≡ Waiting k → m.1 ≡ [] → (r ≢ k % 18446744073709551616 → n ≡ m) × (r ≡ k % 18446744073709551616 → Enters k m.0 n)
