-- The rule of the two words and the slot.
-- Word 0 is the next ticket and word 1 the ticket that is served, both by their low 64 bits. Slot 0 has the state, and is out with the seat that is served.
use Rattle.std.specs.Prelude.{ℕ, ◌≡◌, ◌==◌, ◌+◌, ◌%◌, ◌<◌, ◌≤◌, ◌⊎◌, Bool, true, false, List, [], ◌∷◌, length, if◌then◌else◌, nat_lt, Some}
use Rattle.std.specs.List.{range_with_len}
use mathlib.Core.Option.{Option, none, some}
use mathlib.Core.List.{IsPrefix}
use lib.ListN.{get_elem?}
use Rattle.atomic_table.specs.Table.{State}
use Rattle.turn_lock.specs.declared.view.Turn.{Turn}
use Rattle.turn_lock.specs.declared.view.Claim.{Claim}
use Rattle.turn_lock.specs.declared.view.Stage.{Stage}
use Rattle.turn_lock.specs.declared.view.Stage.TheVariants.{Idle, Waiting, Serving}
use Rattle.turn_lock.specs.declared.view.View.{View}
use Rattle.turn_lock.specs.History.{entries, entries_by, replay_turns, IsLegal}

-- what f gives of the elements, added up
abbrev pub total : {A : Type 0} → (A → ℕ) → List A → ℕ
total f [] = 0
total f (x ∷ xs) = f x + total f xs

-- 1 where the numbers are equal, and else 0
abbrev pub same : ℕ → ℕ → ℕ
same n m = if m == n then 1 else 0

-- how often n is among the numbers
abbrev pub times : ℕ → List ℕ → ℕ
times n xs = total (same n) xs

module _ {E : Type 0} where
  -- how many tickets a stage has, 0 or 1
  abbrev pub tickets_in : Stage E → ℕ
  tickets_in Idle = 0
  tickets_in (Waiting t) = 1
  tickets_in (Serving t whole) = 1

  -- the ticket, if there is one
  abbrev pub ticket_of : Stage E → Option ℕ
  ticket_of Idle = none
  ticket_of (Waiting t) = some t
  ticket_of (Serving t whole) = some t

  -- whether the seat is served
  abbrev pub is_serving : Stage E → Bool
  is_serving Idle = false
  is_serving (Waiting t) = false
  is_serving (Serving t whole) = true

  -- whether the seat has no ticket
  abbrev pub is_idle : Stage E → Bool
  is_idle Idle = true
  is_idle (Waiting t) = false
  is_idle (Serving t whole) = false

  -- a claim's history begins the whole one, and has all entries of its numbers
  abbrev pub IsClaim : List (Turn E) → Claim E → Type 0
  IsClaim log c = IsPrefix c.seen log × ((n : ℕ) → 0 < times n c.numbers → entries_by n log ≡ entries_by n c.seen)

  -- a ticket stands in the line, and the seat that is served knows the whole history
  abbrev pub StandsIn : List (Turn E) → ℕ → ℕ → Stage E → Type 0
  StandsIn log served waiting Idle = Unit {0}
  StandsIn log served waiting (Waiting t) = (served ≤ t) × (t < served + waiting)
  StandsIn log served waiting (Serving t whole) = (t ≡ served) × (0 < waiting) × (whole ≡ log)

module _ {S E : Type 0} where
  -- how many numbers a view has
  abbrev pub number_count : View S E → ℕ
  number_count v = total (λ c. length c.numbers) v.claims

  -- how often it has the number n
  abbrev pub has : ℕ → View S E → ℕ
  has n v = total (λ c. times n c.numbers) v.claims

  -- how many tickets it has, 0 or 1
  abbrev pub tickets : View S E → ℕ
  tickets v = tickets_in v.stage

  -- the same view in another stage
  abbrev pub staged : View S E → Stage E → View S E
  staged v stage = record { first = v.first; stage = stage; claims = v.claims }

  -- what the rule says of one view
  pub record IsTrueView (first : S) (log : List (Turn E)) (served waiting : ℕ) (v : View S E) : Type 0 where
    pub begun : (s : S) → v.first ≡ Some s → s ≡ first
    pub claims : (i : ℕ) (c : Claim E) → get_elem? v.claims i ≡ some c → IsClaim log c
    pub named : tickets v ≤ number_count v
    pub stands : StandsIn log served waiting v.stage

  -- no seat is served: none is between the load that found its ticket and the step that serves the next one
  abbrev pub NoneServed : List (View S E) → Type 0
  NoneServed views = (j : ℕ) (v : View S E) → get_elem? views j ≡ some v → is_serving v.stage ≡ false

  -- the value is at home and no seat is served, or a seat that is served has it
  abbrev pub Slot : S → List (Option S) → List (View S E) → Type 0
  Slot value homes views = ((homes ≡ some value ∷ []) × NoneServed views) ⊎ ((homes ≡ none ∷ []) × ((j : ℕ) × (v : View S E) × (get_elem? views j ≡ some v) × (is_serving v.stage ≡ true)))

  -- the view of the first seat
  abbrev pub opening_view : S → ℕ → View S E
  opening_view first seats = record { first = Some first; stage = Idle; claims = record { numbers = range_with_len 0 seats; seen = [] } ∷ [] }

module _ {S O E R : Type 0} (logs : S → ℕ → O → E → Type 0) (after : S → E → S × R) (kept : S → List E) where
  -- the line of tickets, the numbers of the passes, the whole history and the slot
  pub record Rule (first : S) (seats : ℕ) (s : State S (View S E)) : Type 0 where
    pub log : List (Turn E)
    pub served : ℕ
    pub waiting : ℕ
    -- the words are the next ticket and the one that is served, and as many seats have a ticket as stand between
    pub words : s.words ≡ ((served + waiting) % 18446744073709551616) ∷ (served % 18446744073709551616) ∷ []
    pub line : total tickets s.views ≡ waiting
    -- each number below the number of seats belongs to one view
    pub room : total number_count s.views ≡ seats
    pub once : (n : ℕ) → total (has n) s.views ≡ (if nat_lt n seats then 1 else 0)
    pub small : seats < 4294967296
    -- the history has at most one turn for each ticket that was served, and is one that the machine may have
    pub turns : length log ≤ served
    pub legal : IsLegal logs after first log
    pub keeps : kept (replay_turns after first log) ≡ entries log
    pub named : (n : ℕ) → seats ≤ n → entries_by n log ≡ []
    -- what each view says is true, and no two have one ticket
    pub knows : (j : ℕ) (v : View S E) → get_elem? s.views j ≡ some v → IsTrueView first log served waiting v
    pub apart : (i j : ℕ) (v w : View S E) (t : ℕ) → get_elem? s.views i ≡ some v → get_elem? s.views j ≡ some w → ticket_of v.stage ≡ some t → ticket_of w.stage ≡ some t → i ≡ j
    -- the value, at home or out with the seat that is served, is the replay of the history
    pub slot : Slot (replay_turns after first log) s.homes s.views
