-- What a clause says of a lock and of its passes.
use Rattle.std.specs.Prelude.{ℕ, ◌≡◌, ◌≢◌, ◌+◌, ◌-◌, List, [], ◌∷◌, ◌++◌, Some, vec_capacity, vec_len}
use Rattle.std.specs.List.{All, AllPairs}
use mathlib.Core.List.{IsPrefix}
use Rattle.turn_lock.specs.declared.machine.Machine.{Ghosts}
use Rattle.turn_lock.specs.declared.lock.TurnLock.{TurnLock}
use Rattle.turn_lock.specs.declared.lock.Pass.{Pass}
use Rattle.turn_lock.specs.declared.lock.Passes.{Passes}
use Rattle.turn_lock.specs.declared.view.Turn.{Turn}
use Rattle.turn_lock.specs.History.{turn_of, entries, entries_by, replay_turns, IsLegal}
use Rattle.turn_lock.specs.Views.{seen_by}

module _ {M S O E R W : Type 0} where
  -- the state that the lock was made with
  abbrev pub first : TurnLock M S O E R W → S
  first lock = lock.table.shared.key.first.value

  -- how many numbers its passes share
  abbrev pub seat_count : TurnLock M S O E R W → ℕ
  seat_count lock = lock.table.shared.key.seats

  module _ {g : Ghosts M S O E R W} where
    -- the number under which a pass takes its turns
    abbrev pub number : Pass M S O E R W g → ℕ
    number pass = pass.number

    -- how many numbers it has to give away, from the one after its own on
    abbrev pub spare : Pass M S O E R W g → ℕ
    spare pass = pass.end - (pass.number + 1)

    -- the history that it has seen
    abbrev pub seen : Pass M S O E R W g → List (Turn E)
    seen pass = seen_by pass.seat.me.0.claims

    -- the entries that were made under its number
    abbrev pub own_entries : Pass M S O E R W g → List E
    own_entries pass = entries_by (number pass) (seen pass)

    -- how many numbers it has, its own and those that it has to give away
    abbrev pub held : Pass M S O E R W g → ℕ
    held pass = spare pass + 1

    -- it is a pass of this lock
    abbrev pub IsPassOf : TurnLock M S O E R W → Pass M S O E R W g → Type 0
    IsPassOf lock pass = (pass.seat.table_id ≡ lock.table.shared.table_id) × (pass.seat.me.0.first ≡ Some (first lock))

    -- what belongs to the pass's number after the history that it has seen
    abbrev pub own_known : (S → E → S × R) → (S → ℕ → W) → TurnLock M S O E R W → Pass M S O E R W g → W
    own_known after own lock pass = own (replay_turns after (first lock) (seen pass)) (number pass)

    -- the passes in a list of passes
    abbrev pub passes : Passes M S O E R W g → List (Pass M S O E R W g)
    passes others = others.items.items

    -- how many passes can be added to it
    abbrev pub room : Passes M S O E R W g → ℕ
    room others = vec_capacity others.items - vec_len others.items

    -- a pass's history begins the whole one, in which the entries of its number are those that it made
    abbrev pub HasMade : List (Turn E) → Pass M S O E R W g → Type 0
    HasMade log pass = IsPrefix (seen pass) log × (entries_by (number pass) log ≡ own_entries pass)

  -- a turn that replied r: the turns before it and its entry, what it met, and what it left
  pub record Turned (logs : S → ℕ → O → E → Type 0) (after : S → E → S × R) (own : S → ℕ → W) {g : Ghosts M S O E R W} (lock : TurnLock M S O E R W) (old new : Pass M S O E R W g) (op : O) (r : R) : Type 0 where
    pub before : List (Turn E)
    pub entry : E
    -- the history begins with all that the pass had seen, and ends with its own turn
    pub begins : IsPrefix (seen old) before
    pub ends : seen new ≡ before ++ turn_of (number old) entry ∷ []
    pub legal : IsLegal logs after (first lock) (seen new)
    -- the entry and the reply are the machine's at that place
    pub logged : logs (replay_turns after (first lock) before) (number old) op entry
    pub reply : r ≡ (after (replay_turns after (first lock) before) entry).1
    -- the entries of the number are those from before and this one
    pub made : own_entries new ≡ own_entries old ++ entry ∷ []
    -- what belongs to the number is what the pass knew, and the pass knows what the turn left to it
    pub met : own (replay_turns after (first lock) before) (number old) ≡ own_known after own lock old
    pub left : own_known after own lock new ≡ own (after (replay_turns after (first lock) before) entry).0 (number old)

  -- a state is the replay of a whole history, and keeps its entries. The history has the entries that these passes made, and no others
  pub record IsWhole (logs : S → ℕ → O → E → Type 0) (after : S → E → S × R) (kept : S → List E) (start : S → S) {g : Ghosts M S O E R W} (first : S) (all : List (Pass M S O E R W g)) (state : S) : Type 0 where
    pub log : List (Turn E)
    pub replayed : state ≡ replay_turns after first log
    pub begun : start state ≡ start first
    pub keeps : kept state ≡ entries log
    pub legal : IsLegal logs after first log
    pub apart : AllPairs (λ p q. number p ≢ number q) all
    pub made : All (HasMade log) all
    pub others : (n : ℕ) → All (λ pass. number pass ≢ n) all → entries_by n log ≡ []
