-- The asks of a heap, and the places that are promised for those to come.
use Rattle.std.specs.Prelude.{◌≡◌, ◌<◌, ◌≤◌, ◌^◌, ◌-◌, ℕ, List, Option, length, slice_index_or}
use Rattle.heap_core.specs.Words.{slice_get, sum_by, AskFacts}
use Rattle.heap_core.specs.declared.logs.AskLog.TheInside.{Inside}

-- what callers see: the asks in order, and for how many more each client was promised places
pub record LogFacts : Type 0 where
  pub asks : List AskFacts
  pub owed : List ℕ

-- how many places a client was promised
abbrev pub owed_to : List ℕ → ℕ → ℕ
owed_to owed c = slice_index_or owed c 0

-- the last ask, if there is one
abbrev pub last_asked : List AskFacts → Option AskFacts
last_asked asks = slice_get asks (length asks - 1)

-- all that was promised
abbrev pub all_owed : List ℕ → ℕ
all_owed owed = sum_by (λ n. n) owed

-- what callers see of a log
abbrev pub shown : Inside → LogFacts
shown log = record { asks = log.asks.items; owed = log.owed }

-- the total is that of all promises, there is a place for each, and the asks can be counted
pub record IsLog (log : Inside) : Type 0 where
  pub adds_up : log.total ≡ all_owed log.owed
  pub places : log.total ≤ log.asks.spare
  pub few : length log.asks.items < 2 ^ 64
