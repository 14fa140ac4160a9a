-- What is so of a client's call among arenas, by what the client owns in each.
use Rattle.std.specs.Prelude.{◌≡◌, ◌≢◌, ℕ, ◌<◌, ◌≤◌, false, IsTrue, List, Option}
use Rattle.sits.specs.Words.{AskFacts, Ends, Go, NotLive, Idle, IsKept, Knows, Mine, NextBatch, Move, Next, Nowhere, Op, InArena, Point, Record, entry_of, flying, mine, needed_at, opens, stands, with_found}
use Rattle.sits.specs.Arenas.{record_at, room_in}

-- what a client owns in an arena
abbrev pub mine_in : List Record → ℕ → ℕ → Mine
mine_in records c i = mine c (record_at records i).space

-- the client has nothing in flight and nothing offered in any arena
abbrev pub IsIdle : List Record → ℕ → Type 0
IsIdle records c = (i : ℕ) → Idle (mine_in records c i)

-- A client's call waits at a point of an arena: it knows there what it has to, has the room that it needs, and has nothing in
-- flight in any other arena.
pub record Waits (records : List Record) (c arena : ℕ) (point : Point) : Type 0 where
  pub there : arena < 32
  pub knows : Knows (mine_in records c arena) point
  pub elsewhere : (i : ℕ) → i ≢ arena → Idle (mine_in records c i)
  pub room : needed_at (flying (mine_in records c arena)) point ≤ room_in records arena c

-- where a call goes next it waits again, or has nothing in flight: at its end, before its next batch, where another region takes the
-- place of the one in hand, or where it goes over to another arena, whose first point then knows all that it has to
abbrev pub WaitsNext : List Record → ℕ → ℕ → Next → Type 0
WaitsNext records c arena (Go point) = Waits records c arena point
WaitsNext records c arena (InArena index point) = IsIdle records c × ((m : Mine) → Idle m → Knows m point)
WaitsNext records c arena NextBatch = IsIdle records c
WaitsNext records c arena (Move class) = IsIdle records c × (class < 121)
WaitsNext records c arena NotLive = IsIdle records c
WaitsNext records c arena (Ends answer) = IsIdle records c
WaitsNext records c arena Nowhere = ⊥

-- A turn of a waiting call may stand whatever chunk of another arena is found, there is room for it, and the ask that it carries is
-- at hand.
pub record CanTake (records : List Record) (c arena : ℕ) (found : Option ℕ) (op : Op) (asked : Option AskFacts) : Type 0 where
  pub stands : IsTrue (stands (record_at records arena).space (entry_of c (with_found found op)))
  pub room : opens op ≡ false → 0 < room_in records arena c
  pub kept : IsKept (entry_of c op) asked
