-- How many asks a client may make until its next turn that takes memory, and what is so of a heap's clients.
use Rattle.std.specs.Prelude.{◌≡◌, ◌<◌, ◌≤◌, ℕ, ◌+◌, List, Option, None, Some, length, if◌then◌else◌}
use Rattle.heap_core.specs.Words.{opens, Point, Turns, Asks, Tells, Next, Go, CallFacts, op_at, room_in, Record, Seat}
use Rattle.heap_core.specs.Logs.{owed_to}
use Rattle.heap_core.specs.Seats.{seat_at}
use Rattle.heap_core.specs.Sitting.{SeatSound}

-- the asks that may come from a point on, where the client has so much room: one before each turn without memory, and one more,
-- but none where a turn comes first that takes memory
abbrev pub asks_at : ℕ → Point → ℕ
asks_at room (Turns point) = if opens (op_at point) then 0 else room + 1
asks_at room (Asks point None) = room + 1
asks_at room (Asks point (Some asked)) = room
asks_at room (Tells span is_committed) = 1

-- the same by where a call stands
abbrev pub asks_next : ℕ → Next → ℕ
asks_next room (Go point) = asks_at room point
asks_next room next = 0

-- the asks that may come of a client's call
abbrev pub owing : List Record → ℕ → Option CallFacts → ℕ
owing records c None = 0
owing records c (Some call) = asks_next (room_in records call.stage.arena c) call.stage.next

-- There are 32 clients, each is as it has to be, and has places for the asks that may come of its call.
pub record IsHeap (records : List Record) (seats : List Seat) (owed : List ℕ) : Type 0 where
  pub number : length seats ≡ 32
  pub sound : (c : ℕ) → c < 32 → SeatSound records c (seat_at seats c)
  pub promised : (c : ℕ) → c < 32 → owing records c (seat_at seats c).call ≤ owed_to owed c
