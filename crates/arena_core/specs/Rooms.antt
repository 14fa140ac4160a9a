-- What a table of rooms keeps.
use Rattle.std.specs.Prelude.{◌≡◌, ℕ, List}
use Rattle.std.specs.List.{sum_by}
use Rattle.arena_core.specs.declared.rooms.Rooms.TheInside.{Inside}

-- callers see the room of each client
abbrev pub shown : Inside → List ℕ
shown table = table.rooms

-- the total is their sum
abbrev pub IsRooms : Inside → Type 0
IsRooms table = table.total ≡ sum_by (λ room. room) table.rooms
