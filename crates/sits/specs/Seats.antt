-- A client, and its call while one is open.
use Rattle.std.specs.Prelude.{ℕ, Option, None, Some}
use Rattle.sits.specs.Words.{CallFacts, DeskFacts, Go, Moment, Next}

-- A client of a heap: what it has, and its call while one is open.
pub record Seat : Type 0 where
  pub desk : DeskFacts
  pub call : Option CallFacts

-- the call of a client, while it waits at a point
abbrev pub open_call : ℕ → Moment → Next → Option CallFacts
open_call c at (Go point) = Some (record { client = c; request = at.request; stage = at.stage })
open_call c at next = None

-- a client whose call came to this moment
abbrev pub seat_of : ℕ → Moment → Seat
seat_of c at = record { desk = at.desk; call = open_call c at at.stage.next }
