-- A client, and its call as that is fed.
use Rattle.std.specs.Prelude.{◌≡◌, ℕ, Option, IfSome}
use Rattle.heap_core.specs.Words.{option_map, DeskFacts, Item, Answered, CallFacts, HasRoomToHold, moment_of, named_call, aimed, after, Seat, seat_of}
use Rattle.heap_core.specs.declared.seats.Client.TheInside.{Inside}
use Rattle.heap_core.specs.Seats.{answer_of}

-- what callers see of a client: its call has the regions named that go back next
abbrev pub shown : Inside → Seat
shown c = record { desk = c.desk.facts; call = option_map (named_call c.desk.facts) c.call }

-- while its call is open, there is room for the regions that it may come to hold
abbrev pub HasDeskRoom : Inside → Type 0
HasDeskRoom c = IfSome c.call (λ call. HasRoomToHold c.desk.facts c.desk.room call.stage.next)

-- its call takes a region over in the arena with this index
abbrev pub aimed_seat : Seat → ℕ → Seat
aimed_seat seat arena = record seat { call = option_map (λ call. aimed call arena) seat.call }

-- what an item leaves of a call and its client: the call goes on or has its answer
abbrev pub FedTo : CallFacts → DeskFacts → Item → Option Answered → Seat → Type 0
FedTo call desk item ended seat = (seat ≡ seat_of call.client (after (moment_of call desk) item)) × (ended ≡ answer_of (after (moment_of call desk) item))
