-- The clients of a heap: what each has, its open call, and how both change.
use Rattle.std.specs.Prelude.{ℕ, false, List, [], Option, None, Some, is_some, replicate, slice_index_or}
use Rattle.heap_core.specs.Words.{position, AskFacts, Held, DeskFacts, held_at, Request, Free, FreeForeign, Answered, CallFacts, Seat, ended_by, heard_next, Moment, begin}

-- what a client has before its first call: it allocates from arena 0, has its cache off, and has no region
abbrev pub first_desk : DeskFacts
first_desk = record { arena = 0; caches = false; cached = replicate 41 []; held = []; hand = None; gained = None; set = []; swapped = None }

-- a client before its first call
abbrev pub first_seat : Seat
first_seat = record { desk = first_desk; call = None }

-- the client with an index
abbrev pub seat_at : List Seat → ℕ → Seat
seat_at seats c = slice_index_or seats c first_seat

-- the ask whose answer an open call takes in next, where it does
abbrev pub heard_by : Option CallFacts → Option AskFacts
heard_by None = None
heard_by (Some call) = heard_next call.stage.next

-- the answer of a call, if it has ended at this moment
abbrev pub answer_of : Moment → Option Answered
answer_of at = ended_by at.stage.next

-- the first client that holds a region at the address, if one does
abbrev pub holder_of : ℕ → List Seat → Option ℕ
holder_of addr seats = position (λ seat. is_some (held_at addr seat.desk)) seats

-- the region that some client holds at an address, by the index of its holder
abbrev pub held_by : ℕ → List Seat → Option ℕ → Option Held
held_by addr seats None = None
held_by addr seats (Some holder) = held_at addr (seat_at seats holder).desk

-- a free of a region that the client holds, or else of one that another client holds
abbrev pub free_request : ℕ → Option Held → Option Held → Request
free_request addr None (Some region) = FreeForeign addr region.arena
free_request addr own others = Free addr

-- what a client asks for: a free of a region that another client holds takes it over first
abbrev pub asked_for : List Seat → ℕ → Request → Request
asked_for seats c (Free addr) = free_request addr (held_at addr (seat_at seats c).desk) (held_by addr seats (holder_of addr seats))
asked_for seats c request = request

-- the moment at which the request of a client begins
abbrev pub begun : List Seat → ℕ → Request → Moment
begun seats c request = begin (asked_for seats c request) (seat_at seats c).desk
