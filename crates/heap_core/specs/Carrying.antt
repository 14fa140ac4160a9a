-- Calls that are carried out where they begin, as far as that goes.
use Rattle.std.specs.Prelude.{◌≡◌, ◌≢◌, ◌<◌, ◌≤◌, ℕ, Bool, true, false, List, [], ◌∷◌, Option, None, Ok, IfSome, if◌then◌else◌, is_some, length, nat_lt}
use Rattle.call_plan.specs.Clients.{DeskSeen}
use Rattle.size_classes.specs.Classes.{pages_at}
use Rattle.space_model.specs.declared.entries.Op.TheVariants.{Fill, Look}
use Rattle.heap_core.specs.Words.{option_map, CallFacts, DeskFacts, HasRoomToHold, Op, named_call, held_at, Request, Free, Reply, Replied, Go, Turns, TurnPoint, Moment, after, begin, op_at, taken_next, Answered, Record, Seat, Shelf, seat_of}
use Rattle.heap_core.specs.declared.heaps.Stepped.{Stepped}
use Rattle.heap_core.specs.Arenas.{IsArenas}
use Rattle.heap_core.specs.Heaps.{HeapFacts, IsStep, started}
use Rattle.heap_core.specs.Logs.{owed_to}
use Rattle.heap_core.specs.Seats.{answer_of, begun, seat_at}
use Rattle.heap_core.specs.Sitting.{SeatSound}
use Rattle.heap_core.specs.Stepping.{MadeTurn}

-- The arenas of a heap are as they have to be, and so is each of its 32 clients.
pub record Stands (h : HeapFacts) : Type 0 where
  pub arenas : IsArenas h.records
  pub clients : length h.seats ≡ 32
  pub seats : (c : ℕ) → c < 32 → SeatSound h.records c (seat_at h.seats c)

-- A step that was made: what it told, and the heap and the shelf after it.
pub record Made : Type 0 where
  pub told : Stepped
  pub heap : HeapFacts
  pub shelf : Shelf

-- Steps of a client's open call, which none of them but the last ended, lead from one heap and shelf to others, and give the answer
-- of the call, if it has ended.
abbrev pub Carried : HeapFacts → Shelf → ℕ → Option Answered → List Made → HeapFacts → Shelf → Option Answered → Type 0
Carried h shelf c ended [] h' shelf' ended' = (h' ≡ h) × (shelf' ≡ shelf) × (ended' ≡ ended)
Carried h shelf c ended (made ∷ later) h' shelf' ended' =
    Stands h × (ended ≡ None) × IsStep h shelf c (seat_at h.seats c).call made.told made.heap made.shelf
    × Carried made.heap made.shelf c made.told.ended later h' shelf' ended'

-- some steps of a client's call lead there
abbrev pub CarriedOn : HeapFacts → Shelf → ℕ → Option Answered → HeapFacts → Shelf → Option Answered → Type 0
CarriedOn h shelf c ended h' shelf' ended' = (steps : List Made) × Carried h shelf c ended steps h' shelf' ended'

-- the request of a client was carried out from its beginning on by some steps, and has this answer, if it has ended
abbrev pub CarriedOut : HeapFacts → Shelf → ℕ → Request → HeapFacts → Shelf → Option Answered → Type 0
CarriedOut h shelf c request h' shelf' ended = CarriedOn (started h c request) shelf c (answer_of (begun h.seats c request)) h' shelf' ended

-- ---- as one client sees it

-- a free is of a region that the client holds
abbrev pub IsOwn : DeskFacts → Request → Type 0
IsOwn desk (Free addr) = is_some (held_at addr desk) ≡ true
IsOwn desk request = Unit {0}

-- A turn that was made for a call and takes no answer in: its point and the reply, and the arenas and promises after it.
pub record TurnMade : Type 0 where
  pub point : TurnPoint
  pub reply : Reply
  pub records : List Record
  pub owed : List ℕ

-- A call that stands at this moment had its next turn, which takes no region over.
pub record IsTurned (records : List Record) (owed : List ℕ) (c : ℕ) (at : Moment) (turn : TurnMade) : Type 0 where
  pub begins : at.stage.next ≡ Go (Turns turn.point)
  pub alone : taken_next at.stage.next ≡ None
  pub made : MadeTurn {E = Unit {0}} records owed (record { arena = at.stage.arena; client = c; op = op_at turn.point; asked = None }) (Ok turn.reply) turn.records turn.owed

-- turns lead a call from one moment, with its arenas and promises, to another
abbrev pub TurnsTo : List Record → List ℕ → ℕ → Moment → List TurnMade → List Record → List ℕ → Moment → Type 0
TurnsTo records owed c at [] records' owed' at' = (records' ≡ records) × (owed' ≡ owed) × (at' ≡ at)
TurnsTo records owed c at (turn ∷ later) records' owed' at' =
    IsTurned records owed c at turn × TurnsTo turn.records turn.owed c (after at (Replied turn.reply)) later records' owed' at'

-- What a client has and the place for its call show this moment of the call, and its answer, if it has ended.
pub record Shows (c : ℕ) (at : Moment) (seen : DeskSeen) (place : Option CallFacts) (ended : Option Answered) : Type 0 where
  pub seat_is : record { desk = seen.facts; call = option_map (named_call seen.facts) place } ≡ seat_of c at
  pub ended_is : ended ≡ answer_of at
  pub room : IfSome place (λ call. HasRoomToHold seen.facts seen.room call.stage.next)

-- A client's call was led on by turns to a moment that what it has shows.
pub record LeadsTo (records : List Record) (owed : List ℕ) (c : ℕ) (at : Moment) (records' : List Record) (owed' : List ℕ) (seen : DeskSeen) (place : Option CallFacts) (ended : Option Answered) : Type 0 where
  pub turns : List TurnMade
  pub last : Moment
  pub led : TurnsTo records owed c at turns records' owed' last
  pub shows : Shows c last seen place ended

-- the operation of a turn that looks for one region of a class in the slabs, or for an extent for it
abbrev pub look_of : ℕ → Op
look_of class = if nat_lt class 36 then Fill class 1 else Look (pages_at class) 1

-- A request of a client was carried out by some turns, and the client is as these leave it.
pub record IsDone (records : List Record) (owed : List ℕ) (c : ℕ) (request : Request) (old : Seat) (records' : List Record) (owed' : List ℕ) (seat : Seat) (ended : Option Answered) : Type 0 where
  pub own : IsOwn old.desk request
  pub turns : List TurnMade
  pub at : Moment
  pub led : TurnsTo records owed c (begin request old.desk) turns records' owed' at
  pub seat_is : seat ≡ seat_of c at
  pub ended_is : ended ≡ answer_of at

-- Nothing was done, but that places may have been promised.
pub record IsUntouched (records : List Record) (owed : List ℕ) (c : ℕ) (old : Seat) (records' : List Record) (owed' : List ℕ) (seat : Seat) : Type 0 where
  pub records_are : records' ≡ records
  pub seat_is : seat ≡ old
  pub others : (other : ℕ) → other ≢ c → owed_to owed' other ≡ owed_to owed other
  pub kept : owed_to owed c ≤ owed_to owed' c

-- what came of a request of a client: it was carried out, as far as that goes without an ask, or nothing was done
abbrev pub CameOf : Bool → List Record → List ℕ → ℕ → Request → Seat → List Record → List ℕ → Seat → Option Answered → Type 0
CameOf true records owed c request old records' owed' seat ended = IsDone records owed c request old records' owed' seat ended
CameOf false records owed c request old records' owed' seat ended = IsUntouched records owed c old records' owed' seat
