-- What is so of a client among the arenas of a heap, which are known all at one moment: the regions that it has are those that it
-- holds there, each once, and its open call knows what it has to.
use Rattle.std.specs.Prelude.{◌≡◌, ◌≢◌, ℕ, ◌<◌, true, false, IsTrue, List, Option, None, Some}
use Rattle.heap_core.specs.Words.{stands, entry_of, not_holding, Request, Item, Replied, Told, Starved, Owning, Point, Turns, Next, Go, Op, AskFacts, Held, DeskFacts, held_at, AnswersTo, CallFacts, moment_of, IsInRange, Moment, Record, Seat, after, begin, WantTurn, WantAsk, is_marked, record_at, reply_in, want}
use Rattle.space_model.specs.declared.entries.Op.TheVariants.{Publish}
use Rattle.sits.specs.Sitting.{HasRegions as Has, IsAtRest as Rests, Sits as SitsThere, SitsAt as SitsNext, IsSeated as Seated, SeatSound as IsSound, Comes as ComesThere}
use Rattle.heap_core.specs.Arenas.{IsArenas, opening_records, spaces_of}
use Rattle.heap_core.specs.Chunks.{with_chunk_found}
use Rattle.heap_core.specs.Clients.{CanTurn, after_turn}
use Rattle.heap_core.specs.Seats.{first_seat}

-- the regions that a client has are those that it holds in the arenas, each once, and stand where they belong
abbrev pub HasRegions : List Record → ℕ → DeskFacts → Type 0
HasRegions records c desk = Has true records c desk

-- a client without an open call has nothing in flight, and nothing in hand
abbrev pub IsAtRest : List Record → ℕ → DeskFacts → Type 0
IsAtRest records c desk = Rests true records c desk

-- a client's call waits at a point of an arena, and what the client has suits it
abbrev pub Sits : List Record → ℕ → DeskFacts → Request → ℕ → Point → Type 0
Sits records c desk request arena point = SitsThere true records c desk request arena point

-- a client sits where its open call waits
abbrev pub SitsAt : List Record → ℕ → DeskFacts → CallFacts → Next → Type 0
SitsAt records c desk call next = SitsNext true records c desk call next

-- a client rests, or sits at the point of its open call
abbrev pub IsSeated : List Record → ℕ → DeskFacts → Option CallFacts → Type 0
IsSeated records c desk call = Seated true records c desk call

-- a client of a heap is as it has to be
abbrev pub SeatSound : List Record → ℕ → Seat → Type 0
SeatSound records c seat = IsSound true records c seat

-- where a call came, its client is as it has to be
abbrev pub Comes : List Record → ℕ → Moment → Type 0
Comes records c at = ComesThere true records c at

-- ---- the laws

-- a client that rests may begin any request in range
abbrev pub StartsSit : Type 0
StartsSit = (records : List Record) (c : ℕ) (desk : DeskFacts) (request : Request) → IsArenas records → c < 32
    → IsAtRest records c desk → IsInRange request → Comes records c (begin request desk)

-- the turn that a call wants can be made, and leads on, whatever goes back next
abbrev pub TurnsSit : Type 0
TurnsSit = (records : List Record) (c : ℕ) (desk : DeskFacts) (call : CallFacts) (point : Point) (op : Op) (asked : Option AskFacts)
    → IsArenas records → c < 32 → call.stage.next ≡ Go point → Sits records c desk call.request call.stage.arena point → want point ≡ WantTurn op asked
    → let reply : Item = Replied (reply_in records call.stage.arena c (with_chunk_found (spaces_of records) call.stage.arena op)) in
    let records' : List Record = after_turn records call.stage.arena c op asked in
    CanTurn records c call.stage.arena op asked × Comes records' c (after (moment_of call desk) reply)

-- whatever answer of its kind an ask has that a call wants, it leads on
abbrev pub AsksSit : Type 0
AsksSit = (records : List Record) (c : ℕ) (desk : DeskFacts) (call : CallFacts) (point : Point) (asked : AskFacts)
    → IsArenas records → c < 32 → call.stage.next ≡ Go point → Sits records c desk call.request call.stage.arena point → want point ≡ WantAsk asked.ask
    → AnswersTo asked.ask asked.answer → Comes records c (after (moment_of call desk) (Told asked))

-- a call ends where a turn that takes memory finds none
abbrev pub StarvesSit : Type 0
StarvesSit = (records : List Record) (c : ℕ) (desk : DeskFacts) (call : CallFacts) (point : Point) (op : Op) (asked : Option AskFacts)
    → IsArenas records → c < 32 → call.stage.next ≡ Go point → Sits records c desk call.request call.stage.arena point → want point ≡ WantTurn op asked
    → is_marked op ≡ true → Comes records c (after (moment_of call desk) Starved)

-- whatever turn another client takes, a client is as it has to be
abbrev pub OthersSit : Type 0
OthersSit = (records : List Record) (arena c other : ℕ) (op : Op) (asked : Option AskFacts) (seat : Seat) → IsArenas records → arena < 32 → other ≢ c
    → IsTrue (stands (record_at records arena).space (entry_of c (with_chunk_found (spaces_of records) arena op)))
    → SeatSound records other seat → SeatSound (after_turn records arena c op asked) other seat

-- a client may publish a region that it holds at any moment, also while it has an open call, and is as it has to be without it
abbrev pub HoldersPublish : Type 0
HoldersPublish = (records : List Record) (c addr : ℕ) (seat : Seat) (region : Held) → IsArenas records → c < 32
    → SeatSound records c seat → held_at addr seat.desk ≡ Some region
    → (region.addr ≡ addr) × (region.arena < 32) × CanTurn records c region.arena (Publish region.addr) None
    × SeatSound (after_turn records region.arena c (Publish region.addr) None) c (record seat { desk = not_holding region.addr seat.desk })

-- a call that is about to take a region over may do so in any arena, once it is published there
abbrev pub AimsSit : Type 0
AimsSit = (records : List Record) (c addr arena arena' : ℕ) (desk : DeskFacts) (request : Request) → arena' < 32
    → Sits records c desk request arena (Turns (Owning addr true false)) → Sits records c desk request arena' (Turns (Owning addr true true))

-- each client of a new heap rests
abbrev pub OpeningSits : Type 0
OpeningSits = (c : ℕ) → c < 32 → SeatSound opening_records c first_seat
