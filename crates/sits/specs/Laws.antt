-- The laws of a client's calls among arenas. A heap of one thread knows all of its arenas at one moment together; a client of a heap
-- that threads share knows each as its own last turn there left it.
use Rattle.std.specs.Prelude.{◌≡◌, ℕ, ◌<◌, ◌≤◌, Bool, true, List, Option}
use Rattle.sits.specs.Words.{AnswersTo, AskFacts, CallFacts, DeskFacts, Go, IsInRange, Item, Op, Point, Record, Replied, Request, Starved, Told, WantAsk, WantTurn, after, begin, is_marked, moment_of, want, with_found}
use Rattle.sits.specs.Arenas.{AreApart, AreArenas, after_found, reply_in, room_in}
use Rattle.sits.specs.Clients.{CanTake, mine_in}
use Rattle.sits.specs.Seats.{Seat}
use Rattle.sits.specs.Sitting.{Comes, IsAtRest, SeatSound, Sits}

-- a client that rests may begin any request in range
abbrev pub StartsSit : Type 0
StartsSit = (together : Bool) (records : List Record) (c : ℕ) (desk : DeskFacts) (request : Request) → AreArenas together records → c < 32
    → IsAtRest together records c desk → IsInRange request → Comes together records c (begin request desk)

-- the turn that a call wants can be made whatever chunk of another arena is found, and leads on, whatever goes back next
abbrev pub TurnsSit : Type 0
TurnsSit = (together : Bool) (records : List Record) (c : ℕ) (desk : DeskFacts) (call : CallFacts) (point : Point) (found : Option ℕ) (op : Op) (asked : Option AskFacts)
    → AreArenas together records → c < 32 → call.stage.next ≡ Go point → Sits together records c desk call.request call.stage.arena point
    → want point ≡ WantTurn op asked
    → let reply : Item = Replied (reply_in records call.stage.arena c (with_found found op)) in
    let records' : List Record = after_found records call.stage.arena c found op asked in
    CanTake records c call.stage.arena found op asked
    × ((together ≡ true → AreApart records') → Comes together records' c (after (moment_of call desk) reply))

-- whatever answer of its kind an ask has that a call wants, it leads on
abbrev pub AsksSit : Type 0
AsksSit = (together : Bool) (records : List Record) (c : ℕ) (desk : DeskFacts) (call : CallFacts) (point : Point) (asked : AskFacts)
    → AreArenas together records → c < 32 → call.stage.next ≡ Go point → Sits together records c desk call.request call.stage.arena point
    → want point ≡ WantAsk asked.ask → AnswersTo asked.ask asked.answer → Comes together records c (after (moment_of call desk) (Told asked))

-- a call ends where a turn that takes memory finds none
abbrev pub StarvesSit : Type 0
StarvesSit = (together : Bool) (records : List Record) (c : ℕ) (desk : DeskFacts) (call : CallFacts) (point : Point) (op : Op) (asked : Option AskFacts)
    → AreArenas together records → c < 32 → call.stage.next ≡ Go point → Sits together records c desk call.request call.stage.arena point
    → want point ≡ WantTurn op asked → is_marked op ≡ true → Comes together records c (after (moment_of call desk) Starved)

-- a client is as it has to be by what it owns in each arena and by its room there, and by nothing else, whatever others did
abbrev pub OwnSits : Type 0
OwnSits = (together : Bool) (records records' : List Record) (c : ℕ) (seat : Seat) → ((i : ℕ) → mine_in records' c i ≡ mine_in records c i)
    → ((i : ℕ) → room_in records i c ≤ room_in records' i c) → SeatSound together records c seat → SeatSound together records' c seat
