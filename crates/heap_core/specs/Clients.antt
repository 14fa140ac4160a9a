-- What is so of a client's call among the arenas of a heap, whoever takes a turn.
use Rattle.std.specs.Prelude.{◌≡◌, ◌≢◌, ℕ, ◌<◌, false, IsTrue, List, Option}
use Rattle.heap_core.specs.Words.{stands, IsIdle, IsKept, entry_of, opens, Op, AskFacts, AnswersTo, Record, Replied, Told, Point, WantTurn, WantAsk, Waits, WaitsNext, record_at, records_turned, reply_in, room_in, step, want}
use Rattle.heap_core.specs.Arenas.{IsArenas, spaces_of}
use Rattle.heap_core.specs.Chunks.{with_chunk_found}

-- What a turn of a waiting call asks of its arena is so: it may stand with the chunk that is found, there is room for it, and
-- the ask that it carries is at hand.
pub record CanTurn (records : List Record) (c arena : ℕ) (op : Op) (asked : Option AskFacts) : Type 0 where
  pub stands : IsTrue (stands (record_at records arena).space (entry_of c (with_chunk_found (spaces_of records) arena op)))
  pub room : opens op ≡ false → 0 < room_in records arena c
  pub kept : IsKept (entry_of c op) asked

-- the arenas after the turn that a call wants
abbrev pub after_turn : List Record → ℕ → ℕ → Op → Option AskFacts → List Record
after_turn records arena c op asked = records_turned records arena c (with_chunk_found (spaces_of records) arena op) asked

-- whatever turn another client takes in whatever arena, a call waits as it did, and an idle client is idle
abbrev pub OthersStay : Type 0
OthersStay = (records : List Record) (arena c other : ℕ) (op : Op) (asked : Option AskFacts) → IsArenas records → arena < 32 → other ≢ c
    → IsTrue (stands (record_at records arena).space (entry_of c (with_chunk_found (spaces_of records) arena op)))
    → ((at : ℕ) (point : Point) → Waits records other at point → Waits (after_turn records arena c op asked) other at point)
    × (IsIdle records other → IsIdle (after_turn records arena c op asked) other)

-- the turn that a waiting call wants can be taken, and leads on
abbrev pub TurnsLeadOn : Type 0
TurnsLeadOn = (records : List Record) (c arena : ℕ) (point : Point) (op : Op) (asked : Option AskFacts) → IsArenas records → c < 32
    → Waits records c arena point → want point ≡ WantTurn op asked
    → CanTurn records c arena op asked
    × WaitsNext (after_turn records arena c op asked) c arena (step point (Replied (reply_in records arena c (with_chunk_found (spaces_of records) arena op))))

-- whatever answer of its kind an ask has that a waiting call wants, the call waits on, and nothing else changes
abbrev pub AsksLeadOn : Type 0
AsksLeadOn = (records : List Record) (c arena : ℕ) (point : Point) (asked : AskFacts) → IsArenas records
    → Waits records c arena point → want point ≡ WantAsk asked.ask → AnswersTo asked.ask asked.answer
    → WaitsNext records c arena (step point (Told asked))
