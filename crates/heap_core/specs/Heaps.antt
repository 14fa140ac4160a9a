-- A heap, and what a step of a client does to it.
use Rattle.std.specs.Prelude.{◌≡◌, ◌⊎◌, ℕ, true, false, List, [], ◌∷◌, ◌++◌, Option, None, Some, replicate, slice_set}
use Rattle.space_model.specs.declared.entries.Op.TheVariants.{Publish}
use Rattle.heap_core.specs.Words.{AskStep, Shelf, not_holding, Op, AskFacts, Held, held_at, Request, Item, Replied, Told, Starved, Answered, NoMemory, Next, Go, CallFacts, moment_of, aimed, taken_next, Moment, after, Want, WantTurn, WantAsk, is_marked, want, record_at, reply_in, records_turned, Record, Seat, seat_of}
use Rattle.heap_core.specs.declared.heaps.Did.TheVariants.{Idle, Turn, Ask}
use Rattle.heap_core.specs.Arenas.{opening_records, spaces_of}
use Rattle.heap_core.specs.Chunks.{with_chunk_found}
use Rattle.heap_core.specs.declared.heaps.Stepped.{Stepped}
use Rattle.heap_core.specs.Seats.{answer_of, begun, first_seat, holder_of, seat_at}

-- What callers see of a heap: its arenas with their journals, its clients, and every ask so far with its answer.
pub record HeapFacts : Type 0 where
  pub records : List Record
  pub seats : List Seat
  pub heard : List AskFacts

-- a new heap
abbrev pub opening_heap : HeapFacts
opening_heap = record { records = opening_records; seats = replicate 32 first_seat; heard = [] }

-- the heap where a client is as this
abbrev pub seated : HeapFacts → ℕ → Seat → HeapFacts
seated h c seat = record h { seats = slice_set h.seats c seat }

-- the heap after the request of a client began
abbrev pub started : HeapFacts → ℕ → Request → HeapFacts
started h c request = seated h c (seat_of c (begun h.seats c request))

-- ---- what a step does

-- the moment of an open call after one more item
abbrev pub moment_after : HeapFacts → ℕ → CallFacts → Item → Moment
moment_after h c call item = after (moment_of call (seat_at h.seats c).desk) item

-- the operation of the turn that a call makes, with the chunk that is found
abbrev pub op_for : HeapFacts → CallFacts → Op → Op
op_for h call op = with_chunk_found (spaces_of h.records) call.stage.arena op

-- the reply to that turn
abbrev pub replied : HeapFacts → ℕ → CallFacts → Op → Item
replied h c call op = Replied (reply_in h.records call.stage.arena c (op_for h call op))

-- the arenas after that turn
abbrev pub records_after : HeapFacts → ℕ → CallFacts → Op → Option AskFacts → List Record
records_after h c call op asked = records_turned h.records call.stage.arena c (op_for h call op) asked

-- the heap after that turn
abbrev pub turned_on : HeapFacts → ℕ → CallFacts → Op → Option AskFacts → HeapFacts
turned_on h c call op asked =
    record (seated h c (seat_of c (moment_after h c call (replied h c call op)))) { records = records_after h c call op asked }

-- the heap after an ask
abbrev pub told_to : HeapFacts → ℕ → CallFacts → AskFacts → HeapFacts
told_to h c call asked =
    record (seated h c (seat_of c (moment_after h c call (Told asked)))) { heard = h.heard ++ asked ∷ [] }

-- who holds a region at the address, if there is one
abbrev pub holding_client : List Seat → Option ℕ → Option ℕ
holding_client seats None = None
holding_client seats (Some addr) = holder_of addr seats

-- the client that holds the region which a call takes over next to free it, if one does: it publishes that first, and for once
abbrev pub holder_for : HeapFacts → CallFacts → Option ℕ
holder_for h call = holding_client h.seats (taken_next call.stage.next)

-- that region
abbrev pub region_in_seat : List Seat → Option ℕ → ℕ → Option Held
region_in_seat seats None holder = None
region_in_seat seats (Some addr) holder = held_at addr (seat_at seats holder).desk

-- the region that its next turn takes over, as its holder has it
abbrev pub region_for : HeapFacts → CallFacts → ℕ → Option Held
region_for h call holder = region_in_seat h.seats (taken_next call.stage.next) holder

-- the holder of the region has it no more
abbrev pub parted : HeapFacts → ℕ → Held → HeapFacts
parted h holder region = seated h holder (record (seat_at h.seats holder) { desk = not_holding region.addr (seat_at h.seats holder).desk })

-- the heap after the holder of a region published it for the call of a client, which takes it over where it lies
abbrev pub published_for : HeapFacts → ℕ → CallFacts → ℕ → Option Held → HeapFacts
published_for h c call holder None = h
published_for h c call holder (Some region) =
    record (seated (parted h holder region) c (record (seat_at (parted h holder region).seats c) { call = Some (aimed call region.arena) })) {
      records = records_turned h.records region.arena holder (Publish region.addr) None;
    }

-- the heap after a turn for a call: the one by which a holder publishes, if there is one, and else the one that the call wants
abbrev pub turned_for : HeapFacts → ℕ → CallFacts → Op → Option AskFacts → Option ℕ → HeapFacts
turned_for h c call op asked None = turned_on h c call op asked
turned_for h c call op asked (Some holder) = published_for h c call holder (region_for h call holder)

-- the answer of the call, if it has ended by that turn
abbrev pub answered_by : HeapFacts → ℕ → CallFacts → Op → Option ℕ → Option Answered
answered_by h c call op None = answer_of (moment_after h c call (replied h c call op))
answered_by h c call op (Some holder) = None

-- ---- a step

-- the heap where a turn for a call found no memory: the call has ended, and nothing else has changed
abbrev pub starved_on : HeapFacts → ℕ → CallFacts → HeapFacts
starved_on h c call = seated h c (seat_of c (moment_after h c call Starved))

-- memory was wanting for a turn that takes some, or to name the regions that it gives back: no turn was made
abbrev pub IsStarved : HeapFacts → ℕ → CallFacts → Op → HeapFacts → Type 0
IsStarved h c call op new = (is_marked op ≡ true) × (new ≡ starved_on h c call)

-- what a step told, and the heap and the shelf after it, where the call wants this: a turn was made, or memory was wanting,
-- or the arena's box answered the ask
abbrev pub IsStepFor : HeapFacts → Shelf → ℕ → CallFacts → Want → Stepped → HeapFacts → Shelf → Type 0
IsStepFor h shelf c call (WantTurn op asked) stepped new shelf' = (stepped.did ≡ Turn) × (shelf' ≡ shelf)
    × (((new ≡ turned_for h c call op asked (holder_for h call)) × (stepped.ended ≡ answered_by h c call op (holder_for h call)))
    ⊎ (IsStarved h c call op new × (stepped.ended ≡ Some NoMemory)))
IsStepFor h shelf c call (WantAsk ask) stepped new shelf' = (asked : AskFacts) × (stepped.did ≡ Ask) × (asked.ask ≡ ask)
    × (asked.box_no ≡ (record_at h.records call.stage.arena).space.box_no) × AskStep shelf asked shelf'
    × (new ≡ told_to h c call asked) × (stepped.ended ≡ answer_of (moment_after h c call (Told asked)))

-- what is wanted at a place of a call
abbrev pub WantedAt : Next → (Want → Type 0) → Type 0
WantedAt (Go point) P = P (want point)
WantedAt next P = ⊥

-- what a step of a client told, and the heap and the shelf after it: nothing happened where the client has no open call
abbrev pub IsStep : HeapFacts → Shelf → ℕ → Option CallFacts → Stepped → HeapFacts → Shelf → Type 0
IsStep h shelf c None stepped new shelf' = (stepped.did ≡ Idle) × (stepped.ended ≡ None) × (new ≡ h) × (shelf' ≡ shelf)
IsStep h shelf c (Some call) stepped new shelf' = WantedAt call.stage.next (λ want. IsStepFor h shelf c call want stepped new shelf')

-- ---- a turn that takes no memory

-- where the turn that a call wants takes no memory it is made, and where it wants an ask nothing is said here
abbrev pub SureFor : HeapFacts → ℕ → CallFacts → Want → HeapFacts → Type 0
SureFor h c call (WantTurn op asked) new = is_marked op ≡ false → new.records ≡ records_after h c call op asked
SureFor h c call (WantAsk ask) new = Unit {0}

-- the same by where a call stands
abbrev pub SureAt : HeapFacts → ℕ → CallFacts → Next → HeapFacts → Type 0
SureAt h c call (Go point) new = SureFor h c call (want point) new
SureAt h c call next new = Unit {0}

-- a turn that takes in the answer to an ask, and any other one that takes no memory, is made whatever memory there is
abbrev pub IsSure : HeapFacts → ℕ → Option CallFacts → HeapFacts → Type 0
IsSure h c None new = Unit {0}
IsSure h c (Some call) new = SureAt h c call call.stage.next new
