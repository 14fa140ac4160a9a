-- The laws of clients, where all arenas are known at one moment.
use Rattle.heap_core.proofs.Words.{entry_of, room_of, opens, moment_of, after, step, Replied, Op, Reply, Space, AskFacts, mine, Ok, stands, GrowDone, OfferDone, ◌≡◌, ◌≤◌, ℕ, true, List, Option, None, refl, arith, nat_lt, ◌<◌, Result, sym, subst, ◌≢◌, IsTrue, get_or-set_other, with_found, Sound, both_true, op_keeps, step_of, room_in, IsArenas, record_after, record_at, spaces_of, reply_in, records_turned, with_chunk_found, met_by_alloc, met_by_dalloc, others_of, mine_in, CanTurn, after_turn, AsksLeadOn, OthersStay, TurnsLeadOn, WaitsNext, Record, IsReplayed, Comes, StartsSit, AsksSit, OthersSit, StarvesSit, TurnsSit, AreApart, AreArenas, CanTake}
use Rattle.heap_core.proofs.Turned.{arenas_turned, one_owner}
use Rattle.recorded_arena.proofs.Turning.{replayed_more, replayed_sound}
use Rattle.sits.proofs.Begins as begins
use Rattle.sits.proofs.Clients as waiting
use Rattle.sits.proofs.Turns as turns
use Rattle.sits.proofs.Indexes.{by_arena}

pub sound_at : (records : List Record) (i : ℕ) → IsArenas records → i < 32 → Sound (record_at records i).space
sound_at records i is there = replayed_sound i (record_at records i).kept (record_at records i).space (is.replayed i there)

-- the arenas of a heap are known at one moment
pub known_is : (records : List Record) → IsArenas records → AreArenas true records
known_is records is = record { number = is.number; sound = λ i there. sound_at records i is there; clients = is.clients; apart = λ known. one_owner records is }

-- they are as they have to be after a turn
pub turned_is : (records : List Record) (arena c : ℕ) (op : Op) (asked : Option AskFacts) → IsArenas records → arena < 32 →
    IsTrue (stands (record_at records arena).space (entry_of c (with_chunk_found (spaces_of records) arena op))) → IsArenas (after_turn records arena c op asked)
turned_is records arena c op asked is there may =
    let r : Record = record_at records arena in
    let done : Op = with_chunk_found (spaces_of records) arena op in
    let new : Record = record_after r c done asked in
    let told : Result Reply ℕ = Ok (step_of r.space c done).reply in
    arenas_turned records arena c op done asked told new is there refl may refl tt refl
    (subst (λ (i : ℕ). IsReplayed i new.kept new.space) (sym (is.indexes arena there)) (replayed_more arena r.kept (record { entry = entry_of c done; asked = asked }) r.space (is.replayed arena there) may))

-- ---- the turn that a call wants

-- the chunk that is found for an operation, where it carries one
abbrev pub found_for : List Space → ℕ → Op → Option ℕ
found_for spaces arena (GrowDone heard found) = met_by_alloc spaces heard.ask heard.answer
found_for spaces arena (OfferDone heard found) = met_by_dalloc (others_of arena spaces) heard.ask heard.answer
found_for spaces arena op = None

pub settled_is : (spaces : List Space) (arena : ℕ) (op : Op) → with_chunk_found spaces arena op ≡ with_found (found_for spaces arena op) op
settled_is spaces arena op = grind arith

-- an operation opens a unit with the chunk that was found or without
pub opens_settled : (spaces : List Space) (arena : ℕ) (op : Op) → opens (with_chunk_found spaces arena op) ≡ opens op
opens_settled spaces arena op = grind arith

-- a turn that can be taken whatever chunk is found can be made
can_turn : (records : List Record) (c arena : ℕ) (op : Op) (asked : Option AskFacts) → CanTake records c arena (found_for (spaces_of records) arena op) op asked → CanTurn records c arena op asked
can_turn records c arena op asked can = record {
  stands = subst (λ o. IsTrue (stands (record_at records arena).space (entry_of c o))) (sym (settled_is (spaces_of records) arena op)) can.stands;
  room = can.room;
  kept = can.kept;
}

pub turns-lead_on : TurnsLeadOn
turns-lead_on records c arena point op asked is few waits wants =
    let leads = waiting.turns-lead_on records c arena point (found_for (spaces_of records) arena op) op asked (known_is records is) few waits wants in (
      can_turn records c arena op asked leads.0,
      subst (λ o. WaitsNext (records_turned records arena c o asked) c arena (step point (Replied (reply_in records arena c o)))) (sym (settled_is (spaces_of records) arena op)) leads.1,
    )

pub asks-lead_on : AsksLeadOn
asks-lead_on records c arena point asked is waits wants kind = waiting.asks-lead_on records c arena point asked waits wants kind

-- ---- other clients

-- a turn leaves what another client owns as it was, in every arena
others_own : (records : List Record) (arena c other : ℕ) (op : Op) (asked : Option AskFacts) → IsArenas records → arena < 32 → other ≢ c →
    IsTrue (stands (record_at records arena).space (entry_of c (with_chunk_found (spaces_of records) arena op))) → (i : ℕ) → mine_in (after_turn records arena c op asked) other i ≡ mine_in records other i
others_own records arena c other op asked is there differ may =
    let s : Space = (record_at records arena).space in
    let done : Op = with_chunk_found (spaces_of records) arena op in
    by_arena records arena (record_after (record_at records arena) c done asked) (λ i x. mine other x.space ≡ mine_in records other i) is.number there
    ((op_keeps c s done (sound_at records arena is there) (both_true (nat_lt c 32) _ may).1).others other differ) (λ i ne. refl)

-- and its room
others_room : (records : List Record) (arena c other : ℕ) (op : Op) (asked : Option AskFacts) → IsArenas records → arena < 32 → other ≢ c →
    (i : ℕ) → room_in records i other ≤ room_in (after_turn records arena c op asked) i other
others_room records arena c other op asked is there differ i =
    let r : Record = record_at records arena in
    let new : Record = record_after r c (with_chunk_found (spaces_of records) arena op) asked in
    let same = by_arena records arena new (λ i x. room_of other x.rooms ≡ room_in records i other) is.number there (get_or-set_other r.rooms c other _ 0 differ) (λ i ne. refl) i in
    omega (arith, same)

pub others-stay : OthersStay
others-stay records arena c other op asked is there differ may =
    let mines = others_own records arena c other op asked is there differ may in (
      (λ at point waits. waiting.waits_still records (after_turn records arena c op asked) other at point mines (others_room records arena c other op asked is there differ) waits),
      (λ idle. waiting.idle_still records (after_turn records arena c op asked) other mines idle),
    )

-- ---- the laws

pub starts-sit : StartsSit
starts-sit records c desk request is few rests range = begins.starts-sit true records c desk request (known_is records is) few rests range

pub turns-sit : TurnsSit
turns-sit records c desk call point op asked is few at sits wants =
    let arena : ℕ = call.stage.arena in
    let led = turns.turns-sit true records c desk call point (found_for (spaces_of records) arena op) op asked (known_is records is) few at sits wants in
    let can : CanTurn records c arena op asked = can_turn records c arena op asked led.0 in (
      can,
      subst (λ o. (true ≡ true → AreApart (records_turned records arena c o asked)) → Comes (records_turned records arena c o asked) c (after (moment_of call desk) (Replied (reply_in records arena c o)))) (sym (settled_is (spaces_of records) arena op)) led.1
          (λ known. one_owner (after_turn records arena c op asked) (turned_is records arena c op asked is sits.waits.there can.stands)),
    )

pub asks-sit : AsksSit
asks-sit records c desk call point asked is few at sits wants kind = turns.asks-sit true records c desk call point asked (known_is records is) few at sits wants kind

pub starves-sit : StarvesSit
starves-sit records c desk call point op asked is few at sits wants marked = turns.starves-sit true records c desk call point op asked (known_is records is) few at sits wants marked

pub others-sit : OthersSit
others-sit records arena c other op asked seat is there differ may sound =
    turns.own-sits true records (after_turn records arena c op asked) other seat (others_own records arena c other op asked is there differ may) (others_room records arena c other op asked is there differ) sound
