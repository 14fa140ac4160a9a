-- What a change of one client leaves of a heap.
use Rattle.heap_core.proofs.Words.{◌≡◌, ◌≢◌, ◌≤◌, ◌<◌, ℕ, ◌-◌, false, List, Option, length, slice_set, get_or, refl, sym, ap, subst, ◌∙◌, arith, get_or_default, get_or-set_other, get_or-set_same, length-set, opens, room_after, room_of, Op, AskFacts, CallFacts, IsArenas, no_record, record_after, record_at, room_in, spaces_of, with_chunk_found, CanTurn, after_turn, owed_to, IsHeap, owing, Record, Seat, first_seat, seat_at, SeatSound, None, Result, Ok, Err, OnOk, OnErr, replicate, get_or-replicate, length-replicate, set-get_or, Request, IsInRange, begin, opening_records, asked_for, seat_of, IsSeated}
use Rattle.heap_core.proofs.Clients.{opens_settled, others-sit, starts-sit}
use Rattle.heap_core.proofs.Sitting.{opening-sits}
use Rattle.sits.proofs.Indexes.{at_or_else, elsewhere_is, there_is}
use Rattle.heap_core.proofs.Wanting.{owed_begun}

-- ---- rooms

-- a turn leaves the rooms of other clients, and those in other arenas
pub room_elsewhere : (records : List Record) (arena c i other : ℕ) (op : Op) (asked : Option AskFacts) → IsArenas records → arena < 32 → (arena ≡ i → other ≢ c) →
    room_in (after_turn records arena c op asked) i other ≡ room_in records i other
room_elsewhere records arena c i other op asked is there differ =
    let new : Record = record_after (record_at records arena) c (with_chunk_found (spaces_of records) arena op) asked in
    at_or_else (λ k. room_in (after_turn records arena c op asked) k other ≡ room_in records k other) i arena
    (λ same. ap (λ (r : Record). room_of other r.rooms) (there_is records arena new is.number there) ∙ get_or-set_other (record_at records arena).rooms c other _ 0 (differ (sym same)))
    (λ far. ap (λ (r : Record). room_of other r.rooms) (elsewhere_is records arena i new far))

-- a turn without memory takes one of its client's room
pub room_used : (records : List Record) (arena c : ℕ) (op : Op) (asked : Option AskFacts) → IsArenas records → arena < 32 → c < 32 → opens op ≡ false →
    room_in (after_turn records arena c op asked) arena c ≡ room_in records arena c - 1
room_used records arena c op asked is there few uses =
    let r = record_at records arena in
    let settles = with_chunk_found (spaces_of records) arena op in
    let new : Record = record_after r c settles asked in
    let still : opens settles ≡ false = opens_settled (spaces_of records) arena op ∙ uses in
    let set : room_of c new.rooms ≡ room_after r.space (room_in records arena c) c settles = get_or-set_same r.rooms c (room_after r.space (room_in records arena c) c settles) 0 (omega (arith, few, is.clients arena there)) in
    let less : room_after r.space (room_in records arena c) c settles ≡ room_in records arena c - 1 = rw still refl in
    ap (λ (x : Record). room_of c x.rooms) (get_or-set_same records arena new no_record (omega (arith, there, is.number))) ∙ set ∙ less

-- what a call may ask is told by the rooms of its client
owing_same : (records records' : List Record) (c : ℕ) (call : Option CallFacts) → ((i : ℕ) → room_in records' i c ≡ room_in records i c) → owing records' c call ≡ owing records c call
owing_same records records' c call same = grind (arith, same)

-- ---- a change of one client

-- What a change of one client leaves to all others: each is as it has to be, with its rooms and the places that it was promised.
pub record Stays (records records' : List Record) (owed owed' : List ℕ) (c : ℕ) : Type 0 where
  pub sound : (o : ℕ) → o ≢ c → (s : Seat) → SeatSound records o s → SeatSound records' o s
  pub rooms : (o : ℕ) → o ≢ c → (i : ℕ) → room_in records' i o ≡ room_in records i o
  pub owes : (o : ℕ) → o ≢ c → owed_to owed' o ≡ owed_to owed o

-- the heap after it, where the client is as it has to be and may ask no more than it was promised
pub heap_changed : (records records' : List Record) (seats : List Seat) (owed owed' : List ℕ) (c : ℕ) (seat : Seat) → IsHeap records seats owed → c < 32 → Stays records records' owed owed' c →
    SeatSound records' c seat → owing records' c seat.call ≤ owed_to owed' c → IsHeap records' (slice_set seats c seat) owed'
heap_changed records records' seats owed owed' c seat is few stays sound enough = record {
  number = length-set seats c seat ∙ is.number;
  sound = λ o low. at o (SeatSound records' o) (λ same. subst (λ k. SeatSound records' k seat) same sound) (λ differ. stays.sound o differ (seat_at seats o) (is.sound o low));
  promised = λ o low. at o (λ s. owing records' o s.call ≤ owed_to owed' o) (λ same. subst (λ k. owing records' k seat.call ≤ owed_to owed' k) same enough)
      (λ differ. let same = owing_same records records' o (seat_at seats o).call (stays.rooms o differ) in let was = is.promised o low in omega (arith, same, was, stays.owes o differ));
}
  where
    at : (o : ℕ) (P : Seat → Type 0) → (c ≡ o → P seat) → (o ≢ c → P (seat_at seats o)) → P (seat_at (slice_set seats c seat) o)
    at o P here there =
        at_or_else (λ k. P (seat_at (slice_set seats c seat) k)) o c (λ same. subst P (sym (get_or-set_same seats c seat first_seat (omega (arith, few, is.number)))) (here (sym same)))
        (λ far. subst P (sym (get_or-set_other seats c o seat first_seat far)) (there far))

-- a turn of the client leaves all others
pub turned_stays : (records : List Record) (owed owed' : List ℕ) (c arena : ℕ) (op : Op) (asked : Option AskFacts) → IsArenas records → arena < 32 → CanTurn records c arena op asked →
    ((o : ℕ) → o ≢ c → owed_to owed' o ≡ owed_to owed o) → Stays records (after_turn records arena c op asked) owed owed' c
turned_stays records owed owed' c arena op asked arenas there can owes = record {
  sound = λ o differ s. others-sit records arena c o op asked s arenas there differ can.stands;
  rooms = λ o differ i. room_elsewhere records arena c i o op asked arenas there (λ same. differ);
  owes = owes;
}

-- and so does what leaves the arenas
pub seated_stays : (records : List Record) (owed owed' : List ℕ) (c : ℕ) → ((o : ℕ) → o ≢ c → owed_to owed' o ≡ owed_to owed o) → Stays records records owed owed' c
seated_stays records owed owed' c owes = record { sound = λ o differ s was. was; rooms = λ o differ i. refl; owes = owes }

-- a client that was found by its index is the one there
pub seat_is : (seats : List Seat) (c : ℕ) (seat : Seat) → length seats ≡ 32 → c < 32 → seat ≡ get_or seats c seat → seat ≡ seat_at seats c
seat_is seats c seat number few is = is ∙ get_or_default seats c seat first_seat (omega (arith, number, few))

-- a client that is as it was leaves all as they were
pub same_seat : (seats : List Seat) (c : ℕ) (seat new : Seat) → length seats ≡ 32 → c < 32 → seat ≡ get_or seats c seat → new ≡ seat → slice_set seats c new ≡ seats
same_seat seats c seat new number few is same = ap (slice_set seats c) (same ∙ seat_is seats c seat number few is) ∙ set-get_or seats c first_seat

-- ---- a request begins, and so does a heap

-- a free of a region of another client is in range too
asked_in_range : (seats : List Seat) (c : ℕ) (request : Request) → IsInRange request → IsInRange (asked_for seats c request)
asked_in_range seats c request is = grind arith

-- the heap is as it has to be after a request began, or where memory was wanting for it
pub start_heap : {A E : Type 0} (records : List Record) (seats : List Seat) (owed : List ℕ) (c : ℕ) (request asked : Request) (told : Result A E) (old seat : Seat) → IsHeap records seats owed → IsArenas records → c < 32 → (seat_at seats c).call ≡ None →
    IsInRange request → asked ≡ asked_for seats c request → old ≡ seat_at seats c → OnOk told (seat ≡ seat_of c (begin asked old.desk)) → OnErr told (seat ≡ old) → IsHeap records (slice_set seats c seat) owed
start_heap records seats owed c request asked (Err error) old seat heap arenas few rests range is same ok err =
    subst (λ s. IsHeap records s owed) (sym (ap (slice_set seats c) (err ∙ same) ∙ set-get_or seats c first_seat)) heap
start_heap records seats owed c request asked (Ok told) old seat heap arenas few rests range is same ok err =
    let desk = (seat_at seats c).desk in
    let sat : IsSeated records c desk None = subst (IsSeated records c desk) rests (heap.sound c few) in
    let may : IsInRange asked = subst IsInRange (sym is) (asked_in_range seats c request range) in
    let came = starts-sit records c desk asked arenas few sat may in
    let begun : seat ≡ seat_of c (begin asked desk) = ok ∙ ap (λ (s : Seat). seat_of c (begin asked s.desk)) same in
    heap_changed records records seats owed owed c seat heap few (seated_stays records owed owed c (λ o differ. refl)) (subst (SeatSound records c) (sym begun) came.1)
    (subst (λ (s : Seat). owing records c s.call ≤ owed_to owed c) (sym begun) (owed_begun records c (owed_to owed c) asked desk))

-- a new heap is as it has to be
pub opening_heap_is : (records : List Record) (seats : List Seat) (owed : List ℕ) → records ≡ opening_records → seats ≡ replicate 32 first_seat → IsHeap records seats owed
opening_heap_is records seats owed begun is = subst (λ rs. IsHeap rs seats owed) (sym begun) (record {
  number = ap length is ∙ length-replicate 32 first_seat;
  sound = λ c few. subst (SeatSound opening_records c) (sym (at c few)) (opening-sits c few);
  promised = λ c few. subst (λ (s : Seat). owing opening_records c s.call ≤ owed_to owed c) (sym (at c few)) (omega arith);
})
  where
    at : (c : ℕ) → c < 32 → seat_at seats c ≡ first_seat
    at c few = ap (λ s. seat_at s c) is ∙ get_or-replicate 32 c first_seat first_seat few
