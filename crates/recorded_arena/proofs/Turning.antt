-- What a turn does to a journal and to the places behind it.
use Rattle.std.proofs.Common.{◌==◌, ◌≡◌, ℕ, ◌+◌, ◌-◌, ◌*◌, ◌<◌, ◌≤◌, Bool, true, false, List, [], ◌∷◌, ◌++◌, length, max, cond, refl, sym, ◌∙◌, ap, subst, arith, nat_lt, IsTrue, Option}
use Rattle.std.proofs.lemmas.Bool.{ltb-true}
use Rattle.std.proofs.lemmas.List.{length-set}
use Rattle.std.proofs.lemmas.List.Sums.{get_or-le-sum_by}
use Rattle.space_model.specs.declared.entries.Entry.{Entry}
use Rattle.space_model.specs.Step.{op_stands, space_after, stands}
use Rattle.space_model.specs.Journal.{all_stand, replay}
use Rattle.space_model.specs.Opening.{absent_space, first_space}
use Rattle.space_model.specs.Sound.{Sound}
use Rattle.space_model.proofs.LawLemmas.{absent_replays_are_good, first_replays_are_good}
use Rattle.hook_api.specs.Asked.{AskFacts}
use Rattle.hook_api.specs.Kept.{KeptFacts}
use Rattle.arena_core.specs.Arenas.{all_rooms, emptied_by_op, entry_of, given_by, opens, room_after, room_of, rooms_after}
use Rattle.space_model.proofs.Pieces.{both_true}
use Rattle.arena_core.proofs.RoomSums.{rooms_with}
use Rattle.space_model.specs.declared.Op.{Op}
use Rattle.space_model.specs.declared.Space.{Space}
use Rattle.recorded_arena.specs.Records.{IsRecorded, IsReplayed, Record, entries_of, most_room, opening_space, shown}
use Rattle.recorded_arena.specs.declared.Recorded.TheInside.{Inside}

-- a journal with one more entry that may stand leaves what that entry leaves
one_more : (s : Space) (es : List Entry) (e : Entry) → all_stand s es ≡ true → stands (replay s es) e ≡ true →
    (all_stand s (es ++ e ∷ []) ≡ true) × (replay s (es ++ e ∷ []) ≡ space_after (replay s es) e)
one_more s [] e all one = (rw one refl, refl)
one_more s (x ∷ xs) e all one =
    let both = both_true (stands s x) (all_stand (space_after s x) xs) all in
    let more = one_more (space_after s x) xs e both.1 one in (rw (both.0, more.0) refl, more.1)

entries_more : (kept : List KeptFacts) (k : KeptFacts) → entries_of (kept ++ k ∷ []) ≡ entries_of kept ++ k.entry ∷ []
entries_more [] k = refl
entries_more (x ∷ xs) k = ap (λ es. x.entry ∷ es) (entries_more xs k)

pub replayed_more : (index : ℕ) (kept : List KeptFacts) (k : KeptFacts) (s : Space) → IsReplayed index kept s → stands s k.entry ≡ true → IsReplayed index (kept ++ k ∷ []) (space_after s k.entry)
replayed_more index kept k s is may =
    let at = is.space in
    let more = one_more (opening_space index) (entries_of kept) k.entry is.stand (rw at at may) in record {
      stand = rw (entries_more kept k) more.0;
      space = rw (entries_more kept k) (ap (λ t. space_after t k.entry) at ∙ sym more.1);
    }

-- what a journal leaves is sound
pub replayed_sound : (i : ℕ) (kept : List KeptFacts) (s : Space) → IsReplayed i kept s → Sound s
replayed_sound i kept s is = subst Sound (sym is.space) (by (i == 0) refl)
  where
    by : (v : Bool) → (i == 0) ≡ v → Sound (replay (opening_space i) (entries_of kept))
    by true e =
        let first : opening_space i ≡ first_space = rw e refl in
        subst (λ (o : Space). Sound (replay o (entries_of kept))) (sym first) (first_replays_are_good (entries_of kept) (subst (λ (o : Space). all_stand o (entries_of kept) ≡ true) first is.stand)).sound
    by false e =
        let none : opening_space i ≡ absent_space = rw e refl in
        subst (λ (o : Space). Sound (replay o (entries_of kept))) (sym none) (absent_replays_are_good (entries_of kept) (subst (λ (o : Space). all_stand o (entries_of kept) ≡ true) none is.stand)).sound

-- a room is one of those that there are
pub one_room : (rooms : List ℕ) (client : ℕ) → client < length rooms → room_of client rooms ≤ all_rooms rooms
one_room rooms client within = get_or-le-sum_by (λ n. n) rooms client 0 within

-- the rooms after an operation that takes no memory are one less, and after one that does no more than so many
pub rooms_then : (s : Space) (rooms : List ℕ) (client : ℕ) (op : Op) → client < length rooms → emptied_by_op client op s ≤ given_by op →
    (opens op ≡ false → 0 < room_of client rooms) → (o : Bool) → opens op ≡ o →
    all_rooms (rooms_after (record { space = s; rooms = rooms }) client op) + cond o 0 1 ≤ all_rooms rooms + cond o (most_room op) 0
rooms_then s rooms client op within few some true e =
    let room : room_after s (room_of client rooms) client op ≡ max (max (room_of client rooms) 16) (16 * emptied_by_op client op s) = rw e refl in
    omega (arith, rooms_with rooms client (room_after s (room_of client rooms) client op) within, room, few)
rooms_then s rooms client op within few some false e =
    let room : room_after s (room_of client rooms) client op ≡ room_of client rooms - 1 = rw e refl in
    omega (arith, rooms_with rooms client (room_after s (room_of client rooms) client op) within, room, some e)

-- ---- a turn

-- a client that may make the operation is one of the 32
client_is : (s : Space) (client : ℕ) (op : Op) → IsTrue (stands s (entry_of client op)) → client < 32
client_is s client op may = ltb-true client 32 (both_true (nat_lt client 32) (op_stands s client op) may).0

-- the journal has a place for the entry
pub has_place : (r : Inside) (now : Record) (client : ℕ) (op : Op) (spare : ℕ) → shown r ≡ now → IsRecorded r → IsTrue (stands now.space (entry_of client op)) →
    (opens op ≡ false → 0 < room_of client now.rooms) → r.journal.spare ≤ spare → (opens op ≡ true → all_rooms r.arena.rooms + most_room op < spare) → (o : Bool) → opens op ≡ o → 0 < spare
has_place r now client op spare view is may some more made true e = let much = made e in omega (arith, much)
has_place r now client op spare view is may some more made false e =
    let room : 0 < room_of client r.arena.rooms = subst (λ (x : Record). 0 < room_of client x.rooms) (sym view) (some e) in
    let within : client < length r.arena.rooms = omega (arith, client_is now.space client op may, is.clients) in
    omega (arith, room, one_room r.arena.rooms client within, is.places, more)

-- What a turn leaves is recorded.
pub turn_recorded : (r new : Inside) (now : Record) (client : ℕ) (op : Op) (asked : Option AskFacts) (spare : ℕ) → shown r ≡ now → IsRecorded r → IsTrue (stands now.space (entry_of client op)) →
    (opens op ≡ false → 0 < room_of client now.rooms) → r.journal.spare ≤ spare → (opens op ≡ true → all_rooms r.arena.rooms + most_room op < spare) →
    new.index ≡ r.index → new.arena.space ≡ space_after r.arena.space (entry_of client op) → new.arena.rooms ≡ rooms_after r.arena client op →
    emptied_by_op client op r.arena.space ≤ given_by op → new.journal.kept ≡ r.journal.kept ++ record { entry = entry_of client op; asked = asked } ∷ [] → spare ≤ new.journal.spare + 1 → IsRecorded new
turn_recorded r new now client op asked spare view is may some more made index after rooms few items one =
    let k : KeptFacts = record { entry = entry_of client op; asked = asked } in
    let may_here : stands r.arena.space k.entry ≡ true = subst (λ (x : Record). stands x.space k.entry ≡ true) (sym view) may in
    let within : client < length r.arena.rooms = omega (arith, client_is now.space client op may, is.clients) in
    let room : opens op ≡ false → 0 < room_of client r.arena.rooms = λ e. subst (λ (x : Record). 0 < room_of client x.rooms) (sym view) (some e) in
    record {
      replayed = rw (index, items) (subst (IsReplayed r.index (r.journal.kept ++ k ∷ [])) (sym after) (replayed_more r.index r.journal.kept k r.arena.space is.replayed may_here));
      clients = ap length rooms ∙ length-set r.arena.rooms client _ ∙ is.clients;
      places = fits (opens op) refl within room;
    }
  where
    fits : (o : Bool) → opens op ≡ o → client < length r.arena.rooms → (opens op ≡ false → 0 < room_of client r.arena.rooms) → all_rooms new.arena.rooms ≤ new.journal.spare
    fits true e within room = let much = made e in
        omega (arith, rooms_then r.arena.space r.arena.rooms client op within few room true e, ap all_rooms rooms, much, one)
    fits false e within room = omega (arith, rooms_then r.arena.space r.arena.rooms client op within few room false e, ap all_rooms rooms, is.places, more, one)

-- The client's room after it is at most all the rooms before with what the operation makes.
pub room_bound : (r : Inside) (now : Record) (client : ℕ) (op : Op) (rooms : List ℕ) → shown r ≡ now → IsRecorded r → IsTrue (stands now.space (entry_of client op)) →
    (opens op ≡ false → 0 < room_of client now.rooms) → rooms ≡ rooms_after r.arena client op → emptied_by_op client op r.arena.space ≤ given_by op →
    room_of client rooms ≤ all_rooms now.rooms + most_room op
room_bound r now client op rooms view is may some after few = by (opens op) refl
  where
    within : client < length r.arena.rooms
    within = omega (arith, client_is now.space client op may, is.clients)

    room : opens op ≡ false → 0 < room_of client r.arena.rooms
    room e = subst (λ (x : Record). 0 < room_of client x.rooms) (sym view) (some e)

    one : room_of client rooms ≤ all_rooms rooms
    one = one_room rooms client (omega (arith, within, ap length after ∙ length-set r.arena.rooms client _))

    sums : all_rooms r.arena.rooms ≡ all_rooms now.rooms
    sums = ap (λ (x : Record). all_rooms x.rooms) view

    by : (o : Bool) → opens op ≡ o → room_of client rooms ≤ all_rooms now.rooms + most_room op
    by true e = omega (arith, rooms_then r.arena.space r.arena.rooms client op within few room true e, one, ap all_rooms after, sums)
    by false e = omega (arith, rooms_then r.arena.space r.arena.rooms client op within few room false e, one, ap all_rooms after, sums)
