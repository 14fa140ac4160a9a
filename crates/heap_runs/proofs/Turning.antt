-- A turn that a call wants, in an arena that others changed since the client's last turn there.
use Rattle.heap_runs.proofs.Words.{◌≡◌, ◌≢◌, ℕ, ◌<◌, ◌≤◌, false, List, Option, Some, length, sym, refl, ap, ◌∙◌, subst, arith, slice_set, Record, no_record, record_at, record_after, room_in, reply_in, mine, mine_in, room_of, entry_of, Sound, length-set, get_or-set_same, get_or-set_other, Op, Reply, Replied, Point, Go, AskFacts, DeskFacts, CallFacts, moment_of, Moment, after, want, WantTurn, reply_to, seat_of, at_or_else, replayed_sound, Seat, with_found, Snapshot, ChunkTable, Facts, Logs, Owned, after_deed, after_entry, owned_by, Deed, Told, AreArenas, CanTake, Comes, Sits, after_found, found_is, own-sits, turns-sit, known, state_of, Knows, stands}
use Rattle.heap_runs.specs.Meets.{TurnMeets}
use Rattle.heap_runs.proofs.Knowing.{Known, known_all, known_at, not_together, same_arenas, same_seat}

module _ (table : ChunkTable) (c : ℕ) (logs logs' : Known) (desk : DeskFacts) (call : CallFacts) (point : Point) (op : Op) (asked : Option AskFacts)
    (arenas : AreArenas false (known table logs)) (few : c < 32) (goes : call.stage.next ≡ Go point) (sits : Sits false (known table logs) c desk call.request call.stage.arena point) (wants : want point ≡ WantTurn op asked)
    (met : Facts) (e : Snapshot Deed) (logged : Logs met c (record { op = op; asked = asked }) e)
    (own : owned_by met c ≡ owned_by (state_of table call.stage.arena (logs call.stage.arena)) c)
    (here : state_of table call.stage.arena (logs' call.stage.arena) ≡ (after_entry met e).0) (others : (i : ℕ) → i ≢ call.stage.arena → logs' i ≡ logs i) where
  abbrev a : ℕ
  a = call.stage.arena

  abbrev old : List Record
  old = known table logs

  abbrev new : List Record
  new = known table logs'

  there : a < 32
  there = sits.waits.there

  -- the arenas as the turn met them
  abbrev mid : List Record
  mid = slice_set old a met.arena

  mid_here : record_at mid a ≡ met.arena
  mid_here = get_or-set_same old a met.arena no_record (omega (arith, there, known_all table logs))

  mid_else : (i : ℕ) → i ≢ a → record_at mid i ≡ record_at old i
  mid_else i differ = get_or-set_other old a i met.arena no_record differ

  mid_all : length mid ≡ 32
  mid_all = length-set old a met.arena ∙ known_all table logs

  mid_arenas : AreArenas false mid
  mid_arenas = record {
    number = mid_all;
    sound = λ i low. at_or_else (λ j. Sound (record_at mid j).space) i a
        (λ home. subst (λ (r : Record). Sound r.space) (sym mid_here) (replayed_sound met.arena.index met.arena.kept met.arena.space logged.replayed))
        (λ differ. subst (λ (r : Record). Sound r.space) (sym (mid_else i differ)) (arenas.sound i low));
    clients = λ i low. at_or_else (λ j. length (record_at mid j).rooms ≡ 32) i a
        (λ home. ap (λ (r : Record). length r.rooms) mid_here ∙ logged.clients)
        (λ differ. ap (λ (r : Record). length r.rooms) (mid_else i differ) ∙ arenas.clients i low);
    apart = not_together;
  }

  -- the client owns there what it did
  mid_own : (i : ℕ) → (mine_in mid c i ≡ mine_in old c i) × (room_in old i c ≤ room_in mid i c)
  mid_own i = at_or_else (λ j. (mine_in mid c j ≡ mine_in old c j) × (room_in old j c ≤ room_in mid j c)) i a
      (λ home.
      let was = known_at table logs a there in
      let rooms : room_of c met.arena.rooms ≡ room_of c (record_at old a).rooms = ap (λ (w : Owned). w.room) own ∙ ap (λ (r : Record). room_of c r.rooms) (sym was) in
      let now = ap (λ (r : Record). room_of c r.rooms) mid_here in (
        ap (λ (r : Record). mine c r.space) mid_here ∙ ap (λ (w : Owned). w.has) own ∙ ap (λ (r : Record). mine c r.space) (sym was),
        omega (arith, rooms, now),
      ))
      (λ differ. (ap (λ (r : Record). mine c r.space) (mid_else i differ), (let same = ap (λ (r : Record). room_of c r.rooms) (mid_else i differ) in omega (arith, same))))

  mid_sits : Sits false mid c desk call.request a point
  mid_sits =
      let seat : Seat = record { desk = desk; call = Some (record { client = c; request = call.request; stage = record { arena = a; next = Go point } }) } in
      (own-sits false old mid c seat (λ i. (mid_own i).0) (λ i. (mid_own i).1) (refl, sits)).1

  abbrev found : Option ℕ
  found = logged.chunk

  led : CanTake mid c a found op asked × Comes false (after_found mid a c found op asked) c (after (moment_of call desk) (Replied (reply_in mid a c (with_found found op))))
  led = let turned = turns-sit false mid c desk call point found op asked mid_arenas few goes mid_sits wants in (turned.0, turned.1 not_together)

  -- the arenas after it are as they are known then
  abbrev then : List Record
  then = after_found mid a c found op asked

  then_all : length then ≡ 32
  then_all = length-set mid a (record_after (record_at mid a) c (with_found found op) asked) ∙ mid_all

  then_same : (i : ℕ) → i < 32 → record_at new i ≡ record_at then i
  then_same i low = known_at table logs' i low ∙ at_or_else (λ j. (state_of table j (logs' j)).arena ≡ record_at then j) i a
      (λ home. ap (λ (s : Facts). s.arena) here ∙ ap (λ (d : Deed). (after_deed met d).0.arena) logged.is
      ∙ ap (λ (r : Record). record_after r c (with_found found op) asked) (sym mid_here)
      ∙ sym (get_or-set_same mid a (record_after (record_at mid a) c (with_found found op) asked) no_record (omega (arith, there, mid_all))))
      (λ differ. ap (λ log. (state_of table i log).arena) (others i differ) ∙ sym (known_at table logs i low)
      ∙ sym (mid_else i differ) ∙ sym (get_or-set_other mid a i (record_after (record_at mid a) c (with_found found op) asked) no_record differ))

  turned_arenas : AreArenas false new
  turned_arenas = same_arenas then new then_all (known_all table logs') then_same (found_is mid a c found op asked mid_arenas there led.0.stands not_together)

  -- what it told is the reply there
  told_is : (r : Told) → r ≡ (after_entry met e).1 → r.reply ≡ reply_in mid a c (with_found found op)
  told_is r is = ap (λ (t : Told). t.reply) is ∙ ap (λ (d : Deed). reply_to met.arena.space (entry_of d.client d.op)) logged.is
      ∙ ap (λ (x : Record). reply_to x.space (entry_of c (with_found found op))) (sym mid_here)

  turned_comes : (r : Told) → r ≡ (after_entry met e).1 → Comes false new c (after (moment_of call desk) (Replied r.reply))
  turned_comes r is =
      let at : Moment = after (moment_of call desk) (Replied r.reply) in
      let came = subst (λ (x : Reply). Comes false then c (after (moment_of call desk) (Replied x))) (sym (told_is r is)) led.1 in
      (came.0, same_seat then new then_all (known_all table logs') then_same c (seat_of c at) came.1)

  -- the box that it told is one of the shelf
  turned_box : (r : Told) → r ≡ (after_entry met e).1 → r.box_no < 32
  turned_box r is =
      let now : record_at new a ≡ (after_entry met e).0.arena = known_at table logs' a there ∙ ap (λ (s : Facts). s.arena) here in
      let sound : Sound (after_entry met e).0.arena.space = subst (λ (x : Record). Sound x.space) now (turned_arenas.sound a there) in
      let same : r.box_no ≡ (after_entry met e).0.arena.space.box_no = ap (λ (t : Told). t.box_no) is in
      let low = sound.box in omega (arith, low, same)

  pub turn_leaves : (r : Told) → r ≡ (after_entry met e).1 → AreArenas false new × (r.box_no < 32) × Comes false new c (after (moment_of call desk) (Replied r.reply))
  turn_leaves r is = (turned_arenas, turned_box r is, turned_comes r is)

  -- what the turn met
  pub turn_met : (r : Told) → r ≡ (after_entry met e).1 → TurnMeets c a (Go point) e.value r
  turn_met r is = record {
    there = there;
    space = met.arena.space;
    sound = replayed_sound met.arena.index met.arena.kept met.arena.space logged.replayed;
    knows = subst (λ m. Knows m point) (sym (ap (λ (w : Owned). w.has) own ∙ ap (λ (x : Record). mine c x.space) (sym (known_at table logs a there)))) sits.waits.knows;
    stands = ap (λ (d : Deed). stands met.arena.space (entry_of c d.op)) logged.is ∙ logged.stands;
    reply = ap (λ (t : Told). t.reply) is ∙ ap (λ (d : Deed). reply_to met.arena.space (entry_of d.client e.value.op)) logged.is;
  }
