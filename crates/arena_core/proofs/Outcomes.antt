-- What a step leaves: its outcome for the space, and the body as it shall be.
use Rattle.arena_core.proofs.Words.{◌≡◌, ◌≢◌, ◌∙◌, ◌⊎◌, inl, inr, ℕ, ◌<◌, IsTrue, List, [], ◌∷◌, ◌++◌, nat_lt, Result, Ok, Err, IfOk, OnOk, OnErr, length, refl, sym, ap, subst, arith, nat_tests, ltb-true, get_or-set_other, get_or-set_same, length-set, Entry, Op, Reply, Space, op_stands, reply_to, space_after, stands, Sound, absent_space, first_space, new_pace, Good, mine, both_true, Outcome, Outcome-good, Outcome-others, Outcome-sound, absent_replays_are_good, first_replays_are_good, Body, IsBody, Standing, entry_of, Turns, room_after, room_of, rooms_after, rooms_made, standing_of, space_of}

-- What a step leaves of a body that callers see as `a`.
pub record Stepped {E : Type 0} (a : Standing) (new : Body) (client : ℕ) (op : Op) (r : Result Reply E) : Type 0 where
  pub body : IsBody new
  pub after : OnOk r (space_of new.indexes ≡ space_after a.space (entry_of client op))
  pub reply : IfOk r (λ told. told ≡ reply_to a.space (entry_of client op))
  pub room : OnOk r (room_of client new.rooms ≡ room_after a.space (room_of client a.rooms) client op)
  pub other_rooms : (other : ℕ) → other ≢ client → room_of other new.rooms ≡ room_of other a.rooms
  pub rooms : OnOk r (new.rooms ≡ rooms_after a client op)
  pub err : OnErr r (standing_of new ≡ a)
  pub good : (turns : List (Entry × Reply)) → Good turns a.space → IfOk r (λ told. Good (turns ++ (entry_of client op, told) ∷ []) (space_of new.indexes))
  pub others : (other : ℕ) → other ≢ client → mine other (space_of new.indexes) ≡ mine other a.space

pub stepped : {E : Type 0} {old new : Body} {a : Standing} {r : Result Reply E} (client : ℕ) (op : Op) → standing_of old ≡ a → IsBody old → IsTrue (stands a.space (entry_of client op)) →
    Turns old new client op r → Stepped a new client op r
stepped {E} {old} {new} {a} {r} client op view body stands_now t =
    let s : Space = space_of old.indexes in
    let may = subst (λ (x : Standing). IsTrue (stands x.space (entry_of client op))) (sym view) stands_now in
    let few : client < 32 = ltb-true client 32 (both_true (nat_lt client 32) (op_stands s client op) may).0 in
    let left = rooms r few t.rooms t.err in
    let out : Outcome s (space_of new.indexes) (entry_of client op) r = record { after = t.after; told = t.reply; same = left.3 } in
    let by : Stepped (standing_of old) new client op r = record {
      body = record { sound = Outcome-sound s (space_of new.indexes) (entry_of client op) r out body.sound may; clients = left.0; ready = t.ready; booked = t.booked };
      after = t.after;
      reply = t.reply;
      room = left.1;
      other_rooms = left.2;
      rooms = t.rooms;
      err = t.err;
      good = λ turns. Outcome-good s (space_of new.indexes) (entry_of client op) r out may turns;
      others = Outcome-others s (space_of new.indexes) (entry_of client op) r out body.sound may;
    } in
    subst (λ x. Stepped x new client op r) view by
  where
    rooms : (r : Result Reply E) → client < 32 → OnOk r (new.rooms ≡ rooms_after (standing_of old) client op) → OnErr r (standing_of new ≡ standing_of old) →
        (length new.rooms ≡ 32) × OnOk r (room_of client new.rooms ≡ room_after (space_of old.indexes) (room_of client old.rooms) client op)
        × ((other : ℕ) → other ≢ client → room_of other new.rooms ≡ room_of other old.rooms) × OnErr r (space_of new.indexes ≡ space_of old.indexes)
    rooms (Ok x) few h k = (
      ap length h ∙ length-set old.rooms client _ ∙ body.clients,
      ap (room_of client) h ∙ get_or-set_same old.rooms client _ 0 (omega (arith, few, body.clients)),
      λ other differ. ap (room_of other) h ∙ get_or-set_other old.rooms client other _ 0 differ,
      tt,
    )
    rooms (Err e) few h k = (
      ap (λ (x : Standing). length x.rooms) k ∙ body.clients,
      tt,
      λ other differ. ap (λ (x : Standing). room_of other x.rooms) k,
      ap (λ (x : Standing). x.space) k,
    )

-- What is left of a body that callers see as `a` once room was made for a client.
pub record RoomMade {V E : Type 0} (a : Standing) (new : Body) (client : ℕ) (r : Result V E) : Type 0 where
  pub space : space_of new.indexes ≡ a.space
  pub room : OnOk r (0 < room_of client new.rooms)
  pub other_rooms : (other : ℕ) → other ≢ client → room_of other new.rooms ≡ room_of other a.rooms
  pub rooms : OnOk r (new.rooms ≡ rooms_made client a.rooms)
  pub err : OnErr r (standing_of new ≡ a)

pub room_made : {V E : Type 0} {a : Standing} (old new : Body) (r : Result V E) (client : ℕ) → standing_of old ≡ a → length old.rooms ≡ 32 → client < 32 →
    space_of new.indexes ≡ space_of old.indexes → OnOk r (new.rooms ≡ rooms_made client old.rooms) → OnErr r (standing_of new ≡ standing_of old) → RoomMade a new client r
room_made {V} {E} {a} old new r client view clients few space rooms err =
    subst (λ x. RoomMade x new client r) view (record { space = space; room = some r rooms; other_rooms = others r rooms err; rooms = rooms; err = err })
  where
    inside : client < length old.rooms
    inside = omega arith

    some : (r : Result V E) → OnOk r (new.rooms ≡ rooms_made client old.rooms) → OnOk r (0 < room_of client new.rooms)
    some (Ok v) h =
        let made : 0 < room_of client (rooms_made client old.rooms) = grind (arith, nat_tests, get_or-set_same old.rooms client 16 0 inside) in
        subst (λ rs. 0 < room_of client rs) (sym h) made
    some (Err e) h = tt

    others : (r : Result V E) → OnOk r (new.rooms ≡ rooms_made client old.rooms) → OnErr r (standing_of new ≡ standing_of old) → (other : ℕ) → other ≢ client → room_of other new.rooms ≡ room_of other old.rooms
    others (Ok v) h k other differ =
        let kept : room_of other (rooms_made client old.rooms) ≡ room_of other old.rooms = grind (arith, nat_tests, get_or-set_other old.rooms client other 16 0 differ) in
        ap (room_of other) h ∙ kept
    others (Err e) h k other differ = ap (λ (x : Standing). room_of other x.rooms) k

-- the space of an arena that begins is sound
abbrev opened : Space → Space
opened s = record s { parts = []; regions = []; offers = []; dirty = new_pace s.dirty.ms s.dirty.start; muzzy = new_pace s.muzzy.ms s.muzzy.start }

pub opening : (s : Space) → (s ≡ absent_space) ⊎ (s ≡ first_space) → Sound (opened s) × (opened s ≡ s)
opening s opens = elim opens [
  | inl e ↦ subst (λ x. Sound (opened x) × (opened x ≡ x)) (sym e) ((absent_replays_are_good [] refl).sound, refl)
  | inr e ↦ subst (λ x. Sound (opened x) × (opened x ≡ x)) (sym e) ((first_replays_are_good [] refl).sound, refl)
]
