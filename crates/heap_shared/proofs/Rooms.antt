-- What an operation finds that may stand, and what its entry leaves to others.
use Rattle.heap_shared.proofs.Words.{◌≡◌, ◌≢◌, ℕ, ◌<◌, ◌++◌, false, IsTrue, List, [], ◌∷◌, Option, None, Some, length, sym, refl, ap, ◌∙◌, subst, arith, get_or-set_other, get_or-set_same, length-set, Snapshot, Op, Reply, mine, Sound, GrowDone, OfferDone, Space, space_after, reply_to, stands, entry_of, opens, room_of, rooms_after, ChunkTable, wanted, with_found, IsElsewhere, Facts, facts_of, Logs, MayStand, Deed, Doing, Told, deed_of, after_entry, owned_by, Turn, replay_turns, IsKept, heard_of, AskFacts, Record, IsReplayed, record_after, after_deed, true}
use Rattle.space_model.specs.declared.Heard.{Heard}
use Rattle.std.specs.Prelude.{IfSome, IsSomeAnd}
use Rattle.hook_api.specs.Asked.{heard_in}
use Rattle.arena_core.specs.Arenas.{room_after}

-- whether an operation may stand, whether it is the first of a unit and what it carries has nothing to do with what is found
found_stands : (s : Space) (client : ℕ) (op : Op) (chunk : Option ℕ) → stands s (entry_of client (with_found chunk op)) ≡ stands s (entry_of client op)
found_stands s client (GrowDone heard found) chunk = refl
found_stands s client (OfferDone heard found) chunk = refl
found_stands s client op chunk = refl

pub found_opens : (op : Op) (chunk : Option ℕ) → opens (with_found chunk op) ≡ opens op
found_opens (GrowDone heard found) chunk = refl
found_opens (OfferDone heard found) chunk = refl
found_opens op chunk = refl

found_heard : (op : Op) (chunk : Option ℕ) → heard_of (with_found chunk op) ≡ heard_of op
found_heard (GrowDone heard found) chunk = refl
found_heard (OfferDone heard found) chunk = refl
found_heard op chunk = refl

-- so an operation that may stand does with whatever is found
module _ (s : Facts) (client : ℕ) (doing : Doing) (chunk : Option ℕ) (made : Op) (is : made ≡ with_found chunk doing.op) (sound : Sound s.arena.space) (may : MayStand (owned_by s client) doing) where
  pub found_may : IsTrue (stands s.arena.space (entry_of client made))
  found_may = subst IsTrue (sym (ap (λ o. stands s.arena.space (entry_of client o)) is ∙ found_stands s.arena.space client doing.op chunk)) (may.1 s.arena.space sound refl)

  pub found_room : opens made ≡ false → 0 < room_of client s.arena.rooms
  found_room first = may.0 (sym (found_opens doing.op chunk) ∙ sym (ap opens is) ∙ first)

  pub found_kept : IsKept (entry_of client made) doing.asked
  found_kept = subst (λ (h : Option Heard). IfSome h (λ heard. IsSomeAnd doing.asked (λ made. heard_in made ≡ heard))) (sym (ap heard_of is ∙ found_heard doing.op chunk)) may.2

-- an operation that opens a unit claims nothing
pub opens_claims : (op : Op) (found : Option ℕ) → opens op ≡ true → wanted op ≡ None
opens_claims (GrowDone heard found) f e = absurd (cc)
opens_claims (OfferDone heard found) f e = absurd (cc)
opens_claims op f e = refl

-- an entry that changes nothing that another client owns is logged
pub logs_entry : (s : Facts) (client : ℕ) (doing : Doing) (chunk : Option ℕ) (e : Snapshot Deed) → e.value ≡ deed_of client doing chunk → IsElsewhere (wanted doing.op) s.arena.space chunk
    → IsReplayed s.arena.index s.arena.kept s.arena.space → length s.arena.rooms ≡ 32 → IsTrue (stands s.arena.space (entry_of client (with_found chunk doing.op)))
    → ((k : ℕ) → k ≢ client → mine k (space_after s.arena.space (entry_of client (with_found chunk doing.op))) ≡ mine k s.arena.space) → Logs s client doing e
logs_entry s client doing chunk e is elsewhere replayed clients stand others = record {
  chunk = chunk;
  is = is;
  elsewhere = elsewhere;
  replayed = replayed;
  clients = clients;
  stands = stand;
  others = λ k ne.
      let has : mine k (space_after s.arena.space (entry_of e.value.client e.value.op)) ≡ mine k s.arena.space = ap (λ (d : Deed). mine k (space_after s.arena.space (entry_of d.client d.op))) is ∙ others k ne in
      let other : k ≢ e.value.client = λ same. ne (same ∙ ap (λ (d : Deed). d.client) is) in
      let room = get_or-set_other s.arena.rooms e.value.client k (room_after s.arena.space (room_of e.value.client s.arena.rooms) e.value.client e.value.op) 0 other in
      λ j. record { client = k; has = has j; room = room j };
}

-- the arena after an entry is what the lock says of it
pub after_is : (s : Facts) (new : Record) (number : ℕ) (table : ChunkTable) → number ≡ s.number → table ≡ s.table → (client : ℕ) (op : Op) (asked : Option AskFacts) (e : Snapshot Deed) (reply : Reply) (box_no : ℕ) → e.value ≡ record { client = client; op = op; asked = asked }
    → new ≡ record_after s.arena client op asked → reply ≡ reply_to s.arena.space (entry_of client op) → box_no ≡ new.space.box_no
    → ◌≡◌ {A = Facts × Told} (facts_of new number table, record { reply = reply; box_no = box_no }) (after_entry s e)
after_is s new number table kept at client op asked e reply box_no is after told box =
    let boxed : box_no ≡ (space_after s.arena.space (entry_of client op)).box_no = box ∙ ap (λ (r : Record). r.space.box_no) after in
    subst (λ (d : Deed). ◌≡◌ {A = Facts × Told} (facts_of new number table, record { reply = reply; box_no = box_no }) (after_deed s d)) (sym is)
    (λ j. (facts_of (after j) (kept j) (at j), record { reply = told j; box_no = boxed j }))
