-- What a turn of the lock tells of the arena.
use Rattle.heap_shared.proofs.Words.{◌≡◌, Result, Ok, Err, IfOk, ap, ◌∙◌, subst, arith, Snapshot, mine, space_after, reply_to, entry_of, room_after, room_of, rooms_after, get_or-set_same, Ghosts, TurnLock, Pass, replay_turns, first, number, seen, LockTurned, with_found, Deed, Doing, Told, Facts, Logs, Owned, after_entry, owned_by, Turned, space_of_history}

-- what follows of each answer follows of the one that came
if_ok : {A E : Type 0} {P Q : A → Type 0} (r : Result A E) → ((a : A) → P a → Q a) → IfOk r P → IfOk r Q
if_ok (Ok a) more holds = more a holds
if_ok (Err e) more holds = holds

module _ {M : Type 0} {g : Ghosts M Facts Doing (Snapshot Deed) Told Owned} (lock : TurnLock M Facts Doing (Snapshot Deed) Told Owned) (old new : Pass M Facts Doing (Snapshot Deed) Told Owned g) (doing : Doing) where
  -- a turn of the lock is one of the arena
  turned : (r : Told) → number new ≡ number old → LockTurned Logs after_entry owned_by {g = g} lock old new doing r → Turned lock old new doing r
  turned r same t =
      let met : Facts = replay_turns after_entry (first lock) t.before in
      let c = number old in
      let is = t.logged.is in record {
        before = t.before;
        chunk = t.logged.chunk;
        elsewhere = t.logged.elsewhere;
        found = ap (λ (w : Owned). w.has) t.met;
        reply = ap (λ (x : Told). x.reply) t.reply ∙ ap (λ (d : Deed). reply_to met.arena.space (entry_of d.client d.op)) is;
        box = ap (λ (x : Told). x.box_no) t.reply ∙ ap (λ (d : Deed). (space_after met.arena.space (entry_of d.client d.op)).box_no) is;
        left = subst (λ n. mine n (space_of_history lock (seen new)) ≡ mine c (space_after met.arena.space (entry_of c (with_found t.logged.chunk doing.op)))) same
            (ap (λ (w : Owned). w.has) t.left ∙ ap (λ (d : Deed). mine c (space_after met.arena.space (entry_of d.client d.op))) is);
        room = λ few.
            ap (λ (w : Owned). w.room) t.left
            ∙ ap (λ (d : Deed). room_of c (rooms_after (record { space = met.arena.space; rooms = met.arena.rooms }) d.client d.op)) is
            ∙ get_or-set_same met.arena.rooms c (room_after met.arena.space (room_of c met.arena.rooms) c (with_found t.logged.chunk doing.op)) 0 (let all = t.logged.clients in omega (arith, few, all))
            ∙ ap (λ (w : Owned). room_after met.arena.space w.room c (with_found t.logged.chunk doing.op)) t.met;
      }

  -- whatever came of it
  pub turned_if_ok : {E : Type 0} (r : Result Told E) → number new ≡ number old → IfOk r (λ a. LockTurned Logs after_entry owned_by {g = g} lock old new doing a) → IfOk r (λ a. Turned lock old new doing a)
  turned_if_ok r same t = if_ok r (λ a. turned a same) t
