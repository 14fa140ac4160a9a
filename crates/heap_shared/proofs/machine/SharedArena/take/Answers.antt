use Rattle.heap_shared.proofs.Words.{◌≡◌, ◌∙◌, Some, None, sym, ap, subst, arc_value, entry_of, owns, share_of, Released, is_met, touched, wanted, Facts, Logs, MayStand, after_entry, facts_of, owned_by, Reply, mine, Space, space_after, both_true, replayed_sound, opens, true, false, is_met_by, refl, IsTrue, stands, with_found, Deed, IsElsewhere, Op, Record, KeptFacts, found_in, founds, record_after}
use Rattle.heap_shared.proofs.Chunks.{owns_after}
use Rattle.heap_shared.proofs.Sweeps.{found_more, others_more}
use Rattle.heap_shared.proofs.Rooms.{after_is, found_kept, found_may, found_opens, found_room, logs_entry, opens_claims}
use Rattle.heap_shared.proofs.machine.SharedArena.take.Goals as goal

pub turn-requires-clause-stands : goal.turn-requires-clause-stands
turn-requires-clause-stands c =
    let s = facts_of c.self.inside.recorded (share_of c.self.inside.claims.seat).number (arc_value c.self.inside.claims.table) in
    let client = c.args.client in
    let doing = c.args.doing in
    let made = c.settle-op.result in
    let found = c.settle-op.ensures.op in
    let replayed = c.arena.ensures.replayed in
    let sound = replayed_sound s.arena.index s.arena.kept s.arena.space replayed in
    let may = subst (λ (f : Facts). MayStand (owned_by f client) doing) (sym c.self.view_is) c.requires.may in
    found_may s client doing found.0 made found.1 sound may

pub turn-requires-clause-kept : goal.turn-requires-clause-kept
turn-requires-clause-kept c =
    let s = facts_of c.self.inside.recorded (share_of c.self.inside.claims.seat).number (arc_value c.self.inside.claims.table) in
    let client = c.args.client in
    let doing = c.args.doing in
    let made = c.settle-op.result in
    let found = c.settle-op.ensures.op in
    let replayed = c.arena.ensures.replayed in
    let sound = replayed_sound s.arena.index s.arena.kept s.arena.space replayed in
    let may = subst (λ (f : Facts). MayStand (owned_by f client) doing) (sym c.self.view_is) c.requires.may in
    found_kept s client doing found.0 made found.1 sound may

pub returns-clause-entry : goal.returns-clause-entry
returns-clause-entry c =
    let s = facts_of c.self.inside.recorded (share_of c.self.inside.claims.seat).number (arc_value c.self.inside.claims.table) in
    let client = c.args.client in
    let doing = c.args.doing in
    let made = c.settle-op.result in
    let found = c.settle-op.ensures.op in
    let replayed = c.arena.ensures.replayed in
    let sound = replayed_sound s.arena.index s.arena.kept s.arena.space replayed in
    let may = subst (λ (f : Facts). MayStand (owned_by f client) doing) (sym c.self.view_is) c.requires.may in
    let stand = found_may s client doing found.0 made found.1 sound may in
    subst (λ (f : Facts). Logs f client doing c.of-made.result) c.self.view_is
    (logs_entry s client doing found.0 c.of-made.result (c.of-made.ensures ∙ ap (λ (o : Op). record { client = client; op = o; asked = doing.asked }) found.1) (subst (λ (t : Space). IsElsewhere (wanted doing.op) t found.0) c.arena.ensures.space found.2) replayed c.arena.ensures.clients
    (subst (λ (o : Op). IsTrue (stands s.arena.space (entry_of client o))) found.1 stand)
    (λ k ne. ap (λ (o : Op). mine k (space_after s.arena.space (entry_of client o))) (sym found.1) ∙ ap (λ (r : Record). mine k r.space) (sym c.in_ok-turn.ensures.after) ∙ c.in_ok-turn.ensures.others k ne))

pub invariant_of-self-2 : goal.invariant_of-self-2
invariant_of-self-2 c =
    let s = facts_of c.self.inside.recorded (share_of c.self.inside.claims.seat).number (arc_value c.self.inside.claims.table) in
    let client = c.args.client in
    let doing = c.args.doing in
    let made = c.settle-op.result in
    let found = c.settle-op.ensures.op in
    let replayed = c.arena.ensures.replayed in
    let sound = replayed_sound s.arena.index s.arena.kept s.arena.space replayed in
    let may = subst (λ (f : Facts). MayStand (owned_by f client) doing) (sym c.self.view_is) c.requires.may in
    let stand = found_may s client doing found.0 made found.1 sound may in
    let old = share_of c.self.inside.claims.seat in
    let mid = share_of c.settle-op.new.self.seat in
    let new = share_of c.release.new.self.seat in
    let reply = c.turn.new.reply in
    let left = ap (λ (r : Record). r.space) c.in_ok-turn.ensures.after in
    let one = subst (λ p. Released p c.arena-arena.result.now.space mid new) (c.with.ensures ∙ c.touch-touch.ensures reply) c.release.ensures.released in
    let two = subst (λ (t : Space). Released (touched made reply) t mid new) (c.arena-arena.ensures.space ∙ left) one in
    let three = subst (λ (r : Reply). Released (touched made r) (space_after s.arena.space (entry_of client made)) mid new) c.in_ok-turn.ensures.reply two in
    let entered : KeptFacts = record { entry = entry_of client made; asked = doing.asked } in record {
      owned = λ chunk. subst (λ (t : Space). owns chunk new ≡ is_met chunk t) (sym left)
          (owns_after client s.arena.space made sound (both_true _ _ stand).1 chunk old mid new c.self.invariant.owned c.settle-op.ensures.claimed three);
      found = found_more old.number old.taken mid.taken new.taken s.arena.kept entered c.self.invariant.found c.settle-op.ensures.claimed.fails c.release.ensures.failed
          ∙ ap founds (sym (ap (λ (r : Record). r.kept) c.in_ok-turn.ensures.after));
      others = others_more old mid new (found_in made) c.self.invariant.others c.settle-op.ensures.claimed.fails c.release.ensures.failed (c.release.ensures.number ∙ c.settle-op.ensures.claimed.number);
    }
