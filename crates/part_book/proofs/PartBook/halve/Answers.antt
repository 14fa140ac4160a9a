use Rattle.part_book.proofs.Words.{◌≡◌, ◌+◌, ◌-◌, ◌*◌, ◌/◌, not, filter, find, sym, ap, ◌∙◌, subst, arith, end_of, begins_at, high_piece, HasRoomFor, parts_of}
use Rattle.part_book.proofs.Changed.{high_apart, low_apart}
use Rattle.part_book.proofs.Chunks.{leaves_first, leaves_last, leaves_none}
use Rattle.part_book.proofs.Rooms.{room_less}
use Rattle.part_book.proofs.PartBook.halve.Goals as goal

pub exchange-requires-clause-apart : goal.exchange-requires-clause-apart
exchange-requires-clause-apart c =
    let p = c.args.part.now in
    let at = c.number_of-number.ensures in
    rw c.low_piece.ensures (low_apart c.args.left p (filter (λ x. not (begins_at p.span.first x)) (parts_of c.self.inside.table)) c.requires.fewer at.apart)

pub put_on-requires-clause-apart : goal.put_on-requires-clause-apart
put_on-requires-clause-apart c =
    let p = c.args.part.now in
    let at = c.number_of-number.ensures in
    rw c.high_piece.ensures (high_apart c.args.left p _ (filter (λ x. not (begins_at p.span.first x)) (parts_of c.self.inside.table)) (parts_of c.exchange.new.self) c.requires.fewer at.apart (ap (λ q. q.span) c.low_piece.ensures) c.exchange.ensures.kept.parts)

pub put_on-requires-clause-room : goal.put_on-requires-clause-room
put_on-requires-clause-room c =
    let was : c.self.inside.spare ≡ c.args.self.now.spare = ap (λ b. b.spare) c.self.view_is in
    let n = c.self.inside.spare in
    room_less c.exchange.new.self n 1 (c.exchange.ensures.room n c.self.invariant.room) (omega arith)

pub invariant_of-self : goal.invariant_of-self
invariant_of-self c =
    let was : c.self.inside.spare ≡ c.args.self.now.spare = ap (λ b. b.spare) c.self.view_is in
    let n = c.self.inside.spare in
    let back : n ≡ n - 1 + 1 = omega arith in
    let t = c.self.inside.table in
    let u = c.exchange.new.self in
    let p = c.args.part.now in
    let there = leaves_none t.edges p.span c.number_of-number.ensures.leaves in
    let low = leaves_first t.edges c.low_piece.result.span (rw c.low_piece.ensures there.0) in
    let next = c.exchange.ensures.leaves (2 * n - 1) (omega arith) in
    let fewer = c.requires.fewer in
    let same : end_of (high_piece c.args.left p).span ≡ end_of p.span = omega arith in
    let last = c.exchange.ensures.chunks ((end_of p.span - 1) / 512) there.1 in
    let high = leaves_last u.edges c.high_piece.result.span (rw (c.high_piece.ensures, same) last) in
    record {
      table = c.put_on.ensures.kept.table;
      room = c.put_on.ensures.room (n - 1) (subst (HasRoomFor u) back (c.exchange.ensures.room n c.self.invariant.room));
      leaves = c.put_on.ensures.leaves (2 * (n - 1)) (omega arith);
    }
