use Rattle.part_book.proofs.Words.{nat_tests, ℕ, ◌+◌, Row, with_edges, without_edges, Pages, HasMore, set_at, ◌++◌, [], ◌∷◌, refl, sym, ap, ◌∙◌, subst, arith, option_to_list, vec_len, vec_capacity, map-append, rows_of}
use Rattle.part_book.proofs.Additions.{absent_first, can_lower, order_less, parts_more, popped}
use Rattle.part_book.proofs.Changed.{own}
use Rattle.part_book.proofs.Divided.{high_fresh, high_rows, low_fresh, low_rows, table_divided}
use Rattle.part_book.proofs.Rowed.{apart_less, others}
use Rattle.std.specs.FinMap as map_of
use Rattle.part_book.proofs.table.Table.divide.Goals as goal

pub index_mut-requires : goal.index_mut-requires
index_mut-requires c = grind (arith, nat_tests, popped)

pub move_edges-requires-clause-own : goal.move_edges-requires-clause-own
move_edges-requires-clause-own c = own c.args.self.now _ c.requires.table c.requires.there c.lift.new.self.edges c.lift.ensures.others.edges

pub insert-requires-clause-absent : goal.insert-requires-clause-absent
insert-requires-clause-absent c =
    let t = c.args.self.now in
    let high : Row = record { number = c.unwrap-other.result; part = c.args.high } in
    let unused = popped t _ _ _ c.requires.table (ap (λ v. v.items) (sym c.lift.ensures.others.free) ∙ c.pop.ensures.items) c.unwrap-other.ensures in
    rw (c.first_key.ensures, c.lift.ensures.others.firsts) (absent_first t high c.requires.table unused)

pub lower-requires : goal.lower-requires
lower-requires c =
    let t = c.args.self.now in
    let i = c.requires.table in
    let m = c.requires.there in
    let row : Row = record { number = c.args.number; part = c.args.part } in
    let low : Row = record { number = c.args.number; part = c.args.low } in
    let high : Row = record { number = c.unwrap-other.result; part = c.args.high } in
    let unused = popped t _ _ _ i (ap (λ v. v.items) (sym c.lift.ensures.others.free) ∙ c.pop.ensures.items) c.unwrap-other.ensures in
    let new = high_fresh t row i m low high refl c.requires.pieces c.requires.apart unused in
    let room = c.lift.ensures.room 1 c.requires.room.lists in
    let all = i.indexes.places in
    can_lower (others row.number (rows_of t)) high (vec_len t.slots) new _ (order_less t (rows_of t) row i m _ c.lift.ensures.order) (omega (arith, c.lift.ensures.places)) (apart_less row.number (rows_of t) i.indexes.apart)
    (high_rows t row i m low high refl c.requires.pieces c.requires.apart unused c.lift.new.self c.lift.ensures.lists) (record { sizes = omega (arith, room.sizes); flights = omega (arith, room.flights) })

pub lower-requires-2 : goal.lower-requires-2
lower-requires-2 c =
    let t = c.args.self.now in
    let i = c.requires.table in
    let m = c.requires.there in
    let row : Row = record { number = c.args.number; part = c.args.part } in
    let low : Row = record { number = c.args.number; part = c.args.low } in
    let high : Row = record { number = c.unwrap-other.result; part = c.args.high } in
    let rest = others row.number (rows_of t) in
    let unused = popped t _ _ _ i (ap (λ v. v.items) (sym c.lift.ensures.others.free) ∙ c.pop.ensures.items) c.unwrap-other.ensures in
    let first = high_fresh t row i m low high refl c.requires.pieces c.requires.apart unused in
    let new = low_fresh t row i m low high refl c.requires.pieces c.requires.apart unused in
    let up = c.lift.ensures.room 1 c.requires.room.lists in
    let room = c.lower.ensures.room 1 (record { sizes = omega (arith, up.sizes); flights = omega (arith, up.flights) }) in
    let all = i.indexes.places in
    let order = c.lower.ensures.order ∙ ap (λ ns. ns ++ high.number ∷ []) (order_less t (rows_of t) row i m _ c.lift.ensures.order) ∙ sym (map-append (λ r. r.number) rest (high ∷ [])) in
    can_lower (rest ++ high ∷ []) low (vec_len t.slots) new _ order (omega (arith, c.lift.ensures.places, c.lower.ensures.places)) (parts_more rest high (vec_len t.slots) first (apart_less row.number (rows_of t) i.indexes.apart))
    (low_rows t row i m low high refl c.requires.pieces c.requires.apart unused c.lift.new.self c.lift.ensures.lists c.lower.new.self c.lower.ensures.lists) room

pub returns-clause-room : goal.returns-clause-room
returns-clause-room c n room =
    let l = c.lift.ensures.others in
    let k = c.lower.ensures.others in
    let k2 = c.lower-2.ensures.others in
    let free = ap (λ v. vec_len v) (k2.free ∙ k.free) in
    let lifted = ap (λ v. vec_len v) l.free in
    let firsts = ap (λ s. s.spare) (k2.firsts ∙ k.firsts) in
    let keys = ap (λ s. s.spare) l.firsts in
    let fewer = rw c.unwrap-other.ensures at c.pop.ensures.len in
    let up = c.lift.ensures.room (n + 1) room.lists in
    let one = c.lower.ensures.room (n + 1) (record { sizes = omega (arith, up.sizes); flights = omega (arith, up.flights) }) in
    record {
      firsts = omega (arith, room.firsts);
      free = omega (arith, room.free);
      lists = c.lower-2.ensures.room n (record { sizes = one.sizes; flights = one.flights });
    }

pub returns-clause-kept : goal.returns-clause-kept
returns-clause-kept c =
    let t = c.args.self.now in
    let l = c.lift.ensures.others in
    let k = c.lower.ensures.others in
    let k2 = c.lower-2.ensures.others in
    let unused = popped t _ _ _ c.requires.table (ap (λ v. v.items) (sym l.free) ∙ c.pop.ensures.items) c.unwrap-other.ensures in
    let row : Row = record { number = c.args.number; part = c.args.part } in
    let low : Row = record { number = c.args.number; part = c.args.low } in
    let high : Row = record { number = c.unwrap-other.result; part = c.args.high } in
    let free = k2.free ∙ k.free in
    let len = ap (λ v. vec_len v) free in
    let capacity = ap (λ v. vec_capacity v) free in
    let lifted = ap (λ v. vec_len v) l.free in
    let lifted_room = ap (λ v. vec_capacity v) l.free in
    let fewer = rw c.unwrap-other.ensures at c.pop.ensures.len in
    let order = c.lower-2.ensures.order ∙ ap (λ ns. ns ++ low.number ∷ []) (c.lower.ensures.order ∙ ap (λ ns. ns ++ high.number ∷ []) c.lift.ensures.order) in
    let moved = λ (page : ℕ). c.move_edges.ensures.numbers page ∙ ap (λ (e : Pages). map_of.get (with_edges (without_edges e.numbers c.args.part.span) c.args.low.span low.number) page) l.edges in
    let leaves = subst (λ (e : Pages). HasMore e.chunks c.move_edges.new.edges.chunks c.args.low.span) l.edges c.move_edges.ensures.chunks in
    table_divided t row c.requires.table c.requires.there low high refl c.requires.pieces c.requires.apart unused c.lift.new.self c.lift.ensures.lists c.lower.new.self c.lower.ensures.lists
    c.move_edges.new.edges c.set_edges.new.edges c.lower-2.new.self c.lower-2.ensures.lists order (c.lower-2.ensures.places ∙ c.lower.ensures.places ∙ c.lift.ensures.places) moved leaves c.set_edges.ensures.numbers c.set_edges.ensures.chunks (k2.edges ∙ k.edges)
    (ap (λ v. v.items) (k2.slots ∙ k.slots) ∙ ap (λ v. set_at (set_at v.items high.number c.args.high) low.number c.args.low) l.slots) (ap (λ v. vec_len v) (k2.slots ∙ k.slots) ∙ ap (λ v. vec_len v) l.slots)
    (ap (λ s. s.keys) (k2.firsts ∙ k.firsts) ∙ rw (c.first_key.ensures, l.firsts) at c.insert.ensures.keys)
    (ap (λ v. v.items) (sym l.free) ∙ c.pop.ensures.items ∙ ap (λ o. c.pop.new.self.items ++ option_to_list o) c.unwrap-other.ensures ∙ ap (λ v. v.items ++ c.unwrap-other.result ∷ []) (sym free))
    (omega arith) (omega arith)
