use Rattle.part_book.proofs.Words.{◌++◌, refl, ap, ◌∙◌, arith, option_to_list, vec_len, Row, rows_of}
use Rattle.part_book.proofs.Additions.{absent_first, can_lower, fresh, popped, table_added}
use Rattle.part_book.proofs.table.Table.put_on.Goals as goal

pub index_mut-requires : goal.index_mut-requires
index_mut-requires c = (popped c.args.self.now _ _ _ c.requires.table c.pop.ensures.items c.unwrap-number.ensures).slot

pub insert-requires-clause-absent : goal.insert-requires-clause-absent
insert-requires-clause-absent c =
    let row : Row = record { number = c.unwrap-number.result; part = c.args.part } in
    rw c.first_key.ensures (absent_first c.args.self.now row c.requires.table (popped c.args.self.now _ _ _ c.requires.table c.pop.ensures.items c.unwrap-number.ensures))

pub lower-requires : goal.lower-requires
lower-requires c =
    let t = c.args.self.now in
    let row : Row = record { number = c.unwrap-number.result; part = c.args.part } in
    let new = fresh t row c.requires.table (popped t _ _ _ c.requires.table c.pop.ensures.items c.unwrap-number.ensures) c.requires.placed c.requires.apart in
    let x = c.requires.table.indexes in
    can_lower (rows_of t) row (vec_len t.slots) new _ x.order x.places x.apart x.lists (record { sizes = c.requires.room.lists.sizes; flights = c.requires.room.lists.flights })

pub returns-clause-kept : goal.returns-clause-kept
returns-clause-kept c =
    let t = c.args.self.now in
    let row : Row = record { number = c.unwrap-number.result; part = c.args.part } in
    let unused = popped t _ _ _ c.requires.table c.pop.ensures.items c.unwrap-number.ensures in
    let fewer = rw c.unwrap-number.ensures at c.pop.ensures.len in
    let free = c.pop.ensures.items ∙ ap (λ o. c.pop.new.self.items ++ option_to_list o) c.unwrap-number.ensures in
    table_added t _ _ row c.requires.table unused c.requires.placed c.requires.apart c.lower.ensures.order c.lower.ensures.places c.lower.ensures.lists c.lower.ensures.others
    (rw c.first_key.ensures at c.insert.ensures.keys) c.set_edges.ensures.numbers c.set_edges.ensures.chunks refl refl free (omega arith) (omega arith)

pub returns-clause-room : goal.returns-clause-room
returns-clause-room c n room =
    let l = c.lower.ensures.others in
    let len = ap (λ v. vec_len v) l.free in
    let firsts = ap (λ k. k.spare) l.firsts in
    let fewer = rw c.unwrap-number.ensures at c.pop.ensures.len in
    record {
      firsts = omega (arith, room.firsts);
      free = omega (arith, room.free);
      lists = c.lower.ensures.room n (record { sizes = room.lists.sizes; flights = room.lists.flights });
    }
