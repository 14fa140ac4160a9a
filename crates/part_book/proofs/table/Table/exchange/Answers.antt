use Rattle.part_book.proofs.Words.{ℕ, ◌++◌, [], ◌∷◌, not, eqb, filter, length, length-append, length-map, Row, refl, sym, ap, ◌∙◌, subst, arith, set_at, vec_len, Pages, HasMore, with_edges, without_edges, rows_of}
use Rattle.part_book.proofs.Additions.{can_enter, fewer, lists_less, order_fewer}
use Rattle.part_book.proofs.Changed.{fresh_for, own, table_exchanged}
use Rattle.part_book.proofs.Rowed.{apart_less, others, row_placed}
use Rattle.std.specs.FinMap as map_of
use Rattle.part_book.proofs.table.Table.exchange.Goals as goal

pub move_edges-requires-clause-from : goal.move_edges-requires-clause-from
move_edges-requires-clause-from c = row_placed (rows_of c.args.self.now) _ c.requires.table.indexes.apart c.requires.there

pub move_edges-requires-clause-own : goal.move_edges-requires-clause-own
move_edges-requires-clause-own c = own c.args.self.now _ c.requires.table c.requires.there c.leave.new.self.edges c.leave.ensures.others.edges

pub enter-requires : goal.enter-requires
enter-requires c =
    let t = c.args.self.now in
    let rows = rows_of t in
    let row : Row = record { number = c.args.number; part = c.args.part } in
    let other : Row = record { number = c.args.number; part = c.args.other } in
    let new = fresh_for t row c.requires.table c.requires.there other refl c.requires.placed c.requires.apart in
    let room = c.leave.ensures.room 0 c.requires.room in
    let same = ap (λ o. length o.numbers) c.leave.ensures.order in
    let all = ap length c.requires.table.indexes.order ∙ length-map rows (λ r. r.number) in
    can_enter (others row.number rows) other (vec_len t.slots) new _ 0 (apart_less row.number rows c.requires.table.indexes.apart)
    (lists_less t rows row c.requires.table c.requires.there _ c.leave.ensures.lists) (record { sizes = room.sizes; flights = room.flights }) (omega (arith, fewer t rows row c.requires.table c.requires.there))

pub returns-clause-kept : goal.returns-clause-kept
returns-clause-kept c =
    let l = c.leave.ensures.others in
    let k = c.enter.ensures.others in
    let number = c.args.number in
    let order = c.enter.ensures.order ∙ c.leave.ensures.order in
    let moved = λ (page : ℕ). c.move_edges.ensures.numbers page ∙ ap (λ (e : Pages). map_of.get (with_edges (without_edges e.numbers c.args.part.span) c.args.other.span number) page) l.edges in
    let leaves = subst (λ (e : Pages). HasMore e.chunks c.move_edges.new.edges.chunks c.args.other.span) l.edges c.move_edges.ensures.chunks in
    table_exchanged c.args.self.now (record { number = number; part = c.args.part }) c.requires.table c.requires.there c.leave.new.self _ (record { number = number; part = c.args.other }) refl c.requires.placed c.requires.apart c.requires.first
    c.leave.ensures.lists c.enter.ensures.lists (c.renew.ensures.numbers ∙ ap (λ o. filter (λ n. not (eqb n number)) o.numbers ++ number ∷ []) order) (c.renew.ensures.places ∙ ap (λ o. o.places) order) (k.firsts ∙ l.firsts)
    (λ page. ap (λ e. map_of.get e.numbers page) k.edges ∙ moved page) (subst (λ (e : Pages). HasMore c.args.self.now.edges.chunks e.chunks c.args.other.span) (sym k.edges) leaves)
    (ap (λ v. v.items) k.slots ∙ ap (λ v. set_at v.items number c.args.other) l.slots) (ap (λ v. vec_len v) k.slots ∙ ap (λ v. vec_len v) l.slots) (k.free ∙ l.free)

pub returns-clause-room : goal.returns-clause-room
returns-clause-room c n room =
    let t = c.args.self.now in
    let l = c.leave.ensures.others in
    let k = c.enter.ensures.others in
    let free = ap (λ v. vec_len v) (k.free ∙ l.free) in
    let firsts = ap (λ s. s.spare) (k.firsts ∙ l.firsts) in
    let left = c.leave.ensures.room n room.lists in
    let lists = c.enter.ensures.room n (record { sizes = left.sizes; flights = left.flights }) in
    let fewer = order_fewer t (record { number = c.args.number; part = c.args.part }) c.requires.table c.requires.there _ refl in
    let kept = c.enter.ensures.order ∙ c.leave.ensures.order in
    let same = ap (λ o. length o.numbers) kept in
    let order = ap length (c.renew.ensures.numbers ∙ ap (λ o. filter (λ n. not (eqb n c.args.number)) o.numbers ++ c.args.number ∷ []) kept) in
    let more = length-append (filter (λ n. not (eqb n c.args.number)) t.order.numbers) (c.args.number ∷ []) in
    record {
      firsts = omega (arith, room.firsts);
      free = omega (arith, room.free);
      lists = record { sizes = omega (arith, lists.sizes); flights = omega (arith, lists.flights) };
    }
