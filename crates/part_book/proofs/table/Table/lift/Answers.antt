use Rattle.part_book.proofs.Words.{arith, not, eqb, filter, length, ap, ◌∙◌}
use Rattle.part_book.proofs.Additions.{order_fewer}
use Rattle.part_book.proofs.table.Table.lift.Goals as goal

pub returns-clause-room : goal.returns-clause-room
returns-clause-room c n room =
    let fewer = order_fewer c.args.self.now _ c.requires.table c.requires.there _ (c.remove.ensures.numbers ∙ ap (λ o. filter (λ n. not (eqb n c.args.number)) o.numbers) c.leave.ensures.order) in
    let left = c.leave.ensures.room n room in
    let same = ap (λ o. length o.numbers) c.leave.ensures.order in
    record { sizes = omega (arith, left.sizes); flights = omega (arith, left.flights) }
