use Rattle.part_book.proofs.Words.{◌+◌, [], ◌∷◌, length, length-append, ap, arith}
use Rattle.part_book.proofs.table.Table.lower.Goals as goal

pub returns-clause-room : goal.returns-clause-room
returns-clause-room c n room =
    let entered = c.enter.ensures.room (n + 1) room in
    let order = ap length c.push.ensures.numbers in
    let more = length-append c.enter.new.self.order.numbers (c.args.number ∷ []) in
    record { sizes = omega (arith, entered.sizes); flights = omega (arith, entered.flights) }
