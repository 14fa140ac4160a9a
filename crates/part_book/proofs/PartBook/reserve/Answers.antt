use Rattle.part_book.proofs.Words.{◌*◌}
use Rattle.part_book.proofs.PartBook.reserve.Goals as goal

pub invariant_of-self : goal.invariant_of-self
invariant_of-self c =
    let n = c.self.inside.spare in
    let e = c.in_err-reserve.ensures in
    record { table = e.kept.table; room = e.room n c.self.invariant.room; leaves = e.leaves (2 * n) c.self.invariant.leaves }
