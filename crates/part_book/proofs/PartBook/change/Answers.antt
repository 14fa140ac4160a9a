use Rattle.part_book.proofs.Words.{◌*◌, arith}
use Rattle.part_book.proofs.PartBook.change.Goals as goal

pub invariant_of-self : goal.invariant_of-self
invariant_of-self c =
    let n = c.self.inside.spare in
    record {
      table = c.exchange.ensures.kept.table;
      room = c.exchange.ensures.room n c.self.invariant.room;
      leaves = c.exchange.ensures.leaves (2 * n) (let none = c.number_of-number.ensures.leaves in let left = c.self.invariant.leaves in omega arith);
    }
