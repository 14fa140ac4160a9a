use Rattle.part_book.proofs.Words.{◌+◌, ◌*◌, arith}
use Rattle.part_book.proofs.Chunks.{more_leaves}
use Rattle.part_book.proofs.Rooms.{room_less}
use Rattle.part_book.proofs.PartBook.take_off.Goals as goal

pub invariant_of-self : goal.invariant_of-self
invariant_of-self c =
    let t = c.take_off.new.self in
    let n = c.self.inside.spare in
    record {
      table = c.take_off.ensures.kept.table;
      room = room_less t (n + 1) n (c.take_off.ensures.room n c.self.invariant.room) (omega arith);
      leaves = more_leaves c.self.inside.table.edges t.edges (2 * n) c.take_off.ensures.chunks (omega arith) c.self.invariant.leaves;
    }
