use Rattle.part_book.proofs.Searches.{left_inside}
use Rattle.part_book.proofs.PartBook.left_of.Goals as goal

pub returns : goal.returns
returns c = let k = left_inside c.args.part.now c.self.view_is c.self.invariant.table.indexes.apart c.beside.ensures c.like.ensures in record { left = k.found; there = k.there }
