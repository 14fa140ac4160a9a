use Rattle.part_book.proofs.Searches.{right_inside}
use Rattle.part_book.proofs.PartBook.right_of.Goals as goal

pub returns : goal.returns
returns c = let k = right_inside c.args.part.now c.self.view_is c.self.invariant.table.indexes.apart c.beside.ensures c.like.ensures in record { right = k.found; there = k.there }
