use Rattle.part_book.proofs.Words.{length, filter, is_above}
use Rattle.part_book.proofs.Fitting.{IsWalk}
use Rattle.part_book.proofs.table.Table.fit_of.Given as goal

abbrev pub invariant-loop-size : goal.invariant-loop-size
invariant-loop-size l = IsWalk l.self.sizes.keys l.size l.rank l.pages l.align

abbrev pub decreases-loop-size : goal.decreases-loop-size
decreases-loop-size l = length (filter (is_above l.size) l.self.sizes.keys)
