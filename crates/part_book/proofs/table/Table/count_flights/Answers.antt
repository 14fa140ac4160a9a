use Rattle.part_book.proofs.Words.{ap, length, arith, rows_of}
use Rattle.part_book.proofs.Indexes.{count_flights}
use Rattle.part_book.proofs.table.Table.count_flights.Goals as goal

pub returns : goal.returns
returns c = let all = ap length c.requires.table.indexes.lists.flights in omega (arith, c.len.ensures, all, count_flights (rows_of c.args.self.now))
