use Rattle.part_book.proofs.Words.{◌∙◌, ap, length, rows_of}
use Rattle.part_book.proofs.Fitting.{count_listed}
use Rattle.part_book.proofs.table.Table.count.Goals as goal

pub returns : goal.returns
returns c = c.len.ensures ∙ ap length c.list_of.ensures.numbers ∙ count_listed c.args.rest (rows_of c.args.self.now)
