use Rattle.part_book.proofs.Words.{◌∙◌, rows_of}
use Rattle.part_book.proofs.Fitting.{pages_listed}
use Rattle.part_book.proofs.table.Table.pages.Goals as goal

pub returns : goal.returns
returns c = c.list_of.ensures.pages ∙ pages_listed c.args.rest (rows_of c.args.self.now)
