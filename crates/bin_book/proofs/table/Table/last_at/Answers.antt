use Rattle.bin_book.proofs.Words.{sym, ◌∙◌}
use Rattle.bin_book.proofs.Holding.{charted_found}
use Rattle.bin_book.proofs.table.Table.last_at.Goals as goal

pub returns-in-Some-clause-some : goal.returns-in-Some-clause-some
returns-in-Some-clause-some c = charted_found c.args.self.now c.requires.table c.args.page c.in-Some.slab (sym c.find.ensures ∙ c.in-Some.is)
