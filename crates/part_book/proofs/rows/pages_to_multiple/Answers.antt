use Rattle.part_book.proofs.Words.{◌/◌, arith}
use Rattle.part_book.proofs.rows.pages_to_multiple.Goals as goal

pub returns-then-over-eq0-clause-multiple : goal.returns-then-over-eq0-clause-multiple
returns-then-over-eq0-clause-multiple c = (c.args.page / c.args.align, omega arith)
