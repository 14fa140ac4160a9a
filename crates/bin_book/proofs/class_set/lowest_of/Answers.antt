use Rattle.bin_book.proofs.Words.{sym, arith}
use Rattle.bin_book.proofs.Opening.{first_lowest, later_lowest, none_lowest}
use Rattle.bin_book.proofs.class_set.lowest_of.Goals as goal

pub returns-in_err-first : goal.returns-in_err-first
returns-in_err-first c = rw c.from_residual.ensures (none_lowest c.args.set.now.keys c.args.major c.at_or_after.ensures.ascending (sym c.in_err-first.ensures.found))

pub returns-then-first-major : goal.returns-then-first-major
returns-then-first-major c = first_lowest c.args.set.now.keys c.args.major c.in_ok-first.first c.at_or_after.ensures.ascending (sym c.in_ok-first.ensures.found) (omega arith)

pub returns-else-first-major : goal.returns-else-first-major
returns-else-first-major c = later_lowest c.args.set.now.keys c.args.major c.in_ok-first.first c.at_or_after.ensures.ascending (sym c.in_ok-first.ensures.found) (omega arith)
