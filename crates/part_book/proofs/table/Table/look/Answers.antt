use Rattle.std.specs.Option.{option_copied}
use Rattle.part_book.proofs.Words.{sym, ap, ◌∙◌, arith, nat_tests, parts_of}
use Rattle.part_book.proofs.Parts.{begins_by_edge}
use Rattle.part_book.proofs.table.Table.look.Goals as goal

pub returns-in_err-part : goal.returns-in_err-part
returns-in_err-part c = ap option_copied c.from_residual.ensures ∙ sym (begins_by_edge (parts_of c.args.self.now) c.args.first c.requires.table.indexes.apart _ (sym c.in_err-part.ensures))

pub returns-then-part-first : goal.returns-then-part-first
returns-then-part-first c = grind (arith, nat_tests, begins_by_edge (parts_of c.args.self.now) c.args.first c.requires.table.indexes.apart _ (sym c.in_ok-part.ensures))

pub returns-else-part-first : goal.returns-else-part-first
returns-else-part-first c = grind (arith, nat_tests, begins_by_edge (parts_of c.args.self.now) c.args.first c.requires.table.indexes.apart _ (sym c.in_ok-part.ensures))
