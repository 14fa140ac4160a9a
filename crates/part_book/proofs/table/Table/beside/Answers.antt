use Rattle.std.specs.Option.{option_copied}
use Rattle.part_book.proofs.Words.{◌≤◌, sym, ap, ◌∙◌, arith, end_of, pages_end, parts_of}
use Rattle.part_book.proofs.Parts.{none_begins}
use Rattle.part_book.proofs.table.Table.beside.Goals as goal

pub returns-in_err-checked_add : goal.returns-in_err-checked_add
returns-in_err-checked_add c =
    let far : pages_end ≤ end_of c.args.span = omega arith in
    let none = none_begins (parts_of c.args.self.now) (end_of c.args.span) c.requires.table.indexes.apart far in
    ap option_copied c.from_residual.ensures ∙ sym (rw c.if-right.true none)
