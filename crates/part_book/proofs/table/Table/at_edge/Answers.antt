use Rattle.std.specs.Option.{option_copied}
use Rattle.part_book.proofs.Words.{sym, ap, ◌∙◌, Some, rows_of}
use Rattle.part_book.proofs.Indexes.{edge_none, edge_part, edge_row, slot_of}
use Rattle.part_book.proofs.table.Table.at_edge.Goals as goal

pub returns-in_err-number : goal.returns-in_err-number
returns-in_err-number c = ap option_copied c.from_residual.ensures ∙ sym (edge_none c.args.self.now (rows_of c.args.self.now) c.args.page c.requires.table (sym c.in_err-number.ensures.number))

pub part_at-requires : goal.part_at-requires
part_at-requires c =
    let r = edge_row c.args.self.now _ c.args.page c.in_ok-number.number c.requires.table (sym c.in_ok-number.ensures.number) in
    (slot_of c.args.self.now _ r.0 c.requires.table r.2 r.3).0

pub returns : goal.returns
returns c = ap (λ p. Some p) c.part_at.ensures ∙ sym (edge_part c.args.self.now (rows_of c.args.self.now) c.args.page c.in_ok-number.number c.requires.table (sym c.in_ok-number.ensures.number))
