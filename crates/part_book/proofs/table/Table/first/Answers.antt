use Rattle.part_book.proofs.Words.{sym, ap, ◌∙◌, Some, slice_get, rows_of}
use Rattle.part_book.proofs.Fitting.{first_row}
use Rattle.part_book.proofs.Indexes.{slot_of}
use Rattle.part_book.proofs.table.Table.first.Goals as goal

pub part_at-requires : goal.part_at-requires
part_at-requires c =
    let p = first_row (rows_of c.args.self.now) c.in_ok-number.number (sym (c.in_ok-number.ensures ∙ ap (λ ns. slice_get ns 0) c.requires.table.indexes.order)) in
    (slot_of c.args.self.now _ p.0 c.requires.table p.1 p.2).0

pub returns : goal.returns
returns c =
    let p = first_row (rows_of c.args.self.now) c.in_ok-number.number (sym (c.in_ok-number.ensures ∙ ap (λ ns. slice_get ns 0) c.requires.table.indexes.order)) in
    ap (λ q. Some q) (c.part_at.ensures ∙ (slot_of c.args.self.now _ p.0 c.requires.table p.1 p.2).1) ∙ sym p.3
