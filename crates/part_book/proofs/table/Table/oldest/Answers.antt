use Rattle.part_book.proofs.Words.{sym, ap, ◌∙◌, Some, slice_get, rows_of}
use Rattle.part_book.proofs.Fitting.{first_listed, none_listed}
use Rattle.part_book.proofs.Indexes.{slot_of}
use Rattle.part_book.proofs.table.Table.oldest.Goals as goal

pub returns-in_err-number : goal.returns-in_err-number
returns-in_err-number c =
    let none = sym (c.in_err-number.ensures ∙ ap (λ ns. slice_get ns 0) c.list_of.ensures.numbers) in
    c.from_residual.ensures ∙ sym (none_listed c.args.rest (rows_of c.args.self.now) none)

pub part_at-requires : goal.part_at-requires
part_at-requires c =
    let first = sym (c.in_ok-number.ensures ∙ ap (λ ns. slice_get ns 0) c.list_of.ensures.numbers) in
    let p = first_listed c.args.rest (rows_of c.args.self.now) c.in_ok-number.number first in
    (slot_of c.args.self.now _ p.0 c.requires.table p.1 p.2).0

pub returns : goal.returns
returns c =
    let first = sym (c.in_ok-number.ensures ∙ ap (λ ns. slice_get ns 0) c.list_of.ensures.numbers) in
    let p = first_listed c.args.rest (rows_of c.args.self.now) c.in_ok-number.number first in
    ap (λ q. Some q) (c.part_at.ensures ∙ (slot_of c.args.self.now _ p.0 c.requires.table p.1 p.2).1) ∙ sym p.3
