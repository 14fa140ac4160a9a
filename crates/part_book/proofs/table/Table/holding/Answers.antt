use Rattle.std.specs.Option.{option_copied}
use Rattle.part_book.proofs.Words.{◌+◌, sym, ap, ◌∙◌, refl, arith, nat_tests, parts_of}
use Rattle.part_book.proofs.Parts.{clamped, clamped_none, held_by_edge, held_by_last, held_by_none}
use Rattle.part_book.proofs.table.Table.holding.Goals as goal

pub returns-in-Some : goal.returns-in-Some
returns-in-Some c = sym (held_by_edge (parts_of c.args.self.now) c.args.page c.in-Some.part.now c.requires.table.indexes.apart (sym c.at_edge.ensures ∙ ap option_copied c.in-Some.is))

pub returns-in_err-part : goal.returns-in_err-part
returns-in_err-part c =
    let none = rw c.saturating_add.ensures at (c.in_err-part.ensures.none refl) in
    ap option_copied c.from_residual.ensures ∙ sym (held_by_none (parts_of c.args.self.now) c.args.page (clamped_none (parts_of c.args.self.now) (c.args.page + 1) c.requires.table.indexes.apart none))

pub returns-then-page-end_of : goal.returns-then-page-end_of
returns-then-page-end_of c =
    let last = clamped (parts_of c.args.self.now) c.in_ok-part.part.now (c.args.page + 1) c.requires.table.indexes.apart (rw c.saturating_add.ensures at c.in_ok-part.ensures.last) in
    let below = last.below in
    grind (arith, nat_tests, held_by_last (parts_of c.args.self.now) c.args.page c.in_ok-part.part.now c.requires.table.indexes.apart last)

pub returns-else-page-end_of : goal.returns-else-page-end_of
returns-else-page-end_of c =
    let last = clamped (parts_of c.args.self.now) c.in_ok-part.part.now (c.args.page + 1) c.requires.table.indexes.apart (rw c.saturating_add.ensures at c.in_ok-part.ensures.last) in
    grind (arith, nat_tests, held_by_last (parts_of c.args.self.now) c.args.page c.in_ok-part.part.now c.requires.table.indexes.apart last)
