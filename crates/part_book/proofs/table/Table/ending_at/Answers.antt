use Rattle.std.specs.Option.{option_copied}
use Rattle.part_book.proofs.Words.{◌≡◌, ◌+◌, sym, ap, ◌∙◌, arith, nat_tests, parts_of, found}
use Rattle.part_book.proofs.Parts.{ends_by_edge, none_ends, placed}
use Rattle.part_book.proofs.table.Table.ending_at.Goals as goal

pub returns-in_err-checked_sub : goal.returns-in_err-checked_sub
returns-in_err-checked_sub c = ap option_copied c.from_residual.ensures ∙ sym (none_ends (parts_of c.args.self.now) c.args.page c.requires.table.indexes.apart (omega arith))

pub returns-in_err-part : goal.returns-in_err-part
returns-in_err-part c =
    let next : c.in_ok-checked_sub.field-0 + 1 ≡ c.args.page = omega arith in
    ap option_copied c.from_residual-in_err-part.ensures ∙ sym (ends_by_edge (parts_of c.args.self.now) _ _ next c.requires.table.indexes.apart _ (sym c.in_err-part.ensures))

pub end_of-requires : goal.end_of-requires
end_of-requires c = grind (arith, nat_tests, found, placed)

pub returns-then-end_of-page : goal.returns-then-end_of-page
returns-then-end_of-page c =
    let next : c.in_ok-checked_sub.field-0 + 1 ≡ c.args.page = omega arith in
    grind (arith, nat_tests, ends_by_edge (parts_of c.args.self.now) _ _ next c.requires.table.indexes.apart _ (sym c.in_ok-part.ensures))

pub returns-else-end_of-page : goal.returns-else-end_of-page
returns-else-end_of-page c =
    let next : c.in_ok-checked_sub.field-0 + 1 ≡ c.args.page = omega arith in
    grind (arith, nat_tests, ends_by_edge (parts_of c.args.self.now) _ _ next c.requires.table.indexes.apart _ (sym c.in_ok-part.ensures))
