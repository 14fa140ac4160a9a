use Rattle.part_book.proofs.Words.{sym, ◌∙◌, refl, rows_of}
use Rattle.part_book.proofs.Additions.{leaves_there, row_apart, row_read, some_number}
use Rattle.part_book.proofs.Rowed.{row_placed}
use Rattle.part_book.proofs.table.Table.number_of.Goals as goal

pub unwrap-requires : goal.unwrap-requires
unwrap-requires c = some_number c.args.self.now c.args.part.now.span.first c.get.result c.requires.table (rw c.requires.there refl) c.get.ensures.number

pub returns : goal.returns
returns c =
    let t = c.args.self.now in
    let i = c.requires.table in
    let m = row_read t c.args.part.now c.unwrap.result i c.requires.there (sym c.get.ensures.number ∙ c.unwrap.ensures) in
    record { row = m; placed = row_placed (rows_of t) _ i.indexes.apart m; apart = row_apart t _ i m; leaves = leaves_there t t.edges _ i m refl }
