-- What a book keeps between calls.
use Rattle.std.specs.Prelude.{◌*◌}
use Rattle.part_book.specs.declared.PartBook.TheInside.{Inside}
use Rattle.part_book.specs.Books.{Book}
use Rattle.part_book.specs.Leaves.{HasLeaves}
use Rattle.part_book.specs.Tables.{HasRoomFor, IsRowTable, parts_of, rows_of}

-- the extents of the table, and the places that are left
abbrev pub shown : Inside → Book
shown book = record { parts = parts_of book.table; spare = book.spare }

-- the table keeps its extents, and has room and leaves for as many as there are places
pub record IsPartBook (book : Inside) : Type 0 where
  pub table : IsRowTable book.table (rows_of book.table)
  pub room : HasRoomFor book.table book.spare
  pub leaves : HasLeaves book.table.edges (2 * book.spare)
