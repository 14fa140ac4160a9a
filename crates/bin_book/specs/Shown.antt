-- What a book shows of its table.
use Rattle.std.specs.Prelude.{◌<◌, vec_len}
use Rattle.bin_book.specs.declared.BinBook.TheInside.{Inside}
use Rattle.bin_book.specs.Bins.{Bins}
use Rattle.bin_book.specs.Tables.{IsSlabTable, regions_in, slabs_in}

-- the slabs of the table, their regions that are out, a place for each free slot, and the client
abbrev pub shown : Inside → Bins
shown book = record { slabs = slabs_in book.table; regions = regions_in book.table; spare = vec_len book.table.free; client = book.client }

-- the table keeps its slabs, and the client is one of 32
pub record IsBinBook (book : Inside) : Type 0 where
  pub table : IsSlabTable book.table
  pub client : book.client < 32
