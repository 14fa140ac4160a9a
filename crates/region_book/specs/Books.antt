-- What a book shows of its regions.
use Rattle.std.specs.Prelude.{min, List}
use Rattle.std.specs.List.{AllByRecursion as Every}
use Rattle.space_model.specs.declared.parts.Region.{Region}
use Rattle.space_model.specs.Region.{landing}
use Rattle.list_facts.specs.ByKey.{AreApart}
use Rattle.region_book.specs.Larges.{addr_of}
use Rattle.region_book.specs.RegionLists.{IsOf, Regions}
use Rattle.region_book.specs.Totals.{AreTotals}
use Rattle.region_book.specs.declared.RegionBook.TheInside.{Inside}

-- the regions of both books by address
abbrev pub all_regions : Inside → List Region
all_regions book = landing book.larges.regions book.bins.regions

-- the regions of both books, the slabs, and the places that both have
abbrev pub shown : Inside → Regions
shown book = record { regions = all_regions book; slabs = book.bins.slabs; places = min book.bins.spare book.larges.spare }

-- no region is in both books, those in slabs are small, and the totals are those of all
pub record IsRegionBook (book : Inside) : Type 0 where
  pub apart : AreApart addr_of book.larges.regions book.bins.regions
  pub larges : Every (IsOf 36 121) book.larges.regions
  pub smalls : Every (IsOf 0 36) book.bins.regions
  pub totals : AreTotals book.totals (all_regions book)
