-- Regions that begin with a page, each as a number of that page.
use Rattle.std.specs.Prelude.{ℕ, zero, suc, ◌+◌, ◌*◌, ◌/◌, ◌%◌, ◌<◌, List, [], Option, None, Some}
use Rattle.std.specs.List.{cons_option}
use Rattle.std.specs.Option.{option_map}
use Rattle.std.specs.Ordering.{nat_cmp}
use Rattle.std.specs.FinMap as map
use Rattle.list_facts.specs.Codes.{code_of, of_code}
use Rattle.space_model.specs.declared.parts.Region.{Region}
use Rattle.space_model.specs.Region.{address_of}
use Rattle.page_map.specs.declared.table.TheConstants.{PAGES}
use Rattle.region_book.specs.declared.larges.LargeBook.TheInside.{Inside}

-- what callers see of a book: the regions by address, and how many more there is certainly a place for
pub record Larges : Type 0 where
  pub regions : List Region
  pub spare : ℕ

-- the address at which a region begins
abbrev pub addr_of : Region → ℕ
addr_of r = r.addr

-- the numbers of pages
abbrev pub Numbers : Type 0
Numbers = map.FinMap nat_cmp ℕ

-- nobody, or one of the 32 clients
abbrev pub IsHolder : Option ℕ → Type 0
IsHolder None = Unit {0}
IsHolder (Some client) = client < 32

-- a region's class and holder in one number
abbrev pub packed : Region → ℕ
packed r = r.class + 256 * code_of r.holder

-- the region at a page that has such a number
abbrev pub region_at : ℕ → ℕ → Region
region_at page number = record { addr = address_of page; class = number % 256; holder = of_code (number / 256) }

-- the region at a page, if the page has a number
abbrev pub region_numbered : Numbers → ℕ → Option Region
region_numbered numbers page = option_map (region_at page) (map.get numbers page)

-- the regions at so many pages from one on
unfoldable pub larges_from : Numbers → ℕ → ℕ → List Region
larges_from numbers page zero = []
larges_from numbers page (suc more) = cons_option (region_numbered numbers page) (larges_from numbers (page + 1) more)

-- the regions at all pages
unfoldable pub larges_in : Numbers → List Region
larges_in numbers = larges_from numbers 0 PAGES

-- the regions at all pages, and as many places as there are spare leaves
abbrev pub shown : Inside → Larges
shown book = record { regions = larges_in book.pages.numbers; spare = book.pages.spare }
