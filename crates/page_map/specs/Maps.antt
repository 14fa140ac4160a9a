-- What a map keeps between calls.
use Rattle.std.specs.Prelude.{◌≡◌, ◌+◌, ◌*◌, ◌<◌, ◌≤◌, vec_capacity, vec_len}
use Rattle.lane_scan.specs.Bits.{bits_of}
use Rattle.page_map.specs.Pages.{Pages}
use Rattle.page_map.specs.Table.{IsTable, number_at, pages_in}
use Rattle.page_map.specs.declared.table.PageMap.TheInside.{Inside}
use Rattle.page_map.specs.declared.table.TheConstants.{LEAVES, CHUNK_PAGES}

-- what the table holds, and the leaves that are left
abbrev pub shown : Inside → Pages
shown pages = pages_in pages.root.items (number_at (bits_of pages.present.items) pages.numbers.items) pages.spare

-- each place has a number and a bit; there is room for the spare leaves, and for all chunks in the root once there are leaves
pub record IsMap (pages : Inside) : Type 0 where
  pub table : IsTable pages.root.items (vec_len pages.numbers)
  pub marked : vec_len pages.numbers ≡ 64 * vec_len pages.present
  pub room : vec_len pages.numbers + CHUNK_PAGES * pages.spare ≤ 64 * vec_capacity pages.present
  pub wide : vec_len pages.numbers + CHUNK_PAGES * pages.spare ≤ vec_capacity pages.numbers
  pub root : 0 < pages.spare → LEAVES ≤ vec_capacity pages.root
  pub short : vec_len pages.root ≤ LEAVES
