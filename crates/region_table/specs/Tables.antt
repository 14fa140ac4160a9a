-- Regions by address.
use Rattle.std.specs.Prelude.{◌≡◌, ℕ, ◌+◌, ◌<◌, ◌≤◌, ◌^◌, nat_eq, Bool, true, List, count_by, map, length, slice_get, Option, Some, vec_len, vec_capacity}
use Rattle.std.specs.List.{position}
use Rattle.thread_cache.specs.declared.Held.{Held}
use Rattle.region_table.specs.Slots.{filled_in, home_of, meets, word_of}
use Rattle.region_table.specs.declared.table.RegionTable.TheInside.{Inside}

-- Regions with their addresses, in the order in which they came, but that the last one takes the place of one that goes; and how
-- many more may come before memory is taken.
pub record Regions : Type 0 where
  pub held : List (ℕ × Held)
  pub room : ℕ

-- regions with their addresses
abbrev pub by_address : List Held → List (ℕ × Held)
by_address regions = map (λ (r : Held). (r.addr, r)) regions

-- callers see the regions with their addresses, and the room
abbrev pub shown : Inside → Regions
shown table = record { held = by_address table.regions.items; room = table.room }

-- whether a region is at the address
abbrev pub is_at : ℕ → Held → Bool
is_at addr region = nat_eq addr region.addr

-- the place of the region at an address
abbrev pub place_of : ℕ → List Held → Option ℕ
place_of addr regions = position (is_at addr) regions

-- the search for each of these regions meets it
abbrev pub AreMet : List ℕ → List Held → Type 0
AreMet words regions = (place : ℕ) (region : Held) → slice_get regions place ≡ Some region
    → meets words (length words) (home_of region.addr (length words)) (word_of region.addr place) ≡ true

-- no two of these regions are at one address
abbrev pub AreApart : List Held → Type 0
AreApart regions = (addr : ℕ) → count_by (is_at addr) regions ≤ 1

-- what a table keeps between calls: each region is met, and for those that may come there are places and empty slots
pub record IsTable (table : Inside) : Type 0 where
  pub met : AreMet table.words.items table.regions.items
  pub apart : AreApart table.regions.items
  pub filled : table.filled ≡ filled_in table.words.items
  pub slots : vec_len table.words < 2 ^ 32
  pub places : vec_len table.regions + table.room < 2 ^ 31
  pub spare : vec_len table.regions + table.room ≤ vec_capacity table.regions
  pub empty : 0 < table.room → table.filled + table.room < vec_len table.words
  pub enough : 0 < table.room → vec_len table.regions + table.room < vec_len table.words
  pub long : vec_len table.regions ≤ vec_len table.words

-- where a slot leads to a region from now on, the searches that met something meet it still
abbrev pub AreKept : List ℕ → List ℕ → Type 0
AreKept words new = (left first word : ℕ) → word < 18446744073709551614 → meets words left first word ≡ true → meets new left first word ≡ true
