-- The regions of an arena as contracts see them, by address.
use Rattle.std.specs.Prelude.{◌≡◌, ℕ, ◌+◌, ◌<◌, ◌≤◌, ◌^◌, Bool, false, List, count_by, Option, None, Some, if◌then◌else◌}
use Rattle.std.specs.List.{list_any}
use Rattle.size_classes.specs.Classes.{pages_at, regions_at}
use Rattle.space_model.specs.declared.parts.Region.{Region}
use Rattle.space_model.specs.Region.{is_held_by, is_published, landing, starts_at}
use Rattle.region_book.specs.Larges.{IsHolder}
use Rattle.space_model.specs.Counts.{region_bytes}
use Rattle.bin_book.specs.Bins.{BinSlab, meets_slab}

-- what callers see: the regions by address, the slabs of the small ones, and how many more extents may come to serve regions
pub record Regions : Type 0 where
  pub regions : List Region
  pub slabs : List BinSlab
  pub places : ℕ

-- regions can come where no two begin at one address afterwards, and the bytes of all are a number
pub record CanCome (come regions : List Region) : Type 0 where
  pub alone : (addr : ℕ) → count_by (starts_at addr) (landing come regions) ≤ 1
  pub fits : region_bytes (landing come regions) < 2 ^ 64

-- a new slab has a region out and no more than its places, lies in the space, and meets no slab of the book
pub record CanBeSlab (class first count : ℕ) (slabs : List BinSlab) : Type 0 where
  pub some : 0 < count
  pub most : count ≤ regions_at class
  pub inside : first + pages_at class ≤ 2 ^ 32
  pub apart : list_any (meets_slab class first) slabs ≡ false

-- what was found, if nobody holds it
abbrev pub if_published : Option Region → Option Region
if_published None = None
if_published (Some r) = if is_published r then Some r else None

-- whether a region was found that the client holds
abbrev pub found_held : ℕ → Option Region → Bool
found_held client None = false
found_held client (Some r) = is_held_by client r

-- the region is of a class from one on and below another, and held by nobody or one of the clients
pub record IsOf (low high : ℕ) (r : Region) : Type 0 where
  pub least : low ≤ r.class
  pub class : r.class < high
  pub holder : IsHolder r.holder
