-- Slabs as contracts see them, with their free regions, and what taking and putting back does to them.
use Rattle.std.specs.Prelude.{ℕ, ◌+◌, ◌-◌, ◌*◌, ◌==◌, ◌&&◌, ◌||◌, Bool, not, nat_lt, List, ◌∷◌, ◌++◌, map, filter, length}
use Rattle.std.specs.List.{flat_map, list_any, range_with_len}
use Rattle.size_classes.specs.Classes.{size_at, pages_at, regions_at}
use Rattle.space_model.specs.declared.parts.Region.{Region}

-- a slab of a class from a page on, with the addresses of its free regions, rising
pub record BinSlab : Type 0 where
  pub class : ℕ
  pub first : ℕ
  pub free : List ℕ

-- the slabs in order of first page, the regions that are out by address, how many more slabs there is a place for, and
-- the client that holds what comes out next
pub record Bins : Type 0 where
  pub slabs : List BinSlab
  pub regions : List Region
  pub spare : ℕ
  pub client : ℕ

-- the address at which a region begins
abbrev pub addr_of : Region → ℕ
addr_of r = r.addr

-- the address of a place in a slab of the class from a page on
abbrev pub place : ℕ → ℕ → ℕ → ℕ
place class first i = 4096 * first + i * size_at class

-- the addresses of all places of such a slab, rising
abbrev pub slab_places : ℕ → ℕ → List ℕ
slab_places class first = map (place class first) (range_with_len 0 (regions_at class))

-- whether an address is one of these
abbrev pub is_among : List ℕ → ℕ → Bool
is_among addrs addr = list_any (λ a. a == addr) addrs

-- a slab whose lowest regions, so many, are out
abbrev pub slab_with_out : ℕ → ℕ → ℕ → BinSlab
slab_with_out class first out = record {
  class = class;
  first = first;
  free = map (place class first) (range_with_len out (regions_at class - out));
}

-- whether a slab of the class from a page on would share a page with this one
abbrev pub meets_slab : ℕ → ℕ → BinSlab → Bool
meets_slab class first s = nat_lt s.first (first + pages_at class) && nat_lt first (s.first + pages_at s.class)

-- a new slab between those that come before it and those that come after it
abbrev pub with_slab : List BinSlab → BinSlab → List BinSlab
with_slab slabs s = filter (λ t. nat_lt t.first s.first) slabs ++ s ∷ filter (λ t. nat_lt s.first t.first) slabs

-- the slabs of a class
abbrev pub of_class : ℕ → List BinSlab → List BinSlab
of_class class slabs = filter (λ s. s.class == class) slabs

-- the addresses of the free regions of a class, over all its slabs
abbrev pub free_of : ℕ → List BinSlab → List ℕ
free_of class slabs = flat_map (λ s. s.free) (of_class class slabs)

-- a slab of which the regions at these addresses are out
abbrev pub with_regions_out : List ℕ → BinSlab → BinSlab
with_regions_out addrs s = record s { free = filter (λ a. not (is_among addrs a)) s.free }

-- a slab of which the region at this address is free
abbrev pub with_free : ℕ → BinSlab → BinSlab
with_free addr s = record s { free = filter (λ a. a == addr || is_among s.free a) (slab_places s.class s.first) }

-- whether a region that is out stands at the address, in this slab of the class
abbrev pub is_out : ℕ → ℕ → BinSlab → Bool
is_out class addr s = s.class == class && (is_among (slab_places s.class s.first) addr && not (is_among s.free addr))

-- whether all regions of a slab are free
abbrev pub is_all_free : BinSlab → Bool
is_all_free s = length s.free == regions_at s.class
