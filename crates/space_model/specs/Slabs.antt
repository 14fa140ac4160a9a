-- Regions of an extent: how they land in it, and how the free ones of small classes are taken.
use Rattle.std.specs.Prelude.{ℕ, ◌+◌, ◌*◌, Bool, ◌==◌, ◌&&◌, not, nat_le, nat_lt, List, [], ◌∷◌, map, filter, take, Option, None, Some, if◌then◌else◌}
use Rattle.std.specs.List.{flat_map, list_any, range_with_len}
use Rattle.size_classes.specs.Classes.{size_at, pages_at, regions_at}
use Rattle.space_model.specs.Types.{Noted, Nothing, Landed, Regions, Part, Region, Span, Active, Space}
use Rattle.space_model.specs.Part.{exchanged, begins_at, turned_in_order}
use Rattle.space_model.specs.Region.{address_of, is_slab, landing, region_of, regions_from, starts_at}
use Rattle.space_model.specs.Stepped.{Stepped, stays, if_live, has_flight}

-- ---- Land

-- the extent serves the first so many regions of the class from now on
abbrev pub land_at : Space → ℕ → ℕ → ℕ → Option Part → Stepped
land_at space c class count None = stays space Noted
land_at space c class count (Some p) =
    let addr = address_of p.span.first in record {
      after = record space {
        parts = exchanged (begins_at p.span.first) space.parts (record p { state = Active } ∷ []);
        regions = landing (regions_from c class addr count) space.regions;
      };
      reply = Landed addr count;
    }

-- how many regions an extent of the class may serve: those of a slab, and one of a large class
abbrev pub most_regions : ℕ → ℕ
most_regions class = if nat_lt class 36 then regions_at class else 1

-- whether so many regions of the class may land in the extent: at least one, and the extent has the class's pages
abbrev pub land_stands : Space → ℕ → Span → ℕ → ℕ → Bool
land_stands space c span class count =
    nat_lt class 121 && nat_lt 0 count && nat_le count (most_regions class) && span.pages == pages_at class
    && has_flight space c span (λ p. p.committed)

-- ---- Fill

-- the addresses of a slab's places, rising
abbrev pub places : ℕ → Part → List ℕ
places class p = map (λ i. address_of p.span.first + i * size_at class) (range_with_len 0 (regions_at class))

-- those that have no region
abbrev pub free_places : ℕ → List Region → Part → List ℕ
free_places class regions p = filter (λ addr. not (list_any (starts_at addr) regions)) (places class p)

-- the slabs of a class, in order of address
abbrev pub slabs_of : ℕ → Space → List Part
slabs_of class space = turned_in_order (λ p. p) (filter (is_slab class space.regions) space.parts)

-- the lowest free places of all slabs of a class, so many or as many as there are
abbrev pub lowest_free : ℕ → ℕ → Space → List ℕ
lowest_free class count space = take count (flat_map (free_places class space.regions) (slabs_of class space))

-- the client holds the regions at the addresses from now on
abbrev pub fill_at : Space → ℕ → ℕ → List ℕ → Stepped
fill_at space c class [] = stays space Nothing
fill_at space c class (addr ∷ addrs) = record {
  after = record space {
    regions = landing (map (region_of c class) (addr ∷ addrs)) space.regions;
  };
  reply = Regions (addr ∷ addrs);
}

-- takes the lowest free regions of a class
abbrev pub after_fill : Space → ℕ → ℕ → ℕ → Stepped
after_fill space c class count = if_live space (fill_at space c class (lowest_free class count space))

-- whether regions of the class may be taken: at least one of a small class
abbrev pub fill_stands : ℕ → ℕ → Bool
fill_stands class count = nat_lt class 36 && nat_lt 0 count
