-- The counts of an arena: sums of bytes over its regions, and over its extents by state.
use Rattle.std.specs.Prelude.{ℕ, ◌+◌, ◌*◌, Bool, not, ◌==◌, nat_lt, List, map, count_by, if◌then◌else◌}
use Rattle.std.specs.List.{range_with_len, sum_by}
use Rattle.size_classes.specs.Classes.{size_at}
use Rattle.space_model.specs.Types.{Part, Region, State, Space}
use Rattle.space_model.specs.declared.counts.Counts.{Counts}
use Rattle.space_model.specs.Part.{is_active, is_in_flight, is_listed}
use Rattle.space_model.specs.Region.{is_slab}
use Rattle.space_model.specs.declared.parts.Rest.TheVariants as rests

-- the bytes of an extent
abbrev pub bytes_of : Part → ℕ
bytes_of p = 4096 * p.span.pages

-- the bytes of the extents whose state passes a test
abbrev pub bytes_where : (State → Bool) → List Part → ℕ
bytes_where test parts = sum_by (λ p. if test p.state then bytes_of p else 0) parts

-- the bytes of the regions
abbrev pub region_bytes : List Region → ℕ
region_bytes regions = sum_by (λ r. size_at r.class) regions

-- the bytes of the regions whose class passes a test
abbrev pub region_bytes_where : (ℕ → Bool) → List Region → ℕ
region_bytes_where test regions = sum_by (λ r. if test r.class then size_at r.class else 0) regions

-- how many regions there are of each of so many classes, from a class on
abbrev pub regions_by_class : ℕ → ℕ → List Region → List ℕ
regions_by_class first classes regions =
    map (λ i. count_by (λ r. r.class == first + i) regions) (range_with_len 0 classes)

-- how many slabs there are of each small class
abbrev pub slabs_by_class : List Region → List Part → List ℕ
slabs_by_class regions parts = map (λ class. count_by (is_slab class regions) parts) (range_with_len 0 36)

-- whether an extent in the state is mapped: each is but a retained one
abbrev pub is_mapped : State → Bool
is_mapped state = not (is_listed rests.Retained state)

-- the counts: offers count nowhere
abbrev pub counts_of : Space → Counts
counts_of s = record {
  allocated = region_bytes s.regions;
  active = bytes_where is_active s.parts;
  dirty = bytes_where (is_listed rests.Dirty) s.parts;
  muzzy = bytes_where (is_listed rests.Muzzy) s.parts;
  retained = bytes_where (is_listed rests.Retained) s.parts;
  flight = bytes_where is_in_flight s.parts;
  mapped = bytes_where is_mapped s.parts;
  small = region_bytes_where (λ class. nat_lt class 36) s.regions;
  large = region_bytes_where (λ class. not (nat_lt class 36)) s.regions;
  regs = regions_by_class 0 36 s.regions;
  slabs = slabs_by_class s.regions s.parts;
  lextents = regions_by_class 36 85 s.regions;
}
