-- What the regions of an arena come to.
use Rattle.std.specs.Prelude.{◌≡◌, ◌≢◌, ℕ, ◌+◌, ◌*◌, ◌^◌, ◌<◌, ◌≤◌, ◌==◌, List, Option, count_by, map, nat_lt, length, slice_index_or, if◌then◌else◌}
use Rattle.std.specs.List.{range_with_len}
use Rattle.size_classes.specs.Classes.{size_at}
use Rattle.space_model.specs.declared.parts.Region.{Region}
use Rattle.space_model.specs.Counts.{region_bytes, region_bytes_where, regions_by_class}
use Rattle.list_facts.specs.Codes.{code_of}
use Rattle.region_book.specs.declared.totals.Totals.{Totals}

-- the bytes of a region of a class among those of the small ones
abbrev pub small_size_at : ℕ → ℕ
small_size_at class = if nat_lt class 36 then size_at class else 0

-- how many regions each holder has, nobody first
abbrev pub regions_by_holder : List Region → List ℕ
regions_by_holder regions = map (λ code. count_by (λ r. code_of r.holder == code) regions) (range_with_len 0 33)

-- the totals are those of the regions
pub record AreTotals (t : Totals) (regions : List Region) : Type 0 where
  pub bytes : t.bytes ≡ region_bytes regions
  pub small : t.small ≡ region_bytes_where (λ class. nat_lt class 36) regions
  pub classes : t.classes ≡ regions_by_class 0 121 regions
  pub number : t.number ≡ length regions
  pub holders : t.holders ≡ regions_by_holder regions

-- a list of numbers of which the one at a place is higher by so much
pub record IsMoreAt (place count : ℕ) (less more : List ℕ) : Type 0 where
  pub len : length more ≡ length less
  pub here : slice_index_or more place 0 ≡ slice_index_or less place 0 + count
  pub others : (k : ℕ) → k ≢ place → slice_index_or more k 0 ≡ slice_index_or less k 0

-- the totals with so many regions of a class and a holder more
pub record AreMore (class : ℕ) (holder : Option ℕ) (count : ℕ) (less more : Totals) : Type 0 where
  pub number : more.number ≡ less.number + count
  pub bytes : more.bytes ≡ less.bytes + count * size_at class
  pub small : more.small ≡ less.small + count * small_size_at class
  pub classes : IsMoreAt class count less.classes more.classes
  pub holders : IsMoreAt (code_of holder) count less.holders more.holders

-- there are such a class and such a holder, and the totals are numbers also with so many regions more
pub record CanGrow (class : ℕ) (holder : Option ℕ) (count : ℕ) (t : Totals) : Type 0 where
  pub low : class < 121
  pub known : code_of holder < 33
  pub number : t.number + count < 2 ^ 64
  pub bytes : t.bytes + count * size_at class < 2 ^ 64
  pub small : t.small + count * small_size_at class < 2 ^ 64
  pub of_class : slice_index_or t.classes class 0 + count < 2 ^ 64
  pub of_holder : slice_index_or t.holders (code_of holder) 0 + count < 2 ^ 64

-- the totals are those of a region of such a class and such a holder among others
pub record CanShrink (class : ℕ) (holder : Option ℕ) (t : Totals) : Type 0 where
  pub low : class < 121
  pub known : code_of holder < 33
  pub number : 0 < t.number
  pub bytes : size_at class ≤ t.bytes
  pub small : small_size_at class ≤ t.small
  pub of_class : 0 < slice_index_or t.classes class 0
  pub of_holder : 0 < slice_index_or t.holders (code_of holder) 0
