-- What a table keeps of its slabs.
use Rattle.std.specs.Prelude.{◌≡◌, ◌≢◌, ◌==◌, ◌⊎◌, ℕ, ◌+◌, ◌*◌, ◌^◌, ◌<◌, ◌≤◌, Bool, true, false, not, nat_lt, List, [], map, filter, length, count_by, slice_index_or, Some, vec_len, vec_capacity, Contains}
use Rattle.std.specs.FinMap as map_of
use Rattle.std.specs.List.{flat_map, range_with_len}
use Rattle.size_classes.specs.Classes.{pages_at, regions_at}
use Rattle.space_model.specs.declared.parts.Region.{Region}
use Rattle.slab_bits.specs.Slabs.{Slab as Bits}
use Rattle.ordered_set.specs.declared.key.Key.{Key}
use Rattle.ordered_set.specs.Keys.{IsAscending, without_key}
use Rattle.bin_book.specs.declared.chart.Chart.{Chart}
use Rattle.bin_book.specs.declared.table.Table.{Table}
use Rattle.bin_book.specs.Bins.{BinSlab, place}
use Rattle.bin_book.specs.Charts.{HasPage, first_at}
use Rattle.bin_book.specs.Holders.{holder_at}

-- what stands in a slot that has no slab
abbrev pub no_bits : Bits
no_bits = record { class = 0; free = [] }

-- the bits in a slot
abbrev pub bits_at : List Bits → ℕ → Bits
bits_at slots number = slice_index_or slots number no_bits

-- the places below a number that are free
abbrev pub ones : ℕ → List Bool → List ℕ
ones n bits = filter (λ i. slice_index_or bits i false) (range_with_len 0 n)

-- how many regions are free
abbrev pub left_of : Bits → ℕ
left_of bits = count_by (λ free. free) bits.free

-- the slab from a page on that has these bits
abbrev pub slab_of : Bits → ℕ → BinSlab
slab_of bits first = record {
  class = bits.class;
  first = first;
  free = map (place bits.class first) (ones (regions_at bits.class) bits.free);
}

-- the slab of a first page with the number of its slot
abbrev pub slab_at : List Bits → Key → BinSlab
slab_at slots key = slab_of (bits_at slots key.minor) key.major

-- the slabs of a table, in order of first page
unfoldable pub slabs_in : Table → List BinSlab
slabs_in t = map (slab_at t.slots.items) t.firsts.keys

-- the places below a number that are out
abbrev pub zeros : ℕ → List Bool → List ℕ
zeros n bits = filter (λ i. not (slice_index_or bits i false)) (range_with_len 0 n)

-- the region at a place of the slab with this key
abbrev pub slab_region : List Bits → List ℕ → Key → ℕ → Region
slab_region slots codes key i = record {
  addr = place (bits_at slots key.minor).class key.major i;
  class = (bits_at slots key.minor).class;
  holder = holder_at codes (512 * key.minor + i);
}

-- the regions of the slab that are out
abbrev pub out_of : List Bits → List ℕ → Key → List Region
out_of slots codes key = map (slab_region slots codes key) (zeros (regions_at (bits_at slots key.minor).class) (bits_at slots key.minor).free)

-- the regions that are out of the slabs with these keys
unfoldable pub out_of_slabs : List Bits → List ℕ → List Key → List Region
out_of_slabs slots codes keys = flat_map (out_of slots codes) keys

-- the regions that are out of the slabs of a table, by address
abbrev pub regions_in : Table → List Region
regions_in t = out_of_slabs t.slots.items t.holders t.firsts.keys

-- where a slab stands among those of its class: by first page
abbrev pub bin_key : ℕ → Key → Key
bin_key class key = record { major = class; minor = key.major * 2 ^ 32 + key.minor }

abbrev pub bin_of : List Bits → Key → Key
bin_of slots key = bin_key (bits_at slots key.minor).class key

-- whether a slab with these bits has a free region
abbrev pub is_open : Bits → Bool
is_open bits = nat_lt 0 (left_of bits)

-- how many slabs have a free region
unfoldable pub open_in : List Bits → List Key → ℕ
open_in slots keys = count_by (λ key. is_open (bits_at slots key.minor)) keys

-- the bits of a slab that begins at a page: it ends in the space, and a region of it is out
pub record IsSlabIn (bits : Bits) (first : ℕ) : Type 0 where
  pub small : bits.class < 36
  pub long : length bits.free ≡ 512
  pub behind : (i : ℕ) → regions_at bits.class ≤ i → slice_index_or bits.free i false ≡ false
  pub some_out : left_of bits < regions_at bits.class
  pub inside : first + pages_at bits.class ≤ 2 ^ 32

-- the keys are those of slabs, no page is in two of them, and no slot has two
pub record AreSlabKeys (slots : List Bits) (keys : List Key) : Type 0 where
  pub slab : (k : Key) → Contains keys k → IsSlabIn (bits_at slots k.minor) k.major
  pub apart : (k l : Key) → Contains keys k → Contains keys l → k.major ≤ l.major → (k ≡ l) ⊎ (k.major + pages_at (bits_at slots k.minor).class ≤ l.major)
  pub numbers : (k l : Key) → Contains keys k → Contains keys l → k.minor ≡ l.minor → k ≡ l

-- the bins have just the slabs that have a free region
pub record IsBinned (slots : List Bits) (keys bins : List Key) : Type 0 where
  pub has : (k : Key) → Contains keys k → is_open (bits_at slots k.minor) ≡ true → Contains bins (bin_of slots k)
  pub from : (b : Key) → Contains bins b → (k : Key) × Contains keys k × (is_open (bits_at slots k.minor) ≡ true) × (bin_of slots k ≡ b)

-- the free numbers are those of slots without a slab, each once
pub record AreFreeSlots (free : List ℕ) (keys : List Key) (slots : ℕ) : Type 0 where
  pub in_slots : (n : ℕ) → Contains free n → n < slots
  pub unused : (n : ℕ) (k : Key) → Contains free n → Contains keys k → k.minor ≢ n
  pub once : (n : ℕ) → count_by (λ m. m == n) free ≤ 1

-- the slab with this key has the number and the page
pub record IsSlabAt (slots : List Bits) (keys : List Key) (number page : ℕ) (key : Key) : Type 0 where
  pub there : Contains keys key
  pub at : key.minor ≡ number
  pub has : HasPage key.major (pages_at (bits_at slots key.minor).class) page

-- the first page of each slab stands at its number, and a page has a number only where the slab with that number has the page
pub record IsCharted (slots : List Bits) (keys : List Key) (chart : Chart) : Type 0 where
  pub firsts : (k : Key) → Contains keys k → first_at chart.firsts.items k.minor ≡ k.major
  pub holders : (page number : ℕ) → map_of.get chart.pages.numbers page ≡ Some number → (k : Key) × IsSlabAt slots keys number page k

-- so many slabs of each class are counted
abbrev pub AreCounts : List ℕ → List BinSlab → Type 0
AreCounts counts slabs = (class : ℕ) → class < 36 → slice_index_or counts class 0 ≡ count_by (λ s. s.class == class) slabs

-- a set of keys in which one stands where it is to stand there, and the others stay
pub record IsMoved (old new : List Key) (key : Key) (stands : Bool) : Type 0 where
  pub keeps : (k : Key) → k ≢ key → Contains old k → Contains new k
  pub only : (k : Key) → k ≢ key → Contains new k → Contains old k
  pub there : stands ≡ true → Contains new key
  pub gone : Contains new key → stands ≡ true

-- the key of the last slab that begins below a page
pub record IsLastKeyBelow (keys : List Key) (page : ℕ) (key : Key) : Type 0 where
  pub there : Contains keys key
  pub below : key.major < page
  pub last : (k : Key) → Contains keys k → k.major < page → k.major ≤ key.major

-- slots, sets, chart and counts keep the slabs, each slot has a code for each region, and there is room for as many as there are slots
pub record IsSlabTable (t : Table) : Type 0 where
  pub ascending : IsAscending t.firsts.keys
  pub kept : AreSlabKeys t.slots.items t.firsts.keys
  pub binned : IsBinned t.slots.items t.firsts.keys t.bins.keys
  pub charted : IsCharted t.slots.items t.firsts.keys t.chart
  pub in_slots : (k : Key) → Contains t.firsts.keys k → k.minor < vec_len t.slots
  pub free : AreFreeSlots t.free.items t.firsts.keys (vec_len t.slots)
  pub classes : length t.counts ≡ 36
  pub counts : AreCounts t.counts (slabs_in t)
  pub places : length t.firsts.keys + vec_len t.free ≡ vec_len t.slots
  pub held : 512 * vec_len t.slots ≤ length t.holders
  pub small : vec_len t.slots < 2 ^ 32
  pub room : vec_len t.slots ≤ vec_capacity t.free
  pub chart_room : vec_len t.slots ≤ vec_len t.chart.firsts
  pub firsts_room : vec_len t.free ≤ t.firsts.spare
  pub bins_room : vec_len t.slots ≤ open_in t.slots.items t.firsts.keys + t.bins.spare

-- the slab of these bits is of the class, and its region with this number is out
pub record HasOut (bits : Bits) (class region : ℕ) : Type 0 where
  pub of_class : bits.class ≡ class
  pub inside : region < regions_at class
  pub out : slice_index_or bits.free region false ≡ false

-- the slab with this key has a region of the class out, whose address is this one
pub record IsOutAt (t : Table) (class addr : ℕ) (key : Key) (region : ℕ) : Type 0 where
  pub there : Contains t.firsts.keys key
  pub at : place class key.major region ≡ addr
  pub out : HasOut (bits_at t.slots.items key.minor) class region

-- the slab with this key is the lowest of the class that has a free region
pub record IsLowestOpen (t : Table) (class : ℕ) (key : Key) : Type 0 where
  pub there : Contains t.firsts.keys key
  pub of_class : (bits_at t.slots.items key.minor).class ≡ class
  pub some_free : 0 < left_of (bits_at t.slots.items key.minor)
  pub lowest : (k : Key) → Contains t.firsts.keys k → (bits_at t.slots.items k.minor).class ≡ class → 0 < left_of (bits_at t.slots.items k.minor) → key.major ≤ k.major

-- the slabs of a table without the one with this key
abbrev pub slabs_without : Table → Key → List BinSlab
slabs_without t key = map (slab_at t.slots.items) (without_key t.firsts.keys key)

-- the regions of these
abbrev pub regions_without : Table → Key → List Region
regions_without t key = out_of_slabs t.slots.items t.holders (without_key t.firsts.keys key)
