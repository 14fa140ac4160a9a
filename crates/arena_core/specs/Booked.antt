-- The slabs of a space as a book of bins keeps them.
use Rattle.std.specs.Prelude.{◌≡◌, ◌≢◌, ℕ, ◌<◌, ◌≤◌, false, Bool, List, [], ◌∷◌, ◌++◌, All, Option, filter, map, nat_lt, not, take}
use Rattle.std.specs.List.{list_any}
use Rattle.size_classes.specs.Classes.{regions_at}
use Rattle.space_model.specs.declared.parts.Part.{Part}
use Rattle.space_model.specs.declared.parts.Region.{Region}
use Rattle.space_model.specs.declared.spaces.Space.{Space}
use Rattle.space_model.specs.Part.{is_active, turned_in_order}
use Rattle.space_model.specs.Region.{address_of, held_anew, landing, region_of, regions_from, starts_at}
use Rattle.space_model.specs.Slabs.{free_places, lowest_free, places, slabs_of}
use Rattle.space_model.specs.Sound.{Sound}
use Rattle.bin_book.specs.Bins.{BinSlab, free_of, of_class, slab_with_out, with_free, with_regions_out}

-- what a book shows of an extent that serves regions of a class: its free places
abbrev pub booked_slab : List Region → ℕ → Part → BinSlab
booked_slab regions class p = record { class = class; first = p.span.first; free = free_places class regions p }

-- the slabs of each small class are those of the space, in order of address
abbrev pub AreBooked : Space → List BinSlab → Type 0
AreBooked s slabs = (class : ℕ) → class < 36 → of_class class slabs ≡ map (booked_slab s.regions class) (slabs_of class s)

-- the space after regions of a class landed at some addresses, which the client holds
abbrev pub filled : Space → ℕ → ℕ → List ℕ → Space
filled s client class addrs = record s { regions = landing (map (region_of client class) addrs) s.regions }

-- what a book gives for a class is what a fill takes, and the book without it is that of the space after the fill
pub record FillsAreTaken (s : Space) (slabs : List BinSlab) (client class count : ℕ) : Type 0 where
  pub addrs : take count (free_of class slabs) ≡ lowest_free class count s
  pub booked : AreBooked (filled s client class (lowest_free class count s)) (map (with_regions_out (lowest_free class count s)) slabs)

-- so it is of each sound space, for a small class
abbrev pub FillsTakeTheLowest : Type 0
FillsTakeTheLowest = (s : Space) (slabs : List BinSlab) (client class count : ℕ) → Sound s → class < 36 → AreBooked s slabs → FillsAreTaken s slabs client class count

-- a book stays with a space whose regions and active extents stay
abbrev pub BooksStayWhileExtentsDo : Type 0
BooksStayWhileExtentsDo = (s t : Space) (slabs : List BinSlab) → filter (λ p. is_active p.state) t.parts ≡ filter (λ p. is_active p.state) s.parts → t.regions ≡ s.regions → AreBooked s slabs → AreBooked t slabs

-- and where regions change no more than their holders
abbrev pub BooksStayWhereHoldersChange : Type 0
BooksStayWhereHoldersChange = (s t : Space) (slabs : List BinSlab) (test : Region → Bool) (holder : Option ℕ) → t.parts ≡ s.parts → t.regions ≡ held_anew test holder s.regions → AreBooked s slabs → AreBooked t slabs

-- without the regions at an address, each slab has its place there free
abbrev pub ReturnsAreFree : Type 0
ReturnsAreFree = (regions : List Region) (addr class : ℕ) (p : Part) → booked_slab (filter (λ r. not (starts_at addr r)) regions) class p ≡ with_free addr (booked_slab regions class p)

-- extents that stay keep their order by address
abbrev pub OrderStays : Type 0
OrderStays = (keep : Part → Bool) (parts : List Part) → turned_in_order (λ p. p) (filter keep parts) ≡ filter keep (turned_in_order (λ p. p) parts)

-- a new one stands between those below it and those above it
abbrev pub OrderGrows : Type 0
OrderGrows = (parts : List Part) (p : Part) → All (λ q. q.span.first ≢ p.span.first) parts → turned_in_order (λ q. q) (parts ++ p ∷ []) ≡ filter (λ q. nat_lt q.span.first p.span.first) (turned_in_order (λ q. q) parts) ++ p ∷ filter (λ q. nat_lt p.span.first q.span.first) (turned_in_order (λ q. q) parts)

-- where regions of a class land in an extent at whose places none begin, its lowest places are out, and the others free
abbrev pub LandsTakeTheFirst : Type 0
LandsTakeTheFirst = (regions : List Region) (client class count : ℕ) (p : Part) → class < 36 → count ≤ regions_at class → All (λ a. list_any (starts_at a) regions ≡ false) (places class p) → booked_slab (landing (regions_from client class (address_of p.span.first) count) regions) class p ≡ slab_with_out class p.span.first count
