-- The slabs of an arena's book as its operations go on.
use Rattle.std.specs.Prelude.{ℕ, ◌<◌, ◌≡◌, ◌==◌, List, [], length, map, All, if◌then◌else◌}
use Rattle.space_model.specs.declared.entries.Op.{Op}
use Rattle.space_model.specs.declared.entries.Op.TheVariants.{Fill, Land, Reset, Destroy}
use Rattle.space_model.specs.declared.spaces.Space.{Space}
use Rattle.space_model.specs.Ending.{after_destroy, after_reset}
use Rattle.space_model.specs.Slabs.{lowest_free}
use Rattle.space_model.specs.Stepped.{is_live}
use Rattle.bin_book.specs.Bins.{BinSlab, with_regions_out}
use Rattle.region_book.specs.RegionLists.{CanBeSlab}
use Rattle.region_book.specs.Slabs.{slabs_landed}
use Rattle.arena_core.specs.Booked.{AreBooked}

-- a book's slabs are of small classes, and those of each class are the space's
pub record IsBooked (s : Space) (slabs : List BinSlab) : Type 0 where
  pub small : All (λ x. x.class < 36) slabs
  pub booked : AreBooked s slabs

-- a space without regions is kept by the book without slabs
abbrev pub NothingIsBooked : Type 0
NothingIsBooked = (s : Space) → s.regions ≡ [] → IsBooked s []

-- where an operation makes a slab, it can
abbrev pub CanFollow : Op → List BinSlab → Type 0
CanFollow (Land span class count) slabs = class < 36 → CanBeSlab class span.first count slabs
CanFollow _ slabs = Unit {0}

-- the slabs after the regions at some addresses were taken
abbrev pub slabs_taken : List ℕ → List BinSlab → List BinSlab
slabs_taken addrs slabs = map (with_regions_out addrs) slabs

-- the slabs after the lowest free regions of a class were taken, if the arena is live
abbrev pub slabs_filled : Space → ℕ → ℕ → List BinSlab → List BinSlab
slabs_filled s class count slabs = if is_live s.life then slabs_taken (lowest_free class count s) slabs else slabs

-- the slabs after an operation that may empty the space: there is none where no region is left
abbrev pub slabs_left : Space → List BinSlab → List BinSlab
slabs_left s slabs = if length s.regions == 0 then [] else slabs

-- the slabs after an operation of a client that begins a unit and gives nothing back
abbrev pub slabs_begun : ℕ → Space → Op → List BinSlab → List BinSlab
slabs_begun c s (Fill class count) slabs = slabs_filled s class count slabs
slabs_begun c s (Reset cached) slabs = slabs_left (after_reset s c cached).after slabs
slabs_begun c s (Destroy cached) slabs = slabs_left (after_destroy s c cached).after slabs
slabs_begun c s _ slabs = slabs

-- the slabs after an operation that takes no memory
abbrev pub slabs_followed : Op → List BinSlab → List BinSlab
slabs_followed (Land span class count) slabs = slabs_landed class span.first count slabs
slabs_followed _ slabs = slabs
