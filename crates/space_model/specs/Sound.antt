-- What is always true of an arena.
use Rattle.std.specs.Prelude.{◌≡◌, ℕ, ◌+◌, ◌*◌, ◌%◌, ◌-◌, ◌<◌, ◌≤◌, pos, negsuc, ◌≤ℤ◌, false, IsTrue, List, [], All, AllPairs}
use Rattle.size_classes.specs.Classes.{size_at, pages_at, regions_at, align_at}
use Rattle.space_model.specs.Types.{Part, Region, Pace, Space, Life, Live, Absent, Dying}
use Rattle.space_model.specs.Span.{IsPlaced, pages_end, max_series}
pub use Rattle.space_model.specs.Part.{is_in_flight}
use Rattle.space_model.specs.Part.{is_active, is_backed, rest_of, holders}
use Rattle.space_model.specs.Region.{address_of, houses, homes, residents, fills, sharers}

-- A decay time is -1 or up to 1000000000 ms, its epochs fit into the time that passed, and no epoch has more pages
-- than there are.
pub record IsPaced (pace : Pace) : Type 0 where
  pub least : negsuc 0 ≤ℤ pace.ms
  pub most : pace.ms ≤ℤ pos 1000000000
  pub started : (ms : ℕ) → pace.ms ≡ pos ms → pace.epoch * ms * 5000 ≤ pace.start
  pub rising : AllPairs (λ a b. a.epoch < b.epoch) pace.added
  pub past : All (λ a. a.epoch ≤ pace.epoch) pace.added
  pub pages : All (λ a. a.pages ≤ pages_end - 512) pace.added
  pub left : pace.left ≤ pages_end - 512

-- an arena that is absent or being destroyed has no region, extent in flight, offer or client, and an absent one no extent
abbrev pub IsQuiet : Life → Space → Type 0
IsQuiet Live s = Unit {0}
IsQuiet (Dying c) s =
    (s.regions ≡ []) × (s.offers ≡ []) × (s.bound ≡ []) × All (λ p. is_in_flight p.state ≡ false) s.parts
IsQuiet Absent s = (s.regions ≡ []) × (s.offers ≡ []) × (s.bound ≡ []) × (s.parts ≡ [])

-- The region stands in a slab: the extent has the pages of its class, each region of the extent is of that class, and the
-- region begins a multiple of the class's size behind the extent's start, at one of the slab's places.
pub record IsInSlab (all : List Region) (p : Part) (r : Region) : Type 0 where
  pub pages : p.span.pages ≡ pages_at r.class
  pub alike : All (λ q. IsTrue (houses p q) → q.class ≡ r.class) all
  pub place : (i : ℕ) × (i < regions_at r.class) × (r.addr ≡ address_of p.span.first + i * size_at r.class)

-- The extents of an arena don't meet, and each region has its home in one of them.
pub record Sound (s : Space) : Type 0 where
  -- no page has two extents
  pub owners : (page : ℕ) → holders page s.parts ≤ 1
  -- no extent and no offer is empty, and all of them lie in the space
  pub placed : All (λ p. IsPlaced p.span) s.parts
  pub offered : All (λ o. IsPlaced o.span) s.offers
  -- an extent that is dirty or muzzy, or on its way there, is committed, and so is an active one
  pub backed : All (λ p. IsTrue (is_backed (rest_of p.state)) → IsTrue p.committed) s.parts
  -- each region lies in just one active, committed extent, and each active extent has a region
  pub homes : All (λ r. homes r s.parts ≡ 1) s.regions
  pub used : All (λ p. IsTrue (is_active p.state) → 0 < residents p s.regions) s.parts
  -- a large region starts its extent, which has the pages of its class and no other region
  pub large : All (λ r. All (λ p. IsTrue (houses p r) → 36 ≤ r.class → IsTrue (fills p r) × (residents p s.regions ≡ 1)) s.parts) s.regions
  -- a small region stands in a slab of its class
  pub small : All (λ r. All (λ p. IsTrue (houses p r) → r.class < 36 → IsInSlab s.regions p r) s.parts) s.regions
  -- each region is of a class and aligned as the class wants it, and no byte is in two regions
  pub classes : All (λ r. r.class < 121) s.regions
  pub aligned : All (λ r. r.addr % align_at r.class ≡ 0) s.regions
  pub apart : (byte : ℕ) → sharers byte s.regions ≤ 1
  -- the regions stand by address
  pub ordered : AllPairs (λ q r. q.addr ≤ r.addr) s.regions
  -- an arena that isn't live serves nobody
  pub quiet : IsQuiet s.life s
  -- its box and its decay times are in range
  pub box : s.box_no < 32
  pub dirty : IsPaced s.dirty
  pub muzzy : IsPaced s.muzzy
  -- its growth and the limit of that are in range
  pub grow : (1 ≤ s.grow) × (s.grow ≤ max_series)
  pub grow_limit : (1 ≤ s.grow_limit) × (s.grow_limit ≤ max_series)
