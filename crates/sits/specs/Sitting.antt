-- What is so of a client and its call among arenas: the regions that it has are such that it holds there, and its open call knows
-- what it has to. Of the arenas nothing is seen here but what the client owns in each.
use Rattle.std.specs.Prelude.{◌≡◌, ℕ, ◌<◌, ◌≤◌, ◌==◌, ◌&&◌, ◌++◌, ◌∷◌, [], Bool, true, List, Option, None, Some, All, count_by, length, map}
use Rattle.sits.specs.Words.{CallFacts, DeskFacts, Go, Goes, Held, Moment, Next, Point, Record, Request, SpaceRegion, Place, cached_in, explicit, flat_map}
use Rattle.sits.specs.Clients.{IsIdle, Waits, mine_in}
use Rattle.sits.specs.Seats.{Seat, seat_of}
use Rattle.sits.specs.Suits.{Suits}

-- the region in hand, if one is
abbrev pub in_hand : Option Held → List Held
in_hand None = []
in_hand (Some region) = region ∷ []

-- the regions that a client has: those that it holds, those that it has cached, the one in hand, the one gained, and those that its
-- explicit caches have
abbrev pub regions_of_desk : DeskFacts → List Held
regions_of_desk desk = map (λ (e : ℕ × Held). e.1) desk.held ++ flat_map (λ list. list) desk.cached ++ in_hand desk.hand ++ in_hand desk.gained ++ explicit desk.set

-- whether a region is at the address and of the class
abbrev pub is_region : ℕ → ℕ → SpaceRegion → Bool
is_region addr class r = r.addr == addr && r.class == class

-- whether a region that a client has is one of the arena, at the address and of the class
abbrev pub is_region_in : ℕ → ℕ → ℕ → Held → Bool
is_region_in arena addr class r = r.arena == arena && r.addr == addr && r.class == class

-- No more of a region are had than there are; and just as many, where all arenas are known at one moment together.
pub record IsOf (together : Bool) (had there : ℕ) : Type 0 where
  pub within : had ≤ there
  pub all : together ≡ true → had ≡ there

-- Each region that a client has is one that it holds in its arena, and where all arenas are known at one moment it has all that it
-- holds, each once. Else it may hold more: where nobody tells it that no page is in two arenas, one region may take the place of
-- another one at its address.
abbrev pub IsInHands : Bool → List Record → ℕ → DeskFacts → Type 0
IsInHands together records c desk = (arena addr class : ℕ)
    → IsOf together (count_by (is_region_in arena addr class) (regions_of_desk desk)) (count_by (is_region addr class) (mine_in records c arena).regions)

-- the regions of an explicit cache stand in the lists of their classes
abbrev pub IsInClasses : Place → Type 0
IsInClasses None = Unit {0}
IsInClasses (Some lists) = (length lists ≡ 41) × ((class : ℕ) → All (λ (r : Held). r.class ≡ class) (cached_in lists class))

-- What a client has is so among the arenas: its regions are those that it holds there, each that is held stands by its address
-- and each that is cached in the list of its class, in explicit caches too, and the client is bound to the arena from which it allocates.
pub record HasRegions (together : Bool) (records : List Record) (c : ℕ) (desk : DeskFacts) : Type 0 where
  pub hands : IsInHands together records c desk
  pub keyed : All (λ (e : ℕ × Held). e.0 ≡ e.1.addr) desk.held
  pub lists : length desk.cached ≡ 41
  pub classed : (class : ℕ) → All (λ (r : Held). r.class ≡ class) (cached_in desk.cached class)
  pub places : All IsInClasses desk.set
  pub arena : desk.arena < 32
  pub bound : (mine_in records c desk.arena).bound ≡ true

-- A client without an open call has nothing in flight, nothing in hand, and nothing gained, and its own cache is in its place.
pub record IsAtRest (together : Bool) (records : List Record) (c : ℕ) (desk : DeskFacts) : Type 0 where
  pub has : HasRegions together records c desk
  pub idle : IsIdle records c
  pub empty : desk.hand ≡ None
  pub gained : desk.gained ≡ None
  pub own : desk.swapped ≡ None

-- A client's call waits at a point of an arena, and what the client has suits it.
pub record Sits (together : Bool) (records : List Record) (c : ℕ) (desk : DeskFacts) (request : Request) (arena : ℕ) (point : Point) : Type 0 where
  pub has : HasRegions together records c desk
  pub waits : Waits records c arena point
  pub suits : Suits desk request arena point

-- ---- clients

-- a client sits where its open call waits
abbrev pub SitsAt : Bool → List Record → ℕ → DeskFacts → CallFacts → Next → Type 0
SitsAt together records c desk call (Go point) = Sits together records c desk call.request call.stage.arena point
SitsAt together records c desk call next = ⊥

-- a client rests, or sits at the point of its open call
abbrev pub IsSeated : Bool → List Record → ℕ → DeskFacts → Option CallFacts → Type 0
IsSeated together records c desk None = IsAtRest together records c desk
IsSeated together records c desk (Some call) = (call.client ≡ c) × SitsAt together records c desk call call.stage.next

-- a client of a heap is as it has to be
abbrev pub SeatSound : Bool → List Record → ℕ → Seat → Type 0
SeatSound together records c seat = IsSeated together records c seat.desk seat.call

-- where a call came, its client is as it has to be
abbrev pub Comes : Bool → List Record → ℕ → Moment → Type 0
Comes together records c at = Goes at.stage.next × SeatSound together records c (seat_of c at)
