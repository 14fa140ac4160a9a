-- What of all that a client has suits a point of its call.
use Rattle.std.specs.Prelude.{◌≡◌, ◌≢◌, ℕ, Bool, false, ◌+◌, ◌<◌, ◌≤◌, Option, None, Some, length}
use Rattle.sits.specs.Words.{AskPoint, Asks, Batches, Change, Changing, Committing, Decommitting, DeskFacts, Destroying, PurgingLazily, Filling, Finding, Forcing, Giving, SplittingExact, Growing, Held, Landing, Leaves, Looking, Merging, Cutting, Extending, Sparing, Backing, Joining, Resize, Moving, Owning, Widening, Narrowing, GrowingExactly, Offering, SplittingGrown, Point, Publishing, Request, Resetting, Returning, SetBound as Bind, Setting, Skipping, Stops, Tells, AfterFlight, Trimming, TurnPoint, Turns, Unbind, Visiting, Visits, batch_of, cached_in, cached_of, flushes, going, pages_at, slots_at}

-- there are slots for all but one of so many regions of a class
abbrev pub HasSlots : DeskFacts → ℕ → ℕ → Type 0
HasSlots desk class count = 1 < count → (class < 41) × (length (cached_in desk.cached class) + count ≤ slots_at class + 1)

-- A client that gets so many regions of a class has nothing in hand, unless one of them takes its place, and gained nothing yet; it
-- allocates from the arena, and can cache all but one.
pub record SuitsGet (desk : DeskFacts) (arena : ℕ) (moves : Bool) (class count : ℕ) : Type 0 where
  pub empty : moves ≡ false → desk.hand ≡ None
  pub none : desk.gained ≡ None
  pub own : arena ≡ desk.arena
  pub slots : HasSlots desk class count

-- a region is in hand only while regions go back, or where another one is to take its place, and then none is gained
abbrev pub SuitsThen : DeskFacts → AfterFlight → Type 0
SuitsThen desk Batches = Unit {0}
SuitsThen desk (Visiting visit left) = desk.hand ≡ None
SuitsThen desk (Moving class) = desk.gained ≡ None

-- the client doesn't leave the arena from which it allocates
abbrev pub IsBoundStill : DeskFacts → ℕ → Setting → Type 0
IsBoundStill desk arena Unbind = arena ≢ desk.arena
IsBoundStill desk arena setting = Unit {0}

-- another arena is bound before the client leaves its own
abbrev pub SuitsChange : DeskFacts → ℕ → Setting → Change → Type 0
SuitsChange desk arena setting Stops = IsBoundStill desk arena setting
SuitsChange desk arena setting (Visits visit) = IsBoundStill desk arena setting
SuitsChange desk arena Bind (Leaves old) = (old ≡ desk.arena) × (arena ≢ desk.arena)
SuitsChange desk arena setting (Leaves old) = ⊥

-- the region in hand is the one at the address in the arena
abbrev pub IsTheHand : ℕ → ℕ → Option Held → Type 0
IsTheHand arena addr None = ⊥
IsTheHand arena addr (Some region) = (region.addr ≡ addr) × (region.arena ≡ arena)

-- the region in hand is the large one in the arena that is resized
abbrev pub IsTheLarge : ℕ → Resize → Option Held → Type 0
IsTheLarge arena resize None = ⊥
IsTheLarge arena resize (Some region) = (region.addr ≡ resize.addr) × (region.arena ≡ arena) × (36 ≤ region.class) × (resize.pages ≡ pages_at region.class)

-- the region that is resized is the one in hand, and none is gained yet
abbrev pub SuitsResize : DeskFacts → ℕ → Resize → Type 0
SuitsResize desk arena resize = IsTheLarge arena resize desk.hand × (desk.gained ≡ None)

-- what a client has suits a point at which its call waits for the reply to a turn
abbrev pub SuitsTurn : DeskFacts → Request → ℕ → TurnPoint → Type 0
SuitsTurn desk request arena (Filling wish count) = SuitsGet desk arena wish.moves wish.class count × (wish.count ≤ count)
SuitsTurn desk request arena (Looking wish) = SuitsGet desk arena wish.moves wish.class wish.count
SuitsTurn desk request arena (Landing wish span) = SuitsGet desk arena wish.moves wish.class wish.count
SuitsTurn desk request arena (Giving addrs) = batch_of (going (flushes request) desk) ≡ Some (record { arena = arena; addrs = addrs })
SuitsTurn desk request arena (Finding own tries fresh later) = SuitsThen desk later
SuitsTurn desk request arena (Offering span later) = SuitsThen desk later
SuitsTurn desk request arena (Changing setting change) = (desk.hand ≡ None) × SuitsChange desk arena setting change
SuitsTurn desk request arena (Resetting cached) = (desk.hand ≡ None) × (cached ≡ cached_of arena desk) × (desk.gained ≡ None)
SuitsTurn desk request arena (Destroying cached) = (desk.hand ≡ None) × (cached ≡ cached_of arena desk) × (desk.gained ≡ None)
SuitsTurn desk request arena (Publishing addr) = IsTheHand arena addr desk.hand
SuitsTurn desk request arena (Owning addr frees past) = (desk.hand ≡ None) × (desk.gained ≡ None)
SuitsTurn desk request arena (Widening resize) = SuitsResize desk arena resize
SuitsTurn desk request arena (Narrowing resize) = SuitsResize desk arena resize
SuitsTurn desk request arena point = desk.hand ≡ None

-- likewise a point at which it waits for an ask
abbrev pub SuitsAsk : DeskFacts → ℕ → AskPoint → Type 0
SuitsAsk desk arena (Skipping wish span is_committed skip) = SuitsGet desk arena wish.moves wish.class wish.count
SuitsAsk desk arena (Trimming wish span is_committed) = SuitsGet desk arena wish.moves wish.class wish.count
SuitsAsk desk arena (Growing wish chunks) = SuitsGet desk arena wish.moves wish.class wish.count
SuitsAsk desk arena (SplittingGrown wish span is_committed) = SuitsGet desk arena wish.moves wish.class wish.count
SuitsAsk desk arena (GrowingExactly wish) = SuitsGet desk arena wish.moves wish.class wish.count
SuitsAsk desk arena (SplittingExact wish span is_committed) = SuitsGet desk arena wish.moves wish.class wish.count
SuitsAsk desk arena (Committing wish span) = SuitsGet desk arena wish.moves wish.class wish.count
SuitsAsk desk arena (Merging low high own_low fresh later) = SuitsThen desk later
SuitsAsk desk arena (PurgingLazily span later) = SuitsThen desk later
SuitsAsk desk arena (Returning span later) = SuitsThen desk later
SuitsAsk desk arena (Decommitting span later) = SuitsThen desk later
SuitsAsk desk arena (Forcing span later) = SuitsThen desk later
SuitsAsk desk arena (Cutting resize) = SuitsResize desk arena resize
SuitsAsk desk arena (Extending resize) = SuitsResize desk arena resize
SuitsAsk desk arena (Sparing resize span is_committed) = SuitsResize desk arena resize
SuitsAsk desk arena (Backing resize span) = SuitsResize desk arena resize
SuitsAsk desk arena (Joining resize span) = SuitsResize desk arena resize

-- what a client has suits a point of its call
abbrev pub Suits : DeskFacts → Request → ℕ → Point → Type 0
Suits desk request arena (Turns point) = SuitsTurn desk request arena point
Suits desk request arena (Asks point heard) = SuitsAsk desk arena point
Suits desk request arena (Tells span is_committed) = desk.hand ≡ None
