-- A call as contracts see it.
use Rattle.std.specs.Prelude.{◌≤◌, ◌+◌, ℕ, Bool, true, false, ◌||◌, Option, Some, is_some, if◌then◌else◌, not}
use Rattle.call_plan.specs.Words.{Request, Malloc, Memalign, Free, FreeForeign, Publish, Take, Realloc, MallocIn, FreeIn, NewCache, Region, Finished, Ok, AfterFlight, Moving, TurnPoint, Filling, Looking, Landing, Finding, Offering, Owning, Widening, Narrowing, AskPoint, Merging, PurgingLazily, Returning, Decommitting, Forcing, Point, Turns, Asks, Tells, Next, Go, Ends, Stage, DeskFacts}
use Rattle.call_plan.specs.Desks.{flushes}
use Rattle.call_plan.specs.Points.{IsSizedNext}
use Rattle.call_plan.specs.Needs.{IsPointOrEnd, named}
use Rattle.call_plan.specs.Runs.{Moment}

-- a call: its client, what that wants, and where it stands
pub record CallFacts : Type 0 where
  pub client : ℕ
  pub request : Request
  pub stage : Stage

-- the moment of a call, with what its client has
abbrev pub moment_of : CallFacts → DeskFacts → Moment
moment_of call desk = record { request = call.request; desk = desk; stage = call.stage }

-- a call with the regions named that go back next, by what its client has
abbrev pub named_call : DeskFacts → CallFacts → CallFacts
named_call desk call = record call { stage = named call.request desk call.stage }

-- the moment of a call, with the regions named that go back next
abbrev pub moment_at : CallFacts → DeskFacts → Moment
moment_at call desk = moment_of (named_call desk call) desk

-- what stands in a place once a call of a client began, for which this is next: the call, where it is open
abbrev pub started : ℕ → Moment → Option CallFacts → Next → Option CallFacts
started c at was (Go point) = Some (record { client = c; request = at.request; stage = at.stage })
started c at was next = was

-- it waits at a point or has ended, and what it asks for fits into a number
abbrev pub IsCall : Stage → Type 0
IsCall at = IsPointOrEnd at.next × IsSizedNext at.next

-- ---- room for a region that the client comes to hold

-- whether a region may come of what follows
abbrev pub gets_then : AfterFlight → Bool
gets_then (Moving class) = true
gets_then later = false

-- whether a region may come of a point and stay: it lands, is free, is taken over or resized
abbrev pub gets_turn : TurnPoint → Bool
gets_turn (Filling wish count) = true
gets_turn (Looking wish) = true
gets_turn (Landing wish span) = true
gets_turn (Owning addr frees past) = not frees
gets_turn (Finding own tries fresh later) = gets_then later
gets_turn (Offering span later) = gets_then later
gets_turn (Widening resize) = true
gets_turn (Narrowing resize) = true
gets_turn point = false

-- whether a region may come of a point of an ask: an extent is got there, or a region resized, and none is merged, purged or given
-- back, unless a region is got then
abbrev pub gets_ask : AskPoint → Bool
gets_ask (Merging low high own_low fresh later) = gets_then later
gets_ask (PurgingLazily span later) = gets_then later
gets_ask (Returning span later) = gets_then later
gets_ask (Decommitting span later) = gets_then later
gets_ask (Forcing span later) = gets_then later
gets_ask point = true

-- whether a region may come of a point
abbrev pub gets_at : Point → Bool
gets_at (Turns point) = gets_turn point
gets_at (Asks point heard) = gets_ask point
gets_at (Tells span is_committed) = false

-- whether the region that comes of a point is freed
abbrev pub frees_at : Point → Bool
frees_at (Turns (Owning addr frees past)) = frees
frees_at point = false

-- 1 for true, 0 for false
abbrev pub one_if : Bool → ℕ
one_if v = if v then 1 else 0

-- how many regions the client may come to hold where its call goes: the one in hand, held again, and one that it gets or gained
abbrev pub places : DeskFacts → Next → ℕ
places desk (Go point) = one_if (is_some desk.hand || frees_at point) + one_if (is_some desk.gained || gets_at point)
places desk (Ends (Ok (Region addr class))) = 1
places desk (Ends (Ok Finished)) = one_if (is_some desk.gained)
places desk (Ends answer) = one_if (is_some desk.hand) + one_if (is_some desk.gained)
places desk next = 0

-- while the call is open, there is room for the regions that its client may come to hold
abbrev pub HasRoomToHold : DeskFacts → ℕ → Next → Type 0
HasRoomToHold desk room (Go point) = places desk (Go point) ≤ room
HasRoomToHold desk room next = Unit {0}

-- whether a client may come to hold a region by a request: one that it gets, or gave away, where memory is wanting
abbrev pub may_hold : Request → Bool
may_hold (Malloc size) = true
may_hold (Memalign align size) = true
may_hold (Free addr) = true
may_hold (FreeForeign addr arena) = true
may_hold (Publish addr) = true
may_hold (Take addr arena) = true
may_hold (Realloc addr size) = true
may_hold (MallocIn slot size) = true
may_hold (FreeIn slot addr) = true
may_hold request = false

-- whether a request makes an explicit cache
abbrev pub makes_cache : Request → Bool
makes_cache NewCache = true
makes_cache request = false

-- whether the start of a request takes memory: to make room for such regions, to name those that go back, or for an explicit cache
abbrev pub takes_memory : Request → DeskFacts → Bool
takes_memory request desk = may_hold request || flushes request || is_some desk.hand || is_some desk.gained || makes_cache request
