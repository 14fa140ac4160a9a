-- What is so of every point of a call, whatever it was fed: what it asks for fits into a number.
use Rattle.std.specs.Prelude.{◌<◌, ◌≤◌, ◌^◌}
use Rattle.call_plan.specs.Words.{Wish, Resize, AfterFlight, Batches, Visiting, Moving, TurnPoint, Filling, Looking, Landing, Finding, Offering, Widening, Narrowing, AskPoint, Skipping, Trimming, Growing, SplittingGrown, GrowingExactly, SplittingExact, Committing, Merging, PurgingLazily, Returning, Decommitting, Forcing, Cutting, Extending, Sparing, Backing, Joining, Point, Turns, Asks, Tells, Next, Go, InArena, Move, max_series}

-- the pages of a wish are few, and its class is one
abbrev pub IsFew : Wish → Type 0
IsFew wish = (wish.pages ≤ 2 ^ 32) × (wish.class < 121)

-- a region to be resized has few pages, and the class that it is to have is one
abbrev pub IsFewPages : Resize → Type 0
IsFewPages resize = (resize.pages ≤ 2 ^ 32) × (resize.class < 121)

-- the class of a region that is to be got is one
abbrev pub IsSizedThen : AfterFlight → Type 0
IsSizedThen Batches = Unit {0}
IsSizedThen (Visiting visit left) = Unit {0}
IsSizedThen (Moving class) = class < 121

-- the wish of a point of a turn is such, where it has one
abbrev pub IsSizedTurn : TurnPoint → Type 0
IsSizedTurn (Filling wish count) = IsFew wish
IsSizedTurn (Looking wish) = IsFew wish
IsSizedTurn (Landing wish span) = IsFew wish
IsSizedTurn (Finding own tries fresh later) = IsSizedThen later
IsSizedTurn (Offering span later) = IsSizedThen later
IsSizedTurn (Widening resize) = IsFewPages resize
IsSizedTurn (Narrowing resize) = IsFewPages resize
IsSizedTurn point = Unit {0}

-- the wish of a point of an ask is such, where it has one, and the chunks that it asks for are few
abbrev pub IsSized : AskPoint → Type 0
IsSized (Skipping wish span is_committed skip) = IsFew wish
IsSized (Trimming wish span is_committed) = IsFew wish
IsSized (Growing wish chunks) = IsFew wish × (chunks ≤ max_series)
IsSized (SplittingGrown wish span is_committed) = IsFew wish
IsSized (GrowingExactly wish) = IsFew wish
IsSized (SplittingExact wish span is_committed) = IsFew wish
IsSized (Committing wish span) = IsFew wish
IsSized (Merging low high own_low fresh later) = IsSizedThen later
IsSized (PurgingLazily span later) = IsSizedThen later
IsSized (Returning span later) = IsSizedThen later
IsSized (Decommitting span later) = IsSizedThen later
IsSized (Forcing span later) = IsSizedThen later
IsSized (Cutting resize) = IsFewPages resize
IsSized (Extending resize) = IsFewPages resize
IsSized (Sparing resize span is_committed) = IsFewPages resize
IsSized (Backing resize span) = IsFewPages resize
IsSized (Joining resize span) = IsFewPages resize

-- what a point asks for fits into a number
abbrev pub IsSizedPoint : Point → Type 0
IsSizedPoint (Turns point) = IsSizedTurn point
IsSizedPoint (Asks point heard) = IsSized point
IsSizedPoint (Tells span is_committed) = Unit {0}

-- where a call goes next, what is asked for fits into a number
abbrev pub IsSizedNext : Next → Type 0
IsSizedNext (Go point) = IsSizedPoint point
IsSizedNext (InArena index point) = IsSizedPoint point
IsSizedNext (Move class) = class < 121
IsSizedNext next = Unit {0}
