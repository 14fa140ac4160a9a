-- What is always true between a call and the space of its arena.
use Rattle.std.specs.Prelude.{◌≡◌, ℕ, ◌+◌, ◌-◌, ◌*◌, ◌<◌, ◌≤◌, ◌==◌, ◌⊎◌, true, length, Contains, Some, Bool, Option, None, if◌then◌else◌, flat_map}
use Rattle.space_model.specs.declared.Op.TheVariants.{GrowDone, OfferDone}
use Rattle.space_model.specs.Step.{step_of, op_stands}
use Rattle.space_model.specs.Settings.{is_decay_time}
use Rattle.space_model.specs.Purging.{is_purgeable}
use Rattle.call_plan.specs.Words.{Request, Time, Create, HookBox, GrowLimit as SetGrowLimit, Item, Replied, Told, Starved, Op, Space, Sound, Mine, mine, AskFacts, Held, DeskFacts, max_series, AnswersTo, cached_of, held_at, Rest}
use Rattle.call_plan.specs.Words.{Visit, AfterFlight, Batches, Visiting, Moving, Change, Stops, Visits, Leaves, TurnPoint, Filling, Looking, Landing, Giving, Finding, Taking, Offering, Advancing, Changing, Making, Resetting, Destroying, Dooming, Widening, Narrowing, AskPoint, Skipping, Trimming, Growing, SplittingGrown, GrowingExactly, SplittingExact, Committing, Merging, PurgingLazily, Returning, Decommitting, Forcing, Cutting, Extending, Sparing, Backing, Joining, Point, Turns, Asks, Tells, Next, Go, InArena, NextBatch, Move, Ends, Nowhere, Stage}
use Rattle.call_plan.specs.Table.{Want, WantTurn, WantAsk, want, step, is_marked}
use Rattle.call_plan.specs.Knows.{Idle, Knows, is_held_of, is_served}
use Rattle.call_plan.specs.Runs.{begin_stage, desk_led, settle}
use Rattle.space_model.specs.declared.Rest.TheVariants as rests

-- ---- what may be fed

-- the operation as it enters a journal: it carries the chunk of another arena that was found
abbrev pub with_found : Option ℕ → Op → Op
with_found found (GrowDone heard _) = GrowDone heard found
with_found found (OfferDone heard _) = OfferDone heard found
with_found found op = op

-- a wanted turn may stand in the space, whatever chunk of another arena was found
abbrev pub Stands : ℕ → Space → Want → Type 0
Stands c s (WantTurn op asked) = (found : Option ℕ) → op_stands s c (with_found found op) ≡ true
Stands c s (WantAsk ask) = Unit {0}

-- what is wanted was done, and this item came of it: the turn of the client left this space and replied this, or found no
-- memory, or the box answered the ask
abbrev pub Moves : ℕ → Space → Want → Item → Space → Type 0
Moves c s (WantTurn op asked) (Replied reply) t =
    (found : Option ℕ) × (t ≡ (step_of s c (with_found found op)).after) × (reply ≡ (step_of s c (with_found found op)).reply)
Moves c s (WantTurn op asked) Starved t = (is_marked op ≡ true) × (t ≡ s)
Moves c s (WantAsk ask) (Told asked) t = (asked.ask ≡ ask) × AnswersTo ask asked.answer × (t ≡ s)
Moves c s want item t = ⊥

-- ---- how far a call is from its end

-- how many times it still learns how much there is to do: how many extents a giving back emptied, or a visit has, or whether a
-- region is resized where it is
abbrev pub stages_list : Rest → Option ℕ → ℕ
stages_list rests.Muzzy (Some dirty) = 2
stages_list rest other = 0

-- those of the list that is visited after the one of a visit, if one is
abbrev pub stages_later : Visit → ℕ
stages_later visit = stages_list visit.rest visit.other

-- those of what follows once the client has nothing in flight
abbrev pub stages_then : AfterFlight → ℕ
stages_then Batches = 0
stages_then (Visiting visit left) = stages_later visit
stages_then (Moving class) = 2

-- those of what follows once a setting is changed
abbrev pub stages_change : Change → ℕ
stages_change Stops = 0
stages_change (Visits visit) = 2 + stages_later visit
stages_change (Leaves arena) = 1

-- those of a visit, which learns at its first extent how many there are
abbrev pub stages_visit : Visit → Option ℕ → ℕ
stages_visit visit None = 1 + stages_later visit
stages_visit visit (Some left) = stages_later visit

-- those from a point of a turn on
abbrev pub stages_turn : TurnPoint → ℕ
stages_turn (Filling wish count) = 1
stages_turn (Giving addrs) = 1
stages_turn (Finding own tries fresh later) = stages_then later
stages_turn (Taking visit left) = stages_visit visit left
stages_turn (Offering span later) = stages_then later
stages_turn (Advancing now) = 4
stages_turn (Changing setting change) = stages_change change
stages_turn (Making index setting) = 31 - index
stages_turn (Resetting cached) = 2
stages_turn (Destroying cached) = 1
stages_turn (Widening resize) = 3
stages_turn (Narrowing resize) = 3
stages_turn point = 0

-- those from a point of an ask on
abbrev pub stages_ask : AskPoint → ℕ
stages_ask (Merging low high own_low fresh later) = stages_then later
stages_ask (PurgingLazily span later) = stages_then later
stages_ask (Returning span later) = stages_then later
stages_ask (Decommitting span later) = stages_then later
stages_ask (Forcing span later) = stages_then later
stages_ask (Cutting resize) = 2
stages_ask (Extending resize) = 2
stages_ask (Sparing resize span is_committed) = 2
stages_ask (Backing resize span) = 2
stages_ask (Joining resize span) = 2
stages_ask point = 0

-- those from a point on
abbrev pub stages : Point → ℕ
stages (Turns point) = stages_turn point
stages (Asks point heard) = stages_ask point
stages (Tells span is_committed) = 0

-- the looks of a put that are still to come, each with its merge
abbrev pub looks_left : ℕ → ℕ
looks_left tries = if tries == 0 then 7 else if tries == 1 then 4 else 1

-- the turns and asks of a purge that may still come
abbrev pub purges_left : Bool → ℕ
purges_left fresh = if fresh then 16 else 0

-- those of the extents that are still to be visited
abbrev pub left_then : AfterFlight → ℕ
left_then Batches = 0
left_then (Visiting visit left) = 30 * left
left_then (Moving class) = 0

-- those of the extents of a visit, once it is known how many are left
abbrev pub left_visit : Option ℕ → ℕ
left_visit None = 0
left_visit (Some left) = 30 * left

-- the turns and asks that can come at most from a point of a turn on before the next stage, itself among them, where the
-- client has so many extents in flight and the arena has so many
abbrev pub left_turn : ℕ → ℕ → TurnPoint → ℕ
left_turn flights parts (Looking wish) = 12
left_turn flights parts (Landing wish span) = 1
left_turn flights parts (Finding own tries fresh later) = 30 * (flights - 1) + looks_left tries + purges_left fresh + left_then later
left_turn flights parts (Taking visit left) = left_visit left
left_turn flights parts (Offering span later) = 30 * (flights - 1) + 14 + left_then later
left_turn flights parts Dooming = 2 * parts + 1
left_turn flights parts point = 0

-- likewise from a point of an ask on, where its answer is there
abbrev pub left_ask : ℕ → AskPoint → ℕ
left_ask flights (Skipping wish span is_committed skip) = 10
left_ask flights (Trimming wish span is_committed) = 8
left_ask flights (Growing wish chunks) = 10
left_ask flights (SplittingGrown wish span is_committed) = 8
left_ask flights (GrowingExactly wish) = 6
left_ask flights (SplittingExact wish span is_committed) = 4
left_ask flights (Committing wish span) = 2
left_ask flights (Merging low high own_low fresh later) = 30 * (flights - 2) + (if own_low then 5 else 2) + purges_left fresh + left_then later
left_ask flights (PurgingLazily span later) = 30 * (flights - 1) + 15 + left_then later
left_ask flights (Returning span later) = 30 * flights + 12 + left_then later
left_ask flights (Decommitting span later) = 30 * (flights - 1) + 10 + left_then later
left_ask flights (Forcing span later) = 30 * (flights - 1) + 8 + left_then later
left_ask flights (Cutting resize) = 0
left_ask flights (Extending resize) = 24
left_ask flights (Sparing resize span is_committed) = 4
left_ask flights (Backing resize span) = 2
left_ask flights (Joining resize span) = 0

-- whether an answer is still to come
abbrev pub unheard : Option AskFacts → ℕ
unheard None = 1
unheard (Some asked) = 0

-- how many extents the client has in flight
abbrev pub flights_of : ℕ → Space → ℕ
flights_of c s = length (mine c s).flights

-- how many turns and asks can come at most from a point on before the next stage
abbrev pub left : ℕ → Space → Point → ℕ
left c s (Turns point) = left_turn (flights_of c s) (length s.parts) point
left c s (Asks point heard) = left_ask (flights_of c s) point + unheard heard
left c s (Tells span is_committed) = 2 * length s.parts + 2

-- ---- the laws

-- every turn that a call wants may stand
abbrev pub WantsStand : Type 0
WantsStand = (c : ℕ) (s : Space) (point : Point) → Sound s → Knows (mine c s) point → Stands c s (want point)

-- a point is nearer to the end: fewer stages are to come, or fewer turns and asks in the same one
abbrev pub IsNearer : ℕ → Space → ℕ → ℕ → Point → Type 0
IsNearer c t stage bound point = (stages point < stage) ⊎ ((stages point ≡ stage) × (left c t point < bound))

-- what a call knows where it goes next, and that it is nearer to its end; once it has ended, and where it goes over to
-- another arena, or where another region is got, the client has nothing in flight
abbrev pub Keeps : ℕ → Space → ℕ → ℕ → Next → Type 0
Keeps c t stage bound (Go point) = Knows (mine c t) point × IsNearer c t stage bound point
Keeps c t stage bound (InArena arena point) = Idle (mine c t) × ((m : Mine) → Idle m → Knows m point) × (stages point < stage)
Keeps c t stage bound (Move class) = Idle (mine c t) × (class < 121) × (1 < stage)
Keeps c t stage bound Nowhere = ⊥
Keeps c t stage bound next = Idle (mine c t)

-- whatever comes of what a call wants leads on: the call knows its extents again and is nearer to its end, and where it
-- has ended the client has nothing in flight
abbrev pub StepsKeep : Type 0
StepsKeep = (c : ℕ) (s t : Space) (point : Point) (item : Item) → Sound s → Knows (mine c s) point
    → Moves c s (want point) item t → Keeps c t (stages point) (left c s point) (step point item)

-- what a call knows is of its client's own alone
abbrev pub KnowledgeIsOwn : Type 0
KnowledgeIsOwn = (c : ℕ) (s t : Space) (point : Point) → mine c t ≡ mine c s → Knows (mine c s) point → Knows (mine c t) point

-- ---- where a request begins

-- a request is in range: its boxes, times, lists and chunks
abbrev pub IsInRange : Request → Type 0
IsInRange (Time arena rest ms now) = (is_decay_time ms ≡ true) × (is_purgeable rest ≡ true)
IsInRange (Create box_no dirty_ms muzzy_ms now) = (box_no < 32) × (is_decay_time dirty_ms ≡ true) × (is_decay_time muzzy_ms ≡ true)
IsInRange (HookBox arena box_no) = box_no < 32
IsInRange (SetGrowLimit arena chunks) = (1 ≤ chunks) × (chunks ≤ max_series)
IsInRange request = Unit {0}

-- the client has the region: it holds it at some address, has cached it, or has it in hand
abbrev pub Has : DeskFacts → Held → Type 0
Has desk region = ((addr : ℕ) × (held_at addr desk ≡ Some region)) ⊎ Contains (flat_map (λ list. list) desk.cached) region ⊎ (desk.hand ≡ Some region)

-- What is so of a client's own in the space of the arena where a request begins, or where it goes on once regions went back:
-- nothing is in flight, the client is a customer of the arena from which it allocates, and the regions of the arena that it has
-- are regions that it holds there.
pub record Ready (m : Mine) (desk : DeskFacts) (at : Stage) : Type 0 where
  pub idle : Idle m
  pub served : at.arena ≡ desk.arena → is_served m ≡ true
  pub holds : (region : Held) → Has desk region → at.arena ≡ region.arena → is_held_of m region.addr region.class ≡ true
  pub cached : cached_of at.arena desk ≤ length m.regions

-- what is known where a request begins, or that it has ended with nothing in flight
abbrev pub KnowsNext : Mine → Next → Type 0
KnowsNext m (Go point) = Knows m point
KnowsNext m (Ends answer) = Idle m
KnowsNext m next = ⊥

-- each request in range begins with what its first point has to know
abbrev pub BeginsKnow : Type 0
BeginsKnow = (m : Mine) (request : Request) (desk : DeskFacts) → IsInRange request
    → Ready m desk (begin_stage request desk) → KnowsNext m (begin_stage request desk).next

-- where a call goes on once regions went back, it knows what it has to
abbrev pub BatchesKnow : Type 0
BatchesKnow = (m : Mine) (request : Request) (desk : DeskFacts) (arena : ℕ)
    → Ready m desk (settle request desk arena NextBatch) → KnowsNext m (settle request desk arena NextBatch).next

-- likewise where another region takes the place of the one in hand: the client has then what that leaves
abbrev pub MovesKnow : Type 0
MovesKnow = (m : Mine) (request : Request) (desk : DeskFacts) (arena class : ℕ) → class < 121
    → Ready m (desk_led desk (Move class)) (settle request desk arena (Move class)) → KnowsNext m (settle request desk arena (Move class)).next
