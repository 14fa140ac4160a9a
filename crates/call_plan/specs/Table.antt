-- The table of calls: what a call wants at each point, and where an item leads.
use Rattle.std.specs.Prelude.{ℕ, ◌+◌, ◌-◌, ◌*◌, ◌/◌, ◌==◌, ◌&&◌, Bool, true, false, nat_lt, min, max, ◌∷◌, Option, None, Some, if◌then◌else◌}
use Rattle.space_model.specs.declared.Ask.TheVariants.{Destroy as DestroyExtent}
use Rattle.space_model.specs.declared.Op.TheVariants.{Look, CutDone, GrowDone, CommitDone, Land, Back, PutLook, MergeDone, Fill, Advance, PurgeTake, LazyDone, Offer, OfferDone, DecommitDone, ForcedDone, Publish, TakeOver, Reset, Destroy, DestroyTake, Set, Widen, JoinDone, Trim, TrimDone}
use Rattle.hook_api.specs.Asked.{heard_in}
use Rattle.call_plan.specs.Words.{Item, Replied, Told, Starved, Given, Region, Finished, Arena, Limits, Ok, Refused, BadAnswer, NotHeld, Busy, NoMemory, ArenasFull, end_of, max_series, Rest}
use Rattle.call_plan.specs.Words.{Wish, Resize, Visit, AfterFlight, Batches, Visiting, Moving, Change, Stops, Visits, Leaves, TurnPoint, Filling, Looking, Landing, Giving, Finding, Taking, Offering, Advancing, Changing, Making, Resetting, Destroying, Dooming, Publishing, Owning, Widening, Narrowing, AskPoint, Skipping, Trimming, Growing, SplittingGrown, GrowingExactly, SplittingExact, Committing, Merging, PurgingLazily, Returning, Decommitting, Forcing, Cutting, Extending, Sparing, Backing, Joining, Point, Turns, Asks, Tells, Next, Go, InArena, NextBatch, Move, NotLive, Ends, Nowhere}
use Rattle.call_plan.specs.Words.{Ask, Alloc, Dalloc, Commit, Decommit, PurgeLazy, PurgeForced, Split, Merge, Answer, Placed, Op, Reply, NoArena, Nothing, Noted, Took, Grow, Cut, Whole, Bad, Grown, Landed, NextFlight, Beside, Purge, Joined, Regions, LimitsAre, Taken, Lazy, Kept, Abandoned, Decommitted, Doomed, Owned, Setting, Unbind, Span, AskFacts, pages_at}
use Rattle.space_model.specs.declared.Reply.TheVariants as replies
use Rattle.space_model.specs.declared.Rest.TheVariants as rests

-- ---- what is wanted at a point

-- what a call wants of an arena: a turn with an operation, which carries the answer to an ask or none, or an ask
pub data Want : Type 0 where
  WantTurn : Op → Option AskFacts → Want
  WantAsk : Ask → Want

-- how many chunks hold so many pages
abbrev pub chunks_for : ℕ → ℕ
chunks_for pages = (pages + 511) / 512

-- the pages of these chunks
abbrev pub whole_chunks : ℕ → ℕ
whole_chunks pages = chunks_for pages * 512

-- an alloc of so many pages, anywhere and uncommitted, at the alignment of a wish and of a chunk
abbrev pub alloc_of : Wish → ℕ → Ask
alloc_of wish pages = Alloc false None pages (max 512 wish.align)

-- the pages of a region that is resized
abbrev pub own_span : Resize → Span
own_span resize = record { first = resize.addr / 4096; pages = resize.pages }

-- how many pages it lacks
abbrev pub lacks : Resize → ℕ
lacks resize = pages_at resize.class - resize.pages

-- the first page behind it
abbrev pub behind : Resize → ℕ
behind resize = resize.addr / 4096 + resize.pages

-- an alloc of the chunks that it lacks, right behind it
abbrev pub alloc_behind : Resize → Ask
alloc_behind resize = Alloc false (Some (behind resize)) (whole_chunks (lacks resize)) 512

-- the operation of a turn that takes in no answer
abbrev pub op_at : TurnPoint → Op
op_at (Filling wish count) = Fill wish.class count
op_at (Looking wish) = Look wish.pages wish.align
op_at (Landing wish span) = Land span wish.class wish.count
op_at (Giving addrs) = Back addrs
op_at (Finding own tries fresh later) = PutLook own tries
op_at (Taking visit left) = PurgeTake visit.rest visit.keep
op_at (Offering span later) = Offer span
op_at (Advancing now) = Advance now
op_at (Changing setting change) = Set setting
op_at (Making index setting) = Set setting
op_at (Resetting cached) = Reset cached
op_at (Destroying cached) = Destroy cached
op_at Dooming = DestroyTake
op_at (Publishing addr) = Publish addr
op_at (Owning addr frees past) = TakeOver addr
op_at (Widening resize) = Widen resize.addr (pages_at resize.class)
op_at (Narrowing resize) = Trim resize.addr resize.class

-- the ask at a point
abbrev pub ask_at : AskPoint → Ask
ask_at (Skipping wish span is_committed skip) = Split span skip
ask_at (Trimming wish span is_committed) = Split span wish.pages
ask_at (Growing wish chunks) = alloc_of wish (chunks * 512)
ask_at (SplittingGrown wish span is_committed) = Split span wish.pages
ask_at (GrowingExactly wish) = alloc_of wish (whole_chunks wish.pages)
ask_at (SplittingExact wish span is_committed) = Split span wish.pages
ask_at (Committing wish span) = Commit span
ask_at (Merging low high own_low fresh later) = Merge low high
ask_at (PurgingLazily span later) = PurgeLazy span
ask_at (Returning span later) = Dalloc span true
ask_at (Decommitting span later) = Decommit span
ask_at (Forcing span later) = PurgeForced span
ask_at (Cutting resize) = Split (own_span resize) (pages_at resize.class)
ask_at (Extending resize) = alloc_behind resize
ask_at (Sparing resize span is_committed) = Split span (lacks resize)
ask_at (Backing resize span) = Commit span
ask_at (Joining resize span) = Merge (own_span resize) span

-- the operation of the turn that takes its answer in
abbrev pub done_at : AskPoint → AskFacts → Op
done_at (Skipping wish span is_committed skip) asked = CutDone (heard_in asked) false
done_at (Trimming wish span is_committed) asked = CutDone (heard_in asked) true
done_at (Growing wish chunks) asked = GrowDone (heard_in asked) None
done_at (SplittingGrown wish span is_committed) asked = CutDone (heard_in asked) true
done_at (GrowingExactly wish) asked = GrowDone (heard_in asked) None
done_at (SplittingExact wish span is_committed) asked = CutDone (heard_in asked) true
done_at (Committing wish span) asked = CommitDone (heard_in asked)
done_at (Merging low high own_low fresh later) asked = MergeDone (heard_in asked) own_low
done_at (PurgingLazily span later) asked = LazyDone (heard_in asked)
done_at (Returning span later) asked = OfferDone (heard_in asked) None
done_at (Decommitting span later) asked = DecommitDone (heard_in asked)
done_at (Forcing span later) asked = ForcedDone (heard_in asked)
done_at (Cutting resize) asked = TrimDone (heard_in asked) resize.class
done_at (Extending resize) asked = GrowDone (heard_in asked) None
done_at (Sparing resize span is_committed) asked = CutDone (heard_in asked) true
done_at (Backing resize span) asked = CommitDone (heard_in asked)
done_at (Joining resize span) asked = JoinDone (heard_in asked) resize.class

-- what a call wants at a point
abbrev pub want : Point → Want
want (Turns point) = WantTurn (op_at point) None
want (Asks point None) = WantAsk (ask_at point)
want (Asks point (Some asked)) = WantTurn (done_at point asked) (Some asked)
want (Tells span is_committed) = WantAsk (DestroyExtent span is_committed)

-- ---- an extent for a wish

-- an extent with the pages that are wanted is committed, or the regions land in it
abbrev pub commit : Wish → Span → Bool → Next
commit wish span true = Go (Turns (Landing wish span))
commit wish span false = Go (Asks (Committing wish span) None)

-- what is too much of a grant is cut off
abbrev pub grant : Wish → Span → Bool → Next
grant wish span is_committed =
    if nat_lt wish.pages span.pages then Go (Asks (SplittingExact wish span is_committed) None) else commit wish span is_committed

-- what stands behind the run is cut off
abbrev pub trim : Wish → Span → Bool → Next
trim wish span is_committed =
    if nat_lt wish.pages span.pages then Go (Asks (Trimming wish span is_committed) None) else commit wish span is_committed

-- what stands before the run is cut off
abbrev pub skip_to : Wish → Span → Bool → ℕ → Next
skip_to wish span is_committed skip =
    if nat_lt 0 skip then Go (Asks (Skipping wish span is_committed skip) None) else trim wish span is_committed

-- just as many chunks as are needed are asked for
abbrev pub need_chunks : Wish → Next
need_chunks wish = Go (Asks (GrowingExactly wish) None)

-- the arena grows by so many chunks, or at most by the greatest growth, if that is more than is needed
abbrev pub grow : Wish → ℕ → Next
grow wish series =
    if nat_lt (chunks_for wish.pages) (min series max_series) then Go (Asks (Growing wish (min series max_series)) None) else need_chunks wish

-- ---- a region that takes another class in place

-- the pages that the region lacks are committed, or its extent is merged with them
abbrev pub back : Resize → Span → Bool → Next
back resize span true = Go (Asks (Joining resize span) None)
back resize span false = Go (Asks (Backing resize span) None)

-- what stands behind the pages that the region lacks is cut off
abbrev pub spare : Resize → Span → Bool → Next
spare resize span is_committed =
    if nat_lt (lacks resize) span.pages then Go (Asks (Sparing resize span is_committed) None) else back resize span is_committed

-- another region takes its place
abbrev pub move : Resize → Next
move resize = Move resize.class

-- a grant right behind the region serves; any other one is put down, and another region takes its place
abbrev pub extend : Resize → Span → Bool → Next
extend resize span is_committed =
    if span.first == behind resize then spare resize span is_committed else Go (Turns (Finding span 0 true (Moving resize.class)))

-- the range that an alloc's answer places, of so many pages
abbrev pub answered_span : ℕ → Answer → Span
answered_span pages (Placed is_committed zeroed first) = record { first = first; pages = pages }
answered_span pages answer = record { first = 0; pages = pages }

-- ---- an extent that is put down

-- the dirty extents of which so many pages may stay
abbrev pub dirty_visit : ℕ → Option ℕ → Bool → Visit
dirty_visit keep other told = record { rest = rests.Dirty; keep = keep; other = other; told = told }

-- the first extent of a visit is taken
abbrev pub visit_all : Visit → Next
visit_all visit = Go (Turns (Taking visit None))

-- what a visit gives in the end: that it is done, or how many pages might stay
abbrev pub visit_gives : Bool → Rest → ℕ → Option ℕ → Given
visit_gives false rest keep other = Finished
visit_gives true rests.Muzzy keep other = Limits other (Some keep)
visit_gives true rest keep other = Limits (Some keep) other

-- what follows a visit of a list: one of the dirty extents after that of the muzzy ones, where these are visited too, or the answer
abbrev pub visited_list : Rest → Option ℕ → ℕ → Bool → Next
visited_list rests.Muzzy (Some dirty) keep told = visit_all (dirty_visit dirty (Some keep) told)
visited_list rest other keep told = Ends (Ok (visit_gives told rest keep other))

-- what follows a visit
abbrev pub visited : Visit → Next
visited visit = visited_list visit.rest visit.other visit.keep visit.told

-- what follows once nothing is in flight
abbrev pub onward : AfterFlight → Next
onward Batches = NextBatch
onward (Moving class) = Move class
onward (Visiting visit left) = if left == 0 then visited visit else Go (Turns (Taking visit (Some left)))

-- the next extent in flight is put down, or there is none
abbrev pub put_next : AfterFlight → Option Span → Next
put_next later None = onward later
put_next later (Some span) = Go (Turns (Finding span 0 true later))

-- the extent is merged with the neighbour that its look found: the right one, or else the left one, which no third look finds
abbrev pub beside : Span → ℕ → Bool → Span → AfterFlight → Next
beside own tries fresh other later =
    if tries == 0 && other.first == end_of own
    then Go (Asks (Merging own other true fresh later) None)
    else if nat_lt tries 2 then Go (Asks (Merging other own false fresh later) None)
    else Nowhere

-- after a merge the extent that stays in flight looks on
abbrev pub look_on : Span → Bool → Bool → AfterFlight → Next
look_on own own_low fresh later = Go (Turns (Finding own (if own_low then 1 else 2) fresh later))

-- an extent that was purged is put down
abbrev pub put_purged : Span → AfterFlight → Next
put_purged span later = Go (Turns (Finding span 0 false later))

-- ---- an extent that is purged

-- an extent is purged lazily, or offered to its hook
abbrev pub drop : Span → Bool → AfterFlight → Next
drop span true later = Go (Asks (PurgingLazily span later) None)
drop span false later = Go (Turns (Offering span later))

-- how many extents of a visit are still to be taken after one: of those that were listed at the first
abbrev pub takes_left : Option ℕ → ℕ → ℕ
takes_left None listed = listed - 1
takes_left (Some left) listed = left - 1

-- after both decays told how many pages may stay
abbrev pub limited : Option ℕ → Option ℕ → Next
limited None None = Ends (Ok (Limits None None))
limited (Some dirty) None = visit_all (dirty_visit dirty None true)
limited dirty (Some muzzy) = visit_all (record { rest = rests.Muzzy; keep = muzzy; other = dirty; told = true })

-- ---- settings

-- what follows once a setting is changed
abbrev pub setting_changed : Change → Next
setting_changed Stops = Ends (Ok Finished)
setting_changed (Visits visit) = visit_all visit
setting_changed (Leaves arena) = InArena arena (Turns (Changing Unbind Stops))

-- where the index has an arena already, the next one is tried
abbrev pub make_next : ℕ → Setting → Next
make_next index setting = if nat_lt index 31 then InArena (index + 1) (Turns (Making (index + 1) setting)) else Ends ArenasFull

-- what follows once a region is taken over: it is held, or goes back
abbrev pub took_over : ℕ → ℕ → Bool → Next
took_over addr class true = NextBatch
took_over addr class false = Ends (Ok (Region addr class))

-- the region that landed, or was free, is the answer, or takes the place of the one in hand
abbrev pub got : Wish → ℕ → Next
got wish addr = if wish.moves then NextBatch else Ends (Ok (Region addr wish.class))

-- ---- where an item leads

-- where the reply to a turn leads that took in no answer
abbrev pub turn_replied : TurnPoint → Reply → Next
turn_replied (Filling wish count) (Regions (addr ∷ addrs)) = got wish addr
turn_replied (Filling wish count) Nothing = Go (Turns (Looking wish))
turn_replied (Filling wish count) NoArena = NotLive
turn_replied (Looking wish) (Took span is_committed skip) = skip_to wish span is_committed skip
turn_replied (Looking wish) (Grow series) = grow wish series
turn_replied (Looking wish) NoArena = NotLive
turn_replied (Landing wish span) (Landed first count) = got wish first
turn_replied (Giving addrs) (NextFlight next) = put_next Batches next
turn_replied (Finding own tries fresh later) (Beside other) = beside own tries fresh other later
turn_replied (Finding own tries fresh later) (NextFlight next) = put_next later next
turn_replied (Finding own tries fresh later) (Purge lazy) = drop own lazy later
turn_replied (Taking visit left) (Taken span lazy listed) = drop span lazy (Visiting visit (takes_left left listed))
turn_replied (Taking visit left) Nothing = visited visit
turn_replied (Taking visit left) NoArena = NotLive
turn_replied (Offering span later) Noted = Go (Asks (Returning span later) None)
turn_replied (Advancing now) (LimitsAre dirty muzzy) = limited dirty muzzy
turn_replied (Advancing now) NoArena = NotLive
turn_replied (Changing setting change) Noted = setting_changed change
turn_replied (Changing setting change) NoArena = NotLive
turn_replied (Making index setting) Noted = Ends (Ok (Arena index))
turn_replied (Making index setting) Nothing = make_next index setting
turn_replied (Resetting cached) (replies.Busy held flights threads) = Ends (Busy held flights threads)
turn_replied (Resetting cached) Noted = Ends (Ok Finished)
turn_replied (Resetting cached) (Purge lazy) = visit_all (dirty_visit 0 None false)
turn_replied (Resetting cached) NoArena = NotLive
turn_replied (Destroying cached) (replies.Busy held flights threads) = Ends (Busy held flights threads)
turn_replied (Destroying cached) Noted = Go (Turns Dooming)
turn_replied (Destroying cached) NoArena = NotLive
turn_replied Dooming (Doomed span is_committed) = Go (Tells span is_committed)
turn_replied Dooming Nothing = Ends (Ok Finished)
turn_replied (Publishing addr) Noted = Ends (Ok Finished)
turn_replied (Owning addr frees past) (Owned class) = took_over addr class frees
turn_replied (Owning addr frees past) Nothing = Ends (NotHeld addr)
turn_replied (Owning addr frees past) NoArena = NotLive
turn_replied (Widening resize) (Took span is_committed skip) = spare resize span is_committed
turn_replied (Widening resize) Noted = Go (Asks (Extending resize) None)
turn_replied (Widening resize) Nothing = move resize
turn_replied (Narrowing resize) Noted = Go (Asks (Cutting resize) None)
turn_replied point reply = Nowhere

-- after the split of what stands before the run
abbrev pub skipped : Wish → Bool → Reply → Next
skipped wish is_committed (Cut high) = trim wish high is_committed
skipped wish is_committed Whole = need_chunks wish
skipped wish is_committed reply = Nowhere

-- after the split of what stands behind the run, or of a grant of more chunks than are needed
abbrev pub trimmed : Wish → Bool → Reply → Next
trimmed wish is_committed (Cut low) = commit wish low is_committed
trimmed wish is_committed Whole = need_chunks wish
trimmed wish is_committed reply = Nowhere

-- after the alloc of more chunks than are needed
abbrev pub grown : Wish → ℕ → Answer → Reply → Next
grown wish chunks answer replies.Refused = need_chunks wish
grown wish chunks answer (Bad why) = Ends (BadAnswer (answered_span (chunks * 512) answer) why)
grown wish chunks answer (Grown span is_committed) = Go (Asks (SplittingGrown wish span is_committed) None)
grown wish chunks answer reply = Nowhere

-- after the alloc of as many chunks as are needed
abbrev pub needed : Wish → AskFacts → Reply → Next
needed wish asked replies.Refused = Ends (Refused asked)
needed wish asked (Bad why) = Ends (BadAnswer (answered_span (whole_chunks wish.pages) asked.answer) why)
needed wish asked (Grown span is_committed) = grant wish span is_committed
needed wish asked reply = Nowhere

-- after the split of what that granted
abbrev pub grant_split : Wish → Bool → AskFacts → Reply → Next
grant_split wish is_committed asked (Cut low) = commit wish low is_committed
grant_split wish is_committed asked Whole = Ends (Refused asked)
grant_split wish is_committed asked reply = Nowhere

-- after a commit
abbrev pub committed : Wish → Span → AskFacts → Reply → Next
committed wish span asked Noted = Go (Turns (Landing wish span))
committed wish span asked Whole = Ends (Refused asked)
committed wish span asked reply = Nowhere

-- after a merge
abbrev pub merged : Bool → Bool → AfterFlight → Reply → Next
merged own_low fresh later (Joined own) = look_on own own_low fresh later
merged own_low fresh later reply = Nowhere

-- after a lazy purge
abbrev pub eased : Span → AfterFlight → Reply → Next
eased span later (Lazy true) = put_purged span later
eased span later (Lazy false) = Go (Turns (Offering span later))
eased span later reply = Nowhere

-- after a dalloc
abbrev pub returned : Span → AfterFlight → Reply → Next
returned span later (NextFlight next) = put_next later next
returned span later (Abandoned next) = put_next later next
returned span later Kept = Go (Asks (Decommitting span later) None)
returned span later reply = Nowhere

-- after a decommit
abbrev pub decommitted : Span → AfterFlight → Reply → Next
decommitted span later (Decommitted true) = put_purged span later
decommitted span later (Decommitted false) = Go (Asks (Forcing span later) None)
decommitted span later reply = Nowhere

-- after a forced purge
abbrev pub forced : Span → AfterFlight → Reply → Next
forced span later Noted = put_purged span later
forced span later reply = Nowhere

-- after the split of a region's extent: what was cut off is put down
abbrev pub narrowed : Resize → Reply → Next
narrowed resize (Cut high) = put_next Batches (Some high)
narrowed resize Whole = move resize
narrowed resize reply = Nowhere

-- after the alloc of the chunks that it lacks
abbrev pub extended : Resize → Reply → Next
extended resize replies.Refused = move resize
extended resize (Bad why) = move resize
extended resize (Grown span is_committed) = extend resize span is_committed
extended resize reply = Nowhere

-- after the split of what stands behind the pages that it lacks
abbrev pub spared : Resize → Bool → Reply → Next
spared resize is_committed (Cut low) = back resize low is_committed
spared resize is_committed Whole = move resize
spared resize is_committed reply = Nowhere

-- after the commit of these pages
abbrev pub backed : Resize → Span → Reply → Next
backed resize span Noted = Go (Asks (Joining resize span) None)
backed resize span Whole = move resize
backed resize span reply = Nowhere

-- after the merge with them: the region has its class
abbrev pub widened : Resize → Reply → Next
widened resize (Landed first count) = NextBatch
widened resize Whole = move resize
widened resize reply = Nowhere

-- where the reply to the turn leads that took an answer in
abbrev pub told : AskPoint → AskFacts → Reply → Next
told (Skipping wish span is_committed skip) asked reply = skipped wish is_committed reply
told (Trimming wish span is_committed) asked reply = trimmed wish is_committed reply
told (Growing wish chunks) asked reply = grown wish chunks asked.answer reply
told (SplittingGrown wish span is_committed) asked reply = trimmed wish is_committed reply
told (GrowingExactly wish) asked reply = needed wish asked reply
told (SplittingExact wish span is_committed) asked reply = grant_split wish is_committed asked reply
told (Committing wish span) asked reply = committed wish span asked reply
told (Merging low high own_low fresh later) asked reply = merged own_low fresh later reply
told (PurgingLazily span later) asked reply = eased span later reply
told (Returning span later) asked reply = returned span later reply
told (Decommitting span later) asked reply = decommitted span later reply
told (Forcing span later) asked reply = forced span later reply
told (Cutting resize) asked reply = narrowed resize reply
told (Extending resize) asked reply = extended resize reply
told (Sparing resize span is_committed) asked reply = spared resize is_committed reply
told (Backing resize span) asked reply = backed resize span reply
told (Joining resize span) asked reply = widened resize reply

-- whether a turn with the operation may find no memory: it is the first one of what belongs together
abbrev pub is_marked : Op → Bool
is_marked (Look pages align) = true
is_marked (Back addrs) = true
is_marked (Fill class count) = true
is_marked (Advance now) = true
is_marked (PurgeTake rest keep) = true
is_marked (Publish addr) = true
is_marked (TakeOver addr) = true
is_marked (Reset cached) = true
is_marked (Destroy cached) = true
is_marked DestroyTake = true
is_marked (Set setting) = true
is_marked (Widen addr pages) = true
is_marked (Trim addr class) = true
is_marked op = false

-- where a turn leads that found no memory
abbrev pub starved : Bool → Next
starved true = Ends NoMemory
starved false = Nowhere

-- where an item leads from a point
abbrev pub step : Point → Item → Next
step (Turns point) (Replied reply) = turn_replied point reply
step (Turns point) Starved = starved (is_marked (op_at point))
step (Asks point None) (Told asked) = Go (Asks point (Some asked))
step (Asks point (Some asked)) (Replied reply) = told point asked reply
step (Tells span is_committed) (Told asked) = Go (Turns Dooming)
step point item = Nowhere
