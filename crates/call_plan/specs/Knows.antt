-- What a client's call knows of the space of its arena at each point. It is said of what the client owns there, and of
-- nothing else, so no step of another client changes it.
use Rattle.std.specs.Prelude.{◌≡◌, ℕ, ◌+◌, ◌<◌, ◌≤◌, Bool, true, false, ◌==◌, ◌||◌, ◌&&◌, List, [], ◌∷◌, length, Option, None, Some, find}
use Rattle.std.specs.Int.{is_power_of_two}
use Rattle.std.specs.List.{list_any, list_all}
use Rattle.space_model.specs.declared.Offered.{Offered}
use Rattle.space_model.specs.declared.Region.{Region}
use Rattle.space_model.specs.declared.State.TheVariants.{Dirty}
use Rattle.space_model.specs.Part.{is_listed, is_backed, rest_of}
use Rattle.space_model.specs.Purging.{is_purgeable}
use Rattle.space_model.specs.Settings.{setting_stands}
use Rattle.space_model.specs.Step.{may_merge, rises_from}
use Rattle.call_plan.specs.Words.{Setting, MakeLive, Part, Span, Mine, AskFacts, pages_at, same_span, end_of, most_regions, AnswersTo}
use Rattle.call_plan.specs.Words.{Wish, Resize, Visit, AfterFlight, Batches, Visiting, Moving, Change, Visits, TurnPoint, Filling, Looking, Landing, Giving, Finding, Taking, Offering, Advancing, Changing, Making, Resetting, Destroying, Dooming, Publishing, Owning, Widening, Narrowing, AskPoint, Skipping, Trimming, Growing, SplittingGrown, GrowingExactly, SplittingExact, Committing, Merging, PurgingLazily, Returning, Decommitting, Forcing, Cutting, Extending, Sparing, Backing, Joining, Point, Turns, Asks, Tells}
use Rattle.call_plan.specs.Table.{ask_at, behind, chunks_for, lacks}
use Rattle.space_model.specs.declared.Rest.TheVariants as rests

-- what a call can wish for: regions of a class in an extent of its pages, at an alignment that is a power of two
pub record IsWish (wish : Wish) : Type 0 where
  pub class : wish.class < 121
  pub some : 0 < wish.count
  pub fewer : wish.count ≤ most_regions wish.class
  pub pages : wish.pages ≡ pages_at wish.class
  pub align : is_power_of_two wish.align ≡ true

-- whether the client is one of the arena's customers: it is bound to it, or holds a region of it
abbrev pub is_served : Mine → Bool
is_served m = m.bound || list_any (λ _. true) m.regions

-- whether the client holds a region at the address
abbrev pub is_held : Mine → ℕ → Bool
is_held m addr = list_any (λ (r : Region). r.addr == addr) m.regions

-- whether the client holds a region of the class at the address
abbrev pub is_held_of : Mine → ℕ → ℕ → Bool
is_held_of m addr class = list_any (λ (r : Region). r.addr == addr && r.class == class) m.regions

-- ---- what is in flight

-- nothing is offered of the client, and it is cutting no region
abbrev pub IsCalm : Mine → Type 0
IsCalm m = (m.offers ≡ []) × (m.trims ≡ false)

-- The client has nothing in flight and nothing offered, and is cutting no region.
pub record Idle (m : Mine) : Type 0 where
  pub flights : m.flights ≡ []
  pub calm : IsCalm m

-- The client has one extent in flight and no other, with this span and committed or not.
pub record Alone (m : Mine) (span : Span) (is_committed : Bool) : Type 0 where
  pub part : Part
  pub flights : m.flights ≡ part ∷ []
  pub spans : part.span ≡ span
  pub committed : part.committed ≡ is_committed
  pub calm : IsCalm m

-- the client's extent in flight with this span
abbrev pub in_flight : Span → List Part → Option Part
in_flight span flights = find (λ p. same_span p.span span) flights

-- The client has an extent with this span in flight, perhaps beside others, and it is such a one.
pub record Flies (m : Mine) (span : Span) (P : Part → Type 0) : Type 0 where
  pub part : Part
  pub found : in_flight span m.flights ≡ Some part
  pub is : P part
  pub calm : IsCalm m

-- an extent that was purged belongs to the dirty ones no more
abbrev pub Settled : Bool → Part → Type 0
Settled true part = Unit {0}
Settled false part = is_listed (rest_of part.state) Dirty ≡ false

-- an extent that may be offered is on its way to those that are always committed
abbrev pub Droppable : Part → Type 0
Droppable part = is_backed (rest_of part.state) ≡ true

-- The client has two extents in flight that may be merged: side by side, for the same list, and committed alike.
pub record HasPair (m : Mine) (low high : Span) (fresh : Bool) : Type 0 where
  pub low_part : Part
  pub high_part : Part
  pub low_found : in_flight low m.flights ≡ Some low_part
  pub high_found : in_flight high m.flights ≡ Some high_part
  pub alike : may_merge low_part high_part ≡ true
  pub side_by_side : end_of low ≡ high.first
  pub low_settled : Settled fresh low_part
  pub high_settled : Settled fresh high_part
  pub calm : IsCalm m

-- The client has offered a committed extent with this span, and nothing else.
pub record HasOffered (m : Mine) (span : Span) : Type 0 where
  pub offer : Offered
  pub offers : m.offers ≡ offer ∷ []
  pub spans : offer.span ≡ span
  pub committed : offer.committed ≡ true
  pub trims : m.trims ≡ false

-- ---- what is known beside

-- A call that gets an extent knows its wish, and that the client is a customer.
pub record Gets (m : Mine) (wish : Wish) : Type 0 where
  pub is : IsWish wish
  pub served : is_served m ≡ true

-- A region that is resized is the client's, large, and has other pages than the large class that it is to have.
pub record IsResize (m : Mine) (resize : Resize) : Type 0 where
  pub class : ℕ
  pub held : is_held_of m resize.addr class ≡ true
  pub large : 36 ≤ class
  pub pages : resize.pages ≡ pages_at class
  pub to_large : 36 ≤ resize.class
  pub below : resize.class < 121

-- it is to have more pages than it has
abbrev pub Widens : Mine → Resize → Type 0
Widens m resize = IsResize m resize × (resize.pages < pages_at resize.class)

-- it is to have fewer
abbrev pub Narrows : Mine → Resize → Type 0
Narrows m resize = IsResize m resize × (pages_at resize.class < resize.pages)

-- The client holds a region at each of the addresses, which rise.
pub record GivesBack (m : Mine) (addrs : List ℕ) : Type 0 where
  pub some : 0 < length addrs
  pub rise : rises_from 0 addrs ≡ true
  pub held : list_all (is_held m) addrs ≡ true
  pub idle : Idle m

-- a visit is of the dirty or the muzzy extents
abbrev pub IsVisit : Visit → Type 0
IsVisit visit = is_purgeable visit.rest ≡ true

-- what follows is in order
abbrev pub IsThen : AfterFlight → Type 0
IsThen Batches = Unit {0}
IsThen (Visiting visit left) = IsVisit visit
IsThen (Moving class) = class < 121

-- what follows once a setting is changed is in order
abbrev pub IsChange : Change → Type 0
IsChange (Visits visit) = IsVisit visit
IsChange change = Unit {0}

-- a visit that goes on has something left
abbrev pub HasLeft : Option ℕ → Type 0
HasLeft None = Unit {0}
HasLeft (Some left) = 0 < left

-- whether the setting is one of an arena that there is, and none that makes one
abbrev pub is_of_arena : Setting → Bool
is_of_arena (MakeLive box_no dirty_ms muzzy_ms now) = false
is_of_arena setting = true

-- ---- what is known at each point

-- what a call knows at a point at which it waits for the reply to a turn
abbrev pub KnowsTurn : Mine → TurnPoint → Type 0
KnowsTurn m (Filling wish count) = Gets m wish × Idle m × (wish.class < 36) × (0 < count)
KnowsTurn m (Looking wish) = Gets m wish × Idle m
KnowsTurn m (Landing wish span) = Gets m wish × Alone m span true × (span.pages ≡ wish.pages)
KnowsTurn m (Giving addrs) = GivesBack m addrs
KnowsTurn m (Finding own tries fresh later) = (tries < 3) × Flies m own (Settled fresh) × IsThen later
KnowsTurn m (Taking visit left) = Idle m × IsVisit visit × HasLeft left
KnowsTurn m (Offering span later) = Flies m span Droppable × IsThen later
KnowsTurn m (Advancing now) = Idle m
KnowsTurn m (Changing setting change) = Idle m × (setting_stands setting ≡ true) × IsChange change × (is_of_arena setting ≡ true)
KnowsTurn m (Making index setting) = Idle m × (setting_stands setting ≡ true) × (is_of_arena setting ≡ false)
KnowsTurn m (Resetting cached) = Idle m × (cached ≤ length m.regions)
KnowsTurn m (Destroying cached) = Idle m × (cached ≤ length m.regions)
KnowsTurn m Dooming = Idle m × (m.dying ≡ true)
KnowsTurn m (Publishing addr) = Idle m × (is_held m addr ≡ true)
KnowsTurn m (Owning addr frees past) = Idle m
KnowsTurn m (Widening resize) = Idle m × Widens m resize
KnowsTurn m (Narrowing resize) = Idle m × Narrows m resize

-- what a call knows at a point at which it waits for an ask
abbrev pub KnowsAsk : Mine → AskPoint → Type 0
KnowsAsk m (Skipping wish span is_committed skip) =
    Gets m wish × Alone m span is_committed × (0 < skip) × (skip + wish.pages ≤ span.pages)
KnowsAsk m (Trimming wish span is_committed) = Gets m wish × Alone m span is_committed × (wish.pages < span.pages)
KnowsAsk m (Growing wish chunks) = Gets m wish × Idle m × (chunks_for wish.pages < chunks)
KnowsAsk m (SplittingGrown wish span is_committed) = Gets m wish × Alone m span is_committed × (wish.pages < span.pages)
KnowsAsk m (GrowingExactly wish) = Gets m wish × Idle m
KnowsAsk m (SplittingExact wish span is_committed) = Gets m wish × Alone m span is_committed × (wish.pages < span.pages)
KnowsAsk m (Committing wish span) = Gets m wish × Alone m span false × (span.pages ≡ wish.pages)
KnowsAsk m (Merging low high own_low fresh later) = HasPair m low high fresh × IsThen later
KnowsAsk m (PurgingLazily span later) = Flies m span (λ p. rest_of p.state ≡ rests.Dirty) × IsThen later
KnowsAsk m (Returning span later) = HasOffered m span × IsThen later
KnowsAsk m (Decommitting span later) = Flies m span (λ p. (p.committed ≡ true) × (rest_of p.state ≡ rests.Retained)) × IsThen later
KnowsAsk m (Forcing span later) = Flies m span (λ p. rest_of p.state ≡ rests.Retained) × IsThen later
KnowsAsk m (Cutting resize) = (m.flights ≡ []) × (m.offers ≡ []) × (m.trims ≡ true) × Narrows m resize
KnowsAsk m (Extending resize) = Idle m × Widens m resize
KnowsAsk m (Sparing resize span is_committed) =
    Widens m resize × Alone m span is_committed × (span.first ≡ behind resize) × (lacks resize < span.pages)
KnowsAsk m (Backing resize span) = Widens m resize × Alone m span false × (span.first ≡ behind resize) × (span.pages ≡ lacks resize)
KnowsAsk m (Joining resize span) = Widens m resize × Alone m span true × (span.first ≡ behind resize) × (span.pages ≡ lacks resize)

-- an answer that is there is one to the ask of the point, of its kind
abbrev pub Heard : AskPoint → Option AskFacts → Type 0
Heard point None = Unit {0}
Heard point (Some asked) = (asked.ask ≡ ask_at point) × AnswersTo (ask_at point) asked.answer

-- what a call knows at a point
abbrev pub Knows : Mine → Point → Type 0
Knows m (Turns point) = KnowsTurn m point
Knows m (Asks point heard) = KnowsAsk m point × Heard point heard
Knows m (Tells span is_committed) = Idle m × (m.dying ≡ true)
