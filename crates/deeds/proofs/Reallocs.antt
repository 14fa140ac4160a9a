-- A realloc leaves its client what its answer says: till a region is gained the one to be resized is in hand, and all else is as it was.
use Rattle.std.proofs.Common.{◌≡◌, ◌⊎◌, inl, inr, cond, not, min, is_some, ◌==◌, ◌&&◌, ◌^◌, nat_lt, ℕ, Bool, true, false, List, [], ◌∷◌, Option, None, Some, refl, sym, ◌∙◌, ap, subst, arith, eqb-true, ltb-true}
use Rattle.std.proofs.lemmas.Bool.Decides.{nat_tests}
use Rattle.std.proofs.lemmas.Bool.{and_parts}
use Rattle.space_model.specs.declared.Span.{Span}
use Rattle.space_model.specs.Slabs.{most_regions}
use Rattle.call_plan.specs.declared.clients.Swapped.{Swapped}
use Rattle.thread_cache.specs.declared.Held.{Held}
use Rattle.call_plan.specs.declared.points.Wish.{Wish}
use Rattle.call_plan.specs.declared.points.AfterFlight.{AfterFlight}
use Rattle.call_plan.specs.declared.points.AfterFlight.TheVariants.{Batches, Moving}
use Rattle.call_plan.specs.declared.points.TurnPoint.{TurnPoint}
use Rattle.call_plan.specs.declared.points.TurnPoint.TheVariants.{Filling, Looking, Landing, Giving, Finding, Offering, Widening, Narrowing}
use Rattle.call_plan.specs.declared.points.AskPoint.{AskPoint}
use Rattle.call_plan.specs.declared.points.AskPoint.TheVariants.{Skipping, Trimming, Growing, SplittingGrown, GrowingExactly, SplittingExact, Committing, Merging, PurgingLazily, Returning, Decommitting, Forcing, Cutting, Extending, Sparing, Backing, Joining}
use Rattle.call_plan.specs.Stages.{Point, Turns, Asks, Next, Go, InArena, NextBatch, Move, NotLive, Ends, Nowhere, Stage}
use Rattle.call_plan.specs.declared.needs.Request.TheVariants.{Realloc}
use Rattle.call_plan.specs.declared.needs.Given.TheVariants.{Region}
use Rattle.call_plan.specs.declared.needs.Answered.{Answered}
use Rattle.call_plan.specs.declared.needs.Answered.TheVariants.{Ok, Refused, BadAnswer, TooLarge, NoMemory}
use Rattle.call_plan.specs.Items.{Item, Replied}
use Rattle.space_model.specs.declared.Reply.TheVariants.{Regions, Landed, Cut, Next as NextFlight}
use Rattle.size_classes.specs.Classes.{class_for}
use Rattle.call_plan.specs.Clients.{DeskFacts, BatchFacts, batch_of, caching, empty_handed, freed_with, freeing, gain_held, gain_held_with, gaining, gave, going, going_with, has_slot, held_again, held_again_with, held_at, hit, hitting, holding, is_cacheable, kept, kept_with, not_holding, reclassing, reclassing_with, resizing, swapped_back, swapped_back_of}
use Rattle.call_plan.specs.Desks.{desk_closed, desk_fed, held_region, landed_behind, region_ended, sharing}
use Rattle.call_plan.specs.Runs.{Moment, after, all_done, all_goes, are_large, batch_goes, begin, begin_realloc, begin_resize, desk_led, desk_moved, desk_realloced, desk_resized, move_stage, moved, resize_at, settle, share, stage, step_next, wish_for}
use Rattle.call_plan.specs.Table.{put_next, step}
use Rattle.deeds.specs.Dids.{Did, IsWantedAt, Led, item_of, told_by}
use Rattle.deeds.specs.Reallocs.{AfterReallocOf, HoldsBoth, ReallocsLeave, Remains, Replaced, Rests}

-- ---- the points at which no region is gained, and those behind them

-- a region of the class is wanted in the place of the one in hand
abbrev gets : ℕ → Wish → Bool
gets class wish = wish.moves && wish.class == class

abbrev is_moving : ℕ → AfterFlight → Bool
is_moving class (Moving to) = to == class
is_moving class later = false

abbrev before_turn : ℕ → TurnPoint → Bool
before_turn class (Filling wish count) = gets class wish
before_turn class (Looking wish) = gets class wish
before_turn class (Landing wish span) = gets class wish
before_turn class (Finding own tries fresh later) = is_moving class later
before_turn class (Offering span later) = is_moving class later
before_turn class (Widening resize) = resize.class == class
before_turn class (Narrowing resize) = resize.class == class
before_turn class point = false

abbrev before_ask : ℕ → AskPoint → Bool
before_ask class (Skipping wish span b skip) = gets class wish
before_ask class (Trimming wish span b) = gets class wish
before_ask class (Growing wish chunks) = gets class wish
before_ask class (SplittingGrown wish span b) = gets class wish
before_ask class (GrowingExactly wish) = gets class wish
before_ask class (SplittingExact wish span b) = gets class wish
before_ask class (Committing wish span) = gets class wish
before_ask class (Merging low high own_low fresh later) = is_moving class later
before_ask class (PurgingLazily span later) = is_moving class later
before_ask class (Returning span later) = is_moving class later
before_ask class (Decommitting span later) = is_moving class later
before_ask class (Forcing span later) = is_moving class later
before_ask class (Cutting resize) = resize.class == class
before_ask class (Extending resize) = resize.class == class
before_ask class (Sparing resize span b) = resize.class == class
before_ask class (Backing resize span) = resize.class == class
before_ask class (Joining resize span) = resize.class == class

-- nothing is gained by an answer
abbrev is_refusal : Answered → Bool
is_refusal (Refused asked) = true
is_refusal (BadAnswer span why) = true
is_refusal NoMemory = true
is_refusal answer = false

abbrev is_before : ℕ → Next → Bool
is_before class (Go (Turns point)) = before_turn class point
is_before class (Go (Asks point heard)) = before_ask class point
is_before class (Move to) = to == class
is_before class NotLive = true
is_before class (Ends answer) = is_refusal answer
is_before class Nowhere = true
is_before class next = false

abbrev gives_back : AfterFlight → Bool
gives_back Batches = true
gives_back later = false

abbrev behind_turn : TurnPoint → Bool
behind_turn (Giving addrs) = true
behind_turn (Finding own tries fresh later) = gives_back later
behind_turn (Offering span later) = gives_back later
behind_turn point = false

abbrev behind_ask : AskPoint → Bool
behind_ask (Merging low high own_low fresh later) = gives_back later
behind_ask (PurgingLazily span later) = gives_back later
behind_ask (Returning span later) = gives_back later
behind_ask (Decommitting span later) = gives_back later
behind_ask (Forcing span later) = gives_back later
behind_ask point = false

abbrev is_no_memory : Answered → Bool
is_no_memory NoMemory = true
is_no_memory answer = false

abbrev is_behind : Next → Bool
is_behind (Go (Turns point)) = behind_turn point
is_behind (Go (Asks point heard)) = behind_ask point
is_behind NextBatch = true
is_behind (Ends answer) = is_no_memory answer
is_behind Nowhere = true
is_behind next = false

-- where memory may be wanting: while a batch goes back, or is told to be wanting
abbrev may_lack : Next → Bool
may_lack (Go (Turns (Giving addrs))) = true
may_lack (Ends answer) = true
may_lack next = false

-- a region is gained here
abbrev lands : Point → Item → Bool
lands (Turns (Filling wish count)) (Replied (Regions (addr ∷ others))) = true
lands (Turns (Landing wish span)) (Replied (Landed first count)) = true
lands (Asks (Cutting resize) (Some asked)) (Replied (Cut high)) = true
lands (Asks (Joining resize span) (Some asked)) (Replied (Landed first count)) = true
lands point item = false

before_leads : (class : ℕ) (point : Point) (item : Item) → is_before class (Go point) ≡ true → lands point item ≡ false → is_before class (step point item) ≡ true
before_leads class point item before none = grind (arith, nat_tests)

before_same : (class arena : ℕ) (desk : DeskFacts) (point : Point) (item : Item) → is_before class (Go point) ≡ true → lands point item ≡ false → desk_fed desk arena (Go point) item ≡ desk
before_same class arena desk point item before none = grind (arith, nat_tests)

behind_leads : (point : Point) (item : Item) → is_behind (Go point) ≡ true → is_behind (step point item) ≡ true
behind_leads point item behind = grind (arith, nat_tests)

lack_leads : (point : Point) (item : Item) → is_behind (Go point) ≡ true → may_lack (Go point) ≡ false → may_lack (step point item) ≡ false
lack_leads point item behind none = grind (arith, nat_tests)

-- ---- what the client has

caching_held : (region : Held) (desk : DeskFacts) → (caching region desk).held ≡ desk.held
caching_held region desk = grind (arith, nat_tests)

caching_hand : (region : Held) (desk : DeskFacts) → (caching region desk).hand ≡ desk.hand
caching_hand region desk = grind (arith, nat_tests)

caching_swapped : (region : Held) (desk : DeskFacts) → (caching region desk).swapped ≡ desk.swapped
caching_swapped region desk = grind (arith, nat_tests)

caching_gained : (region : Held) (desk : DeskFacts) → (caching region desk).gained ≡ desk.gained
caching_gained region desk = grind (arith, nat_tests)

-- What is so of a client once a region of the class was gained: what it held it holds, and the one to be resized is in hand and
-- waits to go back, or isn't any more.
record Gained (class : ℕ) (old : Held) (desk new : DeskFacts) : Type 0 where
  region : Held
  waits : Bool
  gained : new.gained ≡ Some region
  sized : region.class ≡ class
  held : new.held ≡ desk.held
  swapped : new.swapped ≡ desk.swapped
  hand : new.hand ≡ cond waits (Some old) None

-- a freed region has a slot of the cache at once
abbrev slotted : Held → DeskFacts → Bool
slotted old desk = is_cacheable old.class desk && has_slot old.class desk

freeing_hand : (old : Held) (desk : DeskFacts) → desk.hand ≡ None → (freeing old desk).hand ≡ cond (not (slotted old desk)) (Some old) None
freeing_hand old desk none = by (slotted old desk)
  where
    by : (v : Bool) → (cond v (caching old desk) (record desk { hand = Some old })).hand ≡ cond (not v) (Some old) None
    by true = caching_hand old desk ∙ none
    by false = refl

freeing_held : (old : Held) (desk : DeskFacts) → (freeing old desk).held ≡ desk.held
freeing_held old desk = grind (arith, nat_tests, caching_held)

freeing_swapped : (old : Held) (desk : DeskFacts) → (freeing old desk).swapped ≡ desk.swapped
freeing_swapped old desk = grind (arith, nat_tests, caching_swapped)

freeing_gained : (old : Held) (desk : DeskFacts) → (freeing old desk).gained ≡ desk.gained
freeing_gained old desk = grind (arith, nat_tests, caching_gained)

gaining_is : (class : ℕ) (old region : Held) (desk : DeskFacts) → desk.hand ≡ Some old → region.class ≡ class → Gained class old desk (gaining region desk)
gaining_is class old region desk hand sized =
    let mid : DeskFacts = record desk { hand = None; gained = Some region } in
    let is : gaining region desk ≡ freeing old mid = ap (λ (h : Option Held). freed_with h (record desk { gained = Some region })) hand in
    subst (Gained class old desk) (sym is) (record {
      region = region;
      waits = not (slotted old mid);
      gained = freeing_gained old mid;
      sized = sized;
      held = freeing_held old mid;
      swapped = freeing_swapped old mid;
      hand = freeing_hand old mid refl;
    })

reclassing_is : (class : ℕ) (old : Held) (desk : DeskFacts) → desk.hand ≡ Some old → Gained class old desk (reclassing class desk)
reclassing_is class old desk hand =
    let is : reclassing class desk ≡ record desk { hand = None; gained = Some (record old { class = class }) } = ap (λ (h : Option Held). reclassing_with h class desk) hand in
    subst (Gained class old desk) (sym is) (record { region = record old { class = class }; waits = false; gained = refl; sized = refl; held = refl; swapped = refl; hand = refl })

-- the regions that came beside the one that is gained change neither what is held nor what is in hand
record Same (desk new : DeskFacts) : Type 0 where
  held : new.held ≡ desk.held
  hand : new.hand ≡ desk.hand
  gained : new.gained ≡ desk.gained
  swapped : new.swapped ≡ desk.swapped

sharing_same : (arena class : ℕ) (addrs : List ℕ) (desk : DeskFacts) → Same desk (sharing arena class addrs desk)
sharing_same arena class [] desk = record { held = refl; hand = refl; gained = refl; swapped = refl }
sharing_same arena class (addr ∷ addrs) desk =
    let later = sharing_same arena class addrs desk in
    let at = sharing arena class addrs desk in
    let region = held_region arena class addr in
    record {
      held = caching_held region at ∙ later.held;
      hand = caching_hand region at ∙ later.hand;
      gained = caching_gained region at ∙ later.gained;
      swapped = caching_swapped region at ∙ later.swapped;
    }

through : (class : ℕ) (old : Held) (desk mid new : DeskFacts) → Same desk mid → Gained class old mid new → Gained class old desk new
through class old desk mid new same is = record {
  region = is.region;
  waits = is.waits;
  gained = is.gained;
  sized = is.sized;
  held = is.held ∙ same.held;
  swapped = is.swapped ∙ same.swapped;
  hand = is.hand;
}

-- a region got is gained where that is wanted
takes_place : (class arena addr : ℕ) (others : List ℕ) (wish : Wish) (old : Held) (desk : DeskFacts) → gets class wish ≡ true → desk.hand ≡ Some old →
    Gained class old desk (gaining (held_region arena wish.class addr) (sharing arena wish.class others desk))
takes_place class arena addr others wish old desk wanted hand =
    let mid = sharing arena wish.class others desk in
    let same = sharing_same arena wish.class others desk in
    through class old desk mid _ same
    (gaining_is class old (held_region arena wish.class addr) mid (same.hand ∙ hand) (eqb-true wish.class class (and_parts wish.moves (wish.class == class) wanted).1))

lands_gain : (class arena : ℕ) (old : Held) (desk : DeskFacts) (point : Point) (item : Item) → is_before class (Go point) ≡ true → lands point item ≡ true → desk.hand ≡ Some old →
    Gained class old desk (desk_fed desk arena (Go point) item)
lands_gain class arena old desk (Turns (Filling wish count)) (Replied (Regions (addr ∷ others))) before does hand =
    let moves = (and_parts wish.moves (wish.class == class) before).0 in
    subst (λ v. Gained class old desk (cond v (gaining (held_region arena wish.class addr) (sharing arena wish.class others desk)) (sharing arena wish.class others desk))) (sym moves)
    (takes_place class arena addr others wish old desk before hand)
lands_gain class arena old desk (Turns (Landing wish span)) (Replied (Landed first count)) before does hand =
    let moves = (and_parts wish.moves (wish.class == class) before).0 in
    subst (λ v. Gained class old desk (cond v (gaining (held_region arena wish.class first) (sharing arena wish.class (landed_behind first wish.class count) desk)) (sharing arena wish.class (landed_behind first wish.class count) desk))) (sym moves)
    (takes_place class arena first (landed_behind first wish.class count) wish old desk before hand)
lands_gain class arena old desk (Asks (Cutting resize) (Some asked)) (Replied (Cut high)) before does hand =
    subst (λ to. Gained class old desk (reclassing to desk)) (sym (eqb-true resize.class class before)) (reclassing_is class old desk hand)
lands_gain class arena old desk (Asks (Joining resize span) (Some asked)) (Replied (Landed first count)) before does hand =
    subst (λ to. Gained class old desk (reclassing to desk)) (sym (eqb-true resize.class class before)) (reclassing_is class old desk hand)
lands_gain class arena old desk point item before does hand = absurd (cc)

lands_leads : (class : ℕ) (point : Point) (item : Item) → is_before class (Go point) ≡ true → lands point item ≡ true → is_behind (step point item) ≡ true
lands_leads class point item before does = grind (arith, nat_tests)

lands_lacks : (class : ℕ) (point : Point) (item : Item) → is_before class (Go point) ≡ true → lands point item ≡ true → may_lack (step point item) ≡ false
lands_lacks class point item before does = grind (arith, nat_tests)

-- ---- a realloc of a region

-- till a region is gained
record Before (addr class : ℕ) (old : Held) (had desk : DeskFacts) (next : Next) : Type 0 where
  hand : desk.hand ≡ Some old
  gained : desk.gained ≡ None
  held : desk.held ≡ (not_holding addr had).held
  cached : desk.cached ≡ had.cached
  swapped : desk.swapped ≡ None
  there : is_before class next ≡ true

-- from then on
record Behind (addr class : ℕ) (old : Held) (had desk : DeskFacts) (next : Next) : Type 0 where
  region : Held
  waits : Bool
  gained : desk.gained ≡ Some region
  sized : region.class ≡ class
  held : desk.held ≡ (not_holding addr had).held
  swapped : desk.swapped ≡ None
  hand : desk.hand ≡ cond waits (Some old) None
  lacks : may_lack next ≡ true → waits ≡ true
  there : is_behind next ≡ true

behind_from : (addr class : ℕ) (old : Held) (had desk new : DeskFacts) (other : Next) → desk.held ≡ (not_holding addr had).held → desk.swapped ≡ None → Gained class old desk new →
    is_behind other ≡ true → may_lack other ≡ false → Behind addr class old had new other
behind_from addr class old had desk new other held swapped is there none = record {
  region = is.region;
  waits = is.waits;
  gained = is.gained;
  sized = is.sized;
  held = is.held ∙ held;
  swapped = is.swapped ∙ swapped;
  hand = is.hand;
  lacks = λ lack. absurd (cc);
  there = there;
}

-- a batch that went back leaves the region gained, and what is held
gave_hand : (arena : ℕ) (old : Held) (desk : DeskFacts) (waits : Bool) → desk.hand ≡ cond waits (Some old) None → (gave arena desk).hand ≡ cond (waits && is_cacheable old.class desk) (Some old) None
gave_hand arena old desk true hand = grind (arith, nat_tests)
gave_hand arena old desk false hand = grind (arith, nat_tests)

gave_held : (arena : ℕ) (desk : DeskFacts) → (gave arena desk).held ≡ desk.held
gave_held arena desk = grind (arith, nat_tests)

gave_gained : (arena : ℕ) (desk : DeskFacts) → (gave arena desk).gained ≡ desk.gained
gave_gained arena desk = grind (arith, nat_tests)

gave_swapped : (arena : ℕ) (desk : DeskFacts) → (gave arena desk).swapped ≡ desk.swapped
gave_swapped arena desk = grind (arith, nat_tests)

gave_behind : (addr class arena : ℕ) (old : Held) (had desk : DeskFacts) (next other : Next) → Behind addr class old had desk next → is_behind other ≡ true → may_lack other ≡ false →
    Behind addr class old had (gave arena desk) other
gave_behind addr class arena old had desk next other behind there none = record {
  region = behind.region;
  waits = behind.waits && is_cacheable old.class desk;
  gained = gave_gained arena desk ∙ behind.gained;
  sized = behind.sized;
  held = gave_held arena desk ∙ behind.held;
  swapped = gave_swapped arena desk ∙ behind.swapped;
  hand = gave_hand arena old desk behind.waits behind.hand;
  lacks = λ lack. absurd (cc);
  there = there;
}

behind_at : (addr class : ℕ) (old : Held) (had desk : DeskFacts) (next other : Next) → (behind : Behind addr class old had desk next) → is_behind other ≡ true → (may_lack other ≡ true → behind.waits ≡ true) → Behind addr class old had desk other
behind_at addr class old had desk next other behind there lacks = record {
  region = behind.region;
  waits = behind.waits;
  gained = behind.gained;
  sized = behind.sized;
  held = behind.held;
  swapped = behind.swapped;
  hand = behind.hand;
  lacks = lacks;
  there = there;
}

before_at : (addr class : ℕ) (old : Held) (had desk : DeskFacts) (next other : Next) → Before addr class old had desk next → is_before class other ≡ true → Before addr class old had desk other
before_at addr class old had desk next other before there = record {
  hand = before.hand;
  gained = before.gained;
  held = before.held;
  cached = before.cached;
  swapped = before.swapped;
  there = there;
}

-- a class is itself
itself : (class : ℕ) → true && class == class ≡ true
itself class = grind (arith, nat_tests)

resized_before : (class : ℕ) (old : Held) → before_turn class (resize_at class old) ≡ true
resized_before class old = grind (arith, nat_tests)

behind_same : (arena : ℕ) (desk : DeskFacts) (point : Point) (item : Item) → is_behind (Go point) ≡ true → may_lack (Go point) ≡ false → desk_fed desk arena (Go point) item ≡ desk
behind_same arena desk point item behind none = grind (arith, nat_tests)

next_lacks : (later : Option Span) → may_lack (put_next Batches later) ≡ false
next_lacks None = refl
next_lacks (Some span) = refl

next_behind : (later : Option Span) → is_behind (put_next Batches later) ≡ true
next_behind None = refl
next_behind (Some span) = refl

-- what an item leaves of a client that has gained a region
given_behind : (addr class arena : ℕ) (old : Held) (had desk : DeskFacts) (point : Point) (item : Item) → may_lack (Go point) ≡ true → Behind addr class old had desk (Go point) →
    Behind addr class old had (desk_fed desk arena (Go point) item) (step point item)
given_behind addr class arena old had desk (Turns (Giving addrs)) (Replied (NextFlight next)) lack behind =
    gave_behind addr class arena old had desk (Go (Turns (Giving addrs))) (put_next Batches next) behind (next_behind next) (next_lacks next)
given_behind addr class arena old had desk (Turns (Giving addrs)) item lack behind =
    behind_at addr class old had desk (Go (Turns (Giving addrs))) (step (Turns (Giving addrs)) item) behind (behind_leads (Turns (Giving addrs)) item refl) (λ _. behind.lacks refl)
given_behind addr class arena old had desk point item lack behind = absurd (cc)

fed_behind : (addr class arena : ℕ) (old : Held) (had desk : DeskFacts) (point : Point) (item : Item) → Behind addr class old had desk (Go point) → Behind addr class old had (desk_fed desk arena (Go point) item) (step point item)
fed_behind addr class arena old had desk point item behind = by (may_lack (Go point)) refl
  where
    by : (v : Bool) → may_lack (Go point) ≡ v → Behind addr class old had (desk_fed desk arena (Go point) item) (step point item)
    by true lack = given_behind addr class arena old had desk point item lack behind
    by false none =
        subst (λ (d : DeskFacts). Behind addr class old had d (step point item)) (sym (behind_same arena desk point item behind.there none))
        (behind_at addr class old had desk (Go point) (step point item) behind (behind_leads point item behind.there) (λ lack. absurd (let stays = lack_leads point item behind.there none in cc)))

-- ---- its end

-- who held the same holds the same beside a further region
same_holding : (region : Held) (one other : DeskFacts) → one.held ≡ other.held → (holding region one).held ≡ (holding region other).held
same_holding region one other same = ap (λ (h : List (ℕ × Held)). (holding region (record other { held = h })).held) same

-- a client with which nothing of a call is has what it had
rests_same : (done : Bool) (had : DeskFacts) → Rests had → swapped_back done (gain_held (held_again had)) ≡ had
rests_same done had rests =
    ap (λ (h : Option Held). swapped_back done (gain_held (held_again_with h had))) rests.hand
    ∙ ap (λ (g : Option Held). swapped_back done (gain_held_with g had)) rests.gained
    ∙ ap (λ (s : Option Swapped). swapped_back_of s done had) rests.swapped

remains : (addr class : ℕ) (old : Held) (had desk : DeskFacts) (next : Next) (done : Bool) → Before addr class old had desk next → Remains addr old had (swapped_back done (gain_held (held_again desk)))
remains addr class old had desk next done before =
    let new : DeskFacts = empty_handed (holding old desk) in
    let is : swapped_back done (gain_held (held_again desk)) ≡ new =
    ap (λ (h : Option Held). swapped_back done (gain_held (held_again_with h desk))) before.hand
    ∙ ap (λ (g : Option Held). swapped_back done (gain_held_with g new)) before.gained
    ∙ ap (λ (s : Option Swapped). swapped_back_of s done new) before.swapped in
    subst (Remains addr old had) (sym is) (record { holds = same_holding old desk (not_holding addr had) before.held; cached = before.cached })

both : (addr class : ℕ) (old : Held) (had desk : DeskFacts) (next : Next) (done : Bool) → (behind : Behind addr class old had desk next) → behind.waits ≡ true → HoldsBoth addr class old had (swapped_back done (gain_held (held_again desk)))
both addr class old had desk next done behind waits =
    let mid : DeskFacts = empty_handed (holding old desk) in
    let new : DeskFacts = record (holding behind.region mid) { gained = None } in
    let is : swapped_back done (gain_held (held_again desk)) ≡ new =
    ap (λ (h : Option Held). swapped_back done (gain_held (held_again_with h desk))) (behind.hand ∙ ap (λ v. cond v (Some old) None) waits)
    ∙ ap (λ (g : Option Held). swapped_back done (gain_held_with g mid)) behind.gained
    ∙ ap (λ (s : Option Swapped). swapped_back_of s done new) behind.swapped in
    subst (HoldsBoth addr class old had) (sym is) (record {
      region = behind.region;
      sized = behind.sized;
      holds = same_holding behind.region mid (holding old (not_holding addr had)) (same_holding old desk (not_holding addr had) behind.held);
    })

-- the one to be resized is cached, if it is in hand still
kept_same : (old : Held) (desk : DeskFacts) (waits : Bool) → desk.hand ≡ cond waits (Some old) None → ((kept desk).held ≡ desk.held) × ((kept desk).gained ≡ desk.gained) × ((kept desk).swapped ≡ desk.swapped)
kept_same old desk true hand =
    let is : kept desk ≡ empty_handed (caching old desk) = ap (λ (h : Option Held). kept_with h desk) hand in
    (ap (λ (d : DeskFacts). d.held) is ∙ caching_held old desk, ap (λ (d : DeskFacts). d.gained) is ∙ caching_gained old desk, ap (λ (d : DeskFacts). d.swapped) is ∙ caching_swapped old desk)
kept_same old desk false hand =
    let is : kept desk ≡ desk = ap (λ (h : Option Held). kept_with h desk) hand in
    (ap (λ (d : DeskFacts). d.held) is, ap (λ (d : DeskFacts). d.gained) is, ap (λ (d : DeskFacts). d.swapped) is)

replaced : (addr class : ℕ) (old region : Held) (had desk : DeskFacts) (next : Next) (done : Bool) → (behind : Behind addr class old had desk next) →
    Replaced addr class had behind.region.addr (swapped_back done (region_ended desk.gained region desk))
replaced addr class old region had desk next done behind =
    let same = kept_same old desk behind.waits behind.hand in
    let new : DeskFacts = record (holding behind.region (kept desk)) { gained = None } in
    let is : swapped_back done (region_ended desk.gained region desk) ≡ new =
    ap (λ (g : Option Held). swapped_back done (region_ended g region desk)) behind.gained
    ∙ ap (λ (g : Option Held). swapped_back done (gain_held_with g (kept desk))) (same.1 ∙ behind.gained)
    ∙ ap (λ (s : Option Swapped). swapped_back_of s done new) (same.2 ∙ behind.swapped) in
    subst (Replaced addr class had behind.region.addr) (sym is) (record {
      region = behind.region;
      there = refl;
      sized = behind.sized;
      holds = same_holding behind.region (kept desk) (not_holding addr had) (same.0 ∙ behind.held);
    })

-- ---- all of it

module _ (addr size : ℕ) (had : DeskFacts) where
  -- where a call stands that resizes the region told, if one is
  abbrev Stands : Option Held → DeskFacts → Next → Type 0
  Stands o desk (Ends answer) = AfterReallocOf addr size o had answer desk
  Stands None desk next = ⊥
  Stands (Some old) desk next = Before addr (class_for size) old had desk next ⊎ Behind addr (class_for size) old had desk next

  abbrev ClosedAt : Held → DeskFacts → Stage → Type 0
  ClosedAt old desk at = Stands (Some old) (desk_closed (Realloc addr size) at.arena at.next desk) at.next

  -- nothing more goes back, or a batch does
  goes : (old : Held) (desk : DeskFacts) (arena : ℕ) (next : Next) (batch : Option BatchFacts) → (behind : Behind addr (class_for size) old had desk next) → (is_some batch ≡ true → behind.waits ≡ true) →
      ClosedAt old desk (batch_goes arena desk.gained batch)
  goes old desk arena next None behind waits =
      let at : all_done arena desk.gained ≡ stage behind.region.arena (Ends (Ok (Region behind.region.addr behind.region.class))) = ap (all_done arena) behind.gained in
      subst (ClosedAt old desk) (sym at) (behind.sized, replaced addr (class_for size) old (held_region behind.region.arena behind.region.class behind.region.addr) had desk next false behind)
  goes old desk arena next (Some batch) behind waits = inr (behind_at addr (class_for size) old had desk next (Go (Turns (Giving batch.addrs))) behind refl (λ _. waits refl))

  no_batch : (old : Held) (desk : DeskFacts) (waits : Bool) → desk.hand ≡ cond waits (Some old) None → is_some (batch_of (going false desk)) ≡ true → waits ≡ true
  no_batch old desk true hand some = refl
  no_batch old desk false hand some = absurd (let none : going false desk ≡ [] = ap (λ (h : Option Held). going_with h false desk) hand in grind (arith, nat_tests))

  all_go : (old : Held) (desk : DeskFacts) (arena : ℕ) (next : Next) → Behind addr (class_for size) old had desk next → ClosedAt old desk (all_goes (Realloc addr size) desk arena)
  all_go old desk arena next behind = goes old desk arena next (batch_of (going false desk)) behind (no_batch old desk behind.waits behind.hand)

  -- a cached region takes the place, or one is got
  moves_on : (old : Held) (desk : DeskFacts) (arena : ℕ) (next : Next) (found : Option Held) → Before addr (class_for size) old had desk next →
      ClosedAt old (desk_moved (class_for size) found desk) (move_stage (Realloc addr size) arena (class_for size) found desk)
  moves_on old desk arena next None before = by (nat_lt (class_for size) 36)
    where
      count : ℕ
      count = share (class_for size) desk

      wish : Wish
      wish = wish_for true (class_for size) 1 (min count (most_regions (class_for size)))

      by : (v : Bool) → ClosedAt old desk (stage desk.arena (cond v (Go (Turns (Filling wish count))) (Go (Turns (Looking wish)))))
      by true = inl (before_at addr (class_for size) old had desk next (Go (Turns (Filling wish count))) before (itself (class_for size)))
      by false = inl (before_at addr (class_for size) old had desk next (Go (Turns (Looking wish))) before (itself (class_for size)))
  moves_on old desk arena next (Some found) before =
      let mid : DeskFacts = hitting (class_for size) desk in
      let is = gaining_is (class_for size) old (record found { class = class_for size }) mid before.hand refl in
      all_go old (gaining (record found { class = class_for size }) mid) arena NextBatch (behind_from addr (class_for size) old had mid (gaining (record found { class = class_for size }) mid) NextBatch before.held before.swapped is refl refl)

  -- where it goes
  before_settles : (old : Held) (desk : DeskFacts) (arena : ℕ) (next : Next) → Before addr (class_for size) old had desk next →
      ClosedAt old (desk_led desk next) (settle (Realloc addr size) desk arena next)
  before_settles old desk arena (Go point) before = inl before
  before_settles old desk arena (InArena index point) before = absurd (let there = before.there in cc)
  before_settles old desk arena NextBatch before = absurd (let there = before.there in cc)
  before_settles old desk arena (Move to) before =
      subst (λ n. ClosedAt old (desk_moved n (hit n desk) desk) (move_stage (Realloc addr size) arena n (hit n desk) desk)) (sym (eqb-true to (class_for size) before.there))
      (moves_on old desk arena (Move to) (hit (class_for size) desk) before)
  before_settles old desk arena NotLive before = remains addr (class_for size) old had desk NotLive false before
  before_settles old desk arena (Ends (Refused asked)) before = remains addr (class_for size) old had desk (Ends (Refused asked)) false before
  before_settles old desk arena (Ends (BadAnswer span why)) before = remains addr (class_for size) old had desk (Ends (BadAnswer span why)) false before
  before_settles old desk arena (Ends NoMemory) before = inl (remains addr (class_for size) old had desk (Ends NoMemory) false before)
  before_settles old desk arena (Ends answer) before = absurd (let there = before.there in cc)
  before_settles old desk arena Nowhere before = inl before

  behind_settles : (old : Held) (desk : DeskFacts) (arena : ℕ) (next : Next) → Behind addr (class_for size) old had desk next →
      ClosedAt old (desk_led desk next) (settle (Realloc addr size) desk arena next)
  behind_settles old desk arena (Go point) behind = inr behind
  behind_settles old desk arena (InArena index point) behind = absurd (let there = behind.there in cc)
  behind_settles old desk arena NextBatch behind = all_go old desk arena NextBatch behind
  behind_settles old desk arena (Move to) behind = absurd (let there = behind.there in cc)
  behind_settles old desk arena NotLive behind = absurd (let there = behind.there in cc)
  behind_settles old desk arena (Ends NoMemory) behind = inr (both addr (class_for size) old had desk (Ends NoMemory) false behind (behind.lacks refl))
  behind_settles old desk arena (Ends answer) behind = absurd (let there = behind.there in cc)
  behind_settles old desk arena Nowhere behind = inr behind

  -- one item more
  goes_on : (old : Held) (desk : DeskFacts) (arena : ℕ) (point : Point) (item : Item) → Before addr (class_for size) old had desk (Go point) ⊎ Behind addr (class_for size) old had desk (Go point) →
      ClosedAt old (desk_led (desk_fed desk arena (Go point) item) (step point item)) (settle (Realloc addr size) (desk_fed desk arena (Go point) item) arena (step point item))
  goes_on old desk arena point item (inl before) = by (lands point item) refl
    where
      new : DeskFacts
      new = desk_fed desk arena (Go point) item

      by : (v : Bool) → lands point item ≡ v → ClosedAt old (desk_led new (step point item)) (settle (Realloc addr size) new arena (step point item))
      by true does =
          behind_settles old new arena (step point item)
          (behind_from addr (class_for size) old had desk new (step point item) before.held before.swapped (lands_gain (class_for size) arena old desk point item before.there does before.hand)
          (lands_leads (class_for size) point item before.there does) (lands_lacks (class_for size) point item before.there does))
      by false none =
          before_settles old new arena (step point item)
          (subst (λ (d : DeskFacts). Before addr (class_for size) old had d (step point item)) (sym (before_same (class_for size) arena desk point item before.there none))
          (before_at addr (class_for size) old had desk (Go point) (step point item) before (before_leads (class_for size) point item before.there none)))
  goes_on old desk arena point item (inr behind) =
      behind_settles old (desk_fed desk arena (Go point) item) arena (step point item) (fed_behind addr (class_for size) arena old had desk point item behind)

  abbrev StandsAt : Option Held → Moment → Type 0
  StandsAt o at = (at.request ≡ Realloc addr size) × Stands o at.desk at.stage.next

  -- what it did leads there
  led_stands : (c : ℕ) (o : Option Held) (at : Moment) (last : Option (ℕ × ℕ)) (dids : List Did) (new : Moment) → StandsAt o at → Led c at last dids new → StandsAt o new
  led_stands c o at last [] new stands led = subst (StandsAt o) (sym led) stands
  led_stands c o at last (did ∷ dids) new stands led = led_stands c o (after at (item_of did)) (told_by last did) dids new (follows o at.stage.next refl stands.1 led.0.wanted) led.1
    where
      follows : (o : Option Held) (next : Next) → at.stage.next ≡ next → Stands o at.desk at.stage.next → IsWantedAt c at.stage.arena at.stage.next did → StandsAt o (after at (item_of did))
      follows None (Go point) is there wanted = absurd (subst (Stands None at.desk) is there)
      follows (Some old) (Go point) is there wanted = (
        stands.0,
        subst (λ r. Stands (Some old) (moved r (desk_fed at.desk at.stage.arena at.stage.next (item_of did)) at.stage.arena (step_next at.stage.next (item_of did))).desk
            (moved r (desk_fed at.desk at.stage.arena at.stage.next (item_of did)) at.stage.arena (step_next at.stage.next (item_of did))).stage.next) (sym stands.0)
            (subst (λ n. ClosedAt old (desk_led (desk_fed at.desk at.stage.arena n (item_of did)) (step_next n (item_of did))) (settle (Realloc addr size) (desk_fed at.desk at.stage.arena n (item_of did)) at.stage.arena (step_next n (item_of did)))) (sym is)
            (goes_on old at.desk at.stage.arena point (item_of did) (subst (Stands (Some old) at.desk) is there))),
      )
      follows o next is there wanted = absurd (subst (λ n. IsWantedAt c at.stage.arena n did) is wanted)

  -- where it begins
  begin_old : (old : Held) → Rests had → ClosedAt old (desk_realloced addr size (Some old) had) (begin_realloc addr size (Some old) had)
  unfolding behind_from reclassing_is
  begin_old old rests = by (nat_lt (2 ^ 35) size) refl
    where
      class : ℕ
      class = class_for size

      desk : DeskFacts
      desk = resizing addr old had

      before : (next : Next) → is_before class next ≡ true → Before addr class old had desk next
      before next there = record { hand = refl; gained = refl; held = refl; cached = refl; swapped = rests.swapped; there = there }

      moved_or : (v : Bool) → ClosedAt old (cond v desk (desk_moved class (hit class desk) desk)) (cond v (stage old.arena (Go (Turns (resize_at class old)))) (move_stage (Realloc addr size) old.arena class (hit class desk) desk))
      moved_or true = inl (before (Go (Turns (resize_at class old))) (resized_before class old))
      moved_or false = moves_on old desk old.arena Nowhere (hit class desk) (before Nowhere refl)

      same_or : (v : Bool) → class == old.class ≡ v → ClosedAt old (cond v (reclassing class desk) (cond (are_large class old.class) desk (desk_moved class (hit class desk) desk)))
          (cond v (all_done old.arena (Some old)) (cond (are_large class old.class) (stage old.arena (Go (Turns (resize_at class old)))) (move_stage (Realloc addr size) old.arena class (hit class desk) desk)))
      same_or true is = (
        sym (eqb-true class old.class is),
        replaced addr class old (held_region old.arena old.class old.addr) had (reclassing class desk) NextBatch false
            (behind_from addr class old had desk (reclassing class desk) NextBatch refl rests.swapped (reclassing_is class old desk refl) refl refl),
      )
      same_or false differ = moved_or (are_large class old.class)

      by : (v : Bool) → nat_lt (2 ^ 35) size ≡ v → ClosedAt old (cond v had (desk_resized class old desk)) (cond v (stage had.arena (Ends TooLarge)) (begin_resize (Realloc addr size) class old desk))
      by true large = (ltb-true (2 ^ 35) size large, rests_same false had rests)
      by false fits = same_or (class == old.class) refl

  begin_stands : (o : Option Held) → Rests had → Stands o (desk_closed (Realloc addr size) (begin_realloc addr size o had).arena (begin_realloc addr size o had).next (desk_realloced addr size o had)) (begin_realloc addr size o had).next
  begin_stands None rests = (refl, rests_same false had rests)
  begin_stands (Some old) rests = begin_old old rests

pub reallocs-leave : ReallocsLeave
reallocs-leave c had addr size dids answer has rests call =
    let o = held_at addr had in
    let last = led_stands addr size had c o (begin (Realloc addr size) had) None dids call.last (refl, begin_stands addr size had o rests) call.led in
    subst (AfterReallocOf addr size o had answer) call.leaves (subst (Stands addr size had o call.last.desk) call.ends last.1)
