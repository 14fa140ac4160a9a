-- What an operation came to, by its reply: what its client has in flight, holds or has offered then.
use Rattle.std.specs.Prelude.{◌≡◌, ℕ, ◌+◌, ◌*◌, ◌-◌, ◌<◌, ◌≤◌, min, Bool, true, false, not, List, [], ◌∷◌, All, Option, None, Some, find, count_by}
use Rattle.std.specs.List.{list_any, range_with_len}
use Rattle.size_classes.specs.Classes.{size_at}
use Rattle.space_model.specs.Types.{Alloc, Commit, Split, Merge, Dalloc, Decommit, PurgeLazy, PurgeForced, Heard, Op, Look, CutDone, GrowDone, CommitDone, Land, Back, PutLook, MergeDone, Fill, Advance, PurgeTake, LazyDone, Offer, OfferDone, DecommitDone, ForcedDone, Publish, TakeOver, Reset, Destroy, DestroyTake, Counts, Set, Widen, JoinDone, Trim, TrimDone, Reply, NoArena, Noted, Nothing, Took, Grow, Cut, Whole, Refused, Bad, Grown, Landed, Regions, Next, Beside, Purge, Joined, Limits, Taken, Lazy, Kept, Abandoned, Decommitted, Doomed, Owned, Busy, Counted, Setting, Why, Part, Rest, Span, Absent, Dying, Space}
use Rattle.space_model.specs.Span.{end_of}
use Rattle.space_model.specs.Part.{exchanged, begins_at, is_flight, is_flight_at, put_down}
use Rattle.space_model.specs.Region.{address_of}
use Rattle.space_model.specs.Stepped.{is_live, is_dirty_time_over, is_lazy}
use Rattle.space_model.specs.Step.{holds_at, may_merge}
use Rattle.space_model.specs.Purging.{is_offer}
use Rattle.space_model.specs.Clients.{is_in, without_client}
use Rattle.space_model.specs.Counts.{counts_of}

-- The client has an extent with this span in flight, committed or not.
pub record Flying (c : ℕ) (s : Space) (span : Span) (is_committed : Bool) : Type 0 where
  pub part : Part
  pub found : find (is_flight_at c span) s.parts ≡ Some part
  pub committed : part.committed ≡ is_committed

-- The client has two extents in flight that may be merged: side by side, for the same list, and committed alike.
pub record Pair (c : ℕ) (s : Space) (low high : Span) : Type 0 where
  pub low_part : Part
  pub high_part : Part
  pub low_found : find (is_flight_at c low) s.parts ≡ Some low_part
  pub high_found : find (is_flight_at c high) s.parts ≡ Some high_part
  pub alike : may_merge low_part high_part ≡ true
  pub side_by_side : end_of low ≡ high.first

-- The client's extent in flight with this span was put down whole, as it was committed, and nothing else changed.
pub record PutDown (c : ℕ) (s t : Space) (span : Span) : Type 0 where
  pub part : Part
  pub found : find (is_flight_at c span) s.parts ≡ Some part
  pub after : t ≡ record s { parts = exchanged (begins_at part.span.first) s.parts (put_down part ∷ []) }

-- the next extent that the client has in flight, if it has one
abbrev pub NextFlies : ℕ → Space → Option Span → Type 0
NextFlies c s None = count_by (λ p. is_flight c p.state) s.parts ≡ 0
NextFlies c s (Some span) = (is_committed : Bool) × Flying c s span is_committed

-- the span that stays in flight after a cut
abbrev pub kept_span : Bool → ℕ → Span → Span
kept_span true left s = record { first = s.first; pages = left }
kept_span false left s = record { first = s.first + left; pages = s.pages - left }

-- Each way in which an operation of a client may go, from one space to another, with its reply.
pub data Outcome (c : ℕ) (s t : Space) : Op → Reply → Type 0 where
  -- a look takes an extent that holds the run, or finds none
  LookTook : {pages align : ℕ} (span : Span) (is_committed : Bool) (skip : ℕ) → Flying c t span is_committed → skip + pages ≤ span.pages →
      Outcome c s t (Look pages align) (Took span is_committed skip)
  LookNone : {pages align : ℕ} → t ≡ s → Outcome c s t (Look pages align) (Grow (min s.grow s.grow_limit))
  LookNoArena : {pages align : ℕ} → is_live s.life ≡ false → t ≡ s → Outcome c s t (Look pages align) NoArena
  -- a piece of a split stays in flight, or all was put down
  CutKept : {heard : Heard} {keep_low : Bool} (span kept : Span) (left : ℕ) (is_committed : Bool) → heard.ask ≡ Split span left →
      Flying c s span is_committed → kept ≡ kept_span keep_low left span → Flying c t kept is_committed → Outcome c s t (CutDone heard keep_low) (Cut kept)
  CutWhole : {heard : Heard} {keep_low : Bool} (span : Span) (left : ℕ) → heard.ask ≡ Split span left → PutDown c s t span → Outcome c s t (CutDone heard keep_low) Whole
  -- an alloc was refused, can't be taken, or is in flight
  GrowRefused : {heard : Heard} {found : Option ℕ} → t ≡ s → Outcome c s t (GrowDone heard found) Refused
  GrowBad : {heard : Heard} {found : Option ℕ} (why : Why) → t ≡ s → Outcome c s t (GrowDone heard found) (Bad why)
  GrowGrown : {heard : Heard} {found : Option ℕ} (span : Span) (is_committed : Bool) (at : Option ℕ) (align : ℕ) (commit : Bool) →
      heard.ask ≡ Alloc commit at span.pages align → Flying c t span is_committed → Outcome c s t (GrowDone heard found) (Grown span is_committed)
  -- a commit is done, or the extent was put down
  CommitNoted : {heard : Heard} (span : Span) → heard.ask ≡ Commit span → Flying c t span true → Outcome c s t (CommitDone heard) Noted
  CommitWhole : {heard : Heard} (span : Span) → heard.ask ≡ Commit span → PutDown c s t span → Outcome c s t (CommitDone heard) Whole
  -- the client holds the regions that landed, from the extent's start on
  LandLanded : {span : Span} {class count : ℕ} (addr : ℕ) → addr ≡ address_of span.first →
      All (λ i. holds_at c t.regions (addr + i * size_at class) ≡ true) (range_with_len 0 count) → Outcome c s t (Land span class count) (Landed addr count)
  -- regions went back
  BackNext : {addrs : List ℕ} (next : Option Span) → NextFlies c t next → Outcome c s t (Back addrs) (Next next)
  -- a neighbour is in flight too, the extent is to be purged, or it was put down
  PutRight : {span : Span} {tries : ℕ} (other : Span) → tries ≡ 0 → Pair c t span other → Outcome c s t (PutLook span tries) (Beside other)
  PutLeft : {span : Span} {tries : ℕ} (other : Span) → tries < 2 → Pair c t other span → Outcome c s t (PutLook span tries) (Beside other)
  PutPurge : {span : Span} {tries : ℕ} → is_dirty_time_over s ≡ true → Flying c t span true → t ≡ s → Outcome c s t (PutLook span tries) (Purge (is_lazy s))
  PutNext : {span : Span} {tries : ℕ} (next : Option Span) → NextFlies c t next → Outcome c s t (PutLook span tries) (Next next)
  -- one extent is in flight after a merge, both or the one that looked
  MergeJoined : {heard : Heard} {own_low : Bool} (span : Span) (is_committed : Bool) → Flying c t span is_committed → Outcome c s t (MergeDone heard own_low) (Joined span)
  -- free regions of the class are held, or there is none
  FillRegions : {class count : ℕ} (addrs : List ℕ) → All (λ addr. holds_at c t.regions addr ≡ true) addrs → Outcome c s t (Fill class count) (Regions addrs)
  FillNothing : {class count : ℕ} → t ≡ s → Outcome c s t (Fill class count) Nothing
  FillNoArena : {class count : ℕ} → is_live s.life ≡ false → t ≡ s → Outcome c s t (Fill class count) NoArena
  -- both decays went on
  AdvanceLimits : {now : ℕ} (dirty muzzy : Option ℕ) → Outcome c s t (Advance now) (Limits dirty muzzy)
  AdvanceNoArena : {now : ℕ} → is_live s.life ≡ false → t ≡ s → Outcome c s t (Advance now) NoArena
  -- the oldest extent is to be purged, or no more pages are listed than may stay
  PurgeTaken : {rest : Rest} {keep : ℕ} (span : Span) (lazy : Bool) (count : ℕ) → Flying c t span true → Outcome c s t (PurgeTake rest keep) (Taken span lazy count)
  PurgeNothing : {rest : Rest} {keep : ℕ} → t ≡ s → Outcome c s t (PurgeTake rest keep) Nothing
  PurgeNoArena : {rest : Rest} {keep : ℕ} → is_live s.life ≡ false → t ≡ s → Outcome c s t (PurgeTake rest keep) NoArena
  -- the extent is in flight still, purged lazily or not
  LazyDid : {heard : Heard} (span : Span) (did : Bool) → heard.ask ≡ PurgeLazy span → Flying c t span true → (did ≡ false → t ≡ s) → Outcome c s t (LazyDone heard) (Lazy did)
  -- the extent is an offer of the client's
  OfferNoted : {span : Span} (is_committed : Bool) → list_any (is_offer c span is_committed) t.offers ≡ true → Outcome c s t (Offer span) Noted
  -- the hook took the offer, or it is given up, or in flight again
  OfferNext : {heard : Heard} {found : Option ℕ} (next : Option Span) → NextFlies c t next → Outcome c s t (OfferDone heard found) (Next next)
  OfferAbandoned : {heard : Heard} {found : Option ℕ} (next : Option Span) → NextFlies c t next → Outcome c s t (OfferDone heard found) (Abandoned next)
  OfferKept : {heard : Heard} {found : Option ℕ} (span : Span) (is_committed : Bool) → heard.ask ≡ Dalloc span is_committed → Flying c t span is_committed →
      Outcome c s t (OfferDone heard found) Kept
  -- the extent is in flight still, committed or not
  DecommitDid : {heard : Heard} (span : Span) (did : Bool) → heard.ask ≡ Decommit span → Flying c t span (not did) → (did ≡ false → t ≡ s) →
      Outcome c s t (DecommitDone heard) (Decommitted did)
  -- it is in flight still
  ForcedNoted : {heard : Heard} (span : Span) (is_committed : Bool) → heard.ask ≡ PurgeForced span → Flying c t span is_committed → t ≡ s → Outcome c s t (ForcedDone heard) Noted
  -- nobody holds the region
  PublishNoted : {addr : ℕ} → Outcome c s t (Publish addr) Noted
  -- the client holds a region that was published, or there was none
  TakeOwned : {addr : ℕ} (class : ℕ) → holds_at c t.regions addr ≡ true → Outcome c s t (TakeOver addr) (Owned class)
  TakeNothing : {addr : ℕ} → t ≡ s → Outcome c s t (TakeOver addr) Nothing
  TakeNoArena : {addr : ℕ} → is_live s.life ≡ false → t ≡ s → Outcome c s t (TakeOver addr) NoArena
  -- all regions are gone, or the arena is in use
  ResetNoted : {cached : ℕ} → t.regions ≡ [] → Outcome c s t (Reset cached) Noted
  ResetPurge : {cached : ℕ} → t.regions ≡ [] → is_dirty_time_over s ≡ true → Outcome c s t (Reset cached) (Purge (is_lazy s))
  ResetBusy : {cached : ℕ} (held flights threads : ℕ) → t ≡ s → Outcome c s t (Reset cached) (Busy held flights threads)
  ResetNoArena : {cached : ℕ} → is_live s.life ≡ false → t ≡ s → Outcome c s t (Reset cached) NoArena
  -- the client is destroying the arena, or the arena is in use
  DestroyNoted : {cached : ℕ} → t.life ≡ Dying c → Outcome c s t (Destroy cached) Noted
  DestroyBusy : {cached : ℕ} (held flights threads : ℕ) → t ≡ s → Outcome c s t (Destroy cached) (Busy held flights threads)
  DestroyNoArena : {cached : ℕ} → is_live s.life ≡ false → t ≡ s → Outcome c s t (Destroy cached) NoArena
  -- an extent is the arena's no more, or all were and the arena is absent
  DoomDoomed : (span : Span) (is_committed : Bool) → t.life ≡ s.life → Outcome c s t DestroyTake (Doomed span is_committed)
  DoomNothing : t.life ≡ Absent → Outcome c s t DestroyTake Nothing
  -- the counts
  CountsCounted : t ≡ s → Outcome c s t Counts (Counted (counts_of s))
  CountsNoArena : is_live s.life ≡ false → t ≡ s → Outcome c s t Counts NoArena
  -- the setting is made, or there is an arena already
  SetNoted : {setting : Setting} → Outcome c s t (Set setting) Noted
  SetNothing : {setting : Setting} → t ≡ s → Outcome c s t (Set setting) Nothing
  SetNoArena : {setting : Setting} → is_live s.life ≡ false → t ≡ s → Outcome c s t (Set setting) NoArena
  -- the pages behind the region are in flight, may be asked for, or have another use
  WidenTook : {addr pages : ℕ} (span : Span) (is_committed : Bool) → Flying c t span is_committed → Outcome c s t (Widen addr pages) (Took span is_committed 0)
  WidenNoted : {addr pages : ℕ} → t ≡ s → Outcome c s t (Widen addr pages) Noted
  WidenNothing : {addr pages : ℕ} → t ≡ s → Outcome c s t (Widen addr pages) Nothing
  -- the region has the class, or the extent behind it was put down
  JoinLanded : {heard : Heard} {class : ℕ} (addr : ℕ) → holds_at c t.regions addr ≡ true → Outcome c s t (JoinDone heard class) (Landed addr 1)
  JoinWhole : {heard : Heard} {class : ℕ} (low high : Span) → heard.ask ≡ Merge low high → PutDown c s t high → Outcome c s t (JoinDone heard class) Whole
  -- the client shrinks a region
  TrimNoted : {addr class : ℕ} → is_in c t.trims ≡ true → Outcome c s t (Trim addr class) Noted
  -- the pages that were cut off are in flight, or the extent stays whole
  TrimCut : {heard : Heard} {class : ℕ} (span : Span) → Flying c t span true → Outcome c s t (TrimDone heard class) (Cut span)
  TrimWhole : {heard : Heard} {class : ℕ} → t ≡ record s { trims = without_client c s.trims } → Outcome c s t (TrimDone heard class) Whole
