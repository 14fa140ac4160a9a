-- The book of slabs after any operation that gives nothing back.
use Rattle.arena_core.proofs.Words.{ap, length, ◌≡◌, ℕ, ◌<◌, ◌≤◌, Bool, true, false, cond, List, [], ◌∷◌, find, Option, None, Some, refl, sym, ◌∙◌, subst, ◌&&◌, eqb, lt-ltb, nat_lt, nat_le, All-map, pages_at, regions_at, Op, Look, CutDone, GrowDone, CommitDone, Land, PutLook, MergeDone, Fill, Advance, PurgeTake, LazyDone, Offer, OfferDone, DecommitDone, ForcedDone, Publish, TakeOver, Reset, Destroy, DestroyTake, Counts, Set, Widen, JoinDone, Trim, TrimDone, Busy, NoArena, Part, Region, Span, Space, is_flight_at, held_anew, doom_at, emptied, ended, flight_count, held_count, is_held_at, is_published_at, take_over_at, large_home, after_fill, fill_at, land_at, land_stands, lowest_free, most_regions, is_live, op_stands, step_of, Stepped, if_live, stays, Sound, both_true, op_keeps, BinSlab, with_regions_out, is_return, opens, CanFollow, IsBooked, slabs_begun, slabs_filled, slabs_followed, slabs_left, slabs_taken, CanBeSlab, slabs_landed, on_found}
use Rattle.arena_core.proofs.Booked.{fills_taken, stay_handed}
use Rattle.arena_core.proofs.BookLands.{Lands, can_land, landed_booked}
use Rattle.arena_core.proofs.Resized.{join_step, trim_step}
use Rattle.arena_core.proofs.Books.{nothing_booked, stays_left, still_booked}
use Rattle.arena_core.proofs.Landed.{filled_is, may_fill, fitting, may_land}
use Rattle.arena_core.proofs.Homes.{in_flight}
use Rattle.arena_core.proofs.Still.{commit_still, cut_still, decommit_still, doom_still, grow_still, lazy_still, live_still, look_still, merge_still, offer_done_still, offer_still, purge_still, put_still, same, set_still, still, widen_still}

-- ---- Land

-- a land that may stand leaves what a book keeps with the new slab, which the book can take
landed : (c : ℕ) (s : Space) (span : Span) (class count : ℕ) (slabs : List BinSlab) → Sound s → land_stands s c span class count ≡ true → IsBooked s slabs →
    IsBooked (land_at s c class count (find (is_flight_at c span) s.parts)).after (slabs_landed class span.first count slabs) × (class < 36 → CanBeSlab class span.first count slabs)
landed c s span class count slabs sound stands book =
    on_found (λ o. IsBooked (land_at s c class count o).after (slabs_landed class span.first count slabs) × (class < 36 → CanBeSlab class span.first count slabs))
    (λ p. p.committed) (find (is_flight_at c span) s.parts) (both_true (nat_lt class 121 && nat_lt 0 count && nat_le count (most_regions class) && eqb span.pages (pages_at class)) _ stands).1
    (λ p found committed.
    let at = in_flight c s span p sound (sym found) in
    let may = may_land s c span class count stands in
    let fit = fitting c s span class count p sound stands (sym found) in
    let l : Lands c s (is_flight_at c span) p class count = record {
      sound = sound;
      found = found;
      idle = at.idle;
      committed = committed;
      pages = at.pages ∙ may.1;
      low = may.0;
      some = may.2;
      bytes = fit.bytes;
      most = λ small. subst (λ b. count ≤ cond b (regions_at class) 1) (lt-ltb class 36 small) may.3;
      last = fit.last;
    } in
    (landed_booked c s (is_flight_at c span) p class count l slabs book span (sym at.first), can_land c s (is_flight_at c span) p class count l slabs book span (sym at.first)))

-- ---- an operation that takes no memory

-- its slab, if it makes one, can come
pub can_follow : (c : ℕ) (s : Space) (op : Op) (slabs : List BinSlab) → Sound s → op_stands s c op ≡ true → IsBooked s slabs → CanFollow op slabs
can_follow c s (Land span class count) slabs sound stands book = (landed c s span class count slabs sound (both_true (is_live s.life) _ stands).1 book).1
can_follow c s op slabs sound stands book = tt

pub follows_booked : (c : ℕ) (s : Space) (op : Op) (slabs : List BinSlab) → Sound s → op_stands s c op ≡ true → opens op ≡ false → IsBooked s slabs → IsBooked (step_of s c op).after (slabs_followed op slabs)
follows_booked c s (CutDone heard keep_low) slabs sound stands follows book = still_booked s _ slabs book (cut_still s c keep_low heard.ask heard.answer sound)
follows_booked c s (GrowDone heard found) slabs sound stands follows book = still_booked s _ slabs book (grow_still s c found heard.ask heard.answer)
follows_booked c s (CommitDone heard) slabs sound stands follows book = still_booked s _ slabs book (commit_still s c heard.ask heard.answer sound)
follows_booked c s (Land span class count) slabs sound stands follows book = (landed c s span class count slabs sound (both_true (is_live s.life) _ stands).1 book).0
follows_booked c s (PutLook span tries) slabs sound stands follows book = still_booked s _ slabs book (put_still s c tries span sound)
follows_booked c s (MergeDone heard own_low) slabs sound stands follows book = still_booked s _ slabs book (merge_still s c own_low heard.ask heard.answer sound)
follows_booked c s (LazyDone heard) slabs sound stands follows book = still_booked s _ slabs book (lazy_still s c heard.ask heard.answer sound)
follows_booked c s (Offer span) slabs sound stands follows book = still_booked s _ slabs book (offer_still s c span sound)
follows_booked c s (OfferDone heard found) slabs sound stands follows book = still_booked s _ slabs book (offer_done_still s c found heard.ask heard.answer)
follows_booked c s (DecommitDone heard) slabs sound stands follows book = still_booked s _ slabs book (decommit_still s c heard.ask heard.answer sound)
follows_booked c s (ForcedDone heard) slabs sound stands follows book = book
follows_booked c s (JoinDone heard class) slabs sound stands follows book =
    join_step c s class heard.ask heard.answer slabs sound (op_keeps c s (JoinDone heard class) sound stands).sound (both_true (is_live s.life) _ stands).1 book
follows_booked c s (TrimDone heard class) slabs sound stands follows book =
    trim_step c s class heard.ask heard.answer slabs sound (op_keeps c s (TrimDone heard class) sound stands).sound (both_true (is_live s.life) _ stands).1 book
follows_booked c s op slabs sound stands follows book = absurd (cc)

-- ---- an operation that begins a unit

-- nobody minds who holds a region
anew_booked : (s : Space) (test : Region → Bool) (holder : Option ℕ) (slabs : List BinSlab) → IsBooked s slabs → IsBooked (record s { regions = held_anew test holder s.regions }) slabs
anew_booked s test holder slabs book = record { small = book.small; booked = stay_handed s (record s { regions = held_anew test holder s.regions }) slabs test holder refl refl book.booked }

-- the lowest free regions of a class are taken
fill_booked : (c : ℕ) (s : Space) (class count : ℕ) (slabs : List BinSlab) → Sound s → class < 36 → IsBooked s slabs → IsBooked (after_fill s c class count).after (slabs_filled s class count slabs)
fill_booked c s class count slabs sound low book =
    let addrs = lowest_free class count s in
    elim (is_live s.life) as (λ b. IsBooked (cond b (fill_at s c class addrs) (stays s NoArena)).after (cond b (slabs_taken addrs slabs) slabs)) [
      | false ↦ book
      | true ↦ subst (λ t. IsBooked t (slabs_taken addrs slabs)) (sym (filled_is c s class addrs)) (record {
        small = All-map (λ x. x.class < 36) (with_regions_out addrs) slabs book.small;
        booked = (fills_taken s slabs c class count sound low book.booked).booked;
      })
    ]

-- ---- an operation that may empty the space

-- it leaves all as it is, or no region, and so no slab
left_booked : (s : Space) (live free : Bool) (t : Stepped) (held flights threads : ℕ) (slabs : List BinSlab) → IsBooked s slabs → t.after.regions ≡ [] →
    let after = (cond live (cond free t (stays s (Busy held flights threads))) (stays s NoArena)).after in IsBooked after (slabs_left after slabs)
left_booked s true true t held flights threads slabs book none =
    subst (IsBooked t.after) (ap (λ rs. cond (eqb (length rs) 0) [] slabs) (sym none)) (nothing_booked t.after none)
left_booked s true false t held flights threads slabs book none = subst (IsBooked s) (stays_left book refl) book
left_booked s false free t held flights threads slabs book none = subst (IsBooked s) (stays_left book refl) book

pub begins_booked : (c : ℕ) (s : Space) (op : Op) (slabs : List BinSlab) → Sound s → op_stands s c op ≡ true → opens op ≡ true → is_return op ≡ false → IsBooked s slabs →
    IsBooked (step_of s c op).after (slabs_begun c s op slabs)
begins_booked c s (Look pages align) slabs sound stands opens other book = still_booked s _ slabs book (look_still s c pages align sound)
begins_booked c s (Fill class count) slabs sound stands opens other book = fill_booked c s class count slabs sound (may_fill s c class count stands).0 book
begins_booked c s (Advance now) slabs sound stands opens other book = still_booked s _ slabs book (live_still s _ (still s _ refl refl))
begins_booked c s (PurgeTake rest keep) slabs sound stands opens other book = still_booked s _ slabs book (purge_still s c rest keep sound)
begins_booked c s (Publish addr) slabs sound stands opens other book = anew_booked s (is_held_at c addr) None slabs book
begins_booked c s (TakeOver addr) slabs sound stands opens other book = take_over (find (is_published_at addr) s.regions)
  where
    take_over : (o : Option Region) → IsBooked (if_live s (take_over_at s c addr o)).after slabs
    take_over o = elim (is_live s.life) as (λ b. IsBooked (cond b (take_over_at s c addr o) (stays s NoArena)).after slabs) [
      | false ↦ book
      | true ↦ elim o as (λ o. IsBooked (take_over_at s c addr o).after slabs) [ None ↦ book | Some r ↦ anew_booked s (is_published_at addr) (Some c) slabs book ]
    ]
begins_booked c s DestroyTake slabs sound stands opens other book = doom s.parts refl
  where
    doom : (ps : List Part) → s.parts ≡ ps → IsBooked (doom_at s ps).after slabs
    doom [] e = still_booked s _ slabs book (still s _ refl refl)
    doom (p ∷ ps) e = still_booked s _ slabs book (doom_still s c p ps e sound stands)
begins_booked c s Counts slabs sound stands opens other book = still_booked s _ slabs book (live_still s _ (same s))
begins_booked c s (Set setting) slabs sound stands opens other book = still_booked s _ slabs book (set_still s c setting)
begins_booked c s (Widen addr pages) slabs sound stands opens other book = still_booked s _ slabs book (widen_still s c pages (large_home s c addr) sound)
begins_booked c s (Trim addr class) slabs sound stands opens other book = still_booked s _ slabs book (still s _ refl refl)
begins_booked c s (Reset cached) slabs sound stands opens other book =
    left_booked s (is_live s.life) _ (emptied s) (held_count s c cached) (flight_count s c) 0 slabs book refl
begins_booked c s (Destroy cached) slabs sound stands opens other book =
    left_booked s (is_live s.life) _ (ended s c) (held_count s c cached) (flight_count s c) (length s.bound) slabs book refl
begins_booked c s op slabs sound stands opens other book = absurd (cc)
