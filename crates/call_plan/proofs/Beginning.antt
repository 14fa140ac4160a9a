-- Each request in range begins with what its first point has to know.
use Rattle.call_plan.proofs.Words.{◌≢◌, ◌^◌, ◌==◌, nat_lt, subst, Stage, Region, Idle, KnowsTurn, is_held_of, is_served, MovesKnow, Realloc, get, gives, hit, desk_moved, move_stage, are_large, resize_at, resizing, freed_hand, begin_resize, begin_realloc, pages_at, both_true, ◌≡◌, ℕ, ◌<◌, ◌&&◌, inl, inr, Bool, true, false, min, List, [], ◌∷◌, suc, zero, sym, ap, ◌∙◌, Option, None, Some, refl, arith, nat_le, ◌+◌, Contains, is_power_of_two, nat_tests, cond_both, class_for_exists, slab_filled, rises_from, has_slot, older_count, rising_from, batch_is, cached_is_flat, taken_is_in, Mine, Held, DeskFacts, most_regions, cached_in, BatchFacts, batch_of, freeing, going, caching, going_with, held_at, is_cacheable, batch_goes, begin_flush, begin_free, begin_get, begin_malloc, begin_memalign, share, wish_for, flushes, IsWish, is_held, Ready, KnowsNext, BatchesKnow, BeginsKnow, Has, Malloc, Memalign, Free, Flush, Cache, Request, ◌≤◌, class_for, Publish, begin_publish}
use Rattle.std.proofs.lemmas.Bool.{eqb-false}
use Rattle.size_classes.proofs.Least.{size_rises}
use Rattle.size_classes.proofs.Table.{large_size}
use Rattle.call_plan.proofs.Aligned.{aligned_below, page_power, powers}
use Rattle.call_plan.proofs.Lists.{any_weaker}
use Rattle.call_plan.proofs.Moving.{moved_going}

-- at least one region is got
some_shared : (class : ℕ) (desk : DeskFacts) → 0 < share class desk
some_shared class desk = grind (arith, nat_tests)

wish_is : (moves : Bool) (class align count : ℕ) → class < 121 → is_power_of_two align ≡ true → 0 < count → IsWish (wish_for moves class align (min count (most_regions class)))
wish_is moves class align count below power some = record {
  class = below;
  some = grind (arith, nat_tests, slab_filled class);
  fewer = grind arith;
  pages = refl;
  align = power;
}

got_knows : (m : Mine) (class align : ℕ) (hit : Option Held) (desk : DeskFacts) → class < 121 → is_power_of_two align ≡ true →
    Ready m desk (begin_get class align hit desk) → KnowsNext m (begin_get class align hit desk).next
got_knows m class align hit desk below power ready =
    let is = wish_is false class align (share class desk) below power (some_shared class desk) in grind (arith, nat_tests, some_shared class desk)

malloc_knows : (m : Mine) (size : ℕ) (desk : DeskFacts) → Ready m desk (begin_malloc size desk) → KnowsNext m (begin_malloc size desk).next
malloc_knows m size desk ready = grind (arith, nat_tests, got_knows, class_for_exists, powers.0)

memalign_knows : (m : Mine) (align size : ℕ) (desk : DeskFacts) → Ready m desk (begin_memalign align size desk) → KnowsNext m (begin_memalign align size desk).next
memalign_knows m align size desk ready = grind (arith, nat_tests, got_knows, aligned_below, page_power)

-- ---- regions that go back

-- to rise is the same for a desk and an arena
rises_too : (least : ℕ) (addrs : List ℕ) → rises_from least addrs ≡ rising_from least addrs
rises_too least [] = refl
rises_too least (addr ∷ addrs) = ap (λ v. nat_le least addr && v) (rises_too (addr + 1) addrs)

-- a region of a class that is held is held
held_somehow : (m : Mine) (addr class : ℕ) → is_held_of m addr class ≡ true → is_held m addr ≡ true
held_somehow m addr class held = any_weaker (λ (r : Region). r.addr == addr && r.class == class) (λ (r : Region). r.addr == addr) m.regions (λ r h. (both_true (r.addr == addr) _ h).0) held

-- what is so of the batch of some regions, all of which the client has
batch_knows : (m : Mine) (desk : DeskFacts) (arena : ℕ) (gained : Option Held) (regions : List Held) (batch : Option BatchFacts) → batch_of regions ≡ batch → ((region : Held) → Contains regions region → Has desk region) →
    Ready m desk (batch_goes arena gained batch) → KnowsNext m (batch_goes arena gained batch).next
batch_knows m desk arena None regions None e has ready = ready.idle
batch_knows m desk arena (Some region) regions None e has ready = ready.idle
batch_knows m desk arena gained regions (Some batch) e has ready =
    let is = batch_is regions batch e in record {
      some = is.some;
      rise = rises_too 0 batch.addrs ∙ is.rise;
      held = is.all (is_held m) (λ region there home. held_somehow m region.addr region.class (ready.holds region (has region there) (sym home)));
      idle = ready.idle;
    }

-- all that is to go is the client's
going_is_had : (desk : DeskFacts) (hand : Option Held) (all : Bool) → ((region : Held) → hand ≡ Some region → Has desk region) → (region : Held) → Contains (going_with hand all desk) region → Has desk region
going_is_had desk (Some own) all has region among =
    cond_both (is_cacheable own.class desk) _ _ (λ xs. Contains xs region → Has desk region)
    (λ _ there. inr (inl (cached_is_flat desk.cached own.class region (taken_is_in (older_count own.class desk) (cached_in desk.cached own.class) region there))))
    (λ _ there. has region (ap Some (only_one there))) among
  where
    only_one : Contains (own ∷ []) region → own ≡ region
    only_one (zero, inside, is) = is
    only_one (suc k, inside, is) = absurd (omega (arith, inside))
going_is_had desk None true has region among = inr (inl among)
going_is_had desk None false has region (k, inside, is) = absurd (omega (arith, inside))

pub batches-know : BatchesKnow
batches-know m request desk arena ready =
    batch_knows m desk arena (gives request desk) (going (flushes request) desk) (batch_of (going (flushes request) desk)) refl (going_is_had desk desk.hand (flushes request) (λ region e. inr (inr e))) ready

-- a region that is cached leaves the hand as it is
cached_hand : (region own : Held) (desk : DeskFacts) → (caching region desk).hand ≡ Some own → desk.hand ≡ Some own
cached_hand region own desk is = grind arith

free_knows : (m : Mine) (addr : ℕ) (held : Option Held) (desk : DeskFacts) → held_at addr desk ≡ held → Ready m desk (begin_free addr held desk) → KnowsNext m (begin_free addr held desk).next
free_knows m addr None desk e ready = ready.idle
free_knows m addr (Some region) desk held ready =
    batch_knows m desk region.arena None (going_with (freeing region desk).hand false desk) _ refl (going_is_had desk (freeing region desk).hand false (λ own is. hand_is_had own is)) ready
  where
    hand_is_had : (own : Held) → (freeing region desk).hand ≡ Some own → Has desk own
    hand_is_had own is =
        cond_both (is_cacheable region.class desk && has_slot region.class desk) _ _ (λ (after : DeskFacts). after.hand ≡ Some own → Has desk own)
        (λ _ e. inr (inr (cached_hand region own desk e))) (λ _ e. inl (addr, held ∙ e)) is

flush_knows : (m : Mine) (desk : DeskFacts) → Ready m desk (begin_flush desk) → KnowsNext m (begin_flush desk).next
flush_knows m desk ready = batch_knows m desk desk.arena None (going true desk) _ refl (going_is_had desk desk.hand true (λ region e. inr (inr e))) ready

-- ---- a region that takes the place of another one

get_knows : (m : Mine) (class : ℕ) (desk : DeskFacts) → class < 121 → Idle m → is_served m ≡ true → KnowsNext m (get true class 1 (share class desk))
get_knows m class desk below idle served =
    let is = wish_is true class 1 (share class desk) below powers.0 (some_shared class desk) in grind (arith, nat_tests, some_shared class desk)

move_knows : (m : Mine) (request : Request) (desk : DeskFacts) (arena class : ℕ) (found : Option Held) → class < 121 → Ready m (desk_moved class found desk) (move_stage request arena class found desk) →
    KnowsNext m (move_stage request arena class found desk).next
move_knows m request desk arena class None below ready = get_knows m class desk below ready.idle (ready.served refl)
move_knows m request desk arena class (Some region) below ready =
    let now : DeskFacts = desk_moved class (Some region) desk in
    batch_knows m now arena (gives request now) (going (flushes request) now) (batch_of (going (flushes request) now)) refl (going_is_had now now.hand (flushes request) (λ own e. inr (inr e))) ready

pub moves-know : MovesKnow
moves-know m request desk arena class below ready = move_knows m request desk arena class (hit class desk) below ready

-- ---- a region that is resized

-- a greater large class has more pages
fewer_pages : (class other : ℕ) → 36 ≤ class → class < other → other < 121 → pages_at class < pages_at other
fewer_pages class other large less below = omega (arith, size_rises class other less below, large_size class large (omega arith), large_size other (omega arith) below)

-- a held region of a large class is there to be resized
resize_knows : (m : Mine) (class : ℕ) (region : Held) → Idle m → is_held_of m region.addr region.class ≡ true → class < 121 → class ≢ region.class → are_large class region.class ≡ true →
    KnowsTurn m (resize_at class region)
resize_knows m class region idle held below differ large =
    let fewer = fewer_pages region.class class in
    let more = fewer_pages class region.class in grind (arith, nat_tests)

begun_move : (m : Mine) (addr size arena class : ℕ) (region : Held) (found : Option Held) (desk : DeskFacts) → held_at addr desk ≡ Some region → class ≢ region.class → class < 121 →
    Ready m desk (move_stage (Realloc addr size) arena class found (resizing addr region desk)) → KnowsNext m (move_stage (Realloc addr size) arena class found (resizing addr region desk)).next
begun_move m addr size arena class region None desk held differ below ready = get_knows m class (resizing addr region desk) below ready.idle (ready.served refl)
begun_move m addr size arena class region (Some found) desk held differ below ready =
    let regions : List Held = going_with (freed_hand region desk) false desk in
    let same = moved_going addr class region found desk differ in
    let gained : Option Held = gives (Realloc addr size) (desk_moved class (Some found) (resizing addr region desk)) in
    subst (λ xs. Ready m desk (batch_goes arena gained (batch_of xs)) → KnowsNext m (batch_goes arena gained (batch_of xs)).next) (sym same)
    (batch_knows m desk arena gained regions (batch_of regions) refl (going_is_had desk (freed_hand region desk) false (λ own is. freed_had own is))) ready
  where
    freed_had : (own : Held) → freed_hand region desk ≡ Some own → Has desk own
    freed_had own is = cond_both (is_cacheable region.class desk && has_slot region.class desk) _ _ (λ (after : Option Held). after ≡ Some own → Has desk own) (λ _ e. absurd (cc)) (λ _ e. inl (addr, held ∙ e)) is

resized_knows : (m : Mine) (addr size class : ℕ) (region : Held) (desk : DeskFacts) → held_at addr desk ≡ Some region → class < 121 →
    Ready m desk (begin_resize (Realloc addr size) class region (resizing addr region desk)) → KnowsNext m (begin_resize (Realloc addr size) class region (resizing addr region desk)).next
resized_knows m addr size class region desk held below =
    let now : DeskFacts = resizing addr region desk in
    let P : Stage → Type 0 = λ at. Ready m desk at → KnowsNext m at.next in
    cond_both (class == region.class) _ _ P (λ _ ready. ready.idle)
    (λ differ. cond_both (are_large class region.class) _ _ P
    (λ large ready. resize_knows m class region ready.idle (ready.holds region (inl (addr, held)) refl) below (eqb-false _ _ differ) large)
    (λ _. begun_move m addr size region.arena class region (hit class now) desk held (eqb-false _ _ differ) below))

realloc_knows : (m : Mine) (addr size : ℕ) (found : Option Held) (desk : DeskFacts) → held_at addr desk ≡ found → Ready m desk (begin_realloc addr size found desk) → KnowsNext m (begin_realloc addr size found desk).next
realloc_knows m addr size None desk e ready = ready.idle
realloc_knows m addr size (Some region) desk e ready =
    cond_both (nat_lt (2 ^ 35) size) _ _ (λ (at : Stage). Ready m desk at → KnowsNext m at.next) (λ _ ready. ready.idle)
    (λ h. resized_knows m addr size (class_for size) region desk e (class_for_exists size (grind (arith, nat_tests, h)))) ready

publish_knows : (m : Mine) (addr : ℕ) (held : Option Held) (desk : DeskFacts) → held_at addr desk ≡ held → Ready m desk (begin_publish addr held) → KnowsNext m (begin_publish addr held).next
publish_knows m addr None desk e ready = ready.idle
publish_knows m addr (Some region) desk e ready = (ready.idle, held_somehow m region.addr region.class (ready.holds region (inl (addr, e)) refl))

pub begins-know : BeginsKnow
begins-know m (Publish addr) desk range ready = publish_knows m addr (held_at addr desk) desk refl ready
begins-know m (Realloc addr size) desk range ready = realloc_knows m addr size (held_at addr desk) desk refl ready
begins-know m (Malloc size) desk range ready = malloc_knows m size desk ready
begins-know m (Memalign align size) desk range ready = memalign_knows m align size desk ready
begins-know m (Free addr) desk range ready = free_knows m addr (held_at addr desk) desk refl ready
begins-know m Flush desk range ready = flush_knows m desk ready
begins-know m (Cache false) desk range ready = flush_knows m desk ready
begins-know m request desk range ready = grind (arith, nat_tests)
