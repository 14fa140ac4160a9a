-- Calls that end where they begin.
use Rattle.heap_runs.proofs.Words.{◌≡◌, ◌∙◌, ◌<◌, ℕ, [], List, All, Bool, true, false, cond, None, Some, refl, sym, ap, subst, arc_value, slice_get, slice_get_within, get_or_from_slice_get, Answered, AreArenas, DeskFacts, IsAtRest, IsInRange, Moment, Record, Request, begin, ended_by, known, log_of, seen_at, AreWays, Ctx, SharedHeap, MayCall, TableId}
use Rattle.std.specs.Prelude.{nat_lt, ◌^◌}
use Rattle.size_classes.specs.Classes.{class_for}
use Rattle.thread_cache.specs.declared.Held.{Held}
use Rattle.thread_cache.specs.Caches.{cached_in}
use Rattle.call_plan.specs.Clients.{before_last, hit, hitting, holding, is_cacheable, swapped_back, swapped_back_of}
use Rattle.call_plan.specs.Desks.{desk_closed, held_region, region_ended}
use Rattle.call_plan.specs.Stages.{Ends}
use Rattle.call_plan.specs.declared.needs.Answered.TheVariants.{Ok}
use Rattle.call_plan.specs.declared.needs.Given.TheVariants.{Done as Finished, Region}
use Rattle.call_plan.specs.declared.needs.Request.TheVariants.{Free, Malloc}
use Rattle.deeds.specs.Dids.{IsCall}
use Rattle.heap_runs.specs.Cached.{FreesAtOnce, IsAtOnce, StaysPut}
use Rattle.heap_runs.specs.declared.cached.CachedFree.{CachedFree}
use Rattle.heap_runs.specs.declared.cached.CachedFree.TheVariants.{Full, Kept, NotHeld, Off}
use Rattle.heap_runs.proofs.Calling.{stays_at}

-- a client that rested rests
pub once_rests : (rs : List Record) (c : ℕ) (had : DeskFacts) (request : Request) (answer : Answered) (has : DeskFacts) → AreArenas false rs → c < 32 → IsAtRest false rs c had → IsInRange request → IsCall c had request [] answer has → IsAtRest false rs c has
once_rests rs c had request answer has arenas few rests range call =
    let first : begin request had ≡ call.last = sym call.led in
    subst (IsAtRest false rs c) (ap (λ (m : Moment). m.desk) first ∙ call.leaves)
    (stays_at rs c had request arenas few rests range answer (ap (λ (m : Moment). ended_by m.stage.next) first ∙ ap ended_by call.ends))

-- a context that stays as it is, but for what its client has, may call
pub put_calls : (shelf : TableId) (heap : SharedHeap) (old new : Ctx) → StaysPut old new → MayCall shelf heap old → IsAtRest false (known (arc_value heap.table) (log_of old)) old.client new.desk.facts → MayCall shelf heap new
put_calls shelf heap old new put may rests = record {
  is = record {
    ways = subst (λ n. AreWays heap.locks.items n new.passes.items) (sym put.client) (subst (λ p. AreWays heap.locks.items old.client p.items) (sym put.passes) may.is.ways);
    seat = ap (λ s. s.badge.table_id) put.seat ∙ may.is.seat;
    arenas = subst (λ p. AreArenas false (known (arc_value heap.table) (seen_at p.items))) (sym put.passes) may.is.arenas;
  };
  rests = subst (λ n. IsAtRest false (known (arc_value heap.table) (log_of new)) n new.desk.facts) (sym put.client) (subst (λ p. IsAtRest false (known (arc_value heap.table) (seen_at p.items)) old.client new.desk.facts) (sym put.passes) rests);
}

-- where a whole call did nothing, it may
pub once_calls : (shelf : TableId) (heap : SharedHeap) (old new : Ctx) → StaysPut old new → (request : Request) (answer : Answered) → IsInRange request → MayCall shelf heap old → IsAtOnce old request answer new → MayCall shelf heap new
once_calls shelf heap old new put request answer range may once =
    put_calls shelf heap old new put may (once_rests (known (arc_value heap.table) (log_of old)) old.client old.desk.facts request answer new.desk.facts may.is.arenas may.is.ways.few may.rests range once)

-- and where its client has what it had
pub same_calls : (shelf : TableId) (heap : SharedHeap) (old new : Ctx) → StaysPut old new → new.desk.facts ≡ old.desk.facts → MayCall shelf heap old → MayCall shelf heap new
same_calls shelf heap old new put same may = put_calls shelf heap old new put may (subst (IsAtRest false (known (arc_value heap.table) (log_of old)) old.client) (sym same) may.rests)

-- ---- a malloc

-- a region that is hit is of the class
hit_class : (class : ℕ) (desk : DeskFacts) (region : Held) → All (λ (r : Held). r.class ≡ class) (cached_in desk.cached class) → hit class desk ≡ Some region → region.class ≡ class
hit_class class desk region all is = by (is_cacheable class desk) is
  where
    by : (b : Bool) → cond b (slice_get (cached_in desk.cached class) (before_last class desk)) None ≡ Some region → region.class ≡ class
    by true is = let low = slice_get_within (cached_in desk.cached class) (before_last class desk) region is in
        subst (λ (r : Held). r.class ≡ class) (get_or_from_slice_get (cached_in desk.cached class) (before_last class desk) region region is) (all (before_last class desk) region low)
    by false is = absurd (cc)

-- once it has ended its client holds the region
got_closed : (request : Request) (arena class addr : ℕ) (desk : DeskFacts) → desk.gained ≡ None → desk.swapped ≡ None → desk_closed request arena (Ends (Ok (Region addr class))) desk ≡ holding (held_region arena class addr) desk
got_closed request arena class addr desk none own =
    let now : DeskFacts = holding (held_region arena class addr) desk in
    ap (λ gained. swapped_back false (region_ended gained (held_region arena class addr) desk)) none ∙ ap (λ swap. swapped_back_of swap false now) own

pub malloc_once : (c size : ℕ) (desk has : DeskFacts) (region : Held) → All (λ (r : Held). r.class ≡ class_for size) (cached_in desk.cached (class_for size)) → desk.gained ≡ None → desk.swapped ≡ None → nat_lt (2 ^ 35) size ≡ false
    → hit (class_for size) desk ≡ Some region → has ≡ holding region (hitting (class_for size) desk) → IsCall c desk (Malloc size) [] (Ok (Region region.addr (class_for size))) has
malloc_once c size desk has region all none own small is same =
    let left : DeskFacts = hitting (class_for size) desk in record {
      last = begin (Malloc size) desk;
      led = refl;
      ends = rw small (rw is refl);
      leaves = rw small (rw is (got_closed (Malloc size) region.arena (class_for size) region.addr left none own
          ∙ ap (λ k. holding (held_region region.arena k region.addr) left) (sym (hit_class (class_for size) desk region all is)) ∙ sym same));
    }

-- ---- a free

-- whatever came of a free that takes no turn
pub frees_calls : (shelf : TableId) (heap : SharedHeap) (old new : Ctx) (addr : ℕ) (told : CachedFree) → StaysPut old new → FreesAtOnce addr told old new → MayCall shelf heap old → MayCall shelf heap new
frees_calls shelf heap old new addr Kept put once may = once_calls shelf heap old new put (Free addr) (Ok Finished) tt may once
frees_calls shelf heap old new addr Full put same may = same_calls shelf heap old new put same.0 may
frees_calls shelf heap old new addr Off put same may = same_calls shelf heap old new put same.0 may
frees_calls shelf heap old new addr NotHeld put same may = same_calls shelf heap old new put same.0 may
