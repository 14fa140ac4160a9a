-- What a client does by its desk alone.
use Rattle.std.specs.Prelude.{◌≡◌, ℕ, ◌^◌, nat_lt, [], Option, None, Some, true, false, if◌then◌else◌, IsSomeAnd}
use Rattle.atomic_table.specs.Seated.{TableId}
use Rattle.size_classes.specs.Classes.{class_for}
use Rattle.thread_cache.specs.declared.Held.{Held}
use Rattle.call_plan.specs.Clients.{DeskFacts, has_slot, held_at, hit, is_cacheable}
use Rattle.call_plan.specs.declared.needs.Answered.{Answered}
use Rattle.call_plan.specs.declared.needs.Answered.TheVariants.{Ok}
use Rattle.call_plan.specs.declared.needs.Given.TheVariants.{Done as Finished, Region}
use Rattle.call_plan.specs.declared.needs.Request.{Request}
use Rattle.call_plan.specs.declared.needs.Request.TheVariants.{Free, Malloc}
use Rattle.deeds.specs.Dids.{IsCall}
use Rattle.heap_runs.specs.Heaps.{MayCall}
use Rattle.heap_runs.specs.declared.cached.CachedFree.{CachedFree}
use Rattle.heap_runs.specs.declared.cached.CachedFree.TheVariants.{Full, Kept, NotHeld, Off}
use Rattle.heap_runs.specs.declared.heaps.Ctx.{Ctx}
use Rattle.heap_runs.specs.declared.heaps.SharedHeap.{SharedHeap}

-- a context's client has no open call, whatever its heap and its shelf
abbrev pub IsFree : Ctx → Type 0
IsFree ctx = (shelf : TableId) × ((heap : SharedHeap) × MayCall shelf heap ctx)

-- A context's passes and its seat are as they were: no turn was taken and nothing was asked.
pub record StaysPut (old new : Ctx) : Type 0 where
  pub client : new.client ≡ old.client
  pub passes : new.passes ≡ old.passes
  pub seat : new.seat ≡ old.seat

-- a context's client carried a whole call out that did nothing
abbrev pub IsAtOnce : Ctx → Request → Answered → Ctx → Type 0
IsAtOnce old request answer new = IsCall old.client old.desk.facts request [] answer new.desk.facts

-- the region that a malloc of so many bytes would take from the cache
abbrev pub hit_for : ℕ → DeskFacts → Option Held
hit_for size desk = if nat_lt (2 ^ 35) size then None else hit (class_for size) desk

-- the address of a region of the cache, which a malloc would give at once; or there is none, and nothing changed
abbrev pub GivesAtOnce : ℕ → Option ℕ → Ctx → Ctx → Type 0
GivesAtOnce size None old new = (hit_for size old.desk.facts ≡ None) × (new.desk.facts ≡ old.desk.facts)
GivesAtOnce size (Some addr) old new = IsAtOnce old (Malloc size) (Ok (Region addr (class_for size))) new

-- the region was cached, as a free would at once; or why it can't be, and nothing changed
abbrev pub FreesAtOnce : ℕ → CachedFree → Ctx → Ctx → Type 0
FreesAtOnce addr Kept old new = IsAtOnce old (Free addr) (Ok Finished) new
FreesAtOnce addr Full old new = (new.desk.facts ≡ old.desk.facts) × IsSomeAnd (held_at addr old.desk.facts) (λ region. (is_cacheable region.class old.desk.facts ≡ true) × (has_slot region.class old.desk.facts ≡ false))
FreesAtOnce addr Off old new = (new.desk.facts ≡ old.desk.facts) × IsSomeAnd (held_at addr old.desk.facts) (λ region. is_cacheable region.class old.desk.facts ≡ false)
FreesAtOnce addr NotHeld old new = (new.desk.facts ≡ old.desk.facts) × (held_at addr old.desk.facts ≡ None)
