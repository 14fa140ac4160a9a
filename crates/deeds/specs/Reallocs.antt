-- What a realloc leaves of what its client had.
use Rattle.std.specs.Prelude.{◌≡◌, ◌⊎◌, ◌<◌, ◌^◌, ℕ, List, Option, None, Some}
use Rattle.size_classes.specs.Classes.{class_for}
use Rattle.thread_cache.specs.declared.Held.{Held}
use Rattle.call_plan.specs.Clients.{DeskFacts, held_at, holding, not_holding}
use Rattle.call_plan.specs.declared.needs.Answered.{Answered}
use Rattle.call_plan.specs.declared.needs.Answered.TheVariants.{Ok, NoMemory, NotHeld, TooLarge}
use Rattle.call_plan.specs.declared.needs.Given.TheVariants.{Region}
use Rattle.call_plan.specs.declared.needs.Request.TheVariants.{Realloc}
use Rattle.deeds.specs.Dids.{Did, IsCall}

-- Nothing of a call is with the client: no region is in hand or gained, and its own cache is in its place.
pub record Rests (desk : DeskFacts) : Type 0 where
  pub hand : desk.hand ≡ None
  pub gained : desk.gained ≡ None
  pub swapped : desk.swapped ≡ None

-- Of what was held, a region of a class is held at an address in the place of the one at another.
pub record Replaced (addr class : ℕ) (had : DeskFacts) (new : ℕ) (has : DeskFacts) : Type 0 where
  pub region : Held
  pub there : region.addr ≡ new
  pub sized : region.class ≡ class
  pub holds : has.held ≡ (holding region (not_holding addr had)).held

-- The region at the address is held as before, and what was cached is.
pub record Remains (addr : ℕ) (old : Held) (had has : DeskFacts) : Type 0 where
  pub holds : has.held ≡ (holding old (not_holding addr had)).held
  pub cached : has.cached ≡ had.cached

-- The region at the address is held as before, and one of the class beside it.
pub record HoldsBoth (addr class : ℕ) (old : Held) (had has : DeskFacts) : Type 0 where
  pub region : Held
  pub sized : region.class ≡ class
  pub holds : has.held ≡ (holding region (holding old (not_holding addr had))).held

-- What the client has after a realloc of a region that was held at the address, by its answer. Where it is a region, that is one of
-- the class of the size, and is held in the place of the old one. Where memory was wanting while the old one went back, both are
-- held. Any other refusal leaves the old one held, and what was cached.
abbrev pub AfterRealloc : ℕ → ℕ → Held → DeskFacts → Answered → DeskFacts → Type 0
AfterRealloc addr size old had (Ok (Region new class)) has = (class ≡ class_for size) × Replaced addr (class_for size) had new has
AfterRealloc addr size old had (Ok given) has = ⊥
AfterRealloc addr size old had TooLarge has = (2 ^ 35 < size) × (has ≡ had)
AfterRealloc addr size old had NoMemory has = Remains addr old had has ⊎ HoldsBoth addr (class_for size) old had has
AfterRealloc addr size old had answer has = Remains addr old had has

-- the same, where no region was held at the address
abbrev pub AfterReallocOf : ℕ → ℕ → Option Held → DeskFacts → Answered → DeskFacts → Type 0
AfterReallocOf addr size None had answer has = (answer ≡ NotHeld addr) × (has ≡ had)
AfterReallocOf addr size (Some old) had answer has = AfterRealloc addr size old had answer has

-- a realloc leaves its client what its answer says
abbrev pub ReallocsLeave : Type 0
ReallocsLeave = (c : ℕ) (had : DeskFacts) (addr size : ℕ) (dids : List Did) (answer : Answered) (has : DeskFacts)
    → Rests had → IsCall c had (Realloc addr size) dids answer has → AfterReallocOf addr size (held_at addr had) had answer has
