-- Where the region of a memalign stands.
use Rattle.std.specs.Prelude.{◌≡◌, ℕ, ◌%◌, List, All}
use Rattle.size_classes.specs.Classes.{IsSmall}
use Rattle.call_plan.specs.Words.{Memalign, Item, Region, Ok, Ends, Held, DeskFacts, align_at, aligned_for, cached_in}
use Rattle.call_plan.specs.Runs.{begin, run}
use Rattle.call_plan.specs.Causes.{AllCame}

-- each cached region of a small class stands at a multiple of the class's alignment
abbrev pub IsCacheAligned : DeskFacts → Type 0
IsCacheAligned desk = (class : ℕ) → IsSmall class → All (λ (region : Held). region.addr % align_at class ≡ 0) (cached_in desk.cached class)

-- a memalign that answers a region gives one of the class for its size and alignment, at a multiple of that alignment
abbrev pub MemalignsAreAligned : Type 0
MemalignsAreAligned = (c align size : ℕ) (desk : DeskFacts) (items : List Item) (addr class : ℕ) → IsCacheAligned desk
    → AllCame c (begin (Memalign align size) desk) items → (run (begin (Memalign align size) desk) items).stage.next ≡ Ends (Ok (Region addr class))
    → (class ≡ aligned_for size align) × (addr % align ≡ 0)
