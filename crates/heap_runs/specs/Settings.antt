-- What a heap is set up with, and what is read of an arena.
use Rattle.std.specs.Prelude.{◌≡◌, ◌⊎◌, ℕ, ◌≤◌, List, [], ◌∷◌, Option, None, Some, Result, Ok, Err, pos, nat_lt, if◌then◌else◌, slice_index_or, slice_set}
use Rattle.hook_api.specs.declared.shared.SharedShelf.{SharedShelf}
use Rattle.space_model.specs.declared.entries.Op.TheVariants.{Counts as ReadsCounts}
use Rattle.space_model.specs.declared.entries.Reply.TheVariants.{Counted, NoArena as IsNoArena}
use Rattle.space_model.specs.declared.counts.Counts.{Counts}
use Rattle.call_plan.specs.declared.needs.Answered.{Answered}
use Rattle.call_plan.specs.declared.needs.Answered.TheVariants.{NoArena, NoMemory, Ok as Gives}
use Rattle.call_plan.specs.declared.needs.Given.TheVariants.{Arena}
use Rattle.call_plan.specs.declared.needs.Request.{Request}
use Rattle.call_plan.specs.declared.needs.Request.TheVariants.{Create}
use Rattle.deeds.specs.Dids.{Took, deed_of}
use Rattle.deeds.specs.declared.deeds.Doing.{Doing}
use Rattle.deeds.specs.declared.deeds.Told.{Told}
use Rattle.heap_runs.specs.Heaps.{Gains}
use Rattle.heap_runs.specs.declared.heaps.Ctx.{Ctx}
use Rattle.heap_runs.specs.declared.heaps.SharedHeap.{SharedHeap}

-- the box of the arena with an index, if it was created
abbrev pub box_at : List (Option ℕ) → ℕ → Option ℕ
box_at boxes arena = slice_index_or boxes arena None

-- the boxes of all arenas, once an arena was created, or not, as the answer says
abbrev pub with_box : ℕ → Answered → List (Option ℕ) → List (Option ℕ)
with_box box_no (Gives (Arena index)) boxes = if nat_lt index 32 then slice_set boxes index (Some box_no) else boxes
with_box box_no answer boxes = boxes

-- the operation by which counts are read
abbrev pub reading : Doing
reading = record { op = ReadsCounts; asked = None }

-- a turn of the arena was taken that told this, and nothing else
abbrev pub HasRead : {H : Type 0} → SharedShelf H → SharedHeap → ℕ → Ctx → Ctx → Told → Type 0
HasRead shelf heap arena old new told = Gains shelf heap old new (Took arena (deed_of old.client reading None) told ∷ [])

-- the counts are those that a turn told; or it told that the arena isn't live; or there is none with that index, or no memory was
-- found, and no turn was taken
abbrev pub HasCounted : {H : Type 0} → SharedShelf H → SharedHeap → ℕ → Ctx → Ctx → Result Counts Answered → Type 0
HasCounted shelf heap arena old new (Ok counts) = (told : Told) × HasRead shelf heap arena old new told × (told.reply ≡ Counted counts)
HasCounted shelf heap arena old new (Err (NoArena index)) = (index ≡ arena) × (((32 ≤ arena) × Gains shelf heap old new []) ⊎ ((told : Told) × HasRead shelf heap arena old new told × (told.reply ≡ IsNoArena)))
HasCounted shelf heap arena old new (Err NoMemory) = Gains shelf heap old new []
HasCounted shelf heap arena old new (Err answer) = ⊥

-- the request by which an arena is created: its decay times are 10000 ms for dirty extents and 0 ms for muzzy ones
abbrev pub creating : ℕ → ℕ → Request
creating box_no now = Create box_no (pos 10000) (pos 0) now
