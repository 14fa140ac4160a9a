-- How long the run of a call is.
use Rattle.std.specs.Prelude.{◌≡◌, ℕ, ◌+◌, ◌*◌, ◌≤◌, Bool, true, false, List, [], ◌∷◌, None, Some, count_by, sum_by, if◌then◌else◌}
use Rattle.space_model.specs.declared.Op.TheVariants.{Back}
use Rattle.space_model.specs.Part.{is_listed, listed}
use Rattle.space_model.specs.Purging.{count_listed}
use Rattle.call_plan.specs.Words.{Request, Malloc, Memalign, Free, FreeForeign, Realloc, Flush, Cache, MallocIn, FreeIn, FlushCache, EndCache, Item, Replied, Told, Answered, Giving, Taking, Turns, Next, Go, Ends, NextFlight, Purge, Taken, Abandoned, Doomed, Rest, Space, Sound, mine, DeskFacts}
use Rattle.call_plan.specs.Table.{want}
use Rattle.call_plan.specs.Runs.{Moment, after, begin, run, step_next}
use Rattle.call_plan.specs.Knows.{Knows}
use Rattle.call_plan.specs.Laws.{Moves}
use Rattle.call_plan.specs.Rooms.{empties}

-- whether the item is an ask with its answer
abbrev pub is_told : Item → Bool
is_told (Told asked) = true
is_told item = false

-- whether the item is a turn: with a reply, or one that found no memory
abbrev pub is_turn : Item → Bool
is_turn (Told asked) = false
is_turn item = true

-- Few asks and few turns were made.
pub record IsShort (items : List Item) : Type 0 where
  pub asks : count_by is_told items ≤ 5
  pub turns : count_by is_turn items ≤ 8

-- whether the request is a malloc, aligned or not
abbrev pub is_malloc : Request → Bool
is_malloc (Malloc size) = true
is_malloc (Memalign align size) = true
is_malloc (MallocIn slot size) = true
is_malloc request = false

-- every malloc that ends was short
abbrev pub MallocsAreShort : Type 0
MallocsAreShort = (request : Request) (desk : DeskFacts) (items : List Item) (answer : Answered)
    → is_malloc request ≡ true → (run (begin request desk) items).stage.next ≡ Ends answer → IsShort items

-- ---- every request

-- how many asks a reply brings with it at most: two merges for each extent that is put down, six for one that is purged, with
-- those by which it is put down again, and one for an extent that goes with its arena
abbrev pub brings : Item → ℕ
brings (Replied (NextFlight (Some span))) = 2
brings (Replied (Abandoned (Some span))) = 2
brings (Replied (Purge lazy)) = 6
brings (Replied (Taken span lazy listed)) = 6
brings (Replied (Doomed span is_committed)) = 1
brings item = 0

-- how many asks a request makes at most beside those
abbrev pub most_asks : Request → ℕ
most_asks (Malloc size) = 5
most_asks (Memalign align size) = 5
most_asks (Realloc addr size) = 9
most_asks (MallocIn slot size) = 5
most_asks request = 0

-- every call that ends has made few asks
abbrev pub AsksAreFew : Type 0
AsksAreFew = (request : Request) (desk : DeskFacts) (items : List Item) (answer : Answered)
    → (run (begin request desk) items).stage.next ≡ Ends answer → count_by is_told items ≤ most_asks request + sum_by brings items

-- ---- a free

-- whether the request gives regions back
abbrev pub is_free : Request → Bool
is_free (Free addr) = true
is_free (FreeForeign addr arena) = true
is_free Flush = true
is_free (Cache on) = true
is_free (FreeIn slot addr) = true
is_free (FlushCache slot) = true
is_free (EndCache slot) = true
is_free request = false

-- A stride of a call: what came of its need, and the space of the arena before that and after it.
pub record Stride : Type 0 where
  pub item : Item
  pub before : Space
  pub after : Space

-- the stride is a step of the table, from a sound space in which the call knew what it has to
abbrev pub Strides : ℕ → Next → Stride → Type 0
Strides c (Go point) x = Sound x.before × Knows (mine c x.before) point × Moves c x.before (want point) x.item x.after
Strides c next x = ⊥

-- what the client has of an arena stays as a stride left it, where the call goes on there
abbrev pub Follows : ℕ → Next → Space → List Stride → Type 0
Follows c (Go point) t (x ∷ strides) = mine c x.before ≡ mine c t
Follows c next t strides = Unit {0}

-- the strides are those of a call from a moment on, whatever others did between them
abbrev pub Walks : ℕ → Moment → List Stride → Type 0
Walks c at [] = Unit {0}
Walks c at (x ∷ strides) = Strides c at.stage.next x × Follows c (step_next at.stage.next x.item) x.after strides × Walks c (after at x.item) strides

-- how many extents a stride emptied: only a return of regions does
abbrev pub emptied_by : ℕ → Next → Space → ℕ
emptied_by c (Go (Turns (Giving addrs))) s = empties c (Back addrs) s
emptied_by c next s = 0

-- how many extents the returns of a call emptied
abbrev pub emptied_by_all : ℕ → Moment → List Stride → ℕ
emptied_by_all c at [] = 0
emptied_by_all c at (x ∷ strides) = emptied_by c at.stage.next x.before + emptied_by_all c (after at x.item) strides

-- whether an extent that was put down is to be purged, since none may stay dirty
abbrev pub is_purge : Item → Bool
is_purge (Replied (Purge lazy)) = true
is_purge item = false

-- whether the stride is an ask
abbrev pub asks : Stride → Bool
asks x = is_told x.item

-- whether the stride told of such an extent
abbrev pub purges : Stride → Bool
purges x = is_purge x.item

-- a free has made at most 2 asks for each extent that its own returns emptied, and 6 more for each that is purged
abbrev pub FreesAreFew : Type 0
FreesAreFew = (c : ℕ) (request : Request) (desk : DeskFacts) (strides : List Stride) → is_free request ≡ true → Walks c (begin request desk) strides
    → count_by asks strides ≤ 2 * emptied_by_all c (begin request desk) strides + 6 * count_by purges strides

-- ---- a purge

-- how many extents a stride takes out of a list: only the turns of a visit to that list do
abbrev pub taken_by : Rest → Next → Item → ℕ
taken_by rest (Go (Turns (Taking visit left))) (Replied (Taken span lazy count)) = if is_listed rest (listed visit.rest) then 1 else 0
taken_by rest next item = 0

-- how many extents stood in a list where a stride is the first turn of a visit to it
abbrev pub found_by : Rest → Next → Space → ℕ
found_by rest (Go (Turns (Taking visit None))) s = if is_listed rest (listed visit.rest) then count_listed visit.rest s.parts else 0
found_by rest next s = 0

-- how many extents a call took out of a list
abbrev pub taken_of : Rest → Moment → List Stride → ℕ
taken_of rest at [] = 0
taken_of rest at (x ∷ strides) = taken_by rest at.stage.next x.item + taken_of rest (after at x.item) strides

-- how many stood in the list at the first turns of its visits
abbrev pub found_of : Rest → Moment → List Stride → ℕ
found_of rest at [] = 0
found_of rest at (x ∷ strides) = found_by rest at.stage.next x.before + found_of rest (after at x.item) strides

-- a call takes no more extents out of a list than stood in it at its first turn there
abbrev pub PurgesAreFew : Type 0
PurgesAreFew = (c : ℕ) (request : Request) (desk : DeskFacts) (rest : Rest) (strides : List Stride) → Walks c (begin request desk) strides
    → taken_of rest (begin request desk) strides ≤ found_of rest (begin request desk) strides
