-- Why each answer of a call comes, by what the call was fed.
use Rattle.std.specs.Prelude.{◌≡◌, ℕ, ◌-◌, ◌<◌, ◌≤◌, ◌^◌, ◌⊎◌, max, replicate, Bool, true, false, List, [], ◌∷◌, ◌++◌, fold, Contains, Option, None, Some, option_map}
use Rattle.space_model.specs.Step.{why_not}
use Rattle.call_plan.specs.Words.{Request, Malloc, Memalign, Free, FreeForeign, Publish, Take, PurgeAll, Decay, Time, Reset, Destroy, Create, Bind, HookBox, GrowLimit, Realloc, MallocIn, NewCache, Item, Replied, Told, Starved, Given, Region, Finished, Arena, Limits, Slot, Answered, Ok, Refused, BadAnswer, TooLarge, BadAlign, NotHeld, NoSuchArena, Busy, NoMemory, ArenasFull, Automatic, NoCache, CachesFull, Wish, Next, Go, Ends}
use Rattle.call_plan.specs.Words.{Ask, Alloc, Commit, Split, Placed, NoArena, Nothing, Noted, Took, Grow, Cut, Whole, Bad, Grown, Landed, Regions, LimitsAre, Owned, Space, Span, Why, Sound, AskFacts, Held, DeskFacts, IsAlignment, aligned_for, class_for, free_slot, held_at, hit}
use Rattle.call_plan.specs.Clients.{has_cache}
use Rattle.call_plan.specs.Desks.{meant, ready, slot_of}
use Rattle.call_plan.specs.Table.{alloc_of, want, whole_chunks}
use Rattle.call_plan.specs.Runs.{Moment, after, begin, page_align, run, small_hit, wish_for}
use Rattle.call_plan.specs.Laws.{Moves}
use Rattle.space_model.specs.declared.Answer.TheVariants as answers
use Rattle.space_model.specs.declared.Reply.TheVariants as replies

-- ---- what came

-- the item came of what is wanted there, in some sound space
abbrev pub Came : ℕ → Next → Item → Type 0
Came c (Go point) item = (s : Space) × (t : Space) × Sound s × Moves c s (want point) item t
Came c next item = ⊥

-- each item came of what was wanted when it came
abbrev pub AllCame : ℕ → Moment → List Item → Type 0
AllCame c at [] = Unit {0}
AllCame c at (item ∷ items) = Came c at.stage.next item × AllCame c (after at item) items

-- ---- the extent that a malloc has

-- an extent in flight, as replies tell of it
pub record Extent : Type 0 where
  pub span : Span
  pub committed : Bool

-- an extent in flight by its span, committed or not
abbrev pub extent : Span → Bool → Extent
extent span is_committed = record { span = span; committed = is_committed }

-- the extent in flight after one more item: a look or a grant gives it, a cut leaves a piece of it, a commit commits it,
-- and it is gone where it was put down or regions landed in it
abbrev pub extent_after : Option Extent → Item → Option Extent
extent_after had (Replied (Took span is_committed skip)) = Some (extent span is_committed)
extent_after had (Replied (Grown span is_committed)) = Some (extent span is_committed)
extent_after had (Replied (Cut kept)) = option_map (λ (e : Extent). extent kept e.committed) had
extent_after had (Replied Noted) = option_map (λ (e : Extent). extent e.span true) had
extent_after had (Replied Whole) = None
extent_after had (Replied (Landed first count)) = None
extent_after had item = had

-- the extent in flight after the items, if there is one
abbrev pub extent_of : List Item → Option Extent
extent_of items = fold extent_after None items

-- ---- the asks that a malloc needs

-- no extent served: the look found none, or a split was refused
abbrev pub NothingFits : List Item → Type 0
NothingFits items = ((series : ℕ) × Contains items (Replied (Grow series))) ⊎ Contains items (Replied Whole)

-- An alloc of just as many chunks as the pages need granted the span, which has more pages than are wanted.
pub record WasGranted (wish : Wish) (items : List Item) (span : Span) : Type 0 where
  pub asked : AskFacts
  pub told : Contains items (Told asked)
  pub exact : asked.ask ≡ alloc_of wish (whole_chunks wish.pages)
  pub is_committed : Bool
  pub zeroed : Bool
  pub placed : asked.answer ≡ Placed is_committed zeroed span.first
  pub replied : Contains items (Replied (Grown span is_committed))
  pub more : wish.pages < span.pages

-- an ask is needed after the items: an alloc of just as many chunks, wherever they are, where no extent served, a split of what it granted, and
-- a commit of an extent that isn't committed
abbrev pub IsNeeded : Wish → List Item → Ask → Type 0
IsNeeded wish items (Alloc is_committed at pages align) = (at ≡ None) × (pages ≡ whole_chunks wish.pages) × NothingFits items
IsNeeded wish items (Split span left) = (left ≡ wish.pages) × WasGranted wish items span
IsNeeded wish items (Commit span) = extent_of items ≡ Some (extent span false)
IsNeeded wish items ask = ⊥

-- ---- the causes

-- the wish is for regions of a class, at an alignment in pages, of which one takes the place of the one in hand or none does
abbrev pub IsWishFor : Bool → ℕ → ℕ → Wish → Type 0
IsWishFor moves class align wish = wish ≡ wish_for moves class align wish.count

-- the wish is that of the request
abbrev pub IsWishOf : Request → Wish → Type 0
IsWishOf (Malloc size) wish = IsWishFor false (class_for size) 1 wish
IsWishOf (Memalign align size) wish = IsWishFor false (aligned_for size align) (page_align align) wish
IsWishOf (Realloc addr size) wish = IsWishFor true (class_for size) 1 wish
IsWishOf request wish = ⊥

-- An ask of this call was refused, and it was needed after what the call had been fed.
pub record RefusedCause (request : Request) (items : List Item) (asked : AskFacts) : Type 0 where
  pub wish : Wish
  pub wished : IsWishOf request wish
  pub earlier : List Item
  pub later : List Item
  pub told : items ≡ earlier ++ Told asked ∷ later
  pub refused : asked.answer ≡ answers.Refused
  pub needed : IsNeeded wish earlier asked.ask

-- The last ask of this call was an alloc that placed the range, and the turn that took its answer in replied that this speaks
-- against it, in a sound space and by a chunk of another arena that was found, if one was.
pub record BadCause (request : Request) (items : List Item) (span : Span) (why : Why) : Type 0 where
  pub wish : Wish
  pub wished : IsWishOf request wish
  pub asked : AskFacts
  pub earlier : List Item
  pub told : items ≡ earlier ++ Told asked ∷ Replied (Bad why) ∷ []
  pub alloc : asked.ask ≡ alloc_of wish span.pages
  pub is_committed : Bool
  pub zeroed : Bool
  pub placed : asked.answer ≡ Placed is_committed zeroed span.first
  pub found : Option ℕ
  pub space : Space
  pub sound : Sound space
  pub against : why_not found (max 512 wish.align) space.parts span ≡ Some why

-- the region at an address was cached, or it landed or was free in a slab
abbrev pub GotCause : Option Held → List Item → ℕ → Type 0
GotCause found items addr =
    ((region : Held) × (found ≡ Some region) × (addr ≡ region.addr))
    ⊎ ((count : ℕ) × Contains items (Replied (Landed addr count)))
    ⊎ ((others : List ℕ) × Contains items (Replied (Regions (addr ∷ others))))

-- a region of a class is the one that the client held there, or takes its place and was got
abbrev pub ResizedCause : DeskFacts → ℕ → List Item → ℕ → ℕ → Type 0
ResizedCause desk at items addr class =
    ((region : Held) × (held_at at desk ≡ Some region) × (addr ≡ region.addr)) ⊎ GotCause (hit class desk) items addr

-- a region is of the class of the request and was got or resized, or was taken over
abbrev pub RegionCause : DeskFacts → Request → List Item → ℕ → ℕ → Type 0
RegionCause desk (Malloc size) items addr class = (class ≡ class_for size) × GotCause (hit class desk) items addr
RegionCause desk (Memalign align size) items addr class = (class ≡ aligned_for size align) × GotCause (small_hit class desk) items addr
RegionCause desk (Realloc at size) items addr class = (class ≡ class_for size) × ResizedCause desk at items addr class
RegionCause desk (Take at arena) items addr class = (addr ≡ at) × Contains items (Replied (Owned class))
RegionCause desk request items addr class = ⊥

-- the request is one that is done without giving anything: no region and no arena is wanted
abbrev pub DoneCause : Request → Type 0
DoneCause (Malloc size) = ⊥
DoneCause (Memalign align size) = ⊥
DoneCause (Take at arena) = ⊥
DoneCause (Realloc at size) = ⊥
DoneCause (Create box_no dirty_ms muzzy_ms now) = ⊥
DoneCause (MallocIn slot size) = ⊥
DoneCause NewCache = ⊥
DoneCause request = Unit {0}

-- the request makes an arena
abbrev pub IsCreate : Request → Type 0
IsCreate (Create box_no dirty_ms muzzy_ms now) = Unit {0}
IsCreate request = ⊥

-- a create was told of each index from 1 on below this one that an arena is there, and nothing else came
abbrev pub TakenBelow : Request → List Item → ℕ → Type 0
TakenBelow request items index = IsCreate request × (1 ≤ index) × (index ≤ 31) × (items ≡ replicate (index - 1) (Replied Nothing))

-- a create made the arena at the first index from 1 on that had none
abbrev pub ArenaCause : Request → List Item → ℕ → Type 0
ArenaCause request items index = (earlier : List Item) × TakenBelow request earlier index × (items ≡ earlier ++ Replied Noted ∷ [])

-- a create was told of each index from 1 to 31 that an arena is there
abbrev pub FullCause : Request → List Item → Type 0
FullCause request items = IsCreate request × (items ≡ replicate 31 (Replied Nothing))

-- the request empties an arena: it resets or destroys one
abbrev pub Empties : Request → Type 0
Empties (Reset arena) = Unit {0}
Empties (Destroy arena) = Unit {0}
Empties request = ⊥

-- the request tells an arena what time it is
abbrev pub TellsTime : Request → Type 0
TellsTime (Decay arena now) = Unit {0}
TellsTime request = ⊥

-- the request makes an explicit cache
abbrev pub MakesCache : Request → Type 0
MakesCache NewCache = Unit {0}
MakesCache request = ⊥

-- what a call gave has its cause
abbrev pub GivenCause : DeskFacts → Request → List Item → Given → Type 0
GivenCause desk request items (Region addr class) = RegionCause desk request items addr class
GivenCause desk request items Finished = DoneCause request
GivenCause desk request items (Arena index) = ArenaCause request items index
GivenCause desk request items (Slot slot) = MakesCache request × (free_slot desk.set ≡ Some slot)
GivenCause desk request items (Limits dirty muzzy) = TellsTime request × Contains items (Replied (LimitsAre dirty muzzy))

-- the client held no region at the address of the request, or none was published there
abbrev pub NotHeldCause : DeskFacts → Request → List Item → ℕ → Type 0
NotHeldCause desk (Free at) items addr = (addr ≡ at) × (held_at at desk ≡ None)
NotHeldCause desk (Publish at) items addr = (addr ≡ at) × (held_at at desk ≡ None)
NotHeldCause desk (Realloc at size) items addr = (addr ≡ at) × (held_at at desk ≡ None)
NotHeldCause desk (Take at arena) items addr = (addr ≡ at) × Contains items (Replied Nothing)
NotHeldCause desk (FreeForeign at arena) items addr = (addr ≡ at) × Contains items (Replied Nothing)
NotHeldCause desk request items addr = ⊥

-- the size is above 2 ^ 35 bytes, at a good alignment
abbrev pub TooLargeCause : Request → Type 0
TooLargeCause (Malloc size) = 2 ^ 35 < size
TooLargeCause (Memalign align size) = IsAlignment align × (2 ^ 35 < size)
TooLargeCause (Realloc at size) = 2 ^ 35 < size
TooLargeCause request = ⊥

-- the alignment is none
abbrev pub BadAlignCause : Request → Type 0
BadAlignCause (Memalign align size) = ¬ IsAlignment align
BadAlignCause request = ⊥

-- a reset or destroy names arena 0
abbrev pub AutomaticCause : Request → Type 0
AutomaticCause (Reset index) = index ≡ 0
AutomaticCause (Destroy index) = index ≡ 0
AutomaticCause request = ⊥

-- the request names the arena with this index
abbrev pub Names : Request → ℕ → Type 0
Names (FreeForeign at arena) index = index ≡ arena
Names (Take at arena) index = index ≡ arena
Names (PurgeAll arena) index = index ≡ arena
Names (Decay arena now) index = index ≡ arena
Names (Time arena rest ms now) index = index ≡ arena
Names (Reset arena) index = index ≡ arena
Names (Destroy arena) index = index ≡ arena
Names (Bind arena) index = index ≡ arena
Names (HookBox arena box_no) index = index ≡ arena
Names (GrowLimit arena chunks) index = index ≡ arena
Names request index = ⊥

-- why a request of a client whose cache is the one that it uses had its answer after these items, by what the client had at its start
abbrev pub CauseIn : DeskFacts → Request → List Item → Answered → Type 0
CauseIn desk request items (Ok given) = GivenCause desk request items given
CauseIn desk request items (Refused asked) = RefusedCause request items asked
CauseIn desk request items (BadAnswer span why) = BadCause request items span why
CauseIn desk request items TooLarge = TooLargeCause request
CauseIn desk request items BadAlign = BadAlignCause request
CauseIn desk request items (NotHeld addr) = NotHeldCause desk request items addr
CauseIn desk request items (NoSuchArena index) = (Names request index × (32 ≤ index)) ⊎ Contains items (Replied NoArena)
CauseIn desk request items (Busy others flights threads) = Empties request × Contains items (Replied (replies.Busy others flights threads))
CauseIn desk request items NoMemory = Contains items Starved
CauseIn desk request items ArenasFull = FullCause request items
CauseIn desk request items Automatic = AutomaticCause request
CauseIn desk request items (NoCache slot) = slot_of request ≡ Some slot
CauseIn desk request items CachesFull = MakesCache request × (free_slot desk.set ≡ None)

-- why a request of a client that had this at its start had its answer after these items: one that uses an explicit cache is as one of
-- the client's own cache, in whose place that is, unless the client doesn't have it
abbrev pub CauseOf : DeskFacts → Request → List Item → Answered → Type 0
CauseOf desk request items (NoCache slot) = (slot_of request ≡ Some slot) × (has_cache slot desk ≡ false)
CauseOf desk request items answer = CauseIn (ready request desk) (meant request desk) items answer

-- every answer has its cause among what this very call was fed
abbrev pub AnswersHaveCauses : Type 0
AnswersHaveCauses = (c : ℕ) (request : Request) (desk : DeskFacts) (items : List Item) (answer : Answered)
    → AllCame c (begin request desk) items → (run (begin request desk) items).stage.next ≡ Ends answer → CauseOf desk request items answer
