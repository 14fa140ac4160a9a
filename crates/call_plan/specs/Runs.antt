-- The run of a call: where a request begins, and the fold of the table over what the call is fed.
use Rattle.std.specs.Prelude.{ℕ, ◌/◌, ◌^◌, ◌==◌, ◌&&◌, Bool, true, false, not, nat_le, nat_lt, max, min, ℤ, negsuc, List, [], ◌∷◌, Option, None, Some, if◌then◌else◌}
use Rattle.std.specs.List.{list_any, range_with_len}
use Rattle.std.specs.Ordering.{int_eq}
use Rattle.call_plan.specs.Clients.{not_holding, with_new_cache}
use Rattle.call_plan.specs.Words.{Request, Malloc, Memalign, Free, FreeForeign, Publish, Take, Flush, Cache, PurgeAll, Decay, Time, Reset, Destroy, Create, Bind, HookBox, GrowLimit, Realloc, MallocIn, FreeIn, NewCache, FlushCache, EndCache, Slot, NoCache, CachesFull, free_slot, Item, Region, Finished, Ok, TooLarge, BadAlign, NotHeld, NoSuchArena as NoArena, Automatic}
use Rattle.call_plan.specs.Words.{Wish, Resize, Visit, Change, Stops, Visits, Leaves, TurnPoint, Filling, Looking, Giving, Taking, Advancing, Changing, Making, Resetting, Destroying, Publishing, Owning, Widening, Narrowing, Turns, Next, Go, InArena, NextBatch, Move, NotLive, Ends, Nowhere, Stage}
use Rattle.call_plan.specs.Words.{Rest, Setting, DirtyMs, MuzzyMs, SetBox, SetBound, SetLimit, MakeLive, Held, DeskFacts, aligned_for, class_for, pages_at, slots_at, most_regions, BatchFacts, batch_of, cached_of, freeing, gaining, going, going_with, held_at, hit, hitting, reclassing, resizing}
use Rattle.call_plan.specs.Table.{step}
use Rattle.call_plan.specs.Desks.{desk_closed, desk_fed, flushes, meant, ready}
use Rattle.space_model.specs.declared.Rest.TheVariants as rests

-- ---- where a request begins

-- a call stands at this, in the arena with this index
abbrev pub stage : ℕ → Next → Stage
stage arena next = record { arena = arena; next = next }

-- a turn of the arena with this index comes first, if there may be one
abbrev pub first_turn : ℕ → TurnPoint → Stage
first_turn arena point = stage arena (if nat_lt arena 32 then Go (Turns point) else Ends (NoArena arena))

-- arena 0 stays
abbrev pub first_turn_but_0 : ℕ → TurnPoint → Stage
first_turn_but_0 arena point = if arena == 0 then stage arena (Ends Automatic) else first_turn arena point

-- so many regions of a class, in an extent at an alignment in pages, of which one takes the place of the one in hand or none does
abbrev pub wish_for : Bool → ℕ → ℕ → ℕ → Wish
wish_for moves class align count = record { pages = pages_at class; align = align; class = class; count = count; moves = moves }

-- how many regions of a class are got at once: of a small one half as many as its slots, where the client's cache is on
abbrev pub share : ℕ → DeskFacts → ℕ
share class desk = if desk.caches && nat_lt class 36 then slots_at class / 2 else 1

-- regions of a small class are looked for in the slabs first. An extent serves no more of them than its slab has
abbrev pub get : Bool → ℕ → ℕ → ℕ → Next
get moves class align count =
    if nat_lt class 36
    then Go (Turns (Filling (wish_for moves class align (min count (most_regions class))) count))
    else Go (Turns (Looking (wish_for moves class align (min count (most_regions class)))))

-- a region of a class at an alignment in pages: the one that was hit in the cache, or one of those that are got
abbrev pub begin_get : ℕ → ℕ → Option Held → DeskFacts → Stage
begin_get class align (Some region) desk = stage region.arena (Ends (Ok (Region region.addr class)))
begin_get class align None desk = stage desk.arena (get false class align (share class desk))

-- a malloc of too many bytes ends at once; for another one a region of its class is got
abbrev pub begin_malloc : ℕ → DeskFacts → Stage
begin_malloc size desk =
    if nat_lt (2 ^ 35) size then stage desk.arena (Ends TooLarge) else begin_get (class_for size) 1 (hit (class_for size) desk) desk

-- whether an alignment in bytes may be asked for: it is one of the powers of two from 1 to 2 ^ 30
unfoldable pub is_alignment : ℕ → Bool
is_alignment align = list_any (λ k. align == 2 ^ k) (range_with_len 0 31)

-- the alignment in pages of an extent for regions at one in bytes
abbrev pub page_align : ℕ → ℕ
page_align align = max 1 (align / 4096)

-- an aligned region of a large class is never taken from the cache
abbrev pub small_hit : ℕ → DeskFacts → Option Held
small_hit class desk = if nat_lt class 36 then hit class desk else None

-- a malloc at an alignment that is none, or of too many bytes, ends at once; for another one a region of the class for both is got
abbrev pub begin_memalign : ℕ → ℕ → DeskFacts → Stage
begin_memalign align size desk =
    if not (is_alignment align) then stage desk.arena (Ends BadAlign)
    else if nat_lt (2 ^ 35) size then stage desk.arena (Ends TooLarge)
    else begin_get (aligned_for size align) (page_align align) (small_hit (aligned_for size align) desk) desk

-- all is done, and the region that was gained is the answer, if one is told
abbrev pub all_done : ℕ → Option Held → Stage
all_done arena None = stage arena (Ends (Ok Finished))
all_done arena (Some region) = stage region.arena (Ends (Ok (Region region.addr region.class)))

-- the batch goes back, or where there is none, all is done
abbrev pub batch_goes : ℕ → Option Held → Option BatchFacts → Stage
batch_goes arena gained None = all_done arena gained
batch_goes arena gained (Some batch) = stage batch.arena (Go (Turns (Giving batch.addrs)))

-- the region that a request gives in the end, of all that the client has: the one gained, where that is wanted
abbrev pub gives : Request → DeskFacts → Option Held
gives (Realloc addr size) desk = desk.gained
gives request desk = None

-- what is to go back does, and then all is done
abbrev pub all_goes : Request → DeskFacts → ℕ → Stage
all_goes request desk arena = batch_goes arena (gives request desk) (batch_of (going (flushes request) desk))

-- a held region is freed: what is to go back for it does, if anything is
abbrev pub begin_free : ℕ → Option Held → DeskFacts → Stage
begin_free addr None desk = stage 0 (Ends (NotHeld addr))
begin_free addr (Some region) desk = batch_goes region.arena None (batch_of (going_with (freeing region desk).hand false desk))

-- or is published
abbrev pub begin_publish : ℕ → Option Held → Stage
begin_publish addr None = stage 0 (Ends (NotHeld addr))
begin_publish addr (Some region) = stage region.arena (Go (Turns (Publishing region.addr)))

-- all cached regions go back
abbrev pub begin_flush : DeskFacts → Stage
begin_flush desk = batch_goes desk.arena None (batch_of (going true desk))

-- a cache is flushed before it is off
abbrev pub begin_cache : Bool → DeskFacts → Stage
begin_cache true desk = stage desk.arena (Ends (Ok Finished))
begin_cache false desk = begin_flush desk

-- the setting of a decay time
abbrev pub decay_setting : Rest → ℤ → ℕ → Setting
decay_setting rests.Dirty ms now = DirtyMs ms now
decay_setting rests.Muzzy ms now = MuzzyMs ms now
decay_setting rests.Retained ms now = MuzzyMs ms now

-- the extents of the list, all of them
abbrev pub whole_visit : Rest → Visit
whole_visit rest = record { rest = rest; keep = 0; other = None; told = false }

-- a new time purges, unless it is never
abbrev pub after_time : Rest → ℤ → Change
after_time rest ms = if int_eq ms (negsuc 0) then Stops else Visits (whole_visit rest)

-- the muzzy extents and then the dirty ones, all of them
abbrev pub purge_visit : Visit
purge_visit = record { rest = rests.Muzzy; keep = 0; other = Some 0; told = false }

-- another arena is bound first, and then the client leaves its own
abbrev pub begin_bind : ℕ → ℕ → Stage
begin_bind arena index = if index == arena then stage arena (Ends (Ok Finished)) else first_turn index (Changing SetBound (Leaves arena))

-- the setting alone
abbrev pub begin_set : ℕ → Setting → Stage
begin_set index setting = first_turn index (Changing setting Stops)

-- ---- a region that is to have another class

-- the client has this once a region of the class, if one is told to be cached, has taken the place of the one in hand
abbrev pub desk_moved : ℕ → Option Held → DeskFacts → DeskFacts
desk_moved class None desk = desk
desk_moved class (Some region) desk = gaining (record region { class = class }) (hitting class desk)

-- a region of the class takes the place of the one in hand: one that is cached, or one of those that are got
abbrev pub move_stage : Request → ℕ → ℕ → Option Held → DeskFacts → Stage
move_stage request arena class (Some region) desk = all_goes request (desk_moved class (Some region) desk) arena
move_stage request arena class None desk = stage desk.arena (get true class 1 (share class desk))

-- whether two classes are large ones
abbrev pub are_large : ℕ → ℕ → Bool
are_large one other = nat_le 36 one && nat_le 36 other && nat_lt other 121

-- the region with its pages, which is to have the class
abbrev pub resize_to : ℕ → Held → Resize
resize_to class region = record { addr = region.addr; pages = pages_at region.class; class = class }

-- it is cut, or widened
abbrev pub resize_at : ℕ → Held → TurnPoint
resize_at class region = if nat_lt class region.class then Narrowing (resize_to class region) else Widening (resize_to class region)

-- a region in hand gets the class: it has it, it is resized in place, or another one takes its place
abbrev pub begin_resize : Request → ℕ → Held → DeskFacts → Stage
begin_resize request class region desk =
    if class == region.class then all_done region.arena (Some region)
    else if are_large class region.class then stage region.arena (Go (Turns (resize_at class region)))
    else move_stage request region.arena class (hit class desk) desk

-- a held region is resized, unless too many bytes are wanted
abbrev pub begin_realloc : ℕ → ℕ → Option Held → DeskFacts → Stage
begin_realloc addr size None desk = stage 0 (Ends (NotHeld addr))
begin_realloc addr size (Some region) desk =
    if nat_lt (2 ^ 35) size then stage desk.arena (Ends TooLarge)
    else begin_resize (Realloc addr size) (class_for size) region (resizing addr region desk)

-- the identifier of one more explicit cache is told, if there may be one
abbrev pub begin_new_cache : Option ℕ → DeskFacts → Stage
begin_new_cache None desk = stage desk.arena (Ends CachesFull)
begin_new_cache (Some slot) desk = stage desk.arena (Ends (Ok (Slot slot)))

-- where a request begins of a client, by what it has. One that uses an explicit cache ends at once, unless that is in the place of the
-- client's own one, so that it is as one of that
abbrev pub begin_stage : Request → DeskFacts → Stage
begin_stage (Malloc size) desk = begin_malloc size desk
begin_stage (Memalign align size) desk = begin_memalign align size desk
begin_stage (Free addr) desk = begin_free addr (held_at addr desk) desk
begin_stage (FreeForeign addr index) desk = first_turn index (Owning addr true false)
begin_stage (Publish addr) desk = begin_publish addr (held_at addr desk)
begin_stage (Take addr index) desk = first_turn index (Owning addr false false)
begin_stage Flush desk = begin_flush desk
begin_stage (Cache on) desk = begin_cache on desk
begin_stage (PurgeAll index) desk = first_turn index (Taking purge_visit None)
begin_stage (Decay index now) desk = first_turn index (Advancing now)
begin_stage (Time index rest ms now) desk = first_turn index (Changing (decay_setting rest ms now) (after_time rest ms))
begin_stage (Reset index) desk = first_turn_but_0 index (Resetting (cached_of index desk))
begin_stage (Destroy index) desk = first_turn_but_0 index (Destroying (cached_of index desk))
begin_stage (Create box_no dirty_ms muzzy_ms now) desk = first_turn 1 (Making 1 (MakeLive box_no dirty_ms muzzy_ms now))
begin_stage (Bind index) desk = begin_bind desk.arena index
begin_stage (HookBox index box_no) desk = begin_set index (SetBox box_no)
begin_stage (GrowLimit index chunks) desk = begin_set index (SetLimit chunks)
begin_stage NewCache desk = begin_new_cache (free_slot desk.set) desk
begin_stage (MallocIn slot size) desk = stage desk.arena (Ends (NoCache slot))
begin_stage (FreeIn slot addr) desk = stage desk.arena (Ends (NoCache slot))
begin_stage (FlushCache slot) desk = stage desk.arena (Ends (NoCache slot))
begin_stage (EndCache slot) desk = stage desk.arena (Ends (NoCache slot))
begin_stage (Realloc addr size) desk = begin_realloc addr size (held_at addr desk) desk

-- what the client has then: the region that was hit is cached no more
abbrev pub desk_got : ℕ → Option Held → DeskFacts → DeskFacts
desk_got class (Some region) desk = hitting class desk
desk_got class None desk = desk

-- the region that is freed is held no more
abbrev pub desk_freed : ℕ → Option Held → DeskFacts → DeskFacts
desk_freed addr None desk = desk
desk_freed addr (Some region) desk = freeing region (not_holding addr desk)

-- the region that is published is in hand
abbrev pub desk_published : ℕ → Option Held → DeskFacts → DeskFacts
desk_published addr None desk = desk
desk_published addr (Some region) desk = record (not_holding addr desk) { hand = Some region }

-- the region in hand that has the class is gained at once, and where neither it nor that is large, a cached one takes its place
abbrev pub desk_resized : ℕ → Held → DeskFacts → DeskFacts
desk_resized class region desk =
    if class == region.class then reclassing class desk
    else if are_large class region.class then desk
    else desk_moved class (hit class desk) desk

-- the region that is resized is in hand, unless too many bytes are wanted
abbrev pub desk_realloced : ℕ → ℕ → Option Held → DeskFacts → DeskFacts
desk_realloced addr size None desk = desk
desk_realloced addr size (Some region) desk =
    if nat_lt (2 ^ 35) size then desk else desk_resized (class_for size) region (resizing addr region desk)

-- what the client has where its request began
abbrev pub begin_desk : Request → DeskFacts → DeskFacts
begin_desk (Malloc size) desk = if nat_lt (2 ^ 35) size then desk else desk_got (class_for size) (hit (class_for size) desk) desk
begin_desk (Memalign align size) desk =
    if not (is_alignment align) then desk
    else if nat_lt (2 ^ 35) size then desk
    else desk_got (aligned_for size align) (small_hit (aligned_for size align) desk) desk
begin_desk (Free addr) desk = desk_freed addr (held_at addr desk) desk
begin_desk (Publish addr) desk = desk_published addr (held_at addr desk) desk
begin_desk NewCache desk = with_new_cache desk
begin_desk (Realloc addr size) desk = desk_realloced addr size (held_at addr desk) desk
begin_desk request desk = desk

-- A client in the middle of a call: what it wants, what it has, and where its call stands.
pub record Moment : Type 0 where
  pub request : Request
  pub desk : DeskFacts
  pub stage : Stage

-- where the call has ended, its client has what is to be had from it
abbrev pub closed : Request → DeskFacts → Stage → Moment
closed request desk at = record { request = request; desk = desk_closed request at.arena at.next desk; stage = at }

-- where a request begins of a client whose cache is the one that it uses
abbrev pub begun : Request → DeskFacts → Moment
begun request desk = closed request (begin_desk request desk) (begin_stage request desk)

-- where the request of a client begins: one that uses an explicit cache is as one of the client's own cache, in whose place that is
abbrev pub begin : Request → DeskFacts → Moment
begin request desk = begun (meant request desk) (ready request desk)

-- ---- where it goes

-- where a step leads from a point of the arena, by what the client has then
abbrev pub settle : Request → DeskFacts → ℕ → Next → Stage
settle request desk arena (Go point) = stage arena (Go point)
settle request desk arena (InArena index point) = stage index (Go point)
settle request desk arena NextBatch = all_goes request desk arena
settle request desk arena (Move class) = move_stage request arena class (hit class desk) desk
settle request desk arena NotLive = stage arena (Ends (NoArena arena))
settle request desk arena (Ends answer) = stage arena (Ends answer)
settle request desk arena Nowhere = stage arena Nowhere

-- where an item leads from where a call stands: nowhere, if that is no point
abbrev pub step_next : Next → Item → Next
step_next (Go point) item = step point item
step_next next item = Nowhere

-- what the client has where a step leads: a region that is cached may take the place of the one in hand
abbrev pub desk_led : DeskFacts → Next → DeskFacts
desk_led desk (Move class) = desk_moved class (hit class desk) desk
desk_led desk next = desk

-- the moment after a step, by what the client has then
abbrev pub moved : Request → DeskFacts → ℕ → Next → Moment
moved request desk arena next = closed request (desk_led desk next) (settle request desk arena next)

-- the moment after an item
abbrev pub after : Moment → Item → Moment
after at item = moved at.request (desk_fed at.desk at.stage.arena at.stage.next item) at.stage.arena (step_next at.stage.next item)

-- the moment after all items
abbrev pub run : Moment → List Item → Moment
run at [] = at
run at (item ∷ items) = run (after at item) items
