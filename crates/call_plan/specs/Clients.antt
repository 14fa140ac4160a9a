-- What a client has at each moment, and how that changes.
use Rattle.std.specs.Prelude.{ℕ, ◌+◌, ◌-◌, ◌/◌, ◌<◌, ◌≡◌, ◌⊎◌, ◌&&◌, Bool, true, false, nat_eq, nat_le, nat_lt, min, if◌then◌else◌, List, [], ◌∷◌, length, map, filter, fold, take, slice_get, slice_set, Option, None, Some, count_by, is_some}
use Rattle.std.specs.List.{Contains, flat_map, list_all}
use Rattle.std.specs.Map.{lookup}
use Rattle.std.specs.Option.{is_none, option_map, option_map_or}
use Rattle.std.specs.Ordering.{nat_cmp}
use Rattle.std.specs.BTreeSet.{insert_key}
use Rattle.indexmap.specs.IndexMap.{insert_entry, swap_remove_entry}
use Rattle.size_classes.specs.Classes.{slots_at}
use Rattle.thread_cache.specs.declared.Held.{Held}
use Rattle.call_plan.specs.declared.batches.Batch.{Batch}
use Rattle.thread_cache.specs.Caches.{cached_in, gone_from, is_elsewhere, is_empty, is_in_arena, put_in}
use Rattle.cache_set.specs.Sets.{Place, cache_at, explicit, made}
use Rattle.call_plan.specs.declared.clients.Swapped.{Swapped}

-- What a client has: the arena from which it allocates, whether its cache is on, the cached regions by class, the regions
-- that it holds by address, the one in hand, which is neither held nor cached while a call gives it away or resizes it, and the
-- one gained in its place, which is held once the call has ended. Beside that it has explicit caches by identifier. One of them
-- may be swapped with the client's own cache: its call uses that one then as its cache, and the own one stands in its place.
pub record DeskFacts : Type 0 where
  pub arena : ℕ
  pub caches : Bool
  pub cached : List (List Held)
  pub held : List (ℕ × Held)
  pub hand : Option Held
  pub gained : Option Held
  pub set : List Place
  pub swapped : Option Swapped

-- what contracts see of a desk: what the client has, and for how many more held regions there is room
pub record DeskSeen : Type 0 where
  pub facts : DeskFacts
  pub room : ℕ

-- ---- what is held

-- the region that is held at an address
abbrev pub held_at : ℕ → DeskFacts → Option Held
held_at addr desk = lookup (nat_eq addr) desk.held

-- the region is held from now on
abbrev pub holding : Held → DeskFacts → DeskFacts
holding region desk = record desk { held = insert_entry nat_eq desk.held region.addr region }

-- none is held at the address, to whose place the last one comes
abbrev pub not_holding : ℕ → DeskFacts → DeskFacts
not_holding addr desk = record desk { held = swap_remove_entry (nat_eq addr) desk.held }

-- none of the arena is held
abbrev pub discarding : ℕ → DeskFacts → DeskFacts
discarding arena desk = record desk { held = filter (λ (e : ℕ × Held). is_elsewhere arena e.1) desk.held }

-- ---- what is cached

-- whether regions of the class are cached
abbrev pub is_cacheable : ℕ → DeskFacts → Bool
is_cacheable class desk = desk.caches && nat_lt class 41

-- whether one more region of the class can be cached
abbrev pub has_slot : ℕ → DeskFacts → Bool
has_slot class desk = nat_lt (length (cached_in desk.cached class)) (slots_at class)

-- the region is cached, as the last of its class, where that has a slot left
abbrev pub caching : Held → DeskFacts → DeskFacts
caching region desk =
    if nat_lt region.class 41
    then record desk { cached = slice_set desk.cached region.class (put_in region.class region (cached_in desk.cached region.class)) }
    else desk

-- a region that is freed is cached, or in hand until it went back or has a slot
abbrev pub freeing : Held → DeskFacts → DeskFacts
freeing region desk =
    if is_cacheable region.class desk && has_slot region.class desk then caching region desk else record desk { hand = Some region }

-- how many regions of the class are cached but for the last one
abbrev pub before_last : ℕ → DeskFacts → ℕ
before_last class desk = length (cached_in desk.cached class) - 1

-- the region of the class that was cached last, if regions of the class are cached
abbrev pub hit : ℕ → DeskFacts → Option Held
hit class desk = if is_cacheable class desk then slice_get (cached_in desk.cached class) (before_last class desk) else None

-- it is cached no more
abbrev pub hitting : ℕ → DeskFacts → DeskFacts
hitting class desk =
    record desk { cached = slice_set desk.cached class (take (before_last class desk) (cached_in desk.cached class)) }

-- how many regions of an arena are cached, in the client's own cache or in explicit ones
abbrev pub cached_of : ℕ → DeskFacts → ℕ
cached_of arena desk = count_by (is_in_arena arena) (flat_map (λ list. list) desk.cached) + count_by (is_in_arena arena) (explicit desk.set)

-- ---- what goes back

-- how many regions of a class go back where it was full: those put first, but for as many as half of the slots, rounded up
abbrev pub older_count : ℕ → DeskFacts → ℕ
older_count class desk = length (cached_in desk.cached class) - (slots_at class - slots_at class / 2)

-- the regions that are to go back for the one in hand: itself, or the older half of its class where it is to be cached then
abbrev pub going_for : Held → DeskFacts → List Held
going_for region desk =
    if is_cacheable region.class desk
    then take (older_count region.class desk) (cached_in desk.cached region.class)
    else region ∷ []

-- where none is in hand, all cached ones are to go, or none
abbrev pub going_with : Option Held → Bool → DeskFacts → List Held
going_with (Some region) all desk = going_for region desk
going_with None true desk = flat_map (λ list. list) desk.cached
going_with None false desk = []

-- the regions that are to go back
abbrev pub going : Bool → DeskFacts → List Held
going all desk = going_with desk.hand all desk

-- the lesser of an index, if there is one, and that of a region's arena
abbrev pub lesser : Option ℕ → Held → Option ℕ
lesser least region = Some (option_map_or (λ arena. min arena region.arena) least region.arena)

-- the least index of an arena of which there are regions
abbrev pub least_arena : List Held → Option ℕ
least_arena regions = fold lesser None regions

-- the address of a region of the arena among rising ones, each once
abbrev pub added : ℕ → List ℕ → Held → List ℕ
added arena addrs region = if is_in_arena arena region then insert_key nat_cmp addrs region.addr else addrs

-- the addresses of the regions of an arena, rising, each once
abbrev pub addrs_in : ℕ → List Held → List ℕ
addrs_in arena regions = fold (added arena) [] regions

-- Regions of one arena that go back, by their addresses.
pub record BatchFacts : Type 0 where
  pub arena : ℕ
  pub addrs : List ℕ

-- the next batch that goes back: the regions of the least arena
abbrev pub batch_of : List Held → Option BatchFacts
batch_of regions = option_map (λ arena. record { arena = arena; addrs = addrs_in arena regions }) (least_arena regions)

-- whether addresses rise, from this one on
abbrev pub rising_from : ℕ → List ℕ → Bool
rising_from least [] = true
rising_from least (addr ∷ addrs) = nat_le least addr && rising_from (addr + 1) addrs

-- A batch of some regions has addresses, which rise, and each is that of one of them in its arena: what is so of all these is
-- so of all addresses.
pub record IsBatch (regions : List Held) (batch : BatchFacts) : Type 0 where
  pub some : 0 < length batch.addrs
  pub rise : rising_from 0 batch.addrs ≡ true
  pub all : (test : ℕ → Bool) → ((r : Held) → Contains regions r → r.arena ≡ batch.arena → test r.addr ≡ true) → list_all test batch.addrs ≡ true

-- every batch is one
abbrev pub BatchesRise : Type 0
BatchesRise = (regions : List Held) (batch : BatchFacts) → batch_of regions ≡ Some batch → IsBatch regions batch

-- what a batch says
abbrev pub batch_facts : Batch → BatchFacts
batch_facts batch = record { arena = batch.arena; addrs = batch.addrs.items }

-- after the batch of an arena went back that goes for the region in hand
abbrev pub gave_for : Held → ℕ → DeskFacts → DeskFacts
gave_for region arena desk =
    if is_cacheable region.class desk
    then record desk { cached = slice_set desk.cached region.class (gone_from arena (older_count region.class desk) (cached_in desk.cached region.class)) }
    else record desk { hand = None }

-- after the batch of an arena went back, by what is in hand: where nothing is, all cached regions of the arena are gone
abbrev pub gave_with : Option Held → ℕ → DeskFacts → DeskFacts
gave_with (Some region) arena desk = gave_for region arena desk
gave_with None arena desk = record desk { cached = map (filter (is_elsewhere arena)) desk.cached }

-- after the batch of an arena went back
abbrev pub gave : ℕ → DeskFacts → DeskFacts
gave arena desk = gave_with desk.hand arena desk

-- ---- the region in hand

-- nothing is in hand
abbrev pub empty_handed : DeskFacts → DeskFacts
empty_handed desk = record desk { hand = None }

-- the region that is told to be in hand, if one is, is cached, and none is in hand then
abbrev pub kept_with : Option Held → DeskFacts → DeskFacts
kept_with None desk = desk
kept_with (Some region) desk = empty_handed (caching region desk)

-- the region in hand is cached
abbrev pub kept : DeskFacts → DeskFacts
kept desk = kept_with desk.hand desk

-- the region that is told to be in hand, if one is, is held again, and none is in hand then
abbrev pub held_again_with : Option Held → DeskFacts → DeskFacts
held_again_with None desk = desk
held_again_with (Some region) desk = empty_handed (holding region desk)

-- the region in hand is held again
abbrev pub held_again : DeskFacts → DeskFacts
held_again desk = held_again_with desk.hand desk

-- ---- the region gained

-- the region that is held at an address is in hand instead, and none is gained
abbrev pub resizing : ℕ → Held → DeskFacts → DeskFacts
resizing addr region desk = record (not_holding addr desk) { hand = Some region; gained = None }

-- what is in hand once a region was freed where nothing was: the region, unless it is cached at once
abbrev pub freed_hand : Held → DeskFacts → Option Held
freed_hand region desk = if is_cacheable region.class desk && has_slot region.class desk then None else Some region

-- the region that is told to be in hand, if one is, is freed
abbrev pub freed_with : Option Held → DeskFacts → DeskFacts
freed_with None desk = desk
freed_with (Some region) desk = freeing region (empty_handed desk)

-- a region is gained, and the one in hand, if one is, is freed
abbrev pub gaining : Held → DeskFacts → DeskFacts
gaining region desk = freed_with desk.hand (record desk { gained = Some region })

-- the region that is told to be in hand, if one is, is gained with a class, and none is in hand then
abbrev pub reclassing_with : Option Held → ℕ → DeskFacts → DeskFacts
reclassing_with None class desk = desk
reclassing_with (Some region) class desk = record desk { hand = None; gained = Some (record region { class = class }) }

-- the region in hand has a class from now on
abbrev pub reclassing : ℕ → DeskFacts → DeskFacts
reclassing class desk = reclassing_with desk.hand class desk

-- the region that is told to be gained, if one is, is held, and none is gained then
abbrev pub gain_held_with : Option Held → DeskFacts → DeskFacts
gain_held_with None desk = desk
gain_held_with (Some region) desk = record (holding region desk) { gained = None }

-- the region that was gained is held
abbrev pub gain_held : DeskFacts → DeskFacts
gain_held desk = gain_held_with desk.gained desk

-- once a batch went back, fewer regions are to go
abbrev pub BatchesEnd : Type 0
BatchesEnd = (desk : DeskFacts) (all : Bool) (batch : BatchFacts) → (desk.hand ≡ None) ⊎ (all ≡ false) → batch_of (going all desk) ≡ Some batch
    → length (going all (gave batch.arena desk)) < length (going all desk)

-- ---- explicit caches

-- the client has one more explicit cache, if there may be one
abbrev pub with_new_cache : DeskFacts → DeskFacts
with_new_cache desk = record desk { set = made desk.set }

-- whether the client has an explicit cache with the identifier, and none of them is swapped with its own one
abbrev pub has_cache : ℕ → DeskFacts → Bool
has_cache slot desk = is_none desk.swapped && is_some (cache_at slot desk.set)

-- the explicit cache that is told, if one is, is on in the place of the client's own one, which stands in its place meanwhile
abbrev pub swapping_with : Place → ℕ → Bool → DeskFacts → DeskFacts
swapping_with None slot ends desk = desk
swapping_with (Some cache) slot ends desk = record desk {
  caches = true;
  cached = cache;
  set = slice_set desk.set slot (Some desk.cached);
  swapped = Some (record { slot = slot; caches = desk.caches; ends = ends });
}

-- the explicit cache with an identifier is on in the place of the client's own one
abbrev pub swapping : ℕ → Bool → DeskFacts → DeskFacts
swapping slot ends desk = swapping_with (cache_at slot desk.set) slot ends desk

-- what is left in the place of an explicit cache that was swapped: nothing, where it was to go, all is done, and it is empty
abbrev pub left_of : Swapped → Bool → List (List Held) → Place
left_of swap done cache = if swap.ends && done && is_empty cache then None else Some cache

-- the client's own cache, if one is told, is in its place again
abbrev pub swapped_back_with : Place → Swapped → Bool → DeskFacts → DeskFacts
swapped_back_with None swap done desk = record desk { caches = swap.caches; swapped = None }
swapped_back_with (Some own) swap done desk =
    record desk { caches = swap.caches; cached = own; set = slice_set desk.set swap.slot (left_of swap done desk.cached); swapped = None }

-- where a swap is told, it is taken back
abbrev pub swapped_back_of : Option Swapped → Bool → DeskFacts → DeskFacts
swapped_back_of None done desk = desk
swapped_back_of (Some swap) done desk = swapped_back_with (cache_at swap.slot desk.set) swap done desk

-- where an explicit cache was swapped with the client's own one, each is in its place again, once all was done or not
abbrev pub swapped_back : Bool → DeskFacts → DeskFacts
swapped_back done desk = swapped_back_of desk.swapped done desk
