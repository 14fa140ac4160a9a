-- How a call changes what its client has.
use Rattle.std.specs.Prelude.{ℕ, ◌+◌, ◌-◌, ◌*◌, ◌^◌, Bool, true, false, not, min, List, [], ◌∷◌, Option, None, Some, if◌then◌else◌, map}
use Rattle.std.specs.List.{range_with_len}
use Rattle.size_classes.specs.Classes.{size_at}
use Rattle.call_plan.specs.Clients.{discarding, has_cache, swapping, empty_handed, gain_held, gaining, gave, held_again, holding, kept, reclassing, swapped_back}
use Rattle.call_plan.specs.Words.{Request, Malloc, Free, MallocIn, FreeIn, Flush, Cache, FlushCache, EndCache, Item, Replied, Region, Finished, Answered, Ok, Wish, Leaves, TurnPoint, Filling, Landing, Giving, Changing, Resetting, Destroying, Publishing, Owning, AskPoint, Cutting, Joining, Turns, Asks, Next, Go, Ends, Reply, Noted, Cut, Landed, NextFlight, Purge, Regions, Owned, Held, DeskFacts, caching, freeing}

-- a region of an arena
abbrev pub held_region : ℕ → ℕ → ℕ → Held
held_region arena class addr = record { addr = addr; class = class; arena = arena }

-- the regions at these addresses are cached, the first one last
abbrev pub sharing : ℕ → ℕ → List ℕ → DeskFacts → DeskFacts
sharing arena class [] desk = desk
sharing arena class (addr ∷ addrs) desk = caching (held_region arena class addr) (sharing arena class addrs desk)

-- the address of a region of a class at a place behind the first one, which is a number of 64 bits
abbrev pub address_behind : ℕ → ℕ → ℕ → ℕ
address_behind first class place = min (first + size_at class * place) (2 ^ 64 - 1)

-- the addresses of the regions that landed but for the first one
abbrev pub landed_behind : ℕ → ℕ → ℕ → List ℕ
landed_behind first class count = map (address_behind first class) (range_with_len 1 (count - 1))

-- a region that was got takes the place of the one in hand, if that is wanted
abbrev pub taking_place : Wish → Held → DeskFacts → DeskFacts
taking_place wish region desk = if wish.moves then gaining region desk else desk

-- what the client has after the reply to a turn of an arena. Of the regions that came the lowest is handed out, or takes the place
-- of the one in hand, and the others are cached. Regions are gone once they went back or are published. What it held of an arena is gone with a reset
abbrev pub desk_turned : DeskFacts → ℕ → TurnPoint → Reply → DeskFacts
desk_turned desk arena (Filling wish count) (Regions (addr ∷ others)) = taking_place wish (held_region arena wish.class addr) (sharing arena wish.class others desk)
desk_turned desk arena (Landing wish span) (Landed first count) = taking_place wish (held_region arena wish.class first) (sharing arena wish.class (landed_behind first wish.class count) desk)
desk_turned desk arena (Giving addrs) (NextFlight next) = gave arena desk
desk_turned desk arena (Changing setting (Leaves old)) Noted = record desk { arena = arena }
desk_turned desk arena (Resetting cached) Noted = discarding arena desk
desk_turned desk arena (Resetting cached) (Purge lazy) = discarding arena desk
desk_turned desk arena (Destroying cached) Noted = discarding arena desk
desk_turned desk arena (Publishing addr) Noted = empty_handed desk
desk_turned desk arena (Owning addr true past) (Owned class) = freeing (held_region arena class addr) desk
desk_turned desk arena point reply = desk

-- what the client has after the reply to the turn that took an answer in: the region in hand has its class from then on
abbrev pub desk_told : DeskFacts → AskPoint → Reply → DeskFacts
desk_told desk (Cutting resize) (Cut high) = reclassing resize.class desk
desk_told desk (Joining resize span) (Landed first count) = reclassing resize.class desk
desk_told desk point reply = desk

-- what the client has after an item
abbrev pub desk_fed : DeskFacts → ℕ → Next → Item → DeskFacts
desk_fed desk arena (Go (Turns point)) (Replied reply) = desk_turned desk arena point reply
desk_fed desk arena (Go (Asks point (Some asked))) (Replied reply) = desk_told desk point reply
desk_fed desk arena next item = desk

-- a cache that was to be on or off is so
abbrev pub switched : Request → DeskFacts → DeskFacts
switched (Cache on) desk = record desk { caches = on }
switched request desk = desk

-- where one was gained, the region in hand is cached, if one is, and the one gained is held; else a region is held that was got
abbrev pub region_ended : Option Held → Held → DeskFacts → DeskFacts
region_ended None region desk = holding region desk
region_ended (Some gained) region desk = gain_held (kept desk)

-- what the client has once its call has ended: a region that it got or gained is held; what is still in hand is cached where all is
-- done, and else held again
abbrev pub desk_ended : Request → ℕ → Answered → DeskFacts → DeskFacts
desk_ended request arena (Ok (Region addr class)) desk = region_ended desk.gained (held_region arena class addr) desk
desk_ended request arena (Ok Finished) desk = switched request (gain_held (kept desk))
desk_ended request arena answer desk = gain_held (held_again desk)

-- all that was wanted is done
abbrev pub is_done : Answered → Bool
is_done (Ok Finished) = true
is_done answer = false

-- what the client has where its call stands now: where it has ended, the client's own cache is in its place again
abbrev pub desk_closed : Request → ℕ → Next → DeskFacts → DeskFacts
desk_closed request arena (Ends answer) desk = swapped_back (is_done answer) (desk_ended request arena answer desk)
desk_closed request arena next desk = desk

-- whether the request gives all cached regions back
abbrev pub flushes : Request → Bool
flushes Flush = true
flushes (Cache on) = not on
flushes (FlushCache slot) = true
flushes (EndCache slot) = true
flushes request = false

-- the explicit cache that a request uses, by its identifier
abbrev pub slot_of : Request → Option ℕ
slot_of (MallocIn slot size) = Some slot
slot_of (FreeIn slot addr) = Some slot
slot_of (FlushCache slot) = Some slot
slot_of (EndCache slot) = Some slot
slot_of request = None

-- a request as it is of the cache that stands in the place of the client's own one
abbrev pub plain : Request → Request
plain (MallocIn slot size) = Malloc size
plain (FreeIn slot addr) = Free addr
plain (FlushCache slot) = Flush
plain (EndCache slot) = Flush
plain request = request

-- whether the explicit cache that a request uses goes in the end
abbrev pub ends_cache : Request → Bool
ends_cache (EndCache slot) = true
ends_cache request = false

-- whether an explicit cache is used, by its identifier, and the client has it
abbrev pub has_slot_of : Option ℕ → DeskFacts → Bool
has_slot_of None desk = false
has_slot_of (Some slot) desk = has_cache slot desk

-- whether a request uses an explicit cache that the client has
abbrev pub swaps : Request → DeskFacts → Bool
swaps request desk = has_slot_of (slot_of request) desk

-- a request as it is carried out: in the explicit cache that it uses, if the client has that
abbrev pub meant : Request → DeskFacts → Request
meant request desk = if swaps request desk then plain request else request

-- the explicit cache that is told to be used is swapped with the client's own one
abbrev pub swapping_of : Option ℕ → Bool → DeskFacts → DeskFacts
swapping_of None ends desk = desk
swapping_of (Some slot) ends desk = if has_cache slot desk then swapping slot ends desk else desk

-- what the client has where a request is to begin: the explicit cache that it uses is in the place of its own one
abbrev pub ready : Request → DeskFacts → DeskFacts
ready request desk = swapping_of (slot_of request) (ends_cache request) desk
