-- The explicit caches of a client: a place for each identifier, with a cache or without one.
use Rattle.std.specs.Prelude.{ℕ, nat_lt, if◌then◌else◌, List, [], ◌∷◌, ◌++◌, length, slice_index_or, slice_set, Option, None, Some}
use Rattle.std.specs.List.{flat_map, position}
use Rattle.std.specs.Option.{is_none}
use Rattle.thread_cache.specs.declared.Held.{Held}
use Rattle.thread_cache.specs.Caches.{all_cached, no_regions}

-- a place of a set: the regions of its cache by class, or nothing where no cache has that identifier
abbrev pub Place : Type 0
Place = Option (List (List Held))

-- the cache with an identifier
abbrev pub cache_at : ℕ → List Place → Place
cache_at slot set = slice_index_or set slot None

-- the first free place, or a further one where there may be one
abbrev pub slot_by : Option ℕ → List Place → Option ℕ
slot_by (Some slot) set = Some slot
slot_by None set = if nat_lt (length set) 8 then Some (length set) else None

-- the least identifier that a further cache may have
abbrev pub free_slot : List Place → Option ℕ
free_slot set = slot_by (position is_none set) set

-- the set with an empty cache at that place
abbrev pub made_by : Option ℕ → List Place → List Place
made_by (Some slot) set = slice_set set slot (Some no_regions)
made_by None set = if nat_lt (length set) 8 then set ++ Some no_regions ∷ [] else set

-- the set with one more cache, which is empty, where there may be one
abbrev pub made : List Place → List Place
made set = made_by (position is_none set) set

-- the regions at a place
abbrev pub cached_at : Place → List Held
cached_at None = []
cached_at (Some lists) = all_cached lists

-- the regions of all caches of a set
abbrev pub explicit : List Place → List Held
explicit set = flat_map cached_at set
