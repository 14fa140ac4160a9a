-- A cache of regions: one list for each class, in the order in which the regions were put.
use Rattle.std.specs.Prelude.{◌≡◌, ℕ, ◌==◌, ◌≤◌, nat_lt, Bool, not, if◌then◌else◌, List, [], ◌∷◌, ◌++◌, drop, filter, length, map, remove, replicate, take, slice_index_or, slice_set, Option, Some, None, vec_capacity}
use Rattle.std.specs.List.{flat_map, list_any, position, range_with_len}
use Rattle.size_classes.specs.Classes.{slots_at}
use Rattle.thread_cache.specs.declared.Held.{Held}
use Rattle.thread_cache.specs.declared.stacks.Put.{Put}
use Rattle.thread_cache.specs.declared.stacks.Put.TheVariants.{Kept, Full}
use Rattle.thread_cache.specs.declared.stacks.Stack.TheInside.{Inside}

-- the cached regions of one class, in the order in which they were put
pub record Listed : Type 0 where
  pub class : ℕ
  pub regions : List Held

-- callers see the class and its regions
abbrev pub shown : ℕ → List Held → Listed
shown class regions = record { class = class; regions = regions }

-- there are at most as many regions as slots, for all of which there is room
pub record IsStack (stack : Inside) : Type 0 where
  pub small : stack.class ≤ 40
  pub within : length stack.regions.items ≤ slots_at stack.class
  pub room : slots_at stack.class ≤ vec_capacity stack.regions

-- the addresses of regions
abbrev pub addrs_of : List Held → List ℕ
addrs_of regions = map (λ (held : Held). held.addr) regions

-- whether a region begins at the address
abbrev pub is_at : ℕ → Held → Bool
is_at addr held = held.addr == addr

-- the regions of a class after one was put: it comes last where a slot is left
abbrev pub put_in : ℕ → Held → List Held → List Held
put_in class held regions = if nat_lt (length regions) (slots_at class) then regions ++ held ∷ [] else regions

-- what is told of a region that was put
abbrev pub told_in : ℕ → Held → List Held → Put
told_in class held regions = if nat_lt (length regions) (slots_at class) then Kept else Full held

-- a list without the place that was found
abbrev pub without_place : {X : Type 0} → List X → Option ℕ → List X
without_place xs None = xs
without_place xs (Some i) = remove xs i

-- whether a region is of an arena
abbrev pub is_in_arena : ℕ → Held → Bool
is_in_arena arena region = region.arena == arena

-- all regions of a cache, class by class
abbrev pub all_cached : List (List Held) → List Held
all_cached lists = flat_map (λ list. list) lists

-- whether a cache has no region
abbrev pub is_empty : List (List Held) → Bool
is_empty lists = not (list_any (λ list. nat_lt 0 (length list)) lists)

-- an empty cache
abbrev pub no_regions : List (List Held)
no_regions = replicate 41 []

-- whether a region is of another arena
abbrev pub is_elsewhere : ℕ → Held → Bool
is_elsewhere arena held = not (held.arena == arena)

-- of the first so many regions those of the arena are gone
abbrev pub gone_from : ℕ → ℕ → List Held → List Held
gone_from arena count regions = filter (is_elsewhere arena) (take count regions) ++ drop count regions

-- the regions without the first one at the address
abbrev pub without : ℕ → List Held → List Held
without addr regions = without_place regions (position (is_at addr) regions)

-- the lists of some stacks
abbrev pub regions_of : List Listed → List (List Held)
regions_of stacks = map (λ (stack : Listed). stack.regions) stacks

-- there is one stack for each class below 41, in order
abbrev pub IsByClass : List Listed → Type 0
IsByClass stacks = map (λ (stack : Listed). stack.class) stacks ≡ range_with_len 0 41

-- the cached regions of a class
abbrev pub cached_in : List (List Held) → ℕ → List Held
cached_in lists class = slice_index_or lists class []

-- whether a list has a region at the address
abbrev pub has_at : ℕ → List Held → Bool
has_at addr regions = list_any (is_at addr) regions

-- whether a region at the address is cached
abbrev pub is_cached : ℕ → List (List Held) → Bool
is_cached addr lists = list_any (has_at addr) lists

-- the lists with the one at the place that was found changed
abbrev pub changed_at : (List Held → List Held) → List (List Held) → Option ℕ → List (List Held)
changed_at change lists None = lists
changed_at change lists (Some i) = slice_set lists i (change (cached_in lists i))

-- the lists without the first region at the address in the first list that has one
abbrev pub dropped : ℕ → List (List Held) → List (List Held)
dropped addr lists = changed_at (without addr) lists (position (has_at addr) lists)
