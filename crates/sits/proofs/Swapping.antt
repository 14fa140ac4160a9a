-- Explicit caches: what a client has stays where one of them takes the place of its own one, where that is taken back, and where one
-- more is made.
use Rattle.sits.proofs.Words.{[], ◌≡◌, ℕ, ◌+◌, ◌<◌, ◌&&◌, ◌||◌, Bool, true, false, cond, List, ◌∷◌, ◌++◌, All, Option, None, Some, length, zero, suc, refl, sym, ap, subst, ◌∙◌, arith, sum_by, sum_by-append, flat_map-cons, DeskFacts, Held, cached_in}
use Rattle.std.specs.Prelude.{not, nat_lt, is_some, slice_set, replicate}
use Rattle.std.specs.List.{list_any, position}
use Rattle.std.specs.Option.{is_none}
use Rattle.std.proofs.Common.{get_or, lt-ltb}
use Rattle.std.proofs.lemmas.Bool.{and_parts}
use Rattle.std.proofs.lemmas.List.Elements.{All-append, All-cons, All-nil, All-set}
use Rattle.std.proofs.lemmas.List.Quantifiers.{position-Some}
use Rattle.thread_cache.specs.Caches.{all_cached, is_empty, no_regions}
use Rattle.cache_set.specs.Sets.{Place, cache_at, cached_at, explicit, made, made_by}
use Rattle.call_plan.specs.declared.clients.Swapped.{Swapped}
use Rattle.call_plan.specs.Clients.{has_cache, left_of, swapped_back, swapped_back_of, swapped_back_with, swapping, swapping_with, with_new_cache}
use Rattle.call_plan.specs.Desks.{ends_cache, ready, slot_of, swapping_of}
use Rattle.call_plan.specs.declared.needs.Request.{Request}
use Rattle.call_plan.proofs.Swaps.{slot_within}
use Rattle.sits.specs.Sitting.{IsInClasses}
use Rattle.sits.proofs.Counting.{as_many}
use Rattle.sits.proofs.Having.{Settles, Shaped, over}

-- ---- sums over explicit caches

-- a place that is written
sum_place : (f : Held → ℕ) (set : List Place) (slot : ℕ) (place : Place) → slot < length set →
    sum_by f (explicit (slice_set set slot place)) + sum_by f (cached_at (cache_at slot set)) ≡ sum_by f (explicit set) + sum_by f (cached_at place)
sum_place f [] slot place within = absurd (omega (arith, within))
sum_place f (p ∷ ps) zero place within = simp (flat_map-cons, sum_by-append) (omega arith)
sum_place f (p ∷ ps) (suc slot) place within = simp (flat_map-cons, sum_by-append) (omega (arith, sum_place f ps slot place (omega (arith, within))))

-- one more place
sum_more : (f : Held → ℕ) (set : List Place) (place : Place) → sum_by f (explicit (set ++ place ∷ [])) ≡ sum_by f (explicit set) + sum_by f (cached_at place)
sum_more f [] place = simp (flat_map-cons, sum_by-append) (omega arith)
sum_more f (p ∷ ps) place = simp (flat_map-cons, sum_by-append) (omega (arith, sum_more f ps place))

-- a list with a region isn't empty
not_empty : (v w : Bool) → v ≡ true → not (v || w) ≡ true → ⊥
not_empty true w e h = cc
not_empty false w e h = cc

-- an empty cache has nothing
sum_empty : (f : Held → ℕ) (lists : List (List Held)) → is_empty lists ≡ true → sum_by f (all_cached lists) ≡ 0
sum_empty f [] e = refl
sum_empty f ([] ∷ lists) e = sum_empty f lists e
sum_empty f ((r ∷ rs) ∷ lists) e =
    absurd (not_empty (nat_lt 0 (length (r ∷ rs))) (list_any (λ list. nat_lt 0 (length list)) lists) (lt-ltb 0 (length (r ∷ rs)) (omega arith)) e)

sum_none : (f : Held → ℕ) → sum_by f (all_cached no_regions) ≡ 0
sum_none f = refl

-- what is left in the place of a cache has all that it had
sum_left : (f : Held → ℕ) (swap : Swapped) (done : Bool) (cache : List (List Held)) → sum_by f (cached_at (left_of swap done cache)) ≡ sum_by f (all_cached cache)
sum_left f swap done cache =
    elim (swap.ends && done && is_empty cache) as (λ v. (swap.ends && done && is_empty cache) ≡ v → sum_by f (cached_at (cond v None (Some cache))) ≡ sum_by f (all_cached cache)) [
      | true ↦ λ e. sym (sum_empty f cache (and_parts (swap.ends && done) (is_empty cache) e).1)
      | false ↦ λ e. refl
    ] refl

-- ---- shapes

-- a cache whose regions stand in the lists of their classes
at_place : (set : List Place) (slot : ℕ) (cache : List (List Held)) → All IsInClasses set → cache_at slot set ≡ Some cache → IsInClasses (Some cache)
at_place set slot cache all e = subst IsInClasses e (all slot None (slot_within slot set cache e))

left_place : (swap : Swapped) (done : Bool) (cache : List (List Held)) → IsInClasses (Some cache) → IsInClasses (left_of swap done cache)
left_place swap done cache is = elim (swap.ends && done && is_empty cache) as (λ v. IsInClasses (cond v None (Some cache))) [ true ↦ tt | false ↦ is ]

-- ---- a swap

swap_settles : (together : Bool) (slot : ℕ) (ends : Bool) (desk : DeskFacts) → Shaped desk → desk.hand ≡ None → Settles together desk (swapping slot ends desk)
swap_settles together slot ends desk is empty = by (cache_at slot desk.set) refl
  where
    by : (place : Place) → cache_at slot desk.set ≡ place → Settles together desk (swapping_with place slot ends desk)
    by None e = record { same = λ f. as_many refl; shaped = is; arena = refl; hand = empty }
    by (Some cache) e =
        let there = at_place desk.set slot cache is.places e in record {
          same = λ f.
              let had : sum_by f (cached_at (cache_at slot desk.set)) ≡ sum_by f (all_cached cache) = ap (λ place. sum_by f (cached_at place)) e in
              as_many (omega (arith, had, sum_place f desk.set slot (Some desk.cached) (slot_within slot desk.set cache e)));
          shaped = record { keyed = is.keyed; lists = there.0; classed = there.1; places = All-set IsInClasses desk.set slot (Some desk.cached) (is.lists, is.classed) is.places };
          arena = refl;
          hand = empty;
        }

-- where a request is to begin, its client has what it had
pub ready_settles : (together : Bool) (request : Request) (desk : DeskFacts) → Shaped desk → desk.hand ≡ None → Settles together desk (ready request desk)
ready_settles together request desk is empty = by (slot_of request)
  where
    by : (slot : Option ℕ) → Settles together desk (swapping_of slot (ends_cache request) desk)
    by None = record { same = λ f. as_many refl; shaped = is; arena = refl; hand = empty }
    by (Some slot) = elim (has_cache slot desk) as (λ v. Settles together desk (cond v (swapping slot (ends_cache request) desk) desk)) [
      | true ↦ swap_settles together slot (ends_cache request) desk is empty
      | false ↦ record { same = λ f. as_many refl; shaped = is; arena = refl; hand = empty }
    ]

-- where a swap is taken back it has what it had, and its own cache is in its place
pub back_settles : (together done : Bool) (desk : DeskFacts) → Shaped desk → desk.hand ≡ None → Settles together desk (swapped_back done desk)
back_settles together done desk is empty = by desk.swapped
  where
    with : (swap : Swapped) (place : Place) → cache_at swap.slot desk.set ≡ place → Settles together desk (swapped_back_with place swap done desk)
    with swap None e = record { same = λ f. as_many refl; shaped = record { keyed = is.keyed; lists = is.lists; classed = is.classed; places = is.places }; arena = refl; hand = empty }
    with swap (Some own) e =
        let there = at_place desk.set swap.slot own is.places e in
        let left : Place = left_of swap done desk.cached in record {
          same = λ f.
              let had : sum_by f (cached_at (cache_at swap.slot desk.set)) ≡ sum_by f (all_cached own) = ap (λ place. sum_by f (cached_at place)) e in
              as_many (omega (arith, had, sum_left f swap done desk.cached, sum_place f desk.set swap.slot left (slot_within swap.slot desk.set own e)));
          shaped = record { keyed = is.keyed; lists = there.0; classed = there.1; places = All-set IsInClasses desk.set swap.slot left (left_place swap done desk.cached (is.lists, is.classed)) is.places };
          arena = refl;
          hand = empty;
        }

    by : (swap : Option Swapped) → Settles together desk (swapped_back_of swap done desk)
    by None = record { same = λ f. as_many refl; shaped = is; arena = refl; hand = empty }
    by (Some swap) = with swap (cache_at swap.slot desk.set) refl

-- what is gained stays, and none is swapped
pub back_own : (done : Bool) (desk : DeskFacts) → ((swapped_back done desk).gained ≡ desk.gained) × ((swapped_back done desk).swapped ≡ None)
back_own done desk = by desk.swapped refl
  where
    with : (swap : Swapped) (place : Place) → ((swapped_back_with place swap done desk).gained ≡ desk.gained) × ((swapped_back_with place swap done desk).swapped ≡ None)
    with swap None = (refl, refl)
    with swap (Some own) = (refl, refl)

    by : (swap : Option Swapped) → desk.swapped ≡ swap → ((swapped_back_of swap done desk).gained ≡ desk.gained) × ((swapped_back_of swap done desk).swapped ≡ None)
    by None e = (refl, e)
    by (Some swap) e = with swap (cache_at swap.slot desk.set)

-- ---- one more cache

none_cached : (n k : ℕ) → get_or (replicate n (let none : List Held = [] in none)) k [] ≡ []
none_cached zero k = refl
none_cached (suc n) zero = refl
none_cached (suc n) (suc k) = none_cached n k

new_classes : IsInClasses (Some no_regions)
new_classes = (refl, λ class. subst (All (λ (r : Held). r.class ≡ class)) (sym (none_cached 41 class)) (All-nil (λ (r : Held). r.class ≡ class)))

pub make_settles : (together : Bool) (desk : DeskFacts) → Shaped desk → desk.hand ≡ None → Settles together desk (with_new_cache desk)
make_settles together desk is empty = by (position is_none desk.set) refl
  where
    grown : (set : List Place) → ((f : Held → ℕ) → sum_by f (explicit set) ≡ sum_by f (explicit desk.set)) → All IsInClasses set → Settles together desk (record desk { set = set })
    grown set same places = record {
      same = λ f. as_many (omega (arith, same f));
      shaped = record { keyed = is.keyed; lists = is.lists; classed = is.classed; places = places };
      arena = refl;
      hand = empty;
    }

    free_place : (place : Place) → is_none place ≡ true → (f : Held → ℕ) → sum_by f (cached_at place) ≡ 0
    free_place None e f = refl
    free_place (Some cache) e f = absurd (cc)

    by : (found : Option ℕ) → position is_none desk.set ≡ found → Settles together desk (record desk { set = made_by found desk.set })
    by (Some slot) e =
        let at = position-Some is_none desk.set slot None e in
        grown (slice_set desk.set slot (Some no_regions)) (λ f. omega (arith, sum_place f desk.set slot (Some no_regions) at.0, free_place (cache_at slot desk.set) at.1 f, sum_none f))
        (All-set IsInClasses desk.set slot (Some no_regions) new_classes is.places)
    by None e = elim (nat_lt (length desk.set) 8) as (λ v. Settles together desk (record desk { set = cond v (desk.set ++ Some no_regions ∷ []) desk.set })) [
      | true ↦ grown (desk.set ++ Some no_regions ∷ []) (λ f. omega (arith, sum_more f desk.set (Some no_regions), sum_none f))
          (All-append IsInClasses desk.set (Some no_regions ∷ []) is.places (All-cons IsInClasses (Some no_regions) [] new_classes (All-nil IsInClasses)))
      | false ↦ grown desk.set (λ f. refl) is.places
    ]
