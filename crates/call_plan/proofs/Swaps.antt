-- Explicit caches that take the place of a client's own one.
use Rattle.std.proofs.Common.{◌≡◌, ℕ, ◌<◌, ◌≤◌, ◌&&◌, ◌||◌, Bool, true, false, cond, List, [], ◌∷◌, zero, suc, Option, None, Some, refl, sym, ap, subst, ◌∙◌, arith, is_some, length}
use Rattle.std.specs.Prelude.{slice_set}
use Rattle.std.specs.Option.{is_none}
use Rattle.std.proofs.lemmas.Bool.{and_parts, cond_both}
use Rattle.std.proofs.lemmas.List.{get_or-set_same, set-get_or, set-set}
use Rattle.thread_cache.specs.Caches.{is_empty}
use Rattle.thread_cache.specs.declared.Held.{Held}
use Rattle.call_plan.specs.declared.clients.Swapped.{Swapped}
use Rattle.call_plan.specs.Words.{Request, Place, cache_at}
use Rattle.call_plan.specs.Clients.{DeskFacts, has_cache, left_of, swapped_back, swapped_back_with, swapping, swapping_with}
use Rattle.call_plan.specs.Bounds.{is_free, is_malloc, most_asks}
use Rattle.call_plan.specs.Calls.{may_hold}
use Rattle.call_plan.specs.Desks.{ends_cache, has_slot_of, meant, plain, ready, slot_of, swapping_of, swaps}

-- ---- a swap that is taken back

-- a place that is written twice
pub twice : (set : List Place) (slot : ℕ) (one other : Place) → slice_set (slice_set set slot one) slot other ≡ slice_set set slot other
twice set slot one other = set-set set slot one other

pub ruleset swaps_twice = (twice)

-- where a cache is, its place is one of the set
pub slot_within : (slot : ℕ) (set : List Place) (cache : List (List Held)) → cache_at slot set ≡ Some cache → slot < length set
slot_within zero [] cache e = absurd (cc)
slot_within (suc slot) [] cache e = absurd (cc)
slot_within zero (place ∷ set) cache e = omega arith
slot_within (suc slot) (place ∷ set) cache e = omega (arith, slot_within slot set cache e)

-- an explicit cache stays where not all is done
pub left_undone : (swap : Swapped) (cache : List (List Held)) → left_of swap false cache ≡ Some cache
left_undone swap cache = elim swap.ends as (λ v. cond ((v && false) && is_empty cache) None (Some cache) ≡ Some cache) [ true ↦ refl | false ↦ refl ]

-- no swap is there
none_there : {A : Type 0} (o : Option A) → is_none o ≡ true → o ≡ None
none_there None h = refl
none_there (Some x) h = absurd (cc)

pub swap_undone : (slot : ℕ) (ends : Bool) (desk : DeskFacts) → has_cache slot desk ≡ true → swapped_back false (swapping slot ends desk) ≡ desk
swap_undone slot ends desk has = by (cache_at slot desk.set) refl
  where
    both : (is_none desk.swapped ≡ true) × (is_some (cache_at slot desk.set) ≡ true)
    both = and_parts (is_none desk.swapped) (is_some (cache_at slot desk.set)) has

    by : (place : Place) → cache_at slot desk.set ≡ place → swapped_back false (swapping_with place slot ends desk) ≡ desk
    by None e = let there : is_some (cache_at slot desk.set) ≡ true = both.1 in absurd (cc)
    by (Some cache) e =
        let swap : Swapped = record { slot = slot; caches = desk.caches; ends = ends } in
        let swapped : DeskFacts = swapping_with (Some cache) slot ends desk in
        let own : cache_at slot swapped.set ≡ Some desk.cached = get_or-set_same desk.set slot (Some desk.cached) None (slot_within slot desk.set cache e) in
        let again : slice_set swapped.set slot (left_of swap false cache) ≡ desk.set =
        ap (slice_set swapped.set slot) (left_undone swap cache) ∙ twice desk.set slot (Some desk.cached) (Some cache) ∙ ap (slice_set desk.set slot) (sym e) ∙ set-get_or desk.set slot None in
        ap (λ place. swapped_back_with place swap false swapped) own
        ∙ ap (λ (set : List Place). record desk { set = set; swapped = None }) again
        ∙ ap (λ (s : Option Swapped). record desk { swapped = s }) (sym (none_there desk.swapped both.0))

-- where a request was carried out in an explicit cache, the client has what it had once that is in its place again
pub undone : (request : Request) (desk : DeskFacts) → swaps request desk ≡ true → swapped_back false (ready request desk) ≡ desk
undone request desk has = by (slot_of request) refl has
  where
    by : (slot : Option ℕ) → slot_of request ≡ slot → has_slot_of slot desk ≡ true → swapped_back false (swapping_of slot (ends_cache request) desk) ≡ desk
    by None e has = absurd (cc)
    by (Some slot) e has =
        subst (λ v. swapped_back false (cond v (swapping slot (ends_cache request) desk) desk) ≡ desk) (sym has) (swap_undone slot (ends_cache request) desk has)

pub ruleset undoing = (undone)

-- ---- what is so of a request as it is carried out is so of the request

-- What is so of both alike: how many asks it makes, whether it is a malloc, and whether it gives regions back.
pub record Alike (request meant : Request) : Type 0 where
  pub asks : most_asks meant ≡ most_asks request
  pub malloc : is_malloc meant ≡ is_malloc request
  pub free : is_free meant ≡ is_free request

plain_alike : (request : Request) → Alike request (plain request)
plain_alike request = record { asks = grind arith; malloc = grind arith; free = grind arith }

pub meant_alike : (request : Request) (desk : DeskFacts) → Alike request (meant request desk)
meant_alike request desk = cond_both (swaps request desk) (plain request) request (Alike request) (λ _. plain_alike request) (λ _. record { asks = refl; malloc = refl; free = refl })

-- an explicit cache that is swapped leaves what is in hand, and what is gained
pub ready_hand : (request : Request) (desk : DeskFacts) → ((ready request desk).hand ≡ desk.hand) × ((ready request desk).gained ≡ desk.gained)
ready_hand request desk = grind arith

plain_hold : (request : Request) → may_hold (plain request) ≡ may_hold request
plain_hold request = grind arith

meant_hold : (request : Request) (desk : DeskFacts) → may_hold (meant request desk) ≡ may_hold request
meant_hold request desk = cond_both (swaps request desk) (plain request) request (λ m. may_hold m ≡ may_hold request) (λ _. plain_hold request) (λ _. refl)

-- the room that there is for the one is there for the other
pub meant_room : (request : Request) (desk : DeskFacts) (had : ℕ) → ((may_hold request || is_some desk.hand || is_some desk.gained) ≡ true → 2 ≤ had) →
    (may_hold (meant request desk) || is_some (ready request desk).hand || is_some (ready request desk).gained) ≡ true → 2 ≤ had
meant_room request desk had room wants =
    let hand = ready_hand request desk in
    let alike : (may_hold (meant request desk) || is_some (ready request desk).hand || is_some (ready request desk).gained) ≡ (may_hold request || is_some desk.hand || is_some desk.gained) =
    ap (λ v. v || is_some (ready request desk).hand || is_some (ready request desk).gained) (meant_hold request desk)
    ∙ ap (λ h. may_hold request || is_some h || is_some (ready request desk).gained) hand.0
    ∙ ap (λ g. may_hold request || is_some desk.hand || is_some g) hand.1 in
    room (sym alike ∙ wants)

-- an explicit cache that a request as it is carried out still uses isn't there
pub meant_slot : (request : Request) (desk : DeskFacts) (slot : ℕ) → slot_of (meant request desk) ≡ Some slot → (slot_of request ≡ Some slot) × (has_cache slot desk ≡ false)
meant_slot request desk slot is = grind arith
