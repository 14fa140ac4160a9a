-- Regions with their addresses, as they come and go.
use Rattle.std.proofs.Common.{rules, arith, ◌≡◌, ℕ, ◌+◌, ◌<◌, ◌≤◌, ◌==◌, Bool, true, false, not, List, [], ◌∷◌, ◌++◌, length, filter, position, slice_get, slice_index_or, slice_set, count_by, cond, Some, None, nat_eq, nat_lt, refl, sym, ap, ◌∙◌, true≢false}
use Rattle.std.proofs.Math.ListN.{get_or-append}
use Rattle.std.proofs.Math.Seq.{get_or-append_seam}
use Rattle.std.proofs.lemmas.Grind.{common_steps}
use Rattle.std.proofs.lemmas.List.{get_or-set_other, get_or-set_same, length-append, length-set}
use Rattle.std.proofs.lemmas.List.Sums.{sum_by-set, sum_by-swap_remove, sum_by-append}
use Rattle.std.proofs.lemmas.List.Filters.{sum_by-filter_both}
use Rattle.std.proofs.lemmas.Option.{get_or_from_slice_get, slice_get-get_or, slice_get_within}
use Rattle.std.specs.List.{sum_by, swap_remove}
use Rattle.std.specs.Map.{keys_of, lookup}
use Rattle.std.specs.Option.{option_and_then}
use Rattle.indexmap.specs.IndexMap.{insert_entry, swap_remove_entry}
use Rattle.indexmap.proofs.MapLemmas.{swap_remove_entry-found, swap_remove_entry-missing}
use Rattle.indexmap.proofs.SetLemmas.{map-swap_remove}
use Rattle.thread_cache.specs.declared.Held.{Held}
use Rattle.thread_cache.specs.Caches.{is_elsewhere}
use Rattle.region_table.specs.Slots.{home_of, meets, word_of}
use Rattle.region_table.specs.Tables.{AreApart, AreMet, by_address, is_at, place_of}

module _ (addr : ℕ) where
  -- the places of keys are those of regions
  pub key_places : (regions : List Held) → position (nat_eq addr) (keys_of (by_address regions)) ≡ place_of addr regions
  key_places [] = refl
  key_places (r ∷ rs) = search (rules, key_places rs)

  -- a region is found at its place
  pub lookup_place : (regions : List Held) → lookup (nat_eq addr) (by_address regions) ≡ option_and_then (slice_get regions) (place_of addr regions)
  lookup_place [] = refl
  lookup_place (r ∷ rs) = search (rules, lookup_place rs)

  -- none goes where none is
  pub none_goes : (regions : List Held) → place_of addr regions ≡ None → swap_remove_entry (nat_eq addr) (by_address regions) ≡ by_address regions
  none_goes regions none = swap_remove_entry-missing (nat_eq addr) (by_address regions) (key_places regions ∙ none)

  -- one goes from its place
  pub one_goes : (regions : List Held) (place : ℕ) (d : Held) → place_of addr regions ≡ Some place → place < length regions → swap_remove_entry (nat_eq addr) (by_address regions) ≡ by_address (swap_remove regions place d)
  one_goes regions place d found within =
      swap_remove_entry-found (nat_eq addr) (by_address regions) place (d.addr, d) (key_places regions ∙ found)
      ∙ sym (map-swap_remove (λ (r : Held). (r.addr, r)) regions place d (omega (arith, within)))

-- one comes where none is
pub one_comes : (region : Held) (regions : List Held) → place_of region.addr regions ≡ None → insert_entry nat_eq (by_address regions) region.addr region ≡ by_address (regions ++ region ∷ [])
one_comes region [] none = refl
one_comes region (r ∷ rs) none = search (rules, none, one_comes region rs)

-- one comes in the place of another one
pub one_replaces : (region : Held) (regions : List Held) (place : ℕ) → place_of region.addr regions ≡ Some place → insert_entry nat_eq (by_address regions) region.addr region ≡ by_address (slice_set regions place region)
one_replaces region [] place found = search (rules, found)
one_replaces region (r ∷ rs) place found = search (rules, found, one_replaces region rs)

-- those of an arena go
pub some_go : (arena : ℕ) (regions : List Held) → filter (λ (e : ℕ × Held). is_elsewhere arena e.1) (by_address regions) ≡ by_address (filter (is_elsewhere arena) regions)
some_go arena [] = refl
some_go arena (r ∷ rs) = search (rules, some_go arena rs)

module _ {X : Type 0} (p : X → Bool) where
  -- where none stands, none is counted
  pub none_counted : (xs : List X) → position p xs ≡ None → count_by p xs ≡ 0
  none_counted [] none = refl
  none_counted (x ∷ xs) none = grind (arith, common_steps, none, none_counted xs)

-- regions stay apart where one comes
pub apart_more : (regions : List Held) (region : Held) → place_of region.addr regions ≡ None → AreApart regions → AreApart (regions ++ region ∷ [])
apart_more regions region none apart addr =
    let sum = sum_by-append (λ r. cond (is_at addr r) 1 0) regions (region ∷ []) in
    by (is_at addr region) refl sum
  where
    by : (b : Bool) → is_at addr region ≡ b → sum_by (λ r. cond (is_at addr r) 1 0) (regions ++ region ∷ []) ≡ sum_by (λ r. cond (is_at addr r) 1 0) regions + sum_by (λ r. cond (is_at addr r) 1 0) (region ∷ [])
        → count_by (is_at addr) (regions ++ region ∷ []) ≤ 1
    by true e sum =
        let same : addr ≡ region.addr = search (rules, arith, e) in
        let zero : count_by (is_at addr) regions ≡ 0 = none_counted (is_at addr) regions (rw same none) in
        grind (arith, common_steps, e, sum, zero)
    by false e sum = grind (arith, common_steps, e, sum, apart addr)

-- and where one replaces another one at its address
pub apart_replaced : (regions : List Held) (region : Held) (place : ℕ) (old : Held) → slice_get regions place ≡ Some old → old.addr ≡ region.addr → AreApart regions → AreApart (slice_set regions place region)
apart_replaced regions region place old at same apart addr =
    let within : place < length regions = slice_get_within _ _ _ at in
    let sum = sum_by-set (λ r. cond (is_at addr r) 1 0) regions place region region within in
    let is : slice_index_or regions place region ≡ old = get_or_from_slice_get regions place old region at in
    let alike : is_at addr (slice_index_or regions place region) ≡ is_at addr region = ap (is_at addr) is ∙ ap (nat_eq addr) same in
    grind (arith, common_steps, sum, alike, apart addr)

-- and where one goes
pub apart_without : (regions : List Held) (place : ℕ) (d : Held) → place < length regions → AreApart regions → AreApart (swap_remove regions place d)
apart_without regions place d within apart addr =
    let sum = sum_by-swap_remove (λ r. cond (is_at addr r) 1 0) regions place d within in
    grind (arith, common_steps, sum, apart addr)

-- and where some go
pub apart_filtered : (regions : List Held) (stays : Held → Bool) → AreApart regions → AreApart (filter stays regions)
apart_filtered regions stays apart addr =
    let sum = sum_by-filter_both stays (λ r. not (stays r)) (λ x. refl) (λ r. cond (is_at addr r) 1 0) regions in
    grind (arith, common_steps, sum, apart addr)

-- the searches meet what they are to where a region comes behind the others
pub met_more : (words : List ℕ) (regions : List Held) (region : Held)
    → ((place : ℕ) (other : Held) → slice_get regions place ≡ Some other → meets words (length words) (home_of other.addr (length words)) (word_of other.addr place) ≡ true)
    → meets words (length words) (home_of region.addr (length words)) (word_of region.addr (length regions)) ≡ true → AreMet words (regions ++ region ∷ [])
met_more words regions region met own place other at = by (nat_lt place (length regions)) refl
  where
    inside : place < length (regions ++ region ∷ [])
    inside = slice_get_within _ _ _ at

    is : slice_index_or (regions ++ region ∷ []) place other ≡ other
    is = get_or_from_slice_get (regions ++ region ∷ []) place other other at

    by : (b : Bool) → nat_lt place (length regions) ≡ b → meets words (length words) (home_of other.addr (length words)) (word_of other.addr place) ≡ true
    by true e =
        let low : place < length regions = grind (arith, e) in
        met place other (slice_get-get_or regions place other low ∙ ap Some (sym (get_or-append regions (region ∷ []) other place low) ∙ is))
    by false e =
        let last : place ≡ length regions = let high : length regions ≤ place = grind (arith, e) in let len : length (regions ++ region ∷ []) ≡ length regions + 1 = length-append regions (region ∷ []) in omega (arith, inside, len, high) in
        let same : other ≡ region = sym is ∙ (ap (λ k. slice_index_or (regions ++ region ∷ []) k other) last ∙ get_or-append_seam regions region [] other) in
        rw (last, same) own

-- and where one replaces another one at its address
pub met_replaced : (words : List ℕ) (regions : List Held) (region : Held) (place : ℕ) (old : Held) → slice_get regions place ≡ Some old → old.addr ≡ region.addr
    → AreMet words regions → AreMet words (slice_set regions place region)
met_replaced words regions region place old at_old same met q other at = by (q == place) refl
  where
    inside : place < length regions
    inside = slice_get_within _ _ _ at_old

    within : q < length (slice_set regions place region)
    within = slice_get_within _ _ _ at

    is : slice_index_or (slice_set regions place region) q other ≡ other
    is = get_or_from_slice_get (slice_set regions place region) q other other at

    by : (b : Bool) → (q == place) ≡ b → meets words (length words) (home_of other.addr (length words)) (word_of other.addr q) ≡ true
    by true e =
        let here : q ≡ place = search (rules, e) in
        let own : other ≡ region = sym is ∙ (ap (λ k. slice_index_or (slice_set regions place region) k other) here ∙ get_or-set_same regions place region other inside) in
        rw (here, own, sym same) (met place old at_old)
    by false e =
        let elsewhere : q ≡ place → ⊥ = λ here. true≢false (sym (search (rules, here)) ∙ e) in
        let low : q < length regions = omega (arith, within, length-set regions place region) in
        met q other (slice_get-get_or regions q other low ∙ ap Some (sym (get_or-set_other regions place q region other elsewhere) ∙ is))
