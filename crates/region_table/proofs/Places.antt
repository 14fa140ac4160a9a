-- Where the one item of a list stands that passes a test.
use Rattle.std.proofs.Common.{rules, arith, ◌≡◌, ℕ, zero, suc, ◌-◌, ◌<◌, ◌≤◌, ◌==◌, Bool, true, false, List, [], ◌∷◌, length, position, slice_get, slice_index_or, slice_set, count_by, Option, Some, None, refl, sym, ap, ◌∙◌, true≢false}
use Rattle.std.proofs.lemmas.Grind.{common_steps}
use Rattle.std.proofs.lemmas.List.{get_or-set_other, get_or-set_same, get_or-take, length-set, length-take-le}
use Rattle.std.proofs.lemmas.Option.{get_or_from_slice_get, slice_get-get_or, slice_get_within}
use Rattle.std.specs.List.{swap_remove}
use Rattle.thread_cache.specs.declared.Held.{Held}
use Rattle.region_table.specs.Tables.{AreApart, is_at, place_of}

module _ {X : Type 0} (p : X → Bool) where
  -- what passes is counted
  counted : (xs : List X) (i : ℕ) (x : X) → slice_get xs i ≡ Some x → p x ≡ true → 1 ≤ count_by p xs
  counted [] i x at passes = search (rules, at)
  counted (y ∷ ys) zero x at passes =
      let same : y ≡ x = search (rules, at) in
      grind (arith, common_steps, same, passes)
  counted (y ∷ ys) (suc i) x at passes = grind (arith, common_steps, counted ys i x at passes)

  -- what passes stands where the first one does, if there is one at most
  pub place_once : (xs : List X) (i : ℕ) (x : X) → count_by p xs ≤ 1 → slice_get xs i ≡ Some x → p x ≡ true → position p xs ≡ Some i
  place_once [] i x once at passes = search (rules, at)
  place_once (y ∷ ys) zero x once at passes =
      let same : y ≡ x = search (rules, at) in
      grind (arith, common_steps, same, passes)
  place_once (y ∷ ys) (suc i) x once at passes =
      let here : 1 ≤ count_by p ys = counted ys i x at passes in
      let fails : p y ≡ false = grind (arith, common_steps, here, once) in
      let rest = place_once ys i x (grind (arith, common_steps, fails, once)) at passes in
      search (rules, fails, rest)

  -- where none stands, nothing passes
  pub none_passes : (xs : List X) (i : ℕ) (x : X) → position p xs ≡ None → slice_get xs i ≡ Some x → p x ≡ false
  none_passes [] i x none at = search (rules, at)
  none_passes (y ∷ ys) zero x none at = search (rules, at, none)
  none_passes (y ∷ ys) (suc i) x none at = search (rules, at, none, none_passes ys i x)

  -- where nothing passes, none stands
  pub none_stands : (xs : List X) → ((i : ℕ) (x : X) → slice_get xs i ≡ Some x → p x ≡ false) → position p xs ≡ None
  none_stands [] fails = refl
  none_stands (y ∷ ys) fails = search (rules, fails zero y, none_stands ys (λ i x. fails (suc i) x))

-- where no region is at an address, none stands there
pub absent : (regions : List Held) (addr : ℕ) → ((place : ℕ) (region : Held) → slice_get regions place ≡ Some region → region.addr ≡ addr → ⊥) → place_of addr regions ≡ None
absent regions addr other = none_stands (is_at addr) regions (λ i x at. by x (other i x at) (is_at addr x) refl)
  where
    by : (x : Held) → (x.addr ≡ addr → ⊥) → (b : Bool) → is_at addr x ≡ b → is_at addr x ≡ false
    by x other true e = absurd (other (search (rules, arith, e)))
    by x other false e = e

-- the place of a region that is the only one at its address
pub own_place : (regions : List Held) (place : ℕ) (region : Held) → AreApart regions → slice_get regions place ≡ Some region → place_of region.addr regions ≡ Some place
own_place regions place region apart at = place_once (is_at region.addr) regions place region (apart region.addr) at (search (rules, arith))

module _ {X : Type 0} (xs : List X) (p : ℕ) (d : X) (inside : p < length xs) where
  -- what stands at a place once the last item took that of another one
  pub swapped : (q : ℕ) (x : X) → slice_get (swap_remove xs p d) q ≡ Some x → (R : Type 0)
      → (q ≡ p → p < length xs - 1 → slice_get xs (length xs - 1) ≡ Some x → R)
      → ((q ≡ p → ⊥) → q < length xs - 1 → slice_get xs q ≡ Some x → R) → R
  swapped q x at R moved stays =
      let last = slice_index_or xs (length xs - 1) d in
      let within : q < length (swap_remove xs p d) = slice_get_within _ _ _ at in
      let low : q < length xs - 1 = grind (arith, within, length-take-le, length-set) in
      let is : slice_index_or (swap_remove xs p d) q x ≡ x = get_or_from_slice_get (swap_remove xs p d) q x x at in
      by (q == p) refl low (sym (get_or-take _ _ _ _ low) ∙ is)
    where
      by : (b : Bool) → (q == p) ≡ b → q < length xs - 1 → slice_index_or (slice_set xs p (slice_index_or xs (length xs - 1) d)) q x ≡ x → R
      by true e low is =
          let here : q ≡ p = search (rules, e) in
          let value : slice_index_or xs (length xs - 1) d ≡ x = sym (get_or-set_same xs p _ x inside) ∙ (ap (λ k. slice_index_or (slice_set xs p (slice_index_or xs (length xs - 1) d)) k x) (sym here) ∙ is) in
          moved here (omega (arith, low, here)) (slice_get-get_or xs (length xs - 1) d (omega (arith, inside)) ∙ ap Some value)
      by false e low is =
          let other : q ≡ p → ⊥ = λ same. true≢false (sym (search (rules, same)) ∙ e) in
          let value : slice_index_or xs q x ≡ x = sym (get_or-set_other xs p q _ x other) ∙ is in
          stays other low (slice_get-get_or xs q x (omega (arith, low)) ∙ ap Some value)

-- the region at its place
pub found_at : (regions : List Held) (addr place : ℕ) → place_of addr regions ≡ Some place → (region : Held) × (slice_get regions place ≡ Some region) × (region.addr ≡ addr)
found_at [] addr place found = absurd (search (rules, found))
found_at (r ∷ rs) addr place found = by (is_at addr r) refl (place_of addr rs) refl place found (found_at rs addr)
  where
    by : (b : Bool) → is_at addr r ≡ b → (rest : Option ℕ) → place_of addr rs ≡ rest → (place : ℕ) → place_of addr (r ∷ rs) ≡ Some place
        → ((place : ℕ) → place_of addr rs ≡ Some place → (region : Held) × (slice_get rs place ≡ Some region) × (region.addr ≡ addr))
        → (region : Held) × (slice_get (r ∷ rs) place ≡ Some region) × (region.addr ≡ addr)
    by true e rest f zero found behind = (r, refl, search (rules, arith, e))
    by true e rest f (suc place) found behind = absurd (search (rules, e, found))
    by false e None f place found behind = absurd (search (rules, e, f, found))
    by false e (Some q) f zero found behind = absurd (search (rules, e, f, found))
    by false e (Some q) f (suc place) found behind =
        let next : place_of addr rs ≡ Some place = search (rules, e, f, found) in
        let at = behind place next in
        (at.0, at.1, at.2)
