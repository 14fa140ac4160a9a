-- What a client holds at each address where it holds one region less: no two of its regions are at one address.
use Rattle.replay_run.proofs.Words.{known_is, ◌≡◌, ◌≢◌, ◌-◌, ◌++◌, cond, length, take, length-append, nat_lt, ℕ, ◌<◌, ◌≤◌, true, All, List, [], ◌∷◌, Option, None, Some, refl, sym, ◌∙◌, ap, subst, arith, nat_tests, All-head, All-tail, sum_by-cons, sum_by, Held, DeskFacts, held_at, not_holding, IsArenas, HasRegions, Record, count_in, has_owns}
use Rattle.std.proofs.Common.{lt-ltb, take_at}
use Rattle.std.specs.List.{position, position_or_len, swap_remove}
use Rattle.std.specs.Map.{keys_of, lookup}
use Rattle.std.specs.Option.{option_map_or}
use Rattle.std.specs.Prelude.{nat_eq}
use Rattle.indexmap.specs.IndexMap.{insert_entry, swap_remove_entry}
use Rattle.indexmap.proofs.MapLemmas.{swap_remove_last}
use Rattle.sits.proofs.Counting.{shifts}
use Rattle.sits.proofs.Hands.{Count, Hands, Single, counts_itself, held_counts, held_is, stands_alone}
use Rattle.sits.proofs.Having.{IsKeyed, Shaped, drop_over, drop_shaped, none_found, of_entry, sum_remove}
use Rattle.sits.proofs.Regions.{one_in}
use Rattle.sits.proofs.Settling.{single_in}

-- ---- entries by their keys

module _ {V : Type 0} (k : ℕ) (x : V) where
  insert_last : (es : List (ℕ × V)) → lookup (nat_eq k) es ≡ None → insert_entry nat_eq es k x ≡ es ++ (k, x) ∷ []
  insert_last [] none = refl
  insert_last (e ∷ es) none = grind (arith, nat_tests, insert_last es)

  last_place : (es : List (ℕ × V)) → lookup (nat_eq k) es ≡ None → position_or_len (nat_eq k) (keys_of (es ++ (k, x) ∷ [])) ≡ length es
  last_place [] none = grind (arith, nat_tests)
  last_place (e ∷ es) none = grind (arith, nat_tests, last_place es)

  keys_count : (es : List (ℕ × V)) → length (keys_of es) ≡ length es
  keys_count [] = refl
  keys_count (e ∷ es) = omega (arith, keys_count es)

  last_found : (es : List (ℕ × V)) → lookup (nat_eq k) es ≡ None → position (nat_eq k) (keys_of (es ++ (k, x) ∷ [])) ≡ Some (length es)
  last_found es none =
      let all = es ++ (k, x) ∷ [] in
      let within : length es < length (keys_of all) = omega (arith, keys_count all, length-append es ((k, x) ∷ [])) in
      ap (λ n. cond (nat_lt n (length (keys_of all))) (Some n) None) (last_place es none) ∙ ap (λ b. cond b (Some (length es)) None) (lt-ltb (length es) (length (keys_of all)) within)

  last_removed : (es : List (ℕ × V)) (d : ℕ × V) → swap_remove (es ++ (k, x) ∷ []) (length es) d ≡ es
  last_removed es d =
      let all = es ++ (k, x) ∷ [] in
      let last : length all - 1 ≡ length es = omega (arith, length-append es ((k, x) ∷ [])) in
      ap (λ n. swap_remove all n d) (sym last) ∙ swap_remove_last all d ∙ ap (λ n. take n all) last ∙ take_at es ((k, x) ∷ []) (length es) refl

  pub insert_removed : (es : List (ℕ × V)) → lookup (nat_eq k) es ≡ None → swap_remove_entry (nat_eq k) (insert_entry nat_eq es k x) ≡ es
  insert_removed [] none = grind (arith, nat_tests)
  insert_removed (e ∷ es) none =
      ap (swap_remove_entry (nat_eq k)) (insert_last (e ∷ es) none)
      ∙ ap (λ o. option_map_or (λ i. swap_remove (e ∷ es ++ (k, x) ∷ []) i e) o (e ∷ es ++ (k, x) ∷ [])) (last_found (e ∷ es) none)
      ∙ last_removed (e ∷ es) e

  pub insert_found : (es : List (ℕ × V)) → lookup (nat_eq k) (insert_entry nat_eq es k x) ≡ Some x
  insert_found [] = grind (arith, nat_tests)
  insert_found (e ∷ es) = grind (arith, nat_tests, insert_found es)

  pub insert_others : (es : List (ℕ × V)) (at : ℕ) → at ≢ k → lookup (nat_eq at) (insert_entry nat_eq es k x) ≡ lookup (nat_eq at) es
  insert_others [] at other = grind (arith, nat_tests)
  insert_others (e ∷ es) at other = grind (arith, nat_tests, insert_others es at other)

-- ---- what a client holds

-- Where a client holds the region at an address no more, it holds nothing there, and at each other address what it held.
pub record Parts (addr : ℕ) (desk : DeskFacts) : Type 0 where
  pub gone : held_at addr (not_holding addr desk) ≡ None
  pub stays : (at : ℕ) → at ≢ addr → held_at at (not_holding addr desk) ≡ held_at at desk

-- nothing is counted at an address where nothing is found
none_counts : (i a k : ℕ) (es : List (ℕ × Held)) → All IsKeyed es → lookup (nat_eq a) es ≡ None → sum_by (of_entry (one_in i a k)) es ≡ 0
none_counts i a k [] all none = refl
none_counts i a k (e ∷ es) all none =
    let key = All-head IsKeyed e es all in
    let sum = sum_by-cons (of_entry (one_in i a k)) e es in grind (arith, nat_tests, none_counts i a k es (All-tail IsKeyed e es all))

module _ (n : Count) (single : Single true n) where
  -- two regions at one address are one
  same_region : (q r : Held) → q.addr ≡ r.addr → 0 < n q.arena q.addr q.class → 0 < n r.arena r.addr r.class → q ≡ r
  same_region q r at one other =
      let there : 0 < n r.arena q.addr r.class = subst (λ a. 0 < n r.arena a r.class) (sym at) other in
      let home : q.arena ≡ r.arena = single.apart refl q.arena r.arena q.addr q.class r.class one there in
      let kind : q.class ≡ r.class = single.alone r.arena q.addr q.class r.class (subst (λ i. 0 < n i q.addr q.class) home one) there in
      λ j. record { addr = at j; class = kind j; arena = home j }

  within : (extra : List Held) (desk : DeskFacts) → Hands true n extra desk → (i a k : ℕ) → sum_by (of_entry (one_in i a k)) desk.held ≤ n i a k
  within extra desk hands i a k = let few = (hands i a k).within in omega (arith, few)

  -- a region that is found counts, and one that counts is found
  counted : (desk : DeskFacts) (k : ℕ) (q : Held) → Shaped desk → held_at k desk ≡ Some q → 0 < sum_by (of_entry (one_in q.arena q.addr q.class)) desk.held
  counted desk k q shaped found = omega (arith, held_counts (one_in q.arena q.addr q.class) k desk q shaped found, counts_itself q)

  counts_found : (extra : List Held) (desk : DeskFacts) (k : ℕ) (r : Held) → Hands true n extra desk → Shaped desk → r.addr ≡ k → 0 < sum_by (of_entry (one_in r.arena r.addr r.class)) desk.held → held_at k desk ≡ Some r
  counts_found extra desk k r hands shaped at some = by (held_at k desk) refl
    where
      by : (o : Option Held) → held_at k desk ≡ o → o ≡ Some r
      by None none = absurd (let zero = none_counts r.arena r.addr r.class desk.held shaped.keyed (subst (λ a. held_at a desk ≡ None) (sym at) none) in omega (arith, zero, some))
      by (Some q) found =
          let one : 0 < n q.arena q.addr q.class = omega (arith, counted desk k q shaped found, within extra desk hands q.arena q.addr q.class) in
          ap Some (same_region q r (held_is k desk q shaped found ∙ sym at) one (omega (arith, some, within extra desk hands r.arena r.addr r.class)))

  parts : (desk : DeskFacts) (addr : ℕ) (r : Held) → Hands true n [] desk → Shaped desk → held_at addr desk ≡ Some r → Parts addr desk
  parts desk addr r hands shaped found = record {
    gone = subst (λ a. held_at a less ≡ None) at (stands_alone n (r ∷ []) less r single parted (drop_shaped addr desk shaped) (λ f. omega (arith, sum_by-cons f r [])) refl);
    stays = λ a other. by a other (held_at a desk) refl;
  }
    where
      less : DeskFacts
      less = not_holding addr desk

      at : r.addr ≡ addr
      at = held_is addr desk r shaped found

      parted : Hands true n (r ∷ []) less
      parted i a k = shifts (hands i a k) (omega (arith, drop_over (one_in i a k) addr r desk found, sum_by-cons (one_in i a k) r []))

      by : (a : ℕ) → a ≢ addr → (o : Option Held) → held_at a desk ≡ o → held_at a less ≡ o
      by a other None none = none_found a less.held (λ q again. absurd (
          let there = counts_found [] desk a q hands shaped (held_is a less q (drop_shaped addr desk shaped) again)
          (omega (arith, counted less a q (drop_shaped addr desk shaped) again, sum_remove (one_in q.arena q.addr q.class) desk.held addr r found)) in cc))
      by a other (Some q) had =
          let is : q.addr ≡ a = held_is a desk q shaped had in
          let f : Held → ℕ = one_in q.arena q.addr q.class in
          let not_it : f r ≡ 0 = grind (arith, nat_tests, is, at, other) in
          counts_found (r ∷ []) less a q parted (drop_shaped addr desk shaped) is (omega (arith, counted desk a q shaped had, not_it, sum_remove f desk.held addr r found))

-- so it is in a sound heap
pub parts_from : (records : List Record) (c : ℕ) (desk : DeskFacts) (addr : ℕ) (r : Held) → IsArenas records → HasRegions records c desk → held_at addr desk ≡ Some r → (r.addr ≡ addr) × Parts addr desk
parts_from records c desk addr r is has found =
    let owns = has_owns records c desk has in
    (held_is addr desk r owns.shaped found, parts (count_in records c) (single_in records c (known_is records is)) desk addr r owns.hands owns.shaped found)
