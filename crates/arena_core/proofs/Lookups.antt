-- What look-ups tell of lists that a definition goes through.
use Rattle.arena_core.proofs.Words.{◌≡◌, ℕ, ◌*◌, ◌/◌, ◌≤◌, ◌^◌, Bool, true, false, cond, ◌&&◌, nat_lt, nat_le, List, [], ◌∷◌, find, Option, None, Some, option_map, refl, sym, ◌∙◌, ap, arith, count_by, list_any, sum_by-cons, nat_tests, Part, Region, Space, begins_at, houses, is_held_by, starts_at, has_large, is_large_at, large_home, Sound, both_true, find_has, found, homes, false_from_ne_true, inl, inr}
use Rattle.std.specs.Prelude.{is_some}
use Rattle.std.specs.Option.{option_and_then}
use Rattle.std.proofs.lemmas.Bool.{cases_Bool}
use Rattle.list_facts.proofs.Members.{bit, count_none, find_closer, none_found, only_one}
use Rattle.space_model.specs.Resizing.{with_home}
use Rattle.arena_core.proofs.Emptying.{begins_alone}
use Rattle.arena_core.proofs.Resized.{homed_by}

-- some element passes where any is counted
pub any_counted : {X : Type 0} (test : X → Bool) (xs : List X) → list_any test xs ≡ nat_lt 0 (count_by test xs)
any_counted test [] = refl
any_counted test (x ∷ xs) = grind (arith, nat_tests, any_counted test xs, sum_by-cons (λ y. bit (test y)) x xs)

-- and where what was found first is read
pub any_read : {X Y : Type 0} (f : X → Y) (test : X → Bool) (xs : List X) → is_some (option_map f (find test xs)) ≡ list_any test xs
any_read f test [] = refl
any_read f test (x ∷ xs) = grind (arith, any_read f test xs)

-- ---- large regions

-- the extent of what was found at an address, if that is the client's large region
abbrev pub home_read : ℕ → Option Region → Option Part → Option Part
home_read c None begins = None
home_read c (Some r) begins = cond (is_held_by c r && nat_le 36 r.class) begins None

-- it is the one that begins there
pub home_looked : (c addr : ℕ) (s : Space) (o : Option Region) → Sound s → o ≡ find (starts_at addr) s.regions →
    option_map (λ home. home.1) (large_home s c addr) ≡ home_read c o (find (begins_at (addr / 4096)) s.parts)
home_looked c addr s o sound e = by o (sym e)
  where
    test : Region → Bool
    test = is_large_at c addr

    by_first : (r : Region) → find test s.regions ≡ Some r → (u : Option Part) → find (λ p. houses p r) s.parts ≡ u →
        option_map (λ home. home.1) (large_home s c addr) ≡ find (begins_at (addr / 4096)) s.parts
    by_first r told None none =
        let one = find_has (λ q. homes q s.parts ≡ 1) test s.regions r sound.homes told in
        let zero = count_none (λ p. houses p r) s.parts (none_found (λ p. houses p r) s.parts none) in absurd (omega (arith, one, zero))
    by_first r told (Some p) house =
        let home : large_home s c addr ≡ Some (r, p) = ap (option_and_then (with_home s.parts)) told ∙ ap (option_map (λ (q : Part). (r, q))) house in
        let h = homed_by c addr s (λ _. true) (Some (r, p)) home sound refl in
        ap (option_map (λ (x : Region × Part). x.1)) h.1.found ∙ sym h.1.begins

    by : (o : Option Region) → find (starts_at addr) s.regions ≡ o → option_map (λ home. home.1) (large_home s c addr) ≡ home_read c o (find (begins_at (addr / 4096)) s.parts)
    by o at = elim o as (λ u. find (starts_at addr) s.regions ≡ u → option_map (λ home. home.1) (large_home s c addr) ≡ home_read c u (find (begins_at (addr / 4096)) s.parts)) [
      | None ↦ λ e. ap (λ u. option_map (λ (x : Region × Part). x.1) (option_and_then (with_home s.parts) u)) (large None e)
      | Some r ↦ λ e.
          let starts : starts_at addr r ≡ true = (found (starts_at addr) s.regions r e).1 in
          elim (cases_Bool (is_held_by c r && nat_le 36 r.class)) [
            | inl t ↦ let it : test r ≡ true = grind (arith, t, starts) in
                rw t (by_first r (large (Some r) e ∙ ap (λ b. cond b (Some r) None) it) (find (λ p. houses p r) s.parts) refl)
            | inr f ↦ let it : test r ≡ false = grind (arith, f, starts) in
                rw f (ap (λ u. option_map (λ (x : Region × Part). x.1) (option_and_then (with_home s.parts) u)) (large (Some r) e ∙ ap (λ b. cond b (Some r) None) it))
          ]
    ] at
      where
        large : (o : Option Region) → find (starts_at addr) s.regions ≡ o → find test s.regions ≡ elim o [ None ↦ None | Some y ↦ cond (test y) (Some y) None ]
        large o e = find_closer test (starts_at addr) s.regions (λ x m t. (both_true (is_held_by c x) _ (both_true (is_held_by c x && starts_at addr x) _ t).0).1)
            (λ x y m n t u. only_one (starts_at addr) s.regions x y (begins_alone s addr sound) m n t u) o e

-- no region begins past the addresses of the space
pub home_far : (c page : ℕ) (s : Space) (test : Part → Bool) → Sound s → 2 ^ 64 ≤ 4096 * page → has_large s c (4096 * page) test ≡ false
home_far c page s test sound far =
    false_from_ne_true _ (λ h. let home = homed_by c (4096 * page) s test (large_home s c (4096 * page)) refl sound h in omega (arith, home.1.start, home.1.placed.2, far))
