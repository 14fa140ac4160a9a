-- Regions of a class that land in an extent, or are taken as the lowest free ones.
use Rattle.arena_core.proofs.Words.{◌≡◌, ℕ, ◌+◌, ◌<◌, ◌≤◌, ◌^◌, false, List, [], ◌∷◌, sym, ap, ◌∙◌, subst, arith, nat_lt, ◌*◌, true, cond, IsTrue, find, Some, refl, ◌&&◌, eqb, nat_le, inl, inr, zero, suc, Bool, ◌↔◌, ◌++◌, map, take, lt-ltb, count_by, cases_lt, le-ltb, ltb-true, size_at, pages_at, regions_at, Region, Space, region_bytes, landing, starts_at, address_of, regions_from, region_of, Sound, region_bytes_fits, CanCome, nat_tests, mul-le-mul_left, large_size, slab_filled, Land, Fill, Part, Span, is_flight_at, pages_end, land_at, land_stands, most_regions, after_fill, fill_at, lowest_free, is_live, op_stands, both_true, op_keeps, NoArena, Nothing, Regions, stays, BinSlab, free_of, with_regions_out, filter_all_of, filled, IsBooked, slabs_filled, slabs_taken}
use Rattle.arena_core.proofs.Emptying.{begins_alone}
use Rattle.arena_core.proofs.Homes.{in_flight}
use Rattle.arena_core.proofs.Booked.{fills_taken}
use Rattle.arena_core.proofs.Books.{map_itself}

-- those that make a sound space can come
pub can_come : (s t : Space) (come : List Region) → Sound t → t.regions ≡ landing come s.regions → CanCome come s.regions
can_come s t come sound same = record {
  alone = λ addr. subst (λ rs. count_by (starts_at addr) rs ≤ 1) same (begins_alone t addr sound);
  fits = subst (λ rs. region_bytes rs < 2 ^ 64) same (omega (arith, region_bytes_fits t sound));
}

-- what is said of a land that may stand
pub may_land : (s : Space) (c : ℕ) (span : Span) (class count : ℕ) → land_stands s c span class count ≡ true → (class < 121) × (span.pages ≡ pages_at class) × (0 < count) × (count ≤ most_regions class)
may_land s c span class count h =
    let a = (both_true (nat_lt class 121 && nat_lt 0 count && nat_le count (most_regions class) && eqb span.pages (pages_at class)) _ h).0 in
    (grind (arith, nat_tests, a), grind (arith, nat_tests, a), grind (arith, nat_tests, a), grind (arith, nat_tests, a))

-- What is said of a land that may stand, in an extent that was found.
pub record Fitting (c : ℕ) (s : Space) (class count : ℕ) (p : Part) : Type 0 where
  pub low : class < 121
  pub few : count ≤ 512
  pub bytes : count * size_at class ≤ 4096 * p.span.pages
  pub last : p.span.first + p.span.pages ≤ pages_end
  pub large : 36 ≤ class → (count ≡ 1) × (p.span.first < 536870912)
  pub come : is_live s.life ≡ true → CanCome (regions_from c class (4096 * p.span.first) count) s.regions

pub fitting : (c : ℕ) (s : Space) (span : Span) (class count : ℕ) (p : Part) → Sound s → IsTrue (land_stands s c span class count) → Some p ≡ find (is_flight_at c span) s.parts → Fitting c s class count p
fitting c s span class count p sound stands found =
    let flight = in_flight c s span p sound found in
    let may = may_land s c span class count stands in
    let pages : p.span.pages ≡ pages_at class = flight.pages ∙ may.1 in
    let bytes = class_bytes class count may.0 may.3 in
    let within : count * size_at class ≤ 4096 * p.span.pages = omega (arith, bytes.1, pages) in record {
      low = may.0;
      few = bytes.0;
      bytes = within;
      last = flight.placed.2;
      large = λ big.
          let one : most_regions class ≡ 1 = grind (arith, nat_tests, big) in
          (omega (arith, one, may.3, may.2), omega (arith, flight.placed.2, flight.placed.0));
      come = λ live.
          let may : op_stands s c (Land span class count) ≡ true = rw live stands in
          can_come s (land_at s c class count (Some p)).after (regions_from c class (address_of p.span.first) count)
          (subst (λ o. Sound (land_at s c class count o).after) (sym found) (op_keeps c s (Land span class count) sound may).sound) refl;
    }
  where
    times_le : (a b n : ℕ) → a ≤ b → a * n ≤ b * n
    times_le a b n le = omega (arith, mul-le-mul_left n le)

    class_bytes : (class count : ℕ) → class < 121 → count ≤ most_regions class → (count ≤ 512) × (count * size_at class ≤ 4096 * pages_at class)
    class_bytes class count low most = elim (cases_lt class 36) [
      | inl small ↦
          let filled = slab_filled class small in
          let fewer : count ≤ regions_at class = subst (λ b. count ≤ cond b (regions_at class) 1) (lt-ltb class 36 small) most in
          (omega (arith, filled.2, fewer), omega (arith, filled.0, times_le count (regions_at class) (size_at class) fewer))
      | inr large ↦
          let one : count ≤ 1 = subst (λ b. count ≤ cond b (regions_at class) 1) (le-ltb class 36 large) most in
          (omega (arith, one), omega (arith, large_size class large low, times_le count 1 (size_at class) one))
    ]

-- what is said of a fill that may stand
pub may_fill : (s : Space) (c class count : ℕ) → op_stands s c (Fill class count) ≡ true → (class < 36) × (0 < count)
may_fill s c class count stands = let both = both_true (nat_lt class 36) _ stands in (ltb-true _ _ both.0, ltb-true _ _ both.1)

-- the regions at the addresses land, also where there is none
pub filled_is : (c : ℕ) (s : Space) (class : ℕ) (addrs : List ℕ) → (fill_at s c class addrs).after ≡ filled s c class addrs
filled_is c s class [] = refl
filled_is c s class (addr ∷ addrs) = refl

-- and some addresses are told
pub filled_reply : (c : ℕ) (s : Space) (class : ℕ) (addrs : List ℕ) → (addrs ≡ [] → ⊥) → (fill_at s c class addrs).reply ≡ Regions addrs
filled_reply c s class [] some = absurd (some refl)
filled_reply c s class (addr ∷ addrs) some = refl

-- the first few are none only where there is none
pub take_none : {X : Type 0} (n : ℕ) (xs : List X) → 0 < n → take n xs ≡ [] → xs ≡ []
take_none zero xs some e = absurd (omega (arith, some))
take_none (suc n) [] some e = refl
take_none (suc n) (x ∷ xs) some e = absurd (cc)

-- the lowest free regions of a class can come
pub lowest_come : (c : ℕ) (s : Space) (class count : ℕ) → Sound s → class < 36 → 0 < count → is_live s.life ≡ true → CanCome (map (region_of c class) (lowest_free class count s)) s.regions
lowest_come c s class count sound low some live =
    let stands : op_stands s c (Fill class count) ≡ true = rw (lt-ltb class 36 low, lt-ltb 0 count some) refl in
    let addrs = lowest_free class count s in
    let after : Sound (fill_at s c class addrs).after = subst (λ b. Sound (cond b (fill_at s c class addrs) (stays s NoArena)).after) live (op_keeps c s (Fill class count) sound stands).sound in
    can_come s (filled s c class addrs) (map (region_of c class) addrs) (subst Sound (filled_is c s class addrs) after) refl

-- what a book gives is what is taken
pub taken_are : (s : Space) (c class count : ℕ) {slabs : List BinSlab} {before : List ℕ} → Sound s → class < 36 → IsBooked s slabs → before ≡ [] → before ++ take count (free_of class slabs) ≡ lowest_free class count s
taken_are s c class count {slabs} {before} sound low book none = ap (λ xs. xs ++ take count (free_of class slabs)) none ∙ (fills_taken s slabs c class count sound low book.booked).addrs

-- a list that is not said to have members has none
pub no_free : {b : Bool} (xs : List ℕ) → (IsTrue b ↔ (xs ≡ [] → ⊥)) → b ≡ false → xs ≡ []
no_free [] told none = refl
no_free {b} (x ∷ xs) told none = absurd (let t : b ≡ true = told.1 (λ e. cc) in cc)

-- where no region of the class is free, nothing happens
pub nothing_free : (c : ℕ) (s : Space) (class count : ℕ) (slabs : List BinSlab) → Sound s → class < 36 → IsBooked s slabs → is_live s.life ≡ true → free_of class slabs ≡ [] →
    (stays s Nothing ≡ after_fill s c class count) × (slabs ≡ slabs_filled s class count slabs)
nothing_free c s class count slabs sound low book live none =
    let addrs = lowest_free class count s in
    let is : addrs ≡ [] = sym (taken_are s c class count sound low book refl) ∙ ap (take count) none ∙ take_nothing count in
    let same : slabs ≡ slabs_taken addrs slabs = sym (map_itself (with_regions_out []) slabs (λ x m k. record x { free = filter_all_of (λ a. true) x.free (λ a there. refl) k })) ∙ ap (λ xs. slabs_taken xs slabs) (sym is) in
    (subst (λ b. stays s Nothing ≡ cond b (fill_at s c class addrs) (stays s NoArena)) (sym live) (ap (fill_at s c class) (sym is)), subst (λ b. slabs ≡ cond b (slabs_taken addrs slabs) slabs) (sym live) same)
  where
    take_nothing : (n : ℕ) → take {A = ℕ} n [] ≡ []
    take_nothing zero = refl
    take_nothing (suc n) = refl
