-- A book of slabs beside a space, as regions land in an extent in flight, at the lowest places of a new slab.
use Rattle.arena_core.proofs.Words.{◌≡◌, ℕ, ◌+◌, ◌-◌, ◌*◌, ◌<◌, ◌≤◌, zero, suc, Bool, true, false, not, ◌||◌, leb, ◌∷◌, Contains, filter, map, inl, inr, refl, sym, ap, ◌∙◌, arith, ◌≢◌, ◌/◌, cond, List, [], ◌++◌, append-nil, get_or, All, max, subst, ◌&&◌, eqb, ltb, lt-ltb, find, Some, dite, ℕ_discrete, list_any, range_with_len, cases_lt, eq-eqb, eqb-true, false_from_ne_true, cases_Bool, le-ltb, nat_tests, All-contains, All-append, All-cons, All-contains_itself, All-filter, filter-append, regions_at, size_at, pages_at, address_of, landing, region_of, regions_from, starts_at, houses, is_slab, lies_in, places, land_at, slabs_of, place, BinSlab, meets_slab, of_class, slab_with_out, with_slab, any_has, any_map, any_none, filter_map_is, filter_same, map_has, range_from, range_has, filter_swap, map_from, map_same, same_place, LandsTakeTheFirst, booked_slab, map-append, row_fits, pages_bounds, filter_from, filter_has, Part, Region, Span, Active, Space, end_of, has_page, pages_end, begins_at, is_active, turned_in_order, Sound, filter-begins_at, filter-without, share, eqb_itself, lies_between, some_pages, IsBooked, CanBeSlab, slabs_landed}
use Rattle.arena_core.proofs.Booked.{class_stays, from_slabs, same_slab, not_so, any_landing, idle_no_slab, serves_none, place_page, served_page, slab_at}
use Rattle.arena_core.proofs.Books.{only, stands_at}
use Rattle.arena_core.proofs.Emptying.{ones}
use Rattle.arena_core.proofs.Homes.{none_begins}
use Rattle.arena_core.proofs.InOrder.{order_grows, order_splits}
use Rattle.arena_core.proofs.Still.{Idle}
use Rattle.arena_core.proofs.Swaps.{others_apart}

-- the numbers from one on
from_on : (start n from : ℕ) → start ≤ from → from ≤ start + n → filter (λ i. leb from i) (range_with_len start n) ≡ range_with_len from (start + n - from)
from_on start zero from low high = ap (range_with_len from) (let none : 0 ≡ start + 0 - from = omega arith in none)
from_on start (suc n) from low high = dite (ℕ_discrete start from)
    (λ is. let t : leb from start ≡ true = grind (arith, nat_tests) in
    let len : start + suc n - from ≡ suc (start + 1 + n - (start + 1)) = omega arith in
    let rest = filter_same (λ i. leb from i) (λ i. leb (start + 1) i) (range_with_len (start + 1) n) (λ i m. let r = range_from (start + 1) n i m in let above = r.0 in grind (arith, nat_tests)) ∙ from_on (start + 1) n (start + 1) (omega arith) (omega arith) in
    rw (t, len) (λ k. is k ∷ (rest ∙ ap (λ m. range_with_len m (start + 1 + n - (start + 1))) (ap (λ m. m + 1) is)) k))
    (λ other. let f : leb from start ≡ false = grind (arith, nat_tests) in
    let len : start + suc n - from ≡ start + 1 + n - from = omega arith in
    rw (f, len) (from_on (start + 1) n from (omega arith) (omega arith)))

-- whether a region begins at a place after the landing
starts : (client class first count i : ℕ) → class < 36 → list_any (starts_at (place class first i)) (regions_from client class (address_of first) count) ≡ not (leb count i)
starts client class first count i small =
    let f = λ (j : ℕ). region_of client class (address_of first + j * size_at class) in
    any_map f (starts_at (place class first i)) (range_with_len 0 count) ∙ elim (cases_lt i count) [
      | inl l ↦
          let no : leb count i ≡ false = grind (arith, nat_tests) in
          any_has (λ j. starts_at (place class first i) (f j)) (range_with_len 0 count) i (range_has 0 count i (omega arith) (omega arith)) (eq-eqb _ _ refl) ∙ sym (ap not no)
      | inr g ↦
          let yes : leb count i ≡ true = grind (arith, nat_tests) in
          any_none (λ j. starts_at (place class first i) (f j)) (range_with_len 0 count) (λ j m. let r = range_from 0 count j m in let low = r.1 in
          false_from_ne_true _ (λ e. let same = same_place class first j i small (eqb-true _ _ e) in omega arith)) ∙ sym (ap not yes)
    ]

pub lands_first : LandsTakeTheFirst
lands_first regions client class count p small most none =
    let first = p.span.first in
    let n = regions_at class in
    let after = landing (regions_from client class (address_of first) count) regions in
    let free = λ (i : ℕ). not (list_any (starts_at (place class first i)) after) in
    let told : (i : ℕ) → Contains (range_with_len 0 n) i → free i ≡ leb count i = λ i m.
    let new = any_landing (starts_at (place class first i)) (regions_from client class (address_of first) count) regions in
    grind (arith, new, starts client class first count i small, All-contains (λ a. list_any (starts_at a) regions ≡ false) (places class p) (place class first i) none (map_has (place class first) (range_with_len 0 n) i m)) in
    let kept = filter_map_is (place class first) (λ a. not (list_any (starts_at a) after)) (range_with_len 0 n) in
    let high = filter_same free (λ i. leb count i) (range_with_len 0 n) told ∙ from_on 0 n count (omega arith) (omega arith) in
    let len : 0 + n - count ≡ n - count = omega arith in
    λ k. record { class = class; first = first; free = (kept ∙ ap (map (place class first)) (high ∙ ap (range_with_len count) len)) k }

-- An extent that serves no region, in which so many regions of a class may land.
pub record Lands (c : ℕ) (s : Space) (test : Part → Bool) (p : Part) (class count : ℕ) : Type 0 where
  pub sound : Sound s
  pub found : find test s.parts ≡ Some p
  pub idle : Idle p
  pub committed : p.committed ≡ true
  pub pages : p.span.pages ≡ pages_at class
  pub low : class < 121
  pub some : 0 < count
  pub bytes : count * size_at class ≤ 4096 * p.span.pages
  pub most : class < 36 → count ≤ regions_at class
  pub last : p.span.first + p.span.pages ≤ pages_end

module _ (c : ℕ) (s : Space) (test : Part → Bool) (p : Part) (class count : ℕ) (l : Lands c s test p class count) (slabs : List BinSlab) (book : IsBooked s slabs) where
  abbrev stay : List Part
  stay = filter (λ q. not (begins_at p.span.first q)) s.parts

  abbrev come : List Region
  come = regions_from c class (address_of p.span.first) count

  abbrev after : Space
  after = (land_at s c class count (Some p)).after

  abbrev active : Part
  active = record p { state = Active }

  alone : filter (begins_at p.span.first) s.parts ≡ p ∷ []
  alone = filter-begins_at test s.parts p (some_pages s.parts l.sound.placed) (l.sound.owners p.span.first) l.found

  -- no other extent has a page of it
  apart : (q : Part) → Contains stay q → (page : ℕ) → has_page page p.span ≡ true → has_page page q.span ≡ false
  apart q m page own = false_from_ne_true _ (λ t.
      let most = All-contains (λ x. (n : ℕ) → share n x + share n p ≤ 1) stay q (others_apart s.parts p alone l.sound.owners) m page in
      let one : share page p ≡ 1 = ap ones own in
      let also : share page q ≡ 1 = ap ones t in
      omega (arith, most, one, also))

  -- a slab is another extent
  stays : (d : ℕ) (q : Part) → Contains s.parts q → is_slab d s.regions q ≡ true → Contains stay q
  stays d q m slab = filter_has (λ x. not (begins_at p.span.first x)) s.parts q m (ap not (not_so (ap not slab) (λ t.
      let same = only p q (subst (λ xs. Contains xs q) alone (filter_has (begins_at p.span.first) s.parts q m t)) in
      ap not (idle_no_slab d s.regions q (ap (λ (x : Part). is_active x.state) (sym same) ∙ l.idle)))))

  -- the regions that land lie in it
  lands_in : (r : Region) → Contains come r → (r.class ≡ class) × (lies_in p.span r ≡ true)
  lands_in r m =
      let at = map_from (λ i. region_of c class (address_of p.span.first + i * size_at class)) (range_with_len 0 count) r m in
      let i : ℕ = at.0 in
      let within = range_from 0 count i at.1 in
      let fits = row_fits i (size_at class) count (size_at class) (omega (arith, within.1)) (omega arith) in
      let r' : Region = region_of c class (address_of p.span.first + i * size_at class) in
      let inside : lies_in p.span r' ≡ true = lies_between p.span r' (omega arith) (omega (arith, fits, l.bytes)) in
      (ap (λ (x : Region). x.class) (sym at.2), subst (λ x. lies_in p.span x ≡ true) at.2 inside)

  lands_page : (r : Region) → Contains come r → has_page (r.addr / 4096) p.span ≡ true
  lands_page r m =
      let in_it = lands_in r m in
      let low : r.class < 121 = omega (arith, in_it.0, l.low) in
      served_page active r low (rw (l.committed, in_it.1) refl)

  -- so no other extent serves them
  away : (q : Part) → Contains stay q → (r : Region) → Contains come r → houses q r ≡ false
  away q m r there = not_so (apart q m (r.addr / 4096) (lands_page r there)) (served_page q r (let in_it = lands_in r there in omega (arith, in_it.0, l.low)))

  slab_stays : (d : ℕ) (q : Part) → Contains stay q → is_slab d after.regions q ≡ is_slab d s.regions q
  slab_stays d q m = any_landing (λ r. eqb r.class d && houses q r) come s.regions ∙ ap (λ b. b || is_slab d s.regions q) (serves_none d come q (any_none (houses q) come (λ r there. away q m r there)))

  free_stays : (d : ℕ) (q : Part) → d < 36 → Contains s.parts q → is_slab d s.regions q ≡ true → booked_slab after.regions d q ≡ booked_slab s.regions d q
  free_stays d q low at slab = same_slab d q after.regions s.regions (λ a m. any_landing (starts_at a) come s.regions
      ∙ ap (λ b. b || list_any (starts_at a) s.regions) (any_none (starts_at a) come (λ r there. not_so (apart q (stays d q at slab) (r.addr / 4096) (lands_page r there))
      (λ t. ap (λ x. has_page (x / 4096) q.span) (eqb-true _ _ t) ∙ place_page d a q low (slab_at s d q l.sound low at slab).pages m))))

  -- no region was in the extent
  none_at : (r : Region) → Contains s.regions r → has_page (r.addr / 4096) p.span ≡ false
  none_at r m = false_from_ne_true _ (λ page.
      let above : 4096 * p.span.first ≤ r.addr = grind (arith, nat_tests, page) in
      let below : r.addr < 4096 * end_of p.span = grind (arith, nat_tests, page) in
      let none = none_begins s test p r.addr l.sound l.found l.idle above below in
      let there = any_has (λ x. eqb x.addr r.addr) s.regions r m (eqb_itself r.addr) in
      let no : true ≡ false = sym there ∙ none in
      cc)

  none_within : (r : Region) → Contains s.regions r → lies_in p.span r ≡ false
  none_within r m = not_so (none_at r m) (λ t. served_page active r (All-contains (λ x. x.class < 121) s.regions r l.sound.classes m) (rw (l.committed, t) refl))

  -- the extent is a slab of the class, and of no other one
  active_slab : (d : ℕ) → is_slab d after.regions active ≡ eqb class d
  active_slab d = any_landing (λ r. eqb r.class d && houses active r) come s.regions ∙ ap (λ b. list_any (λ r. eqb r.class d && houses active r) come || b) none ∙ elim (cases_Bool (eqb class d)) [
    | inl t ↦
        let first : Region = region_of c class (address_of p.span.first + 0 * size_at class) in
        let m = map_has (λ i. region_of c class (address_of p.span.first + i * size_at class)) (range_with_len 0 count) 0 (range_has 0 count 0 (omega arith) (omega (arith, l.some))) in
        let one = any_has (λ r. eqb r.class d && houses active r) come first m (rw (t, l.committed, (lands_in first m).1) refl) in
        rw (one, t) refl
    | inr f ↦
        let no = any_none (λ r. eqb r.class d && houses active r) come (λ r m. let is : eqb r.class d ≡ false = ap (λ k. eqb k d) (lands_in r m).0 ∙ f in rw is refl) in
        rw (no, f) refl
  ]
    where
      none : is_slab d s.regions active ≡ false
      none = serves_none d s.regions active (any_none (houses active) s.regions (λ r m. grind (arith, none_within r m)))

  -- the slabs of a class then: as before, with the extent behind them if it is of the class
  slabs_then : (d : ℕ) → filter (is_slab d after.regions) after.parts ≡ filter (is_slab d s.regions) s.parts ++ cond (eqb class d) (active ∷ []) []
  slabs_then d =
      let gone = ap (filter (is_slab d s.regions)) alone ∙ rw (idle_no_slab d s.regions p l.idle) refl in
      filter-append (is_slab d after.regions) stay (active ∷ [])
      ∙ (λ k. (filter_same (is_slab d after.regions) (is_slab d s.regions) stay (λ q m. slab_stays d q m) ∙ filter-without (is_slab d s.regions) (begins_at p.span.first) s.parts gone) k ++ cond (active_slab d k) (active ∷ []) [])

  -- where the class is another one, its slabs stay
  others_stay : (d : ℕ) → d < 36 → eqb class d ≡ false → of_class d slabs ≡ map (booked_slab after.regions d) (slabs_of d after)
  others_stay d low other =
      class_stays s after slabs d (slabs_then d ∙ ap (λ b. filter (is_slab d s.regions) s.parts ++ cond b (active ∷ []) []) other ∙ append-nil _)
      (λ q m slab. free_stays d q low m slab) (book.booked d low)

  -- the slabs of a class, and a new one at the extent
  abbrev new : BinSlab
  new = slab_with_out class p.span.first count

  abbrev below : Part → Bool
  below q = ltb q.span.first p.span.first

  abbrev above : Part → Bool
  above q = ltb p.span.first q.span.first

  others_differ : (d : ℕ) → All (λ q. q.span.first ≢ p.span.first) (filter (is_slab d s.regions) s.parts)
  others_differ d k x h e =
      let q : Part = get_or (filter (is_slab d s.regions) s.parts) k x in
      let at = filter_from (is_slab d s.regions) s.parts q (All-contains_itself (filter (is_slab d s.regions) s.parts) k x h) in
      let there = filter_from (λ y. not (begins_at p.span.first y)) s.parts q (stays d q at.0 at.1) in
      let no : false ≡ true = sym (ap not (eq-eqb q.span.first p.span.first e)) ∙ there.1 in
      absurd (cc)

  with_of_class : (d : ℕ) → d < 36 → of_class d (with_slab slabs new)
      ≡ map (booked_slab s.regions d) (filter below (slabs_of d s)) ++ (cond (eqb class d) (new ∷ []) [] ++ map (booked_slab s.regions d) (filter above (slabs_of d s)))
  with_of_class d low =
      let under = λ (x : BinSlab). ltb x.first p.span.first in
      let over = λ (x : BinSlab). ltb p.span.first x.first in
      let of = λ (x : BinSlab). eqb x.class d in
      let first = filter_swap of under slabs ∙ ap (filter under) (book.booked d low) ∙ filter_map_is (booked_slab s.regions d) under (slabs_of d s) in
      let second = filter_swap of over slabs ∙ ap (filter over) (book.booked d low) ∙ filter_map_is (booked_slab s.regions d) over (slabs_of d s) in
      grind (arith, filter-append of (filter under slabs) (new ∷ filter over slabs), first, second)

  with_booked : class < 36 → IsBooked after (with_slab slabs new)
  with_booked small = record {
    small = All-append (λ x. x.class < 36) (filter (λ x. ltb x.first p.span.first) slabs) (new ∷ filter (λ x. ltb p.span.first x.first) slabs)
        (All-filter (λ x. ltb x.first p.span.first) (λ x. x.class < 36) slabs book.small)
        (All-cons (λ x. x.class < 36) new (filter (λ x. ltb p.span.first x.first) slabs) small (All-filter (λ x. ltb p.span.first x.first) (λ x. x.class < 36) slabs book.small));
    booked = λ d low. with_of_class d low ∙ elim (cases_Bool (eqb class d)) [
      | inr other ↦ rw other (sym (map-append (booked_slab s.regions d) (filter below (slabs_of d s)) (filter above (slabs_of d s)))
          ∙ ap (map (booked_slab s.regions d)) (order_splits (filter (is_slab d s.regions) s.parts) p (others_differ d)) ∙ sym (book.booked d low) ∙ others_stay d low other)
      | inl same ↦ rw same (grown d low (eqb-true _ _ same) same)
    ];
  }
    where
      kept : (d : ℕ) → d < 36 → (test : Part → Bool) → map (booked_slab s.regions d) (filter test (slabs_of d s)) ≡ map (booked_slab after.regions d) (filter test (slabs_of d s))
      kept d low test = map_same (booked_slab s.regions d) (booked_slab after.regions d) (filter test (slabs_of d s)) (λ q m. let at = from_slabs s d q (filter_from test (slabs_of d s) q m).0 in sym (free_stays d q low at.0 at.1))

      first : (d : ℕ) → class ≡ d → new ≡ booked_slab after.regions d active
      first d is = sym (lands_first s.regions c class count p small (l.most small)
          (λ k x h. let a : ℕ = get_or (places class p) k x in any_none (starts_at a) s.regions (λ r m. not_so (none_at r m)
          (λ t. ap (λ n. has_page (n / 4096) p.span) (eqb-true _ _ t) ∙ place_page class a p small l.pages (All-contains_itself (places class p) k x h))))) ∙ ap (λ k. booked_slab after.regions k active) is

      grown : (d : ℕ) → d < 36 → class ≡ d → eqb class d ≡ true → map (booked_slab s.regions d) (filter below (slabs_of d s)) ++ new ∷ map (booked_slab s.regions d) (filter above (slabs_of d s)) ≡ map (booked_slab after.regions d) (slabs_of d after)
      grown d low is same =
          (λ k. kept d low below k ++ first d is k ∷ kept d low above k)
          ∙ sym (map-append (booked_slab after.regions d) (filter below (slabs_of d s)) (active ∷ filter above (slabs_of d s)))
          ∙ ap (map (booked_slab after.regions d)) (sym (order_grows (filter (is_slab d s.regions) s.parts) active (others_differ d))
          ∙ ap (turned_in_order (λ q. q)) (sym (slabs_then d ∙ ap (λ b. filter (is_slab d s.regions) s.parts ++ cond b (active ∷ []) []) same)))

  pub landed_booked : (span : Span) → span.first ≡ p.span.first → IsBooked after (slabs_landed class span.first count slabs)
  landed_booked span is = subst (λ n. IsBooked after (cond (ltb class 36) (with_slab slabs (slab_with_out class n count)) slabs)) (sym is) (elim (cases_lt class 36) [
    | inl low ↦ subst (λ b. IsBooked after (cond b (with_slab slabs new) slabs)) (sym (lt-ltb class 36 low)) (with_booked low)
    | inr big ↦ subst (λ b. IsBooked after (cond b (with_slab slabs new) slabs)) (sym (le-ltb class 36 big)) (record { small = book.small; booked = λ d low. others_stay d low (grind (arith, nat_tests, big, low)) })
  ])

  -- the book has a place for it
  pub can_land : (span : Span) → span.first ≡ p.span.first → class < 36 → CanBeSlab class span.first count slabs
  can_land span is low = record {
    some = l.some;
    most = l.most low;
    inside = omega (arith, is, l.pages, l.last);
    apart = any_none (meets_slab class span.first) slabs (λ x m. false_from_ne_true _ (λ t.
        let at = stands_at s slabs book x m in
        let q : Part = at.extent in
        let pages = (slab_at s x.class q l.sound at.low at.there at.slab).pages in
        let first : q.span.first ≡ x.first = ap (λ (y : BinSlab). y.first) at.is in
        let some = (pages_bounds class (omega (arith, l.low))).0 in
        let also_some = (pages_bounds x.class (omega (arith, at.low))).0 in
        let meets = both (span.first) (pages_at class) x.first (pages_at x.class) t in
        let page : ℕ = max p.span.first q.span.first in
        let own : has_page page p.span ≡ true = in_both page p.span (omega arith) (omega (arith, meets.0, is, first, l.pages, some)) in
        let also : has_page page q.span ≡ true = in_both page q.span (omega arith) (omega (arith, meets.1, is, first, pages, also_some)) in
        let no : true ≡ false = sym also ∙ apart q (stays x.class q at.there at.slab) page own in
        cc));
  }
    where
      both : (a m b n : ℕ) → (ltb b (a + m) && ltb a (b + n)) ≡ true → (b < a + m) × (a < b + n)
      both a m b n h = (grind (arith, nat_tests), grind (arith, nat_tests))

      in_both : (page : ℕ) (x : Span) → x.first ≤ page → page < x.first + x.pages → has_page page x ≡ true
      in_both page x low high = grind (arith, nat_tests, low, high)
