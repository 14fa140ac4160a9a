-- A book of slabs beside a space, as regions land and are given back.
use Rattle.arena_core.proofs.Words.{◌≡◌, ℕ, ◌/◌, ◌<◌, ◌≤◌, Bool, true, false, not, IsTrue, List, [], ◌∷◌, length, get_or, All, Contains, filter, map, inl, inr, refl, sym, ◌∙◌, ap, subst, arith, ◌&&◌, eqb, lt-ltb, find, Some, cond, count_by, list_any, cases_Bool, cases_lt, eq-eqb, eqb-true, false_from_ne_true, le-ltb, nil_from_length, All-cons, All-contains, All-filter, All-map, All-nil, All-head, sum_by-filter_both, ext_get_or, length-map, length-map-range_with_len, length-filter, sum_by-cons, contains_cases, filter_from, filter_has, Part, Region, Space, has_page, begins_at, taken_out, turned_in_order, fills, houses, is_slab, residents, starts_at, slabs_by_class, places, slabs_of, Sound, after_back, holds_at, is_emptied, is_given_back, staying, eqb_itself, only_one, both_true, turned_sum, BinSlab, is_out, is_all_free, of_class, with_free, any_from, any_has, any_map, filter_all_of, filter_both, filter_map_is, filter_none_of, filter_same, filter_swap, head, map_both, map_from, map_same, booked_slab, IsBooked, NothingIsBooked, slabs_left, is_last, slabs_returned, at_tally, tally, map-id}
use Rattle.arena_core.proofs.Booked.{from_slabs, same_slab, not_so, among_kept, both_ways, freed, idle_no_slab, serves_none, stay_still, SlabAt, slab_at, starts_served, still_slab, unused_is}
use Rattle.arena_core.proofs.Emptying.{Empties, Gives, any_counts, begins_alone, count_all, counted_any, find_alone, given_starts, empties, gives, is_left, ones}
use Rattle.arena_core.proofs.InOrder.{order_stays}
use Rattle.arena_core.proofs.Still.{Still, kept_exchanged}

-- ---- the extents of a book's slabs

-- as many pass, so something does where it did
pub same_any : {X : Type 0} (t : X → Bool) (xs ys : List X) → count_by t xs ≡ count_by t ys → list_any t xs ≡ list_any t ys
same_any t xs ys same = grind (arith, same, counted_any t xs, counted_any t ys, any_counts t xs, any_counts t ys)

-- the order of extents leaves them the same
any_order : (t : Part → Bool) (ps : List Part) → list_any t (turned_in_order (λ p. p) ps) ≡ list_any t ps
any_order t ps = same_any t (turned_in_order (λ p. p) ps) ps (turned_sum (λ p. p) (λ p. ones (t p)) [] ps ∙ omega arith)

-- Where a slab of a book stands.
pub record Stands (s : Space) (x : BinSlab) : Type 0 where
  pub extent : Part
  pub there : Contains s.parts extent
  pub low : x.class < 36
  pub slab : is_slab x.class s.regions extent ≡ true
  pub is : booked_slab s.regions x.class extent ≡ x

pub stands_at : (s : Space) (slabs : List BinSlab) → IsBooked s slabs → (x : BinSlab) → Contains slabs x → Stands s x
stands_at s slabs book x m =
    let low = All-contains (λ (y : BinSlab). y.class < 36) slabs x book.small m in
    let alike = subst (λ ys. Contains ys x) (book.booked x.class low) (filter_has (λ y. eqb y.class x.class) slabs x m (eq-eqb _ _ refl)) in
    let p = map_from (booked_slab s.regions x.class) (slabs_of x.class s) x alike in
    let at = from_slabs s x.class p.0 p.1 in
    record { extent = p.0; there = at.0; low = low; slab = at.1; is = p.2 }

-- what the slab of an extent passes, some slab of the book does
pub book_any : (s : Space) (slabs : List BinSlab) → IsBooked s slabs → (t : BinSlab → Bool) (class : ℕ) (q : Part) → class < 36 → Contains s.parts q → is_slab class s.regions q ≡ true → t (booked_slab s.regions class q) ≡ true → list_any t slabs ≡ true
book_any s slabs book t class q low at slab h =
    let there = any_has (λ p. t (booked_slab s.regions class p)) (filter (is_slab class s.regions) s.parts) q (filter_has (is_slab class s.regions) s.parts q at slab) h in
    let inside : list_any t (of_class class slabs) ≡ true = ap (list_any t) (book.booked class low) ∙ any_map (booked_slab s.regions class) t (slabs_of class s) ∙ any_order (λ p. t (booked_slab s.regions class p)) (filter (is_slab class s.regions) s.parts) ∙ there in
    let x = any_from t (of_class class slabs) inside in
    any_has t slabs x.0 (filter_from (λ y. eqb y.class class) slabs x.0 x.1).0 x.2

-- as many slabs of a class as the space has
class_count : (s : Space) (slabs : List BinSlab) → IsBooked s slabs → (class : ℕ) → class < 36 → count_by (λ x. eqb x.class class) slabs ≡ count_by (is_slab class s.regions) s.parts
class_count s slabs book class low =
    let parts = filter (is_slab class s.regions) s.parts in
    let many = ap length (book.booked class low) ∙ length-map (slabs_of class s) (booked_slab s.regions class) in
    omega (arith, length-filter (λ x. eqb x.class class) slabs, many, count_all (slabs_of class s), turned_sum (λ p. p) (λ p. 1) [] parts, count_all parts, length-filter (is_slab class s.regions) s.parts)

pub slabs_counted : (s : Space) (slabs : List BinSlab) (numbers : List ℕ) → IsBooked s slabs → length numbers ≡ 36 → ((class : ℕ) → class < 36 → get_or numbers class 0 ≡ count_by (λ x. eqb x.class class) slabs) →
    numbers ≡ slabs_by_class s.regions s.parts
slabs_counted s slabs numbers book long told =
    let f : ℕ → ℕ = λ class. count_by (is_slab class s.regions) s.parts in
    ext_get_or 0 numbers (tally f 36) (long ∙ sym (length-map-range_with_len f 0 36))
    (λ k lt. let low : k < 36 = omega (arith, lt, long) in told k low ∙ class_count s slabs book k low ∙ sym (at_tally f 36 k low))

-- all slabs stay booked where the extents that serve regions stay, with their regions
pub still_booked : (s t : Space) (slabs : List BinSlab) → IsBooked s slabs → Still s t → IsBooked t slabs
still_booked s t slabs book h = record { small = book.small; booked = stay_still s t slabs h.parts h.regions book.booked }

-- as the space and the slabs are told
pub booked_as : {s t : Space} {slabs now : List BinSlab} → IsBooked s slabs → t ≡ s → now ≡ slabs → IsBooked t now
booked_as {s} {t} {slabs} {now} book same told = subst (λ x. IsBooked x now) (sym same) (subst (IsBooked s) (sym told) book)

-- no regions, no slabs
pub nothing_booked : NothingIsBooked
nothing_booked s none = record {
  small = All-nil (λ (x : BinSlab). x.class < 36);
  booked = λ class low.
      let empty = filter_none_of (is_slab class s.regions) s.parts (λ q m. ap (λ rs. is_slab class rs q) none) in
      sym (ap (λ ps. map (booked_slab s.regions class) (turned_in_order (λ p. p) ps)) empty);
}

-- and where no region is booked, no slab is
none_left : (s : Space) (slabs : List BinSlab) → IsBooked s slabs → s.regions ≡ [] → slabs ≡ []
none_left s [] book none = refl
none_left s (x ∷ xs) book none =
    let low = All-head (λ (y : BinSlab). y.class < 36) x xs book.small in
    let is : of_class x.class (x ∷ xs) ≡ [] = book.booked x.class low ∙ sym ((nothing_booked s none).booked x.class low) in
    let own : eqb x.class x.class ≡ true = eq-eqb x.class x.class refl in
    let some : of_class x.class (x ∷ xs) ≡ x ∷ of_class x.class xs = rw own refl in
    absurd (cc)

-- so a space that stays has the slabs that it had
pub stays_left : {s t : Space} {slabs : List BinSlab} → IsBooked s slabs → s ≡ t → slabs ≡ slabs_left t slabs
stays_left {s} {t} {slabs} book same = subst (λ x. slabs ≡ slabs_left x slabs) same (by (eqb (length s.regions) 0) refl)
  where
    by : (b : Bool) → eqb (length s.regions) 0 ≡ b → slabs ≡ cond b [] slabs
    by true e = none_left s slabs book (nil_from_length s.regions (eqb-true _ _ e))
    by false e = refl

-- ---- one region is given back

-- what a list of one has
pub only : {X : Type 0} (y x : X) → Contains (y ∷ []) x → y ≡ x
only y x m = elim (contains_cases y [] x m) [ inl e ↦ e | inr d ↦ absurd (omega (arith, d.1)) ]

-- what changes no member leaves the list
pub map_itself : {X : Type 0} (h : X → X) (xs : List X) → ((x : X) → Contains xs x → h x ≡ x) → map h xs ≡ xs
map_itself h xs same = map_same h (λ x. x) xs same ∙ map-id xs

module _ (c addr : ℕ) (s : Space) (p : Part) (slabs : List BinSlab) (sound : Sound s) (e : Empties c addr s p) (book : IsBooked s slabs) where
  abbrev rest : List Region
  rest = staying c (addr ∷ []) s.regions

  sub : (x : Region) → Contains rest x → Contains s.regions x
  sub x m = (filter_from (λ r. not (is_given_back c (addr ∷ []) r)) s.regions x m).0

  -- the region and its extent are there
  gone : Contains s.regions e.region × (is_given_back c (addr ∷ []) e.region ≡ true)
  gone = filter_from (is_given_back c (addr ∷ [])) s.regions e.region (subst (λ xs. Contains xs e.region) (sym e.given.alone) (head e.region []))

  home : Contains s.parts p
  home = (filter_from (begins_at p.span.first) s.parts p (subst (λ xs. Contains xs p) (sym e.alone) (head p []))).0

  -- it is the one at the address
  same_region : (x : Region) → Contains s.regions x → starts_at addr x ≡ true → e.region ≡ x
  same_region x m t =
      let one = only_one (starts_at addr) (is_given_back c (addr ∷ [])) s.regions e.region (begins_alone s addr sound) (find_alone (is_given_back c (addr ∷ [])) s.regions e.region e.given.alone) (eq-eqb _ _ e.given.at) in
      only e.region x (subst (λ xs. Contains xs x) one (filter_has (starts_at addr) s.regions x m t))

  rest_is : rest ≡ filter (λ r. not (starts_at addr r)) s.regions
  rest_is = filter_same (λ r. not (is_given_back c (addr ∷ []) r)) (λ r. not (starts_at addr r)) s.regions (λ x m. ap not (both_ways (is_given_back c (addr ∷ []) x) (starts_at addr x)
      (λ t. given_starts c addr x t)
      (λ t. subst (λ r. is_given_back c (addr ∷ []) r ≡ true) (same_region x m t) gone.1)))

  freed_is : (class : ℕ) (q : Part) → booked_slab rest class q ≡ with_free addr (booked_slab s.regions class q)
  freed_is class q = ap (λ rs. booked_slab rs class q) rest_is ∙ freed s.regions addr class q

  -- a slab is unused where it is the extent that is emptied
  unused : (class : ℕ) (q : Part) → class < 36 → Contains s.parts q → is_slab class s.regions q ≡ true → is_all_free (with_free addr (booked_slab s.regions class q)) ≡ (begins_at p.span.first q && is_left rest p)
  unused class q low at slab =
      let active = (slab_at s class q sound low at slab).active in
      let emptied : is_left rest q ≡ is_emptied rest q = sym (ap (λ b. b && is_left rest q) active) in
      ap is_all_free (sym (freed_is class q)) ∙ unused_is s class q sound low at slab rest sub ∙ emptied
      ∙ All-contains (λ x. is_emptied rest x ≡ (begins_at p.span.first x && is_left rest p)) s.parts q e.each at

  -- where the region's class is small, its extent is a slab
  own_slab : is_slab e.region.class s.regions p ≡ true
  own_slab = any_has (λ r. eqb r.class e.region.class && houses p r) s.regions e.region gone.0 (rw (eqb_itself e.region.class, e.home) refl)

  last_small : e.region.class < 36 → list_any is_all_free (map (with_free addr) slabs) ≡ is_left rest p
  last_small low = both_ways _ _
      (λ t.
      let y = any_from is_all_free (map (with_free addr) slabs) t in
      let x = map_from (with_free addr) slabs y.0 y.1 in
      let at = stands_at s slabs book x.0 x.1 in
      let is : is_all_free (with_free addr (booked_slab s.regions x.0.class at.extent)) ≡ true = ap (λ z. is_all_free (with_free addr z)) at.is ∙ ap is_all_free x.2 ∙ y.2 in
      (both_true (begins_at p.span.first at.extent) (is_left rest p) (sym (unused x.0.class at.extent at.low at.there at.slab) ∙ is)).1)
      (λ t. any_map (with_free addr) is_all_free slabs ∙ book_any s slabs book (λ z. is_all_free (with_free addr z)) e.region.class p low home own_slab
      (unused e.region.class p low home own_slab ∙ rw (eqb_itself p.span.first, t) refl))

  -- a large region is alone in its extent
  last_large : 36 ≤ e.region.class → is_left rest p ≡ true
  last_large big =
      let t = is_given_back c (addr ∷ []) in
      let large = (All-contains (λ q. IsTrue (houses q e.region) → 36 ≤ e.region.class → IsTrue (fills q e.region) × (residents q s.regions ≡ 1)) s.parts p
      (All-contains (λ r. All (λ q. IsTrue (houses q r) → 36 ≤ r.class → IsTrue (fills q r) × (residents q s.regions ≡ 1)) s.parts) s.regions e.region sound.large gone.0) home e.home big).1 in
      let own : count_by (houses p) (filter t s.regions) ≡ count_by (houses p) (e.region ∷ []) = ap (count_by (houses p)) e.given.alone in
      let one : ones (houses p e.region) ≡ 1 = ap ones e.home in
      let none : count_by (houses p) rest ≡ 0 = omega (arith, large, own, one, sum_by-cons (λ q. ones (houses p q)) e.region [], sum_by-filter_both t (λ q. not (t q)) (λ _. refl) (λ q. ones (houses p q)) s.regions) in
      ap not (false_from_ne_true _ (λ some. let counted = any_counts (houses p) rest some in omega (arith, counted, none)))

  -- so a book tells whether the extent is emptied
  pub last_is : (class : ℕ) → e.region.class ≡ class → is_last class addr slabs ≡ is_left rest p
  last_is class is = subst (λ k. is_last k addr slabs ≡ is_left rest p) is (elim (cases_lt e.region.class 36) [
    | inl low ↦ rw (lt-ltb e.region.class 36 low) (last_small low)
    | inr big ↦ rw (le-ltb e.region.class 36 big) (sym (last_large big))
  ])

  -- and the region is one that is out of a slab of the book, if its class is small
  pub out_is : (class : ℕ) → e.region.class ≡ class → class < 36 → list_any (is_out class addr) slabs ≡ true
  out_is class is low =
      let small : e.region.class < 36 = omega (arith, is, low) in
      let here = slab_at s e.region.class p sound small home own_slab in
      let place = subst (Contains (places e.region.class p)) e.given.at (here.placed e.region gone.0 e.home) in
      let among = any_has (λ a. eqb a addr) (places e.region.class p) addr place (eqb_itself addr) in
      let taken = among_kept (λ a. not (list_any (starts_at a) s.regions)) (places e.region.class p) addr place ∙ ap not (any_has (starts_at addr) s.regions e.region gone.0 (eq-eqb _ _ e.given.at)) in
      subst (λ k. list_any (is_out k addr) slabs ≡ true) is
      (book_any s slabs book (is_out e.region.class addr) e.region.class p small home own_slab (rw (eqb_itself e.region.class, among, taken) refl))

  -- what is a slab then: one with a region left
  one_slab : (class : ℕ) (q : Part) → class < 36 → Contains s.parts q → is_slab class rest q ≡ (is_slab class s.regions q && not (is_all_free (booked_slab rest class q)))
  one_slab class q low at = elim (cases_Bool (is_slab class s.regions q)) [
    | inl t ↦ grind (arith, t, still_slab s class q sound low at t rest sub, unused_is s class q sound low at t rest sub)
    | inr f ↦
        let none = not_so f (λ t. let x = any_from (λ r. eqb r.class class && houses q r) rest t in any_has (λ r. eqb r.class class && houses q r) s.regions x.0 (sub x.0 x.1) x.2) in
        none ∙ ap (λ b. b && not (is_all_free (booked_slab rest class q))) (sym f)
  ]

  abbrev after : Space
  after = (after_back s c (addr ∷ [])).after

  -- the extent that is emptied is no slab any more
  parts_stay : (class : ℕ) (b : Bool) → is_left rest p ≡ b → filter (is_slab class rest) after.parts ≡ filter (is_slab class rest) s.parts
  parts_stay class false left = ap (filter (is_slab class rest)) (sym (gives c addr s p false e (sym left)).parts)
  parts_stay class true left =
      let none : list_any (houses p) rest ≡ false = grind (arith, left) in
      let slab = serves_none class rest p none in
      ap (filter (is_slab class rest)) (sym (gives c addr s p true e (sym left)).parts)
      ∙ kept_exchanged (is_slab class rest) (begins_at p.span.first) s.parts (taken_out c p ∷ []) (ap (filter (is_slab class rest)) e.alone ∙ rw slab refl)
      (All-cons (λ q. is_slab class rest q ≡ false) (taken_out c p) [] (idle_no_slab class rest (taken_out c p) refl) (All-nil (λ q. is_slab class rest q ≡ false)))

  abbrev keep : BinSlab → Bool
  keep x = not (is_all_free x)

  returned : IsBooked after (filter keep (map (with_free addr) slabs))
  returned = record {
    small = All-filter keep (λ x. x.class < 36) (map (with_free addr) slabs) (All-map (λ x. x.class < 36) (with_free addr) slabs book.small);
    booked = λ class low.
        let slab = is_slab class s.regions in
        let left = λ (q : Part). keep (booked_slab rest class q) in
        let here = filter_both slab left s.parts ∙ filter_same (λ q. slab q && left q) (is_slab class rest) s.parts (λ q m. sym (one_slab class q low m)) ∙ sym (parts_stay class (is_left rest p) refl) in
        filter_swap (λ x. eqb x.class class) keep (map (with_free addr) slabs)
        ∙ ap (filter keep) (filter_map_is (with_free addr) (λ x. eqb x.class class) slabs ∙ ap (map (with_free addr)) (book.booked class low)
        ∙ sym (map_both (booked_slab s.regions class) (with_free addr) (booked_slab rest class) (slabs_of class s) (λ q m. freed_is class q)))
        ∙ filter_map_is (booked_slab rest class) keep (slabs_of class s)
        ∙ ap (map (booked_slab rest class)) (sym (order_stays left (filter slab s.parts)) ∙ ap (turned_in_order (λ q. q)) here);
  }

  -- a large region is at no place of a slab
  free_stays : (class : ℕ) (q : Part) → 36 ≤ e.region.class → class < 36 → Contains s.parts q → SlabAt class s.regions q → booked_slab rest class q ≡ booked_slab s.regions class q
  free_stays class q big low at slab = same_slab class q rest s.regions (λ a m. both_ways (list_any (starts_at a) rest) (list_any (starts_at a) s.regions)
      (λ t. let x = any_from (starts_at a) rest t in any_has (starts_at a) s.regions x.0 (sub x.0 x.1) x.2)
      (λ t.
      let x = any_from (starts_at a) s.regions t in
      let place = subst (Contains (places class q)) (sym (eqb-true _ _ x.2)) m in
      let alike = slab.alike x.0 x.1 (starts_served s class q sound low at slab x.0 x.1 place) in
      let stays = ap not (false_from_ne_true _ (λ g. let is = ap (λ (r : Region). r.class) (same_region x.0 x.1 (given_starts c addr x.0 g)) in omega (arith, is, alike, big, low))) in
      any_has (starts_at a) rest x.0 (filter_has (λ r. not (is_given_back c (addr ∷ []) r)) s.regions x.0 x.1 stays) x.2))

  same_large : 36 ≤ e.region.class → filter keep (map (with_free addr) slabs) ≡ slabs
  same_large big = filter_all_of keep (map (with_free addr) slabs) (λ y m. let x = map_from (with_free addr) slabs y m in ap keep (sym x.2) ∙ (each x.0 x.1).1) ∙ map_itself (with_free addr) slabs (λ x m. (each x m).0)
    where
      -- a slab stays as it is, and is still in use
      each : (x : BinSlab) → Contains slabs x → (with_free addr x ≡ x) × (keep (with_free addr x) ≡ true)
      each x m =
          let at = stands_at s slabs book x m in
          let low = at.low in
          let slab = slab_at s x.class at.extent sound low at.there at.slab in
          let other = false_from_ne_true _ (λ t.
          let same = only p at.extent (subst (λ xs. Contains xs at.extent) e.alone (filter_has (begins_at p.span.first) s.parts at.extent at.there t)) in
          let alike = slab.alike e.region gone.0 (subst (λ q. houses q e.region ≡ true) same e.home) in
          omega (arith, alike, big, low)) in (
            ap (with_free addr) (sym at.is) ∙ sym (freed_is x.class at.extent) ∙ free_stays x.class at.extent big low at.there slab ∙ at.is,
            ap (λ y. keep (with_free addr y)) (sym at.is) ∙ ap not (unused x.class at.extent low at.there at.slab) ∙ rw other refl,
          )

  -- so the book is that of the space afterwards
  pub back_booked : (class : ℕ) → e.region.class ≡ class → IsBooked after (slabs_returned class addr slabs)
  back_booked class is = subst (λ k. IsBooked after (slabs_returned k addr slabs)) is (elim (cases_lt e.region.class 36) [
    | inl low ↦ rw (lt-ltb e.region.class 36 low) returned
    | inr big ↦ rw (le-ltb e.region.class 36 big) (subst (IsBooked after) (same_large big) returned)
  ])

-- What giving one region back of a class that was told comes to, by a book.
pub record Returns (c addr : ℕ) (s : Space) (class : ℕ) (slabs : List BinSlab) : Type 0 where
  pub extent : Part
  pub found : find (λ q. has_page (addr / 4096) q.span) s.parts ≡ Some extent
  pub out : class < 36 → list_any (is_out class addr) slabs ≡ true
  pub gives : Gives c addr s extent (is_last class addr slabs)
  pub booked : IsBooked (after_back s c (addr ∷ [])).after (slabs_returned class addr slabs)

pub returns_one : (c addr : ℕ) (s : Space) (class : ℕ) (slabs : List BinSlab) → Sound s → holds_at c s.regions addr ≡ true → IsBooked s slabs → map (λ r. r.class) (filter (is_given_back c (addr ∷ [])) s.regions) ≡ class ∷ [] →
    Returns c addr s class slabs
returns_one c addr s class slabs sound held book told =
    let e = empties c addr s sound held in
    let is : e.1.region.class ≡ class = ap (λ ns. get_or ns 0 0) (sym (ap (map (λ (r : Region). r.class)) e.1.given.alone) ∙ told) in record {
      extent = e.0;
      found = e.1.found;
      out = out_is c addr s e.0 slabs sound e.1 book class is;
      gives = gives c addr s e.0 (is_last class addr slabs) e.1 (last_is c addr s e.0 slabs sound e.1 book class is);
      booked = back_booked c addr s e.0 slabs sound e.1 book class is;
    }

-- so the space is then, where its extents and its regions are those
pub back_is : (c addr : ℕ) (s : Space) {parts : List Part} {regions : List Region} → parts ≡ (after_back s c (addr ∷ [])).after.parts → regions ≡ (after_back s c (addr ∷ [])).after.regions →
    record s { parts = parts; regions = regions } ≡ (after_back s c (addr ∷ [])).after
back_is c addr s parts regions = λ i. record s { parts = parts i; regions = regions i }
