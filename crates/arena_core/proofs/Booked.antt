-- A book of slabs beside a space, as a fill takes regions, and which extent serves a region.
use Rattle.arena_core.proofs.Words.{◌≡◌, ℕ, ◌<◌, Bool, true, false, not, ◌&&◌, ◌||◌, eqb, ltb, List, [], ◌∷◌, map, filter, take, drop, Contains, IsTrue, if◌then◌else◌, inl, inr, refl, sym, ap, ◌∙◌, arith, ◌+◌, ◌*◌, ◌/◌, ◌≤◌, length, All, subst, flat_map, list_any, position_or_len, range_with_len, cases_Bool, eq-eqb, eqb-true, false_from_ne_true, take-append-drop, length-map, All-contains, flat_map-map, list_any-append, filter_from, filter_has, Part, Region, Space, is_active, turned_in_order, houses, inserted, is_slab, landing, region_of, residents, starts_at, address_of, covers, homes, free_places, lowest_free, places, slabs_of, IsInSlab, Sound, Spot, lowest_spots, BinSlab, is_among, with_regions_out, is_all_free, any_false, any_from, any_has, any_map, any_none, filter_both, filter_map_is, filter_same, map_both, map_from, map_same, filter_all_of, map_has, range_from, range_has, AreBooked, BooksStayWhereHoldersChange, BooksStayWhileExtentsDo, FillsTakeTheLowest, ReturnsAreFree, filled, booked_slab, nat_tests, length-filter_both, length-range_with_len, row_fits, pages_at, regions_at, size_at, size_bounds, slab_filled, has_page, both_true, serves-le-share, All-turned, All-nil, All-contains_itself, of_class, cond, eqb_itself}
use Rattle.arena_core.proofs.Emptying.{counted_any, ones_le, ones_same}
use Rattle.arena_core.proofs.Homes.{home_shares}

-- ---- tests of regions that landed

any_inserted : (q : Region → Bool) (r : Region) (regions : List Region) → list_any q (inserted r regions) ≡ (q r || list_any q regions)
any_inserted q r regions =
    let n = position_or_len (λ (x : Region). ltb r.addr x.addr) regions in
    grind (arith, list_any-append q (take n regions) (r ∷ drop n regions), list_any-append q (take n regions) (drop n regions), ap (list_any q) (take-append-drop n regions))

pub any_landing : (q : Region → Bool) (come regions : List Region) → list_any q (landing come regions) ≡ (list_any q come || list_any q regions)
any_landing q [] regions = refl
any_landing q (r ∷ rs) regions = grind (arith, any_landing q rs (inserted r regions), any_inserted q r regions)

-- ---- a fill

module _ (s : Space) (sound : Sound s) (client class count : ℕ) (small : class < 36) where
  abbrev addrs : List ℕ
  addrs = lowest_free class count s

  abbrev after : List Region
  after = landing (map (region_of client class) addrs) s.regions

  -- an extent that serves one of the new regions serves one of the class already
  served : (d : ℕ) (p : Part) → Contains s.parts p → list_any (λ r. eqb r.class d && houses p r) (map (region_of client class) addrs) ≡ true → is_slab d s.regions p ≡ true
  served d p m t =
      let some = any_from (λ r. eqb r.class d && houses p r) (map (region_of client class) addrs) t in
      let a = map_from (region_of client class) addrs some.0 some.1 in
      let both = both_true _ _ some.2 in
      let house : houses p (region_of client class a.0) ≡ true = ap (houses p) a.2 ∙ both.1 in
      let is : class ≡ d = ap (λ (r : Region). r.class) a.2 ∙ eqb-true _ _ both.0 in
      let spot = All-contains (λ x. Spot s.parts s.regions (region_of client class x)) addrs a.0 (lowest_spots client class count s small sound) a.1 in
      let slab = All-contains (λ (x : Part). IsTrue (houses x (region_of client class a.0)) → IsInSlab s.regions x (region_of client class a.0)) s.parts p spot.slab m house in
      let active = (both_true _ _ (both_true _ _ house).0).0 in
      let q = any_from (houses p) s.regions (counted_any (houses p) s.regions (All-contains (λ (x : Part). IsTrue (is_active x.state) → 0 < residents x s.regions) s.parts p sound.used m active)) in
      let like : q.0.class ≡ class = All-contains (λ (x : Region). IsTrue (houses p x) → x.class ≡ class) s.regions q.0 slab.alike q.1 q.2 in
      let one : eqb q.0.class d ≡ true = ap (λ n. eqb n d) (like ∙ is) ∙ eqb_itself d in
      any_has (λ r. eqb r.class d && houses p r) s.regions q.0 q.1 (rw (one, q.2) refl)

  slab_stays : (d : ℕ) (p : Part) → Contains s.parts p → is_slab d after p ≡ is_slab d s.regions p
  slab_stays d p m =
      let q = λ (r : Region). eqb r.class d && houses p r in
      any_landing q (map (region_of client class) addrs) s.regions ∙ grind (arith, served d p m)

  slabs_stay : (d : ℕ) → slabs_of d (filled s client class addrs) ≡ slabs_of d s
  slabs_stay d = ap (turned_in_order (λ p. p)) (filter_same (is_slab d after) (is_slab d s.regions) s.parts (slab_stays d))

  -- the free places are those that were free, without the addresses
  taken_places : (d : ℕ) (p : Part) → booked_slab after d p ≡ with_regions_out addrs (booked_slab s.regions d p)
  taken_places d p = λ k. record {
    class = d;
    first = p.span.first;
    free = (filter_same (λ a. not (list_any (starts_at a) after)) (λ a. not (list_any (starts_at a) s.regions) && not (is_among addrs a)) (places d p) (λ a m. grind (arith, any_landing (starts_at a) (map (region_of client class) addrs) s.regions, any_map (region_of client class) (starts_at a) addrs))
        ∙ sym (filter_both (λ a. not (list_any (starts_at a) s.regions)) (λ a. not (is_among addrs a)) (places d p))) k;
  }

  pub taken_stays : (slabs : List BinSlab) → AreBooked s slabs → AreBooked (filled s client class addrs) (map (with_regions_out addrs) slabs)
  taken_stays slabs booked d low =
      filter_map_is (with_regions_out addrs) (λ x. eqb x.class d) slabs ∙ ap (map (with_regions_out addrs)) (booked d low)
      ∙ sym (map_both (booked_slab s.regions d) (with_regions_out addrs) (booked_slab after d) (slabs_of d s) (λ p m. taken_places d p)) ∙ ap (map (booked_slab after d)) (sym (slabs_stay d))

pub fills_taken : FillsTakeTheLowest
fills_taken s slabs client class count sound small booked = record {
  addrs = ap (take count) (ap (flat_map (λ (x : BinSlab). x.free)) (booked class small) ∙ flat_map-map (λ (x : BinSlab). x.free) (booked_slab s.regions class) (slabs_of class s));
  booked = taken_stays s sound client class count small slabs booked;
}

-- ---- other changes

from_order : (ps : List Part) (p : Part) → Contains (turned_in_order (λ p. p) ps) p → Contains ps p
from_order ps p m = All-contains (Contains ps) (turned_in_order (λ p. p) ps) p (All-turned (λ p. p) (Contains ps) [] ps (All-nil (Contains ps)) (All-contains_itself ps)) m

-- the extents that are slabs of a class
pub from_slabs : (s : Space) (class : ℕ) (q : Part) → Contains (slabs_of class s) q → Contains s.parts q × (is_slab class s.regions q ≡ true)
from_slabs s class q m = filter_from (is_slab class s.regions) s.parts q (from_order (filter (is_slab class s.regions) s.parts) q m)

-- the slabs of a class stay booked where its extents and their free places stay
pub class_stays : (s t : Space) (slabs : List BinSlab) (class : ℕ) → filter (is_slab class t.regions) t.parts ≡ filter (is_slab class s.regions) s.parts →
    ((q : Part) → Contains s.parts q → is_slab class s.regions q ≡ true → booked_slab t.regions class q ≡ booked_slab s.regions class q) →
    of_class class slabs ≡ map (booked_slab s.regions class) (slabs_of class s) → of_class class slabs ≡ map (booked_slab t.regions class) (slabs_of class t)
class_stays s t slabs class parts same booked =
    booked ∙ map_same (booked_slab s.regions class) (booked_slab t.regions class) (slabs_of class s) (λ q m. let at = from_slabs s class q m in sym (same q at.0 at.1))
    ∙ ap (λ ps. map (booked_slab t.regions class) (turned_in_order (λ p. p) ps)) (sym parts)

-- a slab shows the same where regions begin at the same of its places
pub same_slab : (class : ℕ) (q : Part) (rs ts : List Region) → ((a : ℕ) → Contains (places class q) a → list_any (starts_at a) rs ≡ list_any (starts_at a) ts) → booked_slab rs class q ≡ booked_slab ts class q
same_slab class q rs ts same = λ k. record {
  class = class;
  first = q.span.first;
  free = filter_same (λ a. not (list_any (starts_at a) rs)) (λ a. not (list_any (starts_at a) ts)) (places class q) (λ a m. ap not (same a m)) k;
}

-- an extent that serves none of the regions is no slab
pub serves_none : (class : ℕ) (regions : List Region) (p : Part) → list_any (houses p) regions ≡ false → is_slab class regions p ≡ false
serves_none class regions p none = any_none (λ r. eqb r.class class && houses p r) regions (λ r m. grind (arith, any_false (houses p) regions r none m))

pub idle_no_slab : (class : ℕ) (regions : List Region) (p : Part) → is_active p.state ≡ false → is_slab class regions p ≡ false
idle_no_slab class regions p idle = serves_none class regions p (any_none (houses p) regions (λ r m. rw idle refl))

active_slabs : (class : ℕ) (regions : List Region) (parts : List Part) → filter (is_slab class regions) (filter (λ p. is_active p.state) parts) ≡ filter (is_slab class regions) parts
active_slabs class regions parts = filter_both (λ p. is_active p.state) (is_slab class regions) parts ∙ filter_same (λ p. is_active p.state && is_slab class regions p) (is_slab class regions) parts (λ p m. grind (arith, idle_no_slab class regions p))

pub stay_still : BooksStayWhileExtentsDo
stay_still s t slabs parts regions booked class small =
    class_stays s t slabs class
    (sym (active_slabs class t.regions t.parts) ∙ ap (filter (is_slab class t.regions)) parts ∙ active_slabs class t.regions s.parts ∙ ap (λ rs. filter (is_slab class rs) s.parts) regions)
    (λ q m slab. ap (λ rs. booked_slab rs class q) regions) (booked class small)

pub stay_handed : BooksStayWhereHoldersChange
stay_handed s t slabs test holder parts regions booked class small =
    class_stays s t slabs class (filter_same (is_slab class t.regions) (is_slab class s.regions) t.parts (λ p m. any (λ r. eqb r.class class && houses p r) (λ r. refl)) ∙ ap (filter (is_slab class s.regions)) parts)
    (λ q m slab. same_slab class q t.regions s.regions (λ a there. any (starts_at a) (λ r. refl))) (booked class small)
  where
    -- a test that doesn't mind who holds a region passes as before
    any : (q : Region → Bool) → ((r : Region) → q (record r { holder = holder }) ≡ q r) → list_any q t.regions ≡ list_any q s.regions
    any q blind =
        let anew = λ (r : Region). if test r then record r { holder = holder } else r in
        let here : (r : Region) → q (anew r) ≡ q r = λ r. elim (test r) as (λ b. q (cond b (record r { holder = holder }) r) ≡ q r) [ true ↦ blind r | false ↦ refl ] in
        ap (list_any q) regions ∙ any_map anew q s.regions ∙ (λ k. list_any (λ r. here r k) s.regions)

-- ---- a return

pub both_ways : (a b : Bool) → (a ≡ true → b ≡ true) → (b ≡ true → a ≡ true) → a ≡ b
both_ways a b f g = grind (arith, f, g)

-- what leads to what isn't so isn't so
pub not_so : {a b : Bool} → b ≡ false → (a ≡ true → b ≡ true) → a ≡ false
not_so {a} {b} off leads = grind (arith, off, leads)

-- what a filter keeps is among what it gives
pub among_kept : (keep : ℕ → Bool) (xs : List ℕ) (a : ℕ) → Contains xs a → is_among (filter keep xs) a ≡ keep a
among_kept keep xs a m = both_ways (is_among (filter keep xs) a) (keep a)
    (λ t. let p = any_from (λ b. eqb b a) (filter keep xs) t in ap keep (sym (eqb-true _ _ p.2)) ∙ (filter_from keep xs p.0 p.1).1)
    (λ t. any_has (λ b. eqb b a) (filter keep xs) a (filter_has keep xs a m t) (eq-eqb a a refl))

-- the regions that begin at an address, once those at another one are gone
starts_left : (addr a : ℕ) (regions : List Region) → not (list_any (starts_at a) (filter (λ r. not (starts_at addr r)) regions)) ≡ (eqb a addr || not (list_any (starts_at a) regions))
starts_left addr a [] = grind arith
starts_left addr a (r ∷ rs) = grind (arith, nat_tests, starts_left addr a rs)

pub freed : ReturnsAreFree
freed regions addr class p = λ k. record {
  class = class;
  first = p.span.first;
  free = filter_same (λ a. not (list_any (starts_at a) (filter (λ r. not (starts_at addr r)) regions))) (λ a. eqb a addr || is_among (free_places class regions p) a) (places class p)
      (λ a m. starts_left addr a regions ∙ ap (λ b. eqb a addr || b) (sym (among_kept (λ x. not (list_any (starts_at x) regions)) (places class p) a m))) k;
}

-- ---- an extent and a region of a sound space

-- an extent has the page of the address of a region that it serves
pub served_page : (q : Part) (x : Region) → x.class < 121 → houses q x ≡ true → has_page (x.addr / 4096) q.span ≡ true
served_page q x class home =
    let size : 0 < size_at x.class = omega (arith, size_bounds x.class class) in
    let starts : covers x.addr x ≡ true = grind (arith, nat_tests) in
    ones_le (houses q x) (has_page (x.addr / 4096) q.span) (serves-le-share x.addr x q starts) home

-- and it serves the regions whose addresses are in its pages
pub served_where : (s : Space) (q : Part) (x : Region) → Sound s → Contains s.parts q → Contains s.regions x → has_page (x.addr / 4096) q.span ≡ true → houses q x ≡ true
served_where s q x sound at there page =
    let class = All-contains (λ r. r.class < 121) s.regions x sound.classes there in
    let home = All-contains (λ r. homes r s.parts ≡ 1) s.regions x sound.homes there in
    ones_same (houses q x) (has_page (x.addr / 4096) q.span) (home_shares x s.parts q class home (sound.owners (x.addr / 4096)) at) ∙ page

-- ---- a slab of a class

-- A slab of a class: an active, committed extent of the class's pages, whose regions are of the class and stand at its places.
pub record SlabAt (class : ℕ) (regions : List Region) (q : Part) : Type 0 where
  pub active : is_active q.state ≡ true
  pub committed : q.committed ≡ true
  pub pages : q.span.pages ≡ pages_at class
  pub alike : (x : Region) → Contains regions x → houses q x ≡ true → x.class ≡ class
  pub placed : (x : Region) → Contains regions x → houses q x ≡ true → Contains (places class q) x.addr

-- an extent that serves a region of a small class is such a slab
pub slab_at : (s : Space) (class : ℕ) (q : Part) → Sound s → class < 36 → Contains s.parts q → is_slab class s.regions q ≡ true → SlabAt class s.regions q
slab_at s class q sound low at slab =
    let some = any_from (λ r. eqb r.class class && houses q r) s.regions slab in
    let both = both_true (eqb some.0.class class) (houses q some.0) some.2 in
    let is : some.0.class ≡ class = eqb-true _ _ both.0 in
    let here = in_slab some.0 some.1 both.1 (omega (arith, is)) in
    let uses = both_true (is_active q.state && q.committed) _ both.1 in
    let first = both_true (is_active q.state) q.committed uses.0 in
    let same : (x : Region) → Contains s.regions x → houses q x ≡ true → x.class ≡ class =
    λ x m home. All-contains (λ r. IsTrue (houses q r) → r.class ≡ some.0.class) s.regions x here.alike m home ∙ is in record {
      active = first.0;
      committed = first.1;
      pages = here.pages ∙ ap pages_at is;
      alike = same;
      placed = λ x m home.
          let is_class = same x m home in
          let place = (in_slab x m home (omega (arith, is_class))).place in
          let to : x.addr ≡ address_of q.span.first + place.0 * size_at class = place.2 ∙ ap (λ k. address_of q.span.first + place.0 * size_at k) is_class in
          let within : place.0 < regions_at class = subst (λ k. place.0 < regions_at k) is_class place.1 in
          subst (Contains (places class q)) (sym to)
          (map_has (λ i. address_of q.span.first + i * size_at class) (range_with_len 0 (regions_at class)) place.0 (range_has 0 (regions_at class) place.0 (omega arith) (omega (arith, within))));
    }
  where
    in_slab : (x : Region) → Contains s.regions x → houses q x ≡ true → x.class < 36 → IsInSlab s.regions q x
    in_slab x m home small =
        All-contains (λ p. IsTrue (houses p x) → x.class < 36 → IsInSlab s.regions p x) s.parts q
        (All-contains (λ r. All (λ p. IsTrue (houses p r) → r.class < 36 → IsInSlab s.regions p r) s.parts) s.regions x sound.small m) at home small

-- the pages of a place of an extent that has the pages of its class
pub place_page : (class a : ℕ) (q : Part) → class < 36 → q.span.pages ≡ pages_at class → Contains (places class q) a → has_page (a / 4096) q.span ≡ true
place_page class a q low pages m =
    let p = map_from (λ i. address_of q.span.first + i * size_at class) (range_with_len 0 (regions_at class)) a m in
    let i : ℕ = p.0 in
    let within = range_from 0 (regions_at class) i p.1 in
    let fits = row_fits i (size_at class) (regions_at class) (size_at class) (omega (arith, within.1)) (omega arith) in
    let size = (size_bounds class (omega (arith, low))).0 in
    let filled = (slab_filled class low).0 in
    let is = p.2 in
    let above : 4096 * q.span.first ≤ a = omega (arith, is) in
    let below : a < 4096 * (q.span.first + q.span.pages) = omega (arith, is, fits, size, filled, pages) in
    grind (arith, nat_tests, above, below)

module _ (s : Space) (class : ℕ) (q : Part) (sound : Sound s) (low : class < 36) (at : Contains s.parts q) where
  -- a region that begins at a place of a slab is one of the slab's
  pub starts_served : SlabAt class s.regions q → (x : Region) → Contains s.regions x → Contains (places class q) x.addr → houses q x ≡ true
  starts_served slab x m place = served_where s q x sound at m (place_page class x.addr q low slab.pages place)

  -- an extent that serves a region of another class is no slab of the class
  pub no_slab : (x : Region) → Contains s.regions x → houses q x ≡ true → (x.class ≡ class → ⊥) → is_slab class s.regions q ≡ false
  no_slab x m home other = false_from_ne_true _ (λ t. other ((slab_at s class q sound low at t).alike x m home))

  module _ (slab : is_slab class s.regions q ≡ true) (few : List Region) (sub : (x : Region) → Contains few x → Contains s.regions x) where
    here : SlabAt class s.regions q
    here = slab_at s class q sound low at slab

    -- where few of the regions are left, a slab still is one just where some of them is its own
    pub still_slab : is_slab class few q ≡ list_any (houses q) few
    still_slab = both_ways _ _
        (λ t. let x = any_from (λ r. eqb r.class class && houses q r) few t in any_has (houses q) few x.0 x.1 (both_true (eqb x.0.class class) _ x.2).1)
        (λ t. let x = any_from (houses q) few t in
        let is : eqb x.0.class class ≡ true = eq-eqb _ _ (here.alike x.0 (sub x.0 x.1) x.2) in
        any_has (λ r. eqb r.class class && houses q r) few x.0 x.1 (rw (is, x.2) refl))

    -- and else all its places are free
    pub unused_is : is_all_free (booked_slab few class q) ≡ not (list_any (houses q) few)
    unused_is = elim (cases_Bool (list_any (houses q) few)) [
      | inr none ↦
          let all = filter_all_of keep (places class q) (λ a m. ap not (any_none (starts_at a) few (λ x there. not_so (any_false (houses q) few x none there)
          (λ t. starts_served here x (sub x there) (subst (Contains (places class q)) (sym (eqb-true _ _ t)) m))))) in
          let many : length (free_places class few q) ≡ regions_at class = ap length all ∙ long in
          eq-eqb _ _ many ∙ sym (ap not none)
      | inl some ↦
          let x = any_from (houses q) few some in
          let place = here.placed x.0 (sub x.0 x.1) x.2 in
          let starts = any_has (starts_at x.0.addr) few x.0 x.1 (eq-eqb x.0.addr x.0.addr refl) in
          let gone : not (keep x.0.addr) ≡ true = ap (λ b. not (not b)) starts in
          let others = filter_has (λ a. not (keep a)) (places class q) x.0.addr place gone in
          let both = length-filter_both keep (λ a. not (keep a)) (λ a. refl) (places class q) in
          let most : 0 < length (filter (λ a. not (keep a)) (places class q)) = omega (arith, others.1) in
          let fewer : length (free_places class few q) < regions_at class = omega (arith, both, most, long) in
          grind (arith, nat_tests, fewer, some)
    ]
      where
        keep : ℕ → Bool
        keep a = not (list_any (starts_at a) few)

        long : length (places class q) ≡ regions_at class
        long = length-map (range_with_len 0 (regions_at class)) (λ i. address_of q.span.first + i * size_at class) ∙ length-range_with_len 0 (regions_at class)
