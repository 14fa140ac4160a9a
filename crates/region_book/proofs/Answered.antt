-- What the calls of a book need to know of its regions.
use Rattle.region_book.proofs.Words.{any_from, eqb-true, member_found, ◌≡◌, ℕ, ◌+◌, ◌-◌, ◌*◌, ◌<◌, ◌≤◌, ◌^◌, Bool, true, false, not, List, [], ◌∷◌, ◌++◌, length-append, map, filter, find, length, Option, None, Some, refl, sym, ◌∙◌, ap, subst, arith, nat_lt, nat_le, ◌&&◌, inl, inr, Every, list_any, range_with_len, option_or, nat_tests, length-range_with_len, size_at, every_map, Region, inserted, landing, region_of, regions_from, starts_at, region_bytes, holds_at, is_given_back, staying, AreApart, IsRising, changed, code_of, absent_changed, absent_filter, change_both, changed_is, drop_both, every_changed, every_landing, found_there, land_left, land_right, Landed, merged, new_apart, taken_out, every_member, found, Bins, BinSlab, is_all_free, with_free, IsHolder, addr_of, Totals, Inside, IsRegionBook, CanCome, IsOf, is_last, slabs_returned, AreMore, AreTotals, CanGrow, CanShrink}
use Rattle.space_model.proofs.Pieces.{both_true}
use Rattle.region_book.proofs.Tallies.{HaveCome, can_grow, can_shrink, one_comes, some_come, totals_less, totals_more}
use Rattle.region_book.proofs.Changes.{can_come, gives, one_from}

-- a holder's number is among those that are told apart
few_holders : (holder : Option ℕ) → IsHolder holder → code_of holder < 33
few_holders None h = omega arith
few_holders (Some c) h = omega (arith, h)

-- regions of one class that a client gets
pub made_of : {X : Type 0} (least classes client class : ℕ) (g : X → ℕ) (xs : List X) → least ≤ class → class < classes → client < 32 → Every (IsOf least classes) (map (λ x. region_of client class (g x)) xs)
made_of least classes client class g [] some low c = tt
made_of least classes client class g (x ∷ xs) some low c = (record { least = some; class = low; holder = c }, made_of least classes client class g xs some low c)

-- what is found is of such a class
pub found_of : (least classes addr : ℕ) (rs : List Region) (r : Region) → Every (IsOf least classes) rs → find (starts_at addr) rs ≡ Some r → IsOf least classes r
found_of least classes addr rs r every e = every_member (IsOf least classes) rs every r (found (starts_at addr) rs r e).0

-- a large region begins at the address
abbrev pub is_large : ℕ → Region → Bool
is_large addr r = starts_at addr r && nat_le 36 r.class

-- the region with another class and held by the client
abbrev pub becomes : ℕ → ℕ → Region → Region
becomes client class r = region_of client class r.addr

-- What is so once regions landed: room for their totals, and the totals of all.
pub record Lands (class : ℕ) (holder : Option ℕ) (count : ℕ) (now xs ys : List Region) (t : Totals) : Type 0 where
  pub room : CanGrow class holder count t
  pub apart : AreApart addr_of xs ys
  pub regions : landing xs ys ≡ now
  pub totals : (u : Totals) → AreMore class holder count t u → AreTotals u (landing xs ys)

-- What is so once the region at an address went.
pub record Backs (c addr : ℕ) (r : Region) (rs xs ys : List Region) (t : Totals) : Type 0 where
  pub can : CanShrink r.class r.holder t
  pub apart : AreApart addr_of xs ys
  pub regions : landing xs ys ≡ staying c (addr ∷ []) rs
  pub gone : map (λ q. q.class) (filter (is_given_back c (addr ∷ [])) rs) ≡ r.class ∷ []
  pub totals : (u : Totals) → AreMore r.class r.holder 1 u t → AreTotals u (landing xs ys)

-- What is so before another region stands in the place of one, and what once it does.
pub record Swaps (addr : ℕ) (r : Region) (change : Region → Region) (rs : List Region) (t : Totals) : Type 0 where
  pub can : CanShrink r.class r.holder t
  pub room : (u : Totals) → AreMore r.class r.holder 1 u t → CanGrow (change r).class (change r).holder 1 u
  pub totals : (u v : Totals) → AreMore r.class r.holder 1 u t → AreMore (change r).class (change r).holder 1 u v → AreTotals v (changed (starts_at addr) change rs)

pub record Swapped (addr : ℕ) (change : Region → Region) (rs xs ys : List Region) : Type 0 where
  pub apart : AreApart addr_of xs ys
  pub regions : landing xs ys ≡ changed (starts_at addr) change rs

module _ (b : Inside) (is : IsRegionBook b) where
  abbrev xs : List Region
  xs = b.larges.regions

  abbrev ys : List Region
  ys = b.bins.regions

  abbrev rs : List Region
  rs = landing xs ys

  pub both : Landed addr_of xs ys
  both = merged addr_of xs ys is.apart

  -- the regions of both books are of some class, and held by nobody or one of the clients
  all_of : Every (IsOf 0 121) rs
  all_of = every_landing addr_of (IsOf 0 121) xs ys
      (every_map (IsOf 36 121) (IsOf 0 121) (λ r of. record { least = omega arith; class = of.class; holder = of.holder }) xs is.larges)
      (every_map (IsOf 0 36) (IsOf 0 121) (λ r of. let low = of.class in record { least = omega arith; class = omega (arith, low); holder = of.holder }) ys is.smalls)

  -- ---- what is found in both

  pub found_large : (addr : ℕ) (r : Region) → find (starts_at addr) xs ≡ Some r → find (starts_at addr) rs ≡ Some r
  found_large addr r e = both.finds addr ∙ ap (λ o. option_or o (find (starts_at addr) ys)) e

  pub found_small : (addr : ℕ) (o : Option Region) → find (starts_at addr) xs ≡ None → find (starts_at addr) ys ≡ o → find (starts_at addr) rs ≡ o
  found_small addr o none e = both.finds addr ∙ ap (λ u. option_or u (find (starts_at addr) ys)) none ∙ e

  none_small : (addr : ℕ) (r : Region) → find (starts_at addr) xs ≡ Some r → find (starts_at addr) ys ≡ None
  none_small addr r e = elim (is.apart.one addr) [ inl n ↦ absurd (cc) | inr n ↦ n ]

  -- ---- regions that land

  module _ (client class count : ℕ) (come : List Region) (low : class < 121) (few : client < 32) (of : Every (IsOf 0 121) come) (have : HaveCome class (Some client) count rs (landing come rs)) (can : CanCome come rs) where
    lands : (xs' ys' : List Region) → AreApart addr_of xs' ys' × (landing come rs ≡ landing xs' ys') → Lands class (Some client) count (landing come rs) xs' ys' b.totals
    lands xs' ys' split = record {
      room = can_grow class (Some client) count rs (landing come rs) have b.totals low (few_holders (Some client) few) is.totals (every_landing addr_of (IsOf 0 121) come rs of all_of) can.fits;
      apart = split.0;
      regions = sym split.1;
      totals = λ u more. subst (AreTotals u) split.1 (totals_more class (Some client) count rs (landing come rs) have b.totals u more is.totals);
    }

    pub lands_small : (now : List Region) → now ≡ landing come ys → Lands class (Some client) count (landing come rs) xs now b.totals
    lands_small now new =
        let fresh = can_come come rs can.alone in
        subst (λ ms. Lands class (Some client) count (landing come rs) xs ms b.totals) (sym new) (lands xs (landing come ys) (land_right addr_of come xs ys is.apart fresh.0 fresh.1))

    pub lands_large : (now : List Region) → now ≡ landing come xs → Lands class (Some client) count (landing come rs) now ys b.totals
    lands_large now new =
        let fresh = can_come come rs can.alone in
        subst (λ ms. Lands class (Some client) count (landing come rs) ms ys b.totals) (sym new) (lands (landing come xs) ys (land_left addr_of come xs ys is.apart fresh.0 fresh.1))

  -- the first regions of an extent
  pub slab_lands : {bins : Bins} (client class addr count n : ℕ) (now : List Region) → bins ≡ record b.bins { client = client } → class < 36 → client < 32 → n ≡ count
      → CanCome (regions_from client class addr count) rs → now ≡ landing (regions_from bins.client class addr count) bins.regions → Lands class (Some client) n (landing (regions_from client class addr count) rs) xs now b.totals
  slab_lands client class addr count n now served small few so_many can new =
      let come = some_come client class (λ i. addr + i * size_at class) (range_with_len 0 count) rs in
      lands_small client class n (regions_from client class addr count) (omega arith) few (made_of 0 121 client class (λ i. addr + i * size_at class) (range_with_len 0 count) (omega arith) (omega arith) few)
      (subst (λ k. HaveCome class (Some client) k rs (landing (regions_from client class addr count) rs)) (length-range_with_len 0 count ∙ sym so_many) come) can now
      (new ∙ ap (λ (s : Bins). landing (regions_from s.client class addr count) s.regions) served)

  -- regions at some addresses
  pub fill_lands : {bins : Bins} (client class n : ℕ) (addrs now : List ℕ) (land : List Region) → bins ≡ record b.bins { client = client } → class < 36 → client < 32 → n ≡ length addrs
      → addrs ≡ now → CanCome (map (region_of client class) now) rs → land ≡ landing (map (region_of bins.client class) addrs) bins.regions → Lands class (Some client) n (landing (map (region_of client class) now) rs) xs land b.totals
  fill_lands client class n addrs now land served small few so_many same can new =
      lands_small client class n (map (region_of client class) now) (omega arith) few (made_of 0 121 client class (λ a. a) now (omega arith) (omega arith) few)
      (subst (λ k. HaveCome class (Some client) k rs (landing (map (region_of client class) now) rs)) (sym (so_many ∙ ap length same)) (some_come client class (λ a. a) now rs)) can land
      (new ∙ ap (λ (s : Bins). landing (map (region_of s.client class) addrs) s.regions) served ∙ ap (λ ns. landing (map (region_of client class) ns) ys) same)

  -- nothing begins where a large one comes, which alone lands
  pub page_free : (client class addr : ℕ) → CanCome (regions_from client class addr 1) rs → find (starts_at addr) xs ≡ None
  page_free client class addr can =
      let new = new_apart addr_of (regions_from client class addr 1) rs (can_come (regions_from client class addr 1) rs can.alone).1 addr in
      let here : find (starts_at addr) (regions_from client class addr 1) ≡ Some (region_of client class addr) = ap (find (starts_at addr)) (one_from client class addr) ∙ grind (arith, nat_tests) in
      let none : option_or (find (starts_at addr) xs) (find (starts_at addr) ys) ≡ None = (elim new [ inl n ↦ absurd (cc) | inr n ↦ sym (both.finds addr) ∙ n ]) in
      grind (arith, none)

  pub page_lands : (client class addr : ℕ) (now : List Region) → class < 121 → client < 32 → CanCome (regions_from client class addr 1) rs
      → now ≡ inserted (region_of client class addr) xs → Lands class (Some client) 1 (landing (regions_from client class addr 1) rs) now ys b.totals
  page_lands client class addr now low few can new =
      lands_large client class 1 (regions_from client class addr 1) low few (made_of 0 121 client class (λ i. addr + i * size_at class) (range_with_len 0 1) (omega arith) low few)
      (some_come client class (λ i. addr + i * size_at class) (range_with_len 0 1) rs) can now (new ∙ ap (λ come. landing come xs) (sym (one_from client class addr)))

  -- ---- a region that goes

  module _ (addr : ℕ) (r : Region) (found_r : find (starts_at addr) rs ≡ Some r) where
    abbrev rest : List Region
    rest = filter (λ q. not (starts_at addr q)) rs

    -- it is there besides the others
    besides : HaveCome r.class r.holder 1 rest rs
    besides = subst (HaveCome r.class r.holder 1 rest) (sym (taken_out addr_of rs addr r both.rising found_r)) (one_comes r rest)

    pub found_in : IsOf 0 121 r
    found_in = found_of 0 121 addr rs r all_of found_r

    shrinks : CanShrink r.class r.holder b.totals
    shrinks = can_shrink r.class r.holder rest rs b.totals besides found_in.class (few_holders r.holder found_in.holder) is.totals

    backs : (c : ℕ) (xs' ys' : List Region) → holds_at c rs addr ≡ true → xs' ≡ filter (λ q. not (starts_at addr q)) xs → ys' ≡ filter (λ q. not (starts_at addr q)) ys → Backs c addr r rs xs' ys' b.totals
    backs c xs' ys' held left right =
        let g = gives c addr rs both.rising held in
        let is_r : Some g.0 ≡ Some r = sym g.1.found ∙ found_r in
        let same : g.0 ≡ r = cc in
        let drop = drop_both addr_of addr xs ys is.apart in
        subst (λ ls. Backs c addr r rs ls ys' b.totals) (sym left) (subst (λ ls. Backs c addr r rs (filter (λ q. not (starts_at addr q)) xs) ls b.totals) (sym right) (record {
          can = shrinks;
          apart = drop.0;
          regions = sym drop.1 ∙ sym g.1.stay;
          gone = ap (map (λ q. q.class)) g.1.gone ∙ ap (λ q. q.class ∷ []) same;
          totals = λ u less. subst (AreTotals u) drop.1 (totals_less r.class r.holder 1 rest rs besides u b.totals less is.totals);
        }))

    -- another region in its place
    pub swaps : (change : Region → Region) → ((q : Region) → (change q).addr ≡ q.addr) → IsHolder (change r).holder → (change r).class < 121 → ((q : Region) → IsOf 0 121 q → IsOf 0 121 (change q)) → b.totals.bytes + size_at (change r).class < 2 ^ 64 + size_at r.class → Swaps addr r change rs b.totals
    swaps change keeps holder class of fits =
        let come : HaveCome (change r).class (change r).holder 1 rest (changed (starts_at addr) change rs) = subst (HaveCome (change r).class (change r).holder 1 rest) (sym (changed_is addr_of change keeps rs addr r both.rising found_r)) (one_comes (change r) rest) in
        let bytes : region_bytes (changed (starts_at addr) change rs) < 2 ^ 64 = (
        let more = come (λ q. size_at q.class) (size_at (change r).class) (λ a. refl) in
        let less = besides (λ q. size_at q.class) (size_at r.class) (λ a. refl) in
        omega (arith, more, less, is.totals.bytes, fits)) in
        let left = λ (u : Totals) (less : AreMore r.class r.holder 1 u b.totals). totals_less r.class r.holder 1 rest rs besides u b.totals less is.totals in
        record {
          can = shrinks;
          room = λ u less. can_grow (change r).class (change r).holder 1 rest (changed (starts_at addr) change rs) come u class (few_holders (change r).holder holder) (left u less) (every_changed addr_of (IsOf 0 121) (starts_at addr) change rs of all_of) bytes;
          totals = λ u v less more. totals_more (change r).class (change r).holder 1 rest (changed (starts_at addr) change rs) come u v more (left u less);
        }

  pub backs_large : (c addr : ℕ) (r : Region) (xs' : List Region) → holds_at c rs addr ≡ true → find (starts_at addr) xs ≡ Some r → xs' ≡ filter (λ q. not (starts_at addr q)) xs → Backs c addr r rs xs' ys b.totals
  backs_large c addr r xs' held e new = backs addr r (found_large addr r e) c xs' ys held new (sym (absent_filter addr_of addr ys (none_small addr r e)))

  pub backs_small : (c addr : ℕ) (r : Region) (ys' : List Region) → holds_at c rs addr ≡ true → find (starts_at addr) xs ≡ None → find (starts_at addr) ys ≡ Some r → ys' ≡ filter (λ q. not (starts_at addr q)) ys → Backs c addr r rs xs ys' b.totals
  backs_small c addr r ys' held none e new = backs addr r (found_small addr (Some r) none e) c xs ys' held (sym (absent_filter addr_of addr xs none)) new

  -- where the client's region isn't large, it is small
  pub small_there : (c addr : ℕ) → holds_at c rs addr ≡ true → find (starts_at addr) xs ≡ None → (r : Region) × (find (starts_at addr) ys ≡ Some r)
  small_there c addr held none = let g = gives c addr rs both.rising held in (g.0, sym (found_small addr (find (starts_at addr) ys) none refl) ∙ g.1.found)

  -- ---- the two books after one of them changed

  module _ (addr : ℕ) (change : Region → Region) (keeps : (q : Region) → (change q).addr ≡ q.addr) where
    swapped : (xs' ys' : List Region) → xs' ≡ changed (starts_at addr) change xs → ys' ≡ changed (starts_at addr) change ys → Swapped addr change rs xs' ys'
    swapped xs' ys' left right =
        let two = change_both addr_of change keeps addr xs ys is.apart in
        subst (λ ls. Swapped addr change rs ls ys') (sym left) (subst (Swapped addr change rs (changed (starts_at addr) change xs)) (sym right) (record { apart = two.0; regions = sym two.1 }))

    pub swapped_large : (r : Region) (xs' : List Region) → find (starts_at addr) xs ≡ Some r → xs' ≡ changed (starts_at addr) change xs → Swapped addr change rs xs' ys
    swapped_large r xs' e new = swapped xs' ys new (sym (absent_changed addr_of change addr ys (none_small addr r e)))

    pub swapped_small : (ys' : List Region) → find (starts_at addr) xs ≡ None → ys' ≡ changed (starts_at addr) change ys → Swapped addr change rs xs ys'
    swapped_small ys' none new = swapped xs ys' (sym (absent_changed addr_of change addr xs none)) new

  -- ---- a large region of another class

  module _ (addr client class : ℕ) (r : Region) where
    in_place : (ms : List Region) → IsRising addr_of ms → find (starts_at addr) ms ≡ Some r → changed (starts_at addr) (becomes client class) ms ≡ inserted (region_of client class addr) (filter (λ q. not (starts_at addr q)) ms)
    in_place ms rising e = changed_is addr_of (becomes client class) (λ q. refl) ms addr r rising e ∙ ap (λ a. inserted (region_of client class a) (filter (λ q. not (starts_at addr q)) ms)) (found_there addr_of addr ms r e)

    pub in_one : find (starts_at addr) xs ≡ Some r → changed (starts_at addr) (becomes client class) xs ≡ inserted (region_of client class addr) (filter (λ q. not (starts_at addr q)) xs)
    in_one = in_place xs is.apart.left

    pub in_both : find (starts_at addr) rs ≡ Some r → changed (starts_at addr) (becomes client class) rs ≡ inserted (region_of client class addr) (filter (λ q. not (starts_at addr q)) rs)
    in_both = in_place rs both.rising

  -- one that is there is among the large ones
  pub large_there : (addr : ℕ) → list_any (is_large addr) rs ≡ true → (r : Region) × (find (starts_at addr) xs ≡ Some r)
  large_there addr there =
      let m = any_from (is_large addr) rs there in
      let is = both_true (starts_at addr m.0) (nat_le 36 m.0.class) m.2 in
      either m.0 (find (starts_at addr) xs) refl (ap (λ a. find (starts_at a) rs) (sym (eqb-true _ _ is.0)) ∙ member_found addr_of rs m.0 both.rising m.1) is.1
    where
      either : (q : Region) (o : Option Region) → find (starts_at addr) xs ≡ o → find (starts_at addr) rs ≡ Some q → nat_le 36 q.class ≡ true → (r : Region) × (find (starts_at addr) xs ≡ Some r)
      either q (Some r) e both large = (r, e)
      either q None e both large =
          let of = found_of 0 36 addr ys q is.smalls (sym (found_small addr (find (starts_at addr) ys) e refl) ∙ both) in
          let small = of.class in
          absurd (grind (arith, nat_tests))

-- a book with the same regions and totals
pub book_again : {b n : Inside} → IsRegionBook b → n.larges.regions ≡ b.larges.regions → n.bins.regions ≡ b.bins.regions → n.totals ≡ b.totals → IsRegionBook n
book_again {b} {n} is left right totals = record {
  apart = subst (λ ls. AreApart addr_of ls n.bins.regions) (sym left) (subst (AreApart addr_of b.larges.regions) (sym right) is.apart);
  larges = subst (Every (IsOf 36 121)) (sym left) is.larges;
  smalls = subst (Every (IsOf 0 36)) (sym right) is.smalls;
  totals = subst (λ t. AreTotals t (landing n.larges.regions n.bins.regions)) (sym totals) (subst (AreTotals b.totals) (λ i. landing (sym left i) (sym right i)) is.totals);
}

-- as many were taken as are behind what was there
pub taken_many : {before after was : List ℕ} (more : List ℕ) → before ≡ was → after ≡ was ++ more → length after - length before ≡ length more
taken_many {before} {after} {was} more is then = let b = ap length is in let a = ap length then ∙ length-append was more in omega (arith, a, b)

-- ---- slabs

pub last_large : (class addr : ℕ) (slabs : List BinSlab) → 36 ≤ class → (is_last class addr slabs ≡ true) × (slabs_returned class addr slabs ≡ slabs)
last_large class addr slabs large = let no : nat_lt class 36 ≡ false = grind (arith, nat_tests) in (rw no refl, rw no refl)

pub last_small : (class addr : ℕ) (slabs : List BinSlab) → class < 36 → (is_last class addr slabs ≡ list_any is_all_free (map (with_free addr) slabs)) × (slabs_returned class addr slabs ≡ filter (λ x. not (is_all_free x)) (map (with_free addr) slabs))
last_small class addr slabs small = let yes : nat_lt class 36 ≡ true = grind (arith, nat_tests) in (rw yes refl, rw yes refl)
