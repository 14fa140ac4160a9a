-- Regions that land in slabs: several in a new extent, and the free ones of all slabs of a class.
use Rattle.std.proofs.Common.{true, false, ◌≡◌, ◌≢◌, ℕ, zero, suc, inl, inr, ◌+◌, ◌*◌, ◌/◌, ◌%◌, ◌<◌, ◌≤◌, Bool, not, cond, IsTrue, List, ◌∷◌, ◌++◌, get_or, take, map, Some, refl, sym, ◌∙◌, ap, subst, arith, All, find, filter, ◌&&◌, ◌==◌, leb as nat_le, ltb as nat_lt, []}
use Rattle.space_model.proofs.Words.{sum_by, count_by, list_any, flat_map, position_or_len, range_with_len, cases_lt, eqb-true, ltb-true, nat_tests, get_or-range_with_len, length-range_with_len, Any-from_list_any, sum_by-cons, sum_by-insert, sum_by-append, get_or-le-sum_by, All-weaker, All-append, All-nil, All-head, All-tail, All-filter, All-map, All-take, filter_passes, row_fits, size_at, pages_at, regions_at, align_at, size_bounds, slab_filled, Land, Fill, Nothing, Landed, Part, Region, Span, Active, Space, has_page, holders, is_active, is_flight_at, begins_at, address_of, covers, sharers, lies_in, houses, homes, inserted, landing, region_of, is_slab, is_held_by, starts_at, places, free_places, slabs_of, lowest_free, fill_at, after_fill, fill_stands, land_at, land_stands, most_regions, is_live, Sound, IsInSlab, FillNoArena, FillNothing, FillRegions, LandLanded, holds_at}
use Rattle.space_model.proofs.Lists.{All-flat_map, All-insert, all_sum_le, counted_any, none_passes, not_true, nothing_sum, ones, sole, sum_add, map_terms}
use Rattle.space_model.proofs.Exchange.{share}
use Rattle.space_model.proofs.Mixes.{mix_sum, mix_filter, mix_second, mixed_append, mixed_filter, mixed_insert}
use Rattle.space_model.proofs.Ordered.{ordered-landing}
use Rattle.space_model.proofs.Settled.{Settled, Used, LargeAt, SmallAt, serves, serves_by, covered, covers_start, serves-le-share, idle-serves, homes-le-holders, sound_settled}
use Rattle.space_model.proofs.Changes.{Does, regions_does, whole, whole_lawful, lawful_sound, all_fit, one_left, kept_frame, live_quiet}
use Rattle.space_model.proofs.Pieces.{both_true, not_both}
use Rattle.space_model.proofs.Landing.{eqb_itself, lies_between, place_aligned, ones_most, land_does}
use Rattle.space_model.proofs.Found.{found_span}
use Rattle.space_model.proofs.Outcomes.{Goes, goes, Comes, live_goes, on_found}
use Rattle.space_model.proofs.Moves.{live_is, itself, flight_at, still}
use Rattle.space_model.proofs.Turned.{turned_sum, All-turned}

-- ---- one more region in a slab

-- Where a small region lands in a slab that is there: at a place of it, and where no region begins.
pub record Spot (parts : List Part) (regions : List Region) (r : Region) : Type 0 where
  pub small : r.class < 36
  pub home : homes r parts ≡ 1
  pub slab : All (λ p. IsTrue (houses p r) → IsInSlab regions p r) parts
  pub aligned : r.addr % align_at r.class ≡ 0
  pub free : All (λ q. starts_at r.addr q ≡ false) regions

-- two places of a slab that share a byte are one
same_place : (base size i j byte : ℕ) → base + i * size ≤ byte → byte < base + i * size + size → base + j * size ≤ byte → byte < base + j * size + size → i ≡ j
same_place base size i j byte low high also within = grind (arith, nat_tests, row_fits i size j size, row_fits j size i size)

-- in one slab, two regions that share a byte begin at one place
same_start : (regions : List Region) (p : Part) (q r : Region) (byte : ℕ) → q.class ≡ r.class → IsInSlab regions p q → IsInSlab regions p r →
    covers byte q ≡ true → covers byte r ≡ true → q.addr ≡ r.addr
same_start regions p q r byte class at to has also =
    let i : ℕ = at.place.0 in
    let j : ℕ = to.place.0 in
    let size : size_at q.class ≡ size_at r.class = ap size_at class in
    let start : q.addr ≡ address_of p.span.first + i * size_at r.class = at.place.2 ∙ ap (λ n. address_of p.span.first + i * n) size in
    let same : i ≡ j = same_place (address_of p.span.first) (size_at r.class) i j byte (grind (arith, nat_tests, has, start)) (grind (arith, nat_tests, has, start, size)) (grind (arith, nat_tests, also, to.place.2)) (grind (arith, nat_tests, also, to.place.2)) in
    start ∙ ap (λ n. address_of p.span.first + n * size_at r.class) same ∙ sym to.place.2

-- no region has a byte of the spot
spot_alone : (parts : List Part) (regions : List Region) (r : Region) → ((page : ℕ) → holders page parts ≤ 1) → Settled parts regions → Spot parts regions r →
    (byte : ℕ) → covers byte r ≡ true → sharers byte regions ≡ 0
spot_alone parts regions r owners all spot byte has = nothing_sum (covered byte) regions
    (λ k d h. let q : Region = get_or regions k d in
    elim (covers byte q) as (λ b. covers byte q ≡ b → ones b ≡ 0) [
      | false ↦ λ e. refl
      | true ↦ λ e.
          let page : ℕ = byte / 4096 in
          let few : All (λ p. serves r p + serves q p ≤ share page p) parts =
          λ j x i. let p : Part = get_or parts j x in
          let clash : houses p q ≡ true → houses p r ≡ true → starts_at r.addr q ≡ true = λ f u.
          let to = spot.slab j x i u in
          let class : q.class ≡ r.class = to.alike k d h f in
          let at = all.small k d h j x i f (omega (arith, class, spot.small)) in
          let start = same_start regions p q r byte class at to e has in grind (arith, nat_tests, start) in
          grind (arith, clash, spot.free k d h, serves-le-share byte r p has, serves-le-share byte q p e) in
          absurd (omega (arith, spot.home, all.home k d h, sum_add (serves r) (serves q) parts, all_sum_le (λ p. serves r p + serves q p) (share page) parts few, owners page))
    ] refl)

-- the regions with the one at the spot are settled
spot_settled : (parts : List Part) (regions : List Region) (r : Region) → ((page : ℕ) → holders page parts ≤ 1) → Settled parts regions → Spot parts regions r →
    Settled parts (inserted r regions)
spot_settled parts regions r owners all spot =
    let n : ℕ = position_or_len (λ (q : Region). nat_lt r.addr q.addr) regions in
    let after : List Region = inserted r regions in
    let more : (f : Region → ℕ) → sum_by f after ≡ sum_by f regions + f r = λ f. sum_by-insert f regions n r in
    let within : r.class < 121 = omega (arith, spot.small) in record {
      home = All-insert (λ q. homes q parts ≡ 1) regions n r all.home spot.home;
      used = All-weaker (Used regions) (Used after) (λ p h act. omega (arith, h act, more (serves_by p))) parts all.used;
      large = All-insert (λ q. All (LargeAt after q) parts) regions n r
          (λ k d h j e i home big.
          let p : Part = get_or parts j e in
          let was = all.large k d h j e i home big in
          let none : serves_by p r ≡ 0 = elim (houses p r) as (λ b. houses p r ≡ b → ones b ≡ 0)
          [ false ↦ λ u. refl | true ↦ λ u. absurd (omega (arith, (spot.slab j e i u).alike k d h home, spot.small, big)) ] refl in
          (was.0, omega (arith, was.1, more (serves_by p), none)))
          (λ j e i home big. absurd (omega (arith, big, spot.small)));
      small = All-insert (λ q. All (SmallAt after q) parts) regions n r
          (λ k d h j e i home little.
          let q : Region = get_or regions k d in
          let p : Part = get_or parts j e in
          let was = all.small k d h j e i home little in record {
            pages = was.pages;
            alike = All-insert (λ x. IsTrue (houses p x) → x.class ≡ q.class) regions n r was.alike (λ u. sym ((spot.slab j e i u).alike k d h home));
            place = was.place;
          })
          (λ j e i home little.
          let p : Part = get_or parts j e in
          let at = spot.slab j e i home in record {
            pages = at.pages;
            alike = All-insert (λ x. IsTrue (houses p x) → x.class ≡ r.class) regions n r at.alike (λ u. refl);
            place = at.place;
          });
      classes = All-insert (λ q. q.class < 121) regions n r all.classes within;
      aligned = All-insert (λ q. q.addr % align_at q.class ≡ 0) regions n r all.aligned spot.aligned;
      apart = λ byte. grind (arith, more (covered byte), all.apart byte, spot_alone parts regions r owners all spot byte);
    }

-- ---- several regions

-- Elements whose numbers all differ.
pub data Distinct (X : Type 0) (key : X → ℕ) : List X → Type 0 where
  NoneLeft : Distinct X key []
  OneMore : (x : X) {xs : List X} → All (λ y. key x ≢ key y) xs → Distinct X key xs → Distinct X key (x ∷ xs)

-- a spot of the same class elsewhere stays one
spot_stays : (parts : List Part) (regions : List Region) (q r : Region) → q.class ≡ r.class → q.addr ≢ r.addr → Spot parts regions r → Spot parts (inserted q regions) r
spot_stays parts regions q r class differ spot =
    let n : ℕ = position_or_len (λ (x : Region). nat_lt q.addr x.addr) regions in record {
      small = spot.small;
      home = spot.home;
      slab = λ j e i home. let at = spot.slab j e i home in record {
        pages = at.pages;
        alike = All-insert (λ x. IsTrue (houses (get_or parts j e) x) → x.class ≡ r.class) regions n q at.alike (λ u. class);
        place = at.place;
      };
      aligned = spot.aligned;
      free = All-insert (λ x. starts_at r.addr x ≡ false) regions n q spot.free (grind (arith, nat_tests));
    }

-- regions of a class that land at free places of slabs are settled
pub spots_settled : (class : ℕ) (parts : List Part) (come regions : List Region) → ((page : ℕ) → holders page parts ≤ 1) → Distinct Region (λ r. r.addr) come →
    All (λ r. r.class ≡ class) come → All (Spot parts regions) come → Settled parts regions → Settled parts (landing come regions)
spots_settled class parts [] regions owners distinct same spots all = all
spots_settled class parts (r ∷ rs) regions owners (OneMore x apart rest) same spots all =
    let here : r.class ≡ class = All-head (λ q. q.class ≡ class) r rs same in
    let later = All-tail (λ q. q.class ≡ class) r rs same in
    let left = All-tail (Spot parts regions) r rs spots in
    spots_settled class parts rs (inserted r regions) owners rest later
    (λ k d h. spot_stays parts regions r (get_or rs k d) (here ∙ sym (later k d h)) (apart k d h) (left k d h))
    (spot_settled parts regions r owners all (All-head (Spot parts regions) r rs spots))

-- and no other client holds one of them
pub landing_held : (d : ℕ) (come regions : List Region) → All (λ r. is_held_by d r ≡ false) come → filter (is_held_by d) (landing come regions) ≡ filter (is_held_by d) regions
landing_held d [] regions none = refl
landing_held d (r ∷ rs) regions none =
    let n : ℕ = position_or_len (λ (q : Region). nat_lt r.addr q.addr) regions in
    let one : ones (is_held_by d r) ≡ 0 = ap ones (All-head (λ q. is_held_by d q ≡ false) r rs none) in
    landing_held d rs (inserted r regions) (All-tail (λ q. is_held_by d q ≡ false) r rs none)
    ∙ mix_filter (is_held_by d) (mixed_insert regions n r) (omega (arith, one, sum_by-cons (λ q. ones (is_held_by d q)) r []))

-- ---- lists whose numbers differ

Distinct-filter : {X : Type 0} {key : X → ℕ} (keep : X → Bool) {xs : List X} → Distinct X key xs → Distinct X key (filter keep xs)
Distinct-filter keep NoneLeft = NoneLeft
Distinct-filter {X} {key} keep (OneMore x {xs} apart rest) =
    elim (keep x) as (λ b. Distinct X key (cond b (x ∷ filter keep xs) (filter keep xs)))
    [ true ↦ OneMore x (All-filter keep (λ y. key x ≢ key y) xs apart) (Distinct-filter keep rest) | false ↦ Distinct-filter keep rest ]

Distinct-take : {X : Type 0} {key : X → ℕ} (n : ℕ) {xs : List X} → Distinct X key xs → Distinct X key (take n xs)
Distinct-take zero distinct = NoneLeft
Distinct-take (suc n) NoneLeft = NoneLeft
Distinct-take {X} {key} (suc n) (OneMore x {xs} apart rest) = OneMore x (All-take (λ y. key x ≢ key y) n xs apart) (Distinct-take n rest)

Distinct-append : {X : Type 0} {key : X → ℕ} {xs : List X} (ys : List X) → Distinct X key xs → Distinct X key ys → All (λ x. All (λ y. key x ≢ key y) ys) xs → Distinct X key (xs ++ ys)
Distinct-append ys NoneLeft second cross = second
Distinct-append {X} {key} ys (OneMore x {xs} apart rest) second cross =
    OneMore x (All-append (λ y. key x ≢ key y) xs ys apart (All-head (λ z. All (λ y. key z ≢ key y) ys) x xs cross))
    (Distinct-append ys rest second (All-tail (λ z. All (λ y. key z ≢ key y) ys) x xs cross))

Distinct-map : {X Y : Type 0} {key : X → ℕ} (also : Y → ℕ) (f : X → Y) → ((x : X) → also (f x) ≡ key x) → {xs : List X} → Distinct X key xs → Distinct Y also (map f xs)
Distinct-map also f same NoneLeft = NoneLeft
Distinct-map {X} {Y} {key} also f same (OneMore x {xs} apart rest) =
    OneMore (f x) (All-map (λ y. also (f x) ≢ also y) f xs (λ k d h e. apart k d h (sym (same x) ∙ e ∙ same (get_or xs k d)))) (Distinct-map also f same rest)

-- places of a size differ
steps_distinct : {X : Type 0} (key : X → ℕ) (f : ℕ → X) (base size : ℕ) → ((i : ℕ) → key (f i) ≡ base + i * size) → 0 < size → (a n : ℕ) → Distinct X key (map f (range_with_len a n))
steps_distinct key f base size is some a zero = NoneLeft
steps_distinct key f base size is some a (suc n) =
    OneMore (f a) (All-map (λ y. key (f a) ≢ key y) f (range_with_len (a + 1) n)
    (λ k d h e. let i : ℕ = get_or (range_with_len (a + 1) n) k d in
    let above = get_or-range_with_len (a + 1) n k d (omega (arith, length-range_with_len (a + 1) n)) in
    absurd (omega (arith, e, is a, is i, some, row_fits a size i size (omega (arith, above)) (omega arith)))))
    (steps_distinct key f base size is some (a + 1) n)

-- addresses in extents that share no page differ
flat_distinct : (f : Part → List ℕ) (ps : List Part) → ((page : ℕ) → holders page ps ≤ 1) → All (λ p. Distinct ℕ (λ a. a) (f p)) ps → All (λ p. All (λ a. share (a / 4096) p ≡ 1) (f p)) ps →
    Distinct ℕ (λ a. a) (flat_map f ps) × All (λ a. 1 ≤ holders (a / 4096) ps) (flat_map f ps)
flat_distinct f [] owners distinct inside = (NoneLeft, All-nil (λ a. 1 ≤ holders (a / 4096) []))
flat_distinct f (p ∷ ps) owners distinct inside =
    let sums : (page : ℕ) → holders page (p ∷ ps) ≡ share page p + holders page ps = λ page. sum_by-cons (share page) p ps in
    let here : All (λ a. share (a / 4096) p ≡ 1) (f p) = All-head (λ q. All (λ a. share (a / 4096) q ≡ 1) (f q)) p ps inside in
    let later = flat_distinct f ps (λ page. omega (arith, owners page, sums page)) (All-tail (λ q. Distinct ℕ (λ a. a) (f q)) p ps distinct)
    (All-tail (λ q. All (λ a. share (a / 4096) q ≡ 1) (f q)) p ps inside) in (
      Distinct-append (flat_map f ps) (All-head (λ q. Distinct ℕ (λ a. a) (f q)) p ps distinct) later.0
          (λ k d h j e i same.
          let a : ℕ = get_or (f p) k d in
          let b : ℕ = get_or (flat_map f ps) j e in
          let there : 1 ≤ holders (a / 4096) ps = subst (λ n. 1 ≤ holders (n / 4096) ps) (sym same) (later.1 j e i) in
          absurd (omega (arith, owners (a / 4096), sums (a / 4096), here k d h, there))),
      All-append (λ a. 1 ≤ holders (a / 4096) (p ∷ ps)) (f p) (flat_map f ps)
          (λ k d h. omega (arith, here k d h, sums (get_or (f p) k d / 4096)))
          (λ k d h. omega (arith, later.1 k d h, sums (get_or (flat_map f ps) k d / 4096))),
    )

-- ---- the slabs of a class

-- A slab of a class: an active, committed extent of the class's pages, all of whose regions are of the class.
record SlabOf (class : ℕ) (regions : List Region) (p : Part) : Type 0 where
  active : is_active p.state ≡ true
  committed : p.committed ≡ true
  pages : p.span.pages ≡ pages_at class
  alike : All (λ q. IsTrue (houses p q) → q.class ≡ class) regions

-- an extent that serves a region of a small class is such a slab
slab_is : (class : ℕ) (parts : List Part) (regions : List Region) → class < 36 → Settled parts regions → All (λ p. is_slab class regions p ≡ true → SlabOf class regions p) parts
slab_is class parts regions small all = λ j e i h.
    let p : Part = get_or parts j e in
    let some = Any-from_list_any (λ r. r.class == class && houses p r) regions h in
    let q : Region = some.1 in
    let both = both_true (q.class == class) (houses p q) some.4 in
    let is : q.class ≡ class = eqb-true _ _ both.0 in
    let there : q ≡ get_or regions some.0 q = sym some.3 in
    let home : houses p (get_or regions some.0 q) ≡ true = subst (λ r. houses p r ≡ true) there both.1 in
    let same : (get_or regions some.0 q).class ≡ class = ap (λ (r : Region). r.class) (sym there) ∙ is in
    let slab = all.small some.0 q some.2 j e i home (omega (arith, same, small)) in
    let served = both.1 in record {
      active = grind (arith, served);
      committed = grind (arith, served);
      pages = slab.pages ∙ ap pages_at same;
      alike = λ k d u home. slab.alike k d u home ∙ same;
    }

-- whether an address is a place of the extent
abbrev InPlace : ℕ → Part → ℕ → Type 0
InPlace class p a = (i : ℕ) × (i < regions_at class) × (a ≡ address_of p.span.first + i * size_at class)

in_places : (class : ℕ) (p : Part) → All (InPlace class p) (places class p)
in_places class p =
    All-map (InPlace class p) (λ i. address_of p.span.first + i * size_at class) (range_with_len 0 (regions_at class))
    (λ k d h. let within : k < regions_at class = omega (arith, length-range_with_len 0 (regions_at class)) in
    (get_or (range_with_len 0 (regions_at class)) k d, omega (arith, within, get_or-range_with_len 0 (regions_at class) k d within), refl))

-- an active, committed extent of a small class's pages serves a region of the class at each of its places
place_served : (c class : ℕ) (p : Part) (a : ℕ) → class < 36 → is_active p.state ≡ true → p.committed ≡ true → p.span.pages ≡ pages_at class → InPlace class p a → houses p (region_of c class a) ≡ true
place_served c class p a small active committed pages place =
    let fits = row_fits place.0 (size_at class) (regions_at class) (size_at class) place.1 (omega arith) in
    let inside : lies_in p.span (region_of c class a) ≡ true = lies_between p.span (region_of c class a) (omega (arith, place.2)) (omega (arith, place.2, pages, fits, (slab_filled class small).0)) in
    rw (active, committed, inside) refl

-- a place of a slab at which no region begins is a spot
abbrev Takes : ℕ → ℕ → List Part → List Region → Part → Type 0
Takes c class parts regions p =
    is_slab class regions p ≡ true → (a : ℕ) → InPlace class p a → All (λ q. starts_at a q ≡ false) regions → Spot parts regions (region_of c class a)

place_spots : (c class : ℕ) (parts : List Part) (regions : List Region) → class < 36 → ((page : ℕ) → holders page parts ≤ 1) → Settled parts regions →
    All (Takes c class parts regions) parts
place_spots c class parts regions small owners all = λ j e i h a place free.
    let p : Part = get_or parts j e in
    let slab = slab_is class parts regions small all j e i h in
    let r : Region = region_of c class a in
    let here : houses p r ≡ true = place_served c class p a small slab.active slab.committed slab.pages place in
    let one : serves r p ≡ 1 = ap ones here in
    let has = covers_start r (size_bounds class (omega (arith, small))).0 in
    let few : homes r parts ≤ 1 = omega (arith, homes-le-holders a r parts has, owners (a / 4096)) in
    let only = sole (λ q. houses q r) (λ q. is_slab class regions q && begins_at p.span.first q) parts j e few i here (grind (arith, nat_tests, h)) in record {
      small = small;
      home = omega (arith, few, one, get_or-le-sum_by (serves r) parts j e i);
      slab = λ m f g home.
          let q : Part = get_or parts m f in
          let key = both_true (is_slab class regions q) (begins_at p.span.first q) (only m f g home) in
          let at = slab_is class parts regions small all m f g key.0 in
          let first : q.span.first ≡ p.span.first = eqb-true _ _ key.1 in record {
            pages = at.pages;
            alike = at.alike;
            place = (place.0, place.1, place.2 ∙ ap (λ n. address_of n + place.0 * size_at class) (sym first));
          };
      aligned = subst (λ n. n % align_at class ≡ 0) (sym place.2) (place_aligned p.span.first place.0 class (omega (arith, small)));
      free = free;
    }

-- so each free place of a slab is
free_spots : (c class : ℕ) (parts : List Part) (regions : List Region) → class < 36 → ((page : ℕ) → holders page parts ≤ 1) → Settled parts regions →
    All (λ p. is_slab class regions p ≡ true → All (λ a. Spot parts regions (region_of c class a)) (free_places class regions p)) parts
free_spots c class parts regions small owners all = λ j e i h k d within.
    let p : Part = get_or parts j e in
    let test : ℕ → Bool = λ a. not (list_any (starts_at a) regions) in
    let a : ℕ = get_or (free_places class regions p) k d in
    let place = All-filter test (InPlace class p) (places class p) (in_places class p) k d within in
    place_spots c class parts regions small owners all j e i h a place
    (λ m f g. none_passes (starts_at a) regions m f (not_true _ (filter_passes test (places class p) k d within)) g)

-- a place of a slab is in a page of it
free_inside : (class : ℕ) (parts : List Part) (regions : List Region) → class < 36 → Settled parts regions →
    All (λ p. is_slab class regions p ≡ true → All (λ a. share (a / 4096) p ≡ 1) (free_places class regions p)) parts
free_inside class parts regions small all = λ j e i h k d within.
    let p : Part = get_or parts j e in
    let slab = slab_is class parts regions small all j e i h in
    let test : ℕ → Bool = λ a. not (list_any (starts_at a) regions) in
    let a : ℕ = get_or (free_places class regions p) k d in
    let r : Region = region_of 0 class a in
    let place = All-filter test (InPlace class p) (places class p) (in_places class p) k d within in
    let one : serves r p ≡ 1 = ap ones (place_served 0 class p a small slab.active slab.committed slab.pages place) in
    omega (arith, one, serves-le-share a r p (covers_start r (size_bounds class (omega (arith, small))).0), ones_most (has_page (a / 4096) p.span))

-- what is true of each slab is true of the slabs in order
in_order : (class : ℕ) (s : Space) (Q : Part → Type 0) → All (λ p. is_slab class s.regions p ≡ true → Q p) s.parts → All Q (slabs_of class s)
in_order class s Q all =
    let test : Part → Bool = is_slab class s.regions in
    All-turned (λ p. p) Q [] (filter test s.parts) (All-nil Q)
    (λ k d h. All-filter test (λ p. test p ≡ true → Q p) s.parts all k d h (filter_passes test s.parts k d h))

-- the lowest free places are spots, and differ
pub lowest_spots : (c class count : ℕ) (s : Space) → class < 36 → Sound s → All (λ a. Spot s.parts s.regions (region_of c class a)) (lowest_free class count s)
lowest_spots c class count s small sound =
    All-take (λ a. Spot s.parts s.regions (region_of c class a)) count (flat_map (free_places class s.regions) (slabs_of class s))
    (All-flat_map (λ a. Spot s.parts s.regions (region_of c class a)) (free_places class s.regions) (slabs_of class s)
    (in_order class s (λ p. All (λ a. Spot s.parts s.regions (region_of c class a)) (free_places class s.regions p))
    (free_spots c class s.parts s.regions small sound.owners (sound_settled s sound))))

pub lowest_distinct : (class count : ℕ) (s : Space) → class < 36 → Sound s → Distinct ℕ (λ a. a) (lowest_free class count s)
lowest_distinct class count s small sound =
    let test : Part → Bool = is_slab class s.regions in
    let some : 0 < size_at class = omega (arith, (size_bounds class (omega (arith, small))).0) in
    Distinct-take count (flat_distinct (free_places class s.regions) (slabs_of class s)
    (λ page. omega (arith, turned_sum (λ p. p) (share page) [] (filter test s.parts), mix_sum (share page) (mixed_filter test s.parts), sound.owners page))
    (λ k d h. let p : Part = get_or (slabs_of class s) k d in
    Distinct-filter (λ a. not (list_any (starts_at a) s.regions)) (steps_distinct (λ a. a) (λ i. address_of p.span.first + i * size_at class) (address_of p.span.first) (size_at class) (λ i. refl) some 0 (regions_at class)))
    (in_order class s (λ p. All (λ a. share (a / 4096) p ≡ 1) (free_places class s.regions p)) (free_inside class s.parts s.regions small (sound_settled s sound)))).0

-- ---- what the client holds then

-- a sum over regions that land
landing_sum : (f : Region → ℕ) (come regions : List Region) → sum_by f (landing come regions) ≡ sum_by f regions + sum_by f come
landing_sum f [] regions = omega arith
landing_sum f (r ∷ rs) regions =
    omega (arith, landing_sum f rs (inserted r regions), sum_by-insert f regions (position_or_len (λ (q : Region). nat_lt r.addr q.addr) regions) r, sum_by-cons f r rs)

-- the client holds regions of it that landed
landing_holds : {X : Type 0} (c class : ℕ) (f : X → ℕ) (xs : List X) (regions : List Region) →
    All (λ x. holds_at c (landing (map (λ y. region_of c class (f y)) xs) regions) (f x) ≡ true) xs
landing_holds c class f xs regions = λ k d h.
    let a : ℕ = f (get_or xs k d) in
    let come : List Region = map (λ y. region_of c class (f y)) xs in
    let test : Region → Bool = λ r. is_held_by c r && r.addr == a in
    let one : ones (test (region_of c class a)) ≡ 1 = rw (itself c, eqb_itself a) refl in
    counted_any test (landing come regions)
    (omega (
      arith,
      one,
      landing_sum (λ r. ones (test r)) come regions,
      map_terms (λ r. ones (test r)) (λ y. region_of c class (f y)) xs,
      get_or-le-sum_by (λ x. ones (test (region_of c class (f x)))) xs k d h,
    ))

-- ---- Fill

fill_at_does : (c : ℕ) (s : Space) (class count : ℕ) (addrs : List ℕ) → lowest_free class count s ≡ addrs → class < 36 → Sound s → is_live s.life ≡ true →
    Does c s (Fill class count) (fill_at s c class addrs)
fill_at_does c s class count [] e small sound live = still c s (Fill class count) Nothing sound (λ page before. refl, refl, refl)
fill_at_does c s class count (addr ∷ addrs) e small sound live =
    let come : List Region = map (region_of c class) (addr ∷ addrs) in
    let spots : All (λ a. Spot s.parts s.regions (region_of c class a)) (addr ∷ addrs) = subst (All (λ a. Spot s.parts s.regions (region_of c class a))) e (lowest_spots c class count s small sound) in
    let differ : Distinct ℕ (λ a. a) (addr ∷ addrs) = subst (Distinct ℕ (λ a. a)) e (lowest_distinct class count s small sound) in
    regions_does c s (Fill class count) _ (landing come s.regions) sound (live_is s.life live)
    (spots_settled class s.parts come s.regions sound.owners (Distinct-map (λ (r : Region). r.addr) (region_of c class) (λ a. refl) differ)
    (All-map (λ r. r.class ≡ class) (region_of c class) (addr ∷ addrs) (λ k d h. refl)) (All-map (Spot s.parts s.regions) (region_of c class) (addr ∷ addrs) spots) (sound_settled s sound))
    (λ d other. landing_held d come s.regions (All-map (λ r. is_held_by d r ≡ false) (region_of c class) (addr ∷ addrs) (λ k x h. not_both d c other)))
    (ordered-landing come s.regions sound.ordered) (λ page before. refl) refl

fill_at_comes : (c : ℕ) (s : Space) (class count : ℕ) (addrs : List ℕ) → Comes c s (Fill class count) (fill_at s c class addrs)
fill_at_comes c s class count [] sound = FillNothing refl
fill_at_comes c s class count (addr ∷ addrs) sound = FillRegions (addr ∷ addrs) (landing_holds c class (λ a. a) (addr ∷ addrs) s.regions)

pub fill_goes : (c : ℕ) (s : Space) (class count : ℕ) → Sound s → fill_stands class count ≡ true → Goes c s (Fill class count) (after_fill s c class count)
fill_goes c s class count sound h =
    live_goes c s (Fill class count) _ sound (λ page before. refl, refl, refl) (λ h. FillNoArena h refl)
    (λ live. goes sound (fill_at_does c s class count (lowest_free class count s) refl (ltb-true _ _ (both_true (nat_lt class 36) _ h).0) sound live) (fill_at_comes c s class count (lowest_free class count s)))

-- ---- Land

-- the first regions of a class in an extent, one after the other
abbrev row : ℕ → ℕ → ℕ → ℕ → ℕ → List Region
row c class addr from count = map (λ i. region_of c class (addr + i * size_at class)) (range_with_len from count)

-- More regions of a small class land behind the first one, which landed in an extent in flight.
record FirstLanded (c : ℕ) (s t : Space) (class : ℕ) (p : Part) (stay : List Part) : Type 0 where
  sound : Sound t
  small : class < 36
  pages : p.span.pages ≡ pages_at class
  committed : p.committed ≡ true
  active : is_active p.state ≡ true
  parts : t.parts ≡ stay ++ p ∷ []
  regions : t.regions ≡ inserted (region_of c class (address_of p.span.first + 0 * size_at class)) s.regions
  homes : All (λ r. homes r stay ≡ 1) s.regions
  classes : All (λ r. r.class < 121) s.regions

-- each further place is a spot
row_spot : {c : ℕ} {s t : Space} {class : ℕ} {p : Part} {stay : List Part} → FirstLanded c s t class p stay → (i : ℕ) → 0 < i → i < regions_at class →
    Spot t.parts t.regions (region_of c class (address_of p.span.first + i * size_at class))
row_spot {c} {s} {t} {class} {p} {stay} one i some within =
    let a : ℕ = address_of p.span.first + i * size_at class in
    let r : Region = region_of c class a in
    let start : ℕ = address_of p.span.first + 0 * size_at class in
    let first : Region = region_of c class start in
    let n : ℕ = position_or_len (λ (q : Region). nat_lt first.addr q.addr) s.regions in
    let bounds = (size_bounds class (omega (arith, one.small))).0 in
    let served : (j : ℕ) → j < regions_at class → houses p (region_of c class (address_of p.span.first + j * size_at class)) ≡ true =
    λ j below. place_served c class p _ one.small one.active one.committed one.pages (j, below, refl) in
    let serve : serves r p ≡ 1 = ap ones (served i within) in
    let at : share (a / 4096) p ≡ 1 = omega (arith, serve, serves-le-share a r p (covers_start r bounds), ones_most (has_page (a / 4096) p.span)) in
    let free : All (λ q. starts_at a q ≡ false) s.regions =
    λ k d h.
    let q : Region = get_or s.regions k d in
    elim (starts_at a q) as (λ b. starts_at a q ≡ b → b ≡ false) [
      | false ↦ λ e. refl
      | true ↦ λ e.
          let same : q.addr ≡ a = eqb-true _ _ e in
          let byte = covers_start q (size_bounds q.class (one.classes k d h)).0 in
          let there : homes q stay ≤ holders (a / 4096) stay = subst (λ m. homes q stay ≤ holders (m / 4096) stay) same (homes-le-holders q.addr q stay byte) in
          let more : holders (a / 4096) t.parts ≡ holders (a / 4096) stay + share (a / 4096) p =
          omega (arith, ap (holders (a / 4096)) one.parts, sum_by-append (share (a / 4096)) stay (p ∷ []), sum_by-cons (share (a / 4096)) p []) in
          absurd (omega (arith, one.homes k d h, there, at, more, one.sound.owners (a / 4096)))
    ] refl in
    let far = row_fits 0 (size_at class) i (size_at class) some (omega arith) in
    let differ : starts_at a first ≡ false = grind (arith, nat_tests, far, bounds) in
    let test : Region → Bool = λ q. q.class == class && houses p q in
    let here : ones (test first) ≡ 1 = rw (eqb_itself class, served 0 (omega (arith, within))) refl in
    let slab : is_slab class t.regions p ≡ true = counted_any test t.regions (omega (arith, ap (count_by test) one.regions, sum_by-insert (λ q. ones (test q)) s.regions n first, here)) in
    let spots = subst (All (Takes c class t.parts t.regions)) one.parts (place_spots c class t.parts t.regions one.small one.sound.owners (sound_settled t one.sound)) in
    All-head (Takes c class t.parts t.regions) p [] (mix_second (Takes c class t.parts t.regions) (mixed_append stay (p ∷ [])) spots) slab a (i, within, refl)
    (subst (All (λ q. starts_at a q ≡ false)) (sym one.regions) (All-insert (λ q. starts_at a q ≡ false) s.regions n first free differ))

-- so all of them are settled
row_settled : {c : ℕ} {s t : Space} {class : ℕ} {p : Part} {stay : List Part} → FirstLanded c s t class p stay → (n : ℕ) → n < regions_at class →
    Settled t.parts (landing (row c class (address_of p.span.first) 1 n) t.regions)
row_settled {c} {s} {t} {class} {p} {stay} one n within =
    let f : ℕ → Region = λ i. region_of c class (address_of p.span.first + i * size_at class) in
    let some : 0 < size_at class = omega (arith, (size_bounds class (omega (arith, one.small))).0) in
    spots_settled class t.parts (row c class (address_of p.span.first) 1 n) t.regions one.sound.owners
    (steps_distinct (λ (r : Region). r.addr) f (address_of p.span.first) (size_at class) (λ i. refl) some 1 n)
    (All-map (λ r. r.class ≡ class) f (range_with_len 1 n) (λ k d h. refl))
    (All-map (Spot t.parts t.regions) f (range_with_len 1 n)
    (λ k d h.
    let i : ℕ = get_or (range_with_len 1 n) k d in
    let is : i ≡ 1 + k = get_or-range_with_len 1 n k d (omega (arith, length-range_with_len 1 n)) in
    row_spot one i (omega (arith, is)) (omega (arith, is, h, length-range_with_len 1 n))))
    (sound_settled t one.sound)

-- several regions land: one after the other behind the first
land_at_does : (c : ℕ) (s : Space) (span : Span) (class count : ℕ) (p : Part) → find (is_flight_at c span) s.parts ≡ Some p → Sound s → is_live s.life ≡ true →
    class < 121 → 0 < count → count ≤ most_regions class → span.pages ≡ pages_at class → p.committed ≡ true → Does c s (Land span class count) (land_at s c class count (Some p))
land_at_does c s span class zero p e sound live within some few pages committed = absurd (omega arith)
land_at_does c s span class (suc n) p e sound live within some few pages committed =
    let at = flight_at c s span p sound live e in
    let addr : ℕ = address_of p.span.first in
    let first : Region = region_of c class (addr + 0 * size_at class) in
    let active : Part = record p { state = Active } in
    let gone = begins_at p.span.first in
    let stay : List Part = filter (λ q. not (gone q)) s.parts in
    let one_step = land_does c s (Land span class (suc n)) (Landed addr (suc n)) (is_flight_at c span) p first sound at.live e at.piece (ap ones at.own)
    (record { active = refl; committed = committed; class = within; pages = at.pages ∙ pages; start = grind arith }) refl (λ page before. refl) refl refl in
    let one : Space = record s { parts = stay ++ active ∷ []; regions = inserted first s.regions } in
    let after = lawful_sound one_step.lawful sound in
    let more : List Region = row c class addr 1 n in
    let t : Space = record s { parts = one.parts; regions = landing more one.regions } in
    let homes : All (λ r. homes r stay ≡ 1) s.regions =
    λ k d h. let r : Region = get_or s.regions k d in
    omega (arith, sound.homes k d h, mix_sum (serves r) (mixed_filter gone s.parts), one_left s (is_flight_at c span) p sound e (serves r), sum_by-cons (serves r) p [], idle-serves p r at.piece.idle) in
    let settled : Settled one.parts (landing more one.regions) = elim (cases_lt class 36) [
      | inl small ↦ row_settled {s = s} {t = one} {p = active} {stay = stay} (record {
        sound = after;
        small = small;
        pages = at.pages ∙ pages;
        committed = committed;
        active = refl;
        parts = refl;
        regions = refl;
        homes = homes;
        classes = sound.classes;
      }) n (grind (arith, nat_tests, small, few))
      | inr large ↦ let single : 0 ≡ n = grind (arith, nat_tests, large, few) in
          subst (λ m. Settled one.parts (landing (row c class addr 1 m) one.regions)) single (sound_settled one after)
    ] in
    record {
      change = whole s t;
      lawful = whole_lawful c s t after.owners (all_fit one after) settled one_step.lawful.flights
          (λ d other. landing_held d more one.regions (All-map (λ r. is_held_by d r ≡ false) (λ i. region_of c class (addr + i * size_at class)) (range_with_len 1 n) (λ k x h. not_both d c other)) ∙ one_step.lawful.held d other)
          (ordered-landing more one.regions after.ordered) (kept_frame c s t.parts t.regions sound) (live_quiet s t at.live refl);
      pages = one_step.pages;
      flew = one_step.flew;
    }

pub land_goes : (c : ℕ) (s : Space) (span : Span) (class count : ℕ) → Sound s → is_live s.life ≡ true → land_stands s c span class count ≡ true →
    Goes c s (Land span class count) (land_at s c class count (find (is_flight_at c span) s.parts))
land_goes c s span class count sound live h =
    let a = both_true (nat_lt class 121 && nat_lt 0 count && nat_le count (most_regions class) && span.pages == pages_at class) _ h in
    on_found (λ o. Goes c s (Land span class count) (land_at s c class count o)) (λ p. p.committed) (find (is_flight_at c span) s.parts) a.1
    (λ p e committed.
    let addr : ℕ = address_of p.span.first in
    goes sound (land_at_does c s span class count p e sound live (grind (arith, nat_tests, a.0)) (grind (arith, nat_tests, a.0)) (grind (arith, nat_tests, a.0)) (grind (arith, nat_tests, a.0)) committed)
    (λ after. LandLanded addr (ap (λ (k : Span). address_of k.first) (found_span c span s.parts p e).0) (landing_holds c class (λ i. addr + i * size_at class) (range_with_len 0 count) s.regions)))
