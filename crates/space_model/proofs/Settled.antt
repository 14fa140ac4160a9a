-- Regions among extents: what a sound space says of all its extents and regions, said of any of them. Two groups that
-- share no page are settled together where each is.
use Rattle.std.proofs.Common.{◌≡◌, ℕ, ◌+◌, ◌/◌, ◌%◌, ◌<◌, ◌≤◌, true, false, cond, IsTrue, List, [], get_or, refl, ap, subst, arith, All}
use Rattle.space_model.proofs.Words.{get_or-le-sum_by, sum_by-le-sum_by, All-weaker, All-nil, nat_tests, size_at, align_at, size_bounds, Part, Region, Space, IsPlaced, holders, is_active, covers, sharers, houses, homes, residents, fills, Sound, IsInSlab}
pub use Rattle.space_model.proofs.Lists.{ones, sum_nothing, nothing_sum}
use Rattle.space_model.proofs.Lists.{false_true}
use Rattle.space_model.proofs.Exchange.{share}
use Rattle.space_model.proofs.Mixes.{Mix, mix_sum, mix_all, mix_first, mix_turned}

-- ---- sums of tests

-- no extent is empty where each is placed
pub some_pages : (ps : List Part) → All (λ p. IsPlaced p.span) ps → All (λ p. 0 < p.span.pages) ps
some_pages ps placed = All-weaker (λ p. IsPlaced p.span) (λ p. 0 < p.span.pages) (λ p h. h.0) ps placed

-- ---- one extent and one region

-- 1 where the extent serves the region, as a term of either's sum
abbrev pub serves : Region → Part → ℕ
serves r p = cond (houses p r) 1 0

abbrev pub serves_by : Part → Region → ℕ
serves_by p r = cond (houses p r) 1 0

-- 1 where the region has the byte
abbrev pub covered : ℕ → Region → ℕ
covered byte r = cond (covers byte r) 1 0

-- an extent that isn't active serves no region
pub idle-serves : (p : Part) (r : Region) → is_active p.state ≡ false → serves r p ≡ 0
idle-serves p r idle = rw idle refl

-- an extent that serves a region has the page of each byte of it
pub serves-le-share : (byte : ℕ) (r : Region) (p : Part) → covers byte r ≡ true → serves r p ≤ share (byte / 4096) p
serves-le-share byte r p has = grind (arith, nat_tests)

-- so do all extents together
pub homes-le-holders : (byte : ℕ) (r : Region) (parts : List Part) → covers byte r ≡ true → homes r parts ≤ holders (byte / 4096) parts
homes-le-holders byte r parts has = sum_by-le-sum_by (serves r) (share (byte / 4096)) parts (λ p. serves-le-share byte r p has)

-- a region has the byte at its address
pub covers_start : (r : Region) → 8 ≤ size_at r.class → covers r.addr r ≡ true
covers_start r some = grind (arith, nat_tests)

-- an extent with no term for a region doesn't serve it
pub serves_none : (r : Region) (p : Part) → serves r p ≡ 0 → IsTrue (houses p r) → ⊥
serves_none r p none home = let one : serves r p ≡ 1 = ap ones home in absurd (omega (arith, none, one))

-- ---- regions among extents

-- the large regions of a sound space, as its fact says it of one region and one extent
abbrev pub LargeAt : List Region → Region → Part → Type 0
LargeAt regions r p = IsTrue (houses p r) → 36 ≤ r.class → IsTrue (fills p r) × (residents p regions ≡ 1)

-- and its small ones
abbrev pub SmallAt : List Region → Region → Part → Type 0
SmallAt regions r p = IsTrue (houses p r) → r.class < 36 → IsInSlab regions p r

-- whether an extent serves a region where it has to
abbrev pub Used : List Region → Part → Type 0
Used regions p = IsTrue (is_active p.state) → 0 < residents p regions

-- Each region has its home in one of the extents, and stands there as its class wants it.
pub record Settled (parts : List Part) (regions : List Region) : Type 0 where
  pub home : All (λ r. homes r parts ≡ 1) regions
  pub used : All (Used regions) parts
  pub large : All (λ r. All (LargeAt regions r) parts) regions
  pub small : All (λ r. All (SmallAt regions r) parts) regions
  pub classes : All (λ r. r.class < 121) regions
  pub aligned : All (λ r. r.addr % align_at r.class ≡ 0) regions
  pub apart : (byte : ℕ) → sharers byte regions ≤ 1

-- the regions of a sound space are settled
pub sound_settled : (s : Space) → Sound s → Settled s.parts s.regions
sound_settled s sound = record {
  home = sound.homes;
  used = sound.used;
  large = sound.large;
  small = sound.small;
  classes = sound.classes;
  aligned = sound.aligned;
  apart = sound.apart;
}

-- extents that serve nothing are settled without regions
pub idle_settled : (parts : List Part) → All (λ p. is_active p.state ≡ false) parts → Settled parts []
idle_settled parts idle = record {
  home = All-nil (λ r. homes r parts ≡ 1);
  used = All-weaker (λ p. is_active p.state ≡ false) (Used []) (λ p still act. absurd (false_true (subst IsTrue still act))) parts idle;
  large = All-nil (λ r. All (LargeAt [] r) parts);
  small = All-nil (λ r. All (SmallAt [] r) parts);
  classes = All-nil (λ r. r.class < 121);
  aligned = All-nil (λ r. r.addr % align_at r.class ≡ 0);
  apart = λ byte. omega arith;
}

-- a slab has fewer regions after some went
slab_fewer : {rest left all : List Region} → Mix Region rest left all → (p : Part) (r : Region) → IsInSlab all p r → IsInSlab rest p r
slab_fewer m p r slab = record {
  pages = slab.pages;
  alike = mix_first (λ q. IsTrue (houses p q) → q.class ≡ r.class) m slab.alike;
  place = slab.place;
}

-- what stays is settled, where those that go were the home of nothing that stays, and each active extent still serves a region
pub rest_settled : {stay old parts : List Part} {rest left regions : List Region} → Mix Part stay old parts → Mix Region rest left regions →
    Settled parts regions → All (λ r. homes r old ≡ 0) rest → All (Used rest) stay → Settled stay rest
rest_settled {stay} {old} {parts} {rest} {left} {regions} went gone all empty served =
    let least : (byte : ℕ) → sharers byte regions ≡ sharers byte rest + sharers byte left = λ byte. mix_sum (covered byte) gone in record {
      home = λ k d h. omega (arith, mix_first (λ r. homes r parts ≡ 1) gone all.home k d h, mix_sum (serves (get_or rest k d)) went, empty k d h);
      used = served;
      large = λ k d h j e i home big.
          let r : Region = get_or rest k d in
          let p : Part = get_or stay j e in
          let was = mix_first (LargeAt regions r) went (mix_first (λ q. All (LargeAt regions q) parts) gone all.large k d h) j e i home big in
          let one : serves_by p r ≡ 1 = ap ones home in
          (was.0, omega (arith, was.1, one, get_or-le-sum_by (serves_by p) rest k d h, mix_sum (serves_by p) gone));
      small = λ k d h j e i home little.
          let r : Region = get_or rest k d in
          slab_fewer gone (get_or stay j e) r (mix_first (SmallAt regions r) went (mix_first (λ q. All (SmallAt regions q) parts) gone all.small k d h) j e i home little);
      classes = mix_first (λ r. r.class < 121) gone all.classes;
      aligned = mix_first (λ r. r.addr % align_at r.class ≡ 0) gone all.aligned;
      apart = λ byte. omega (arith, least byte, all.apart byte);
    }

-- ---- two groups together

-- Two groups of extents that share no page, each with its regions, and both mixed.
pub record Two (a b parts : List Part) (q r regions : List Region) : Type 0 where
  pub pages : (page : ℕ) → holders page a + holders page b ≤ 1
  pub one : Settled a q
  pub two : Settled b r
  pub extents : Mix Part a b parts
  pub landed : Mix Region q r regions

turned : {a b parts : List Part} {q r regions : List Region} → Two a b parts q r regions → Two b a parts r q regions
turned x = record {
  pages = λ page. omega (arith, x.pages page);
  one = x.two;
  two = x.one;
  extents = mix_turned x.extents;
  landed = mix_turned x.landed;
}

-- a region at home in one group has no home in the other
pub elsewhere : (a b : List Part) (r : Region) → ((page : ℕ) → holders page a + holders page b ≤ 1) → homes r a ≡ 1 → r.class < 121 → homes r b ≡ 0
elsewhere a b r pages home class =
    let has = covers_start r (size_bounds r.class class).0 in
    omega (arith, home, pages (r.addr / 4096), homes-le-holders r.addr r a has, homes-le-holders r.addr r b has)

not_there : {a b parts : List Part} {q r regions : List Region} → Two a b parts q r regions → All (λ x. homes x b ≡ 0) q
not_there {a} {b} {parts} {q} x = λ k d h. elsewhere a b (get_or q k d) x.pages (x.one.home k d h) (x.one.classes k d h)

-- no extent of one group serves a region of the other
no_guests : {a b parts : List Part} {q r regions : List Region} → Two a b parts q r regions → All (λ p. residents p r ≡ 0) a
no_guests {a} {b} {parts} {q} {r} x = λ j e i. nothing_sum (serves_by (get_or a j e)) r
    (λ k d h. sum_nothing (serves (get_or r k d)) a (not_there (turned x) k d h) j e i)

-- what holds of the first group among all
home_side : {a b parts : List Part} {q r regions : List Region} → Two a b parts q r regions → All (λ y. homes y parts ≡ 1) q
home_side {a} {b} {parts} {q} x = λ k d h. omega (arith, mix_sum (serves (get_or q k d)) x.extents, x.one.home k d h, not_there x k d h)

used_side : {a b parts : List Part} {q r regions : List Region} → Two a b parts q r regions → All (Used regions) a
used_side {a} x = λ j e i act. omega (arith, x.one.used j e i act, mix_sum (serves_by (get_or a j e)) x.landed)

large_side : {a b parts : List Part} {q r regions : List Region} → Two a b parts q r regions → All (λ y. All (LargeAt regions y) parts) q
large_side {a} {b} {parts} {q} {r} {regions} x = λ k d h. let y : Region = get_or q k d in
    mix_all (LargeAt regions y) x.extents
    (λ j e i home big.
    let was = x.one.large k d h j e i home big in
    (was.0, omega (arith, was.1, mix_sum (serves_by (get_or a j e)) x.landed, no_guests x j e i)))
    (λ j e i home big. absurd (serves_none y (get_or b j e) (sum_nothing (serves y) b (not_there x k d h) j e i) home))

small_side : {a b parts : List Part} {q r regions : List Region} → Two a b parts q r regions → All (λ y. All (SmallAt regions y) parts) q
small_side {a} {b} {parts} {q} {r} {regions} x = λ k d h. let y : Region = get_or q k d in
    mix_all (SmallAt regions y) x.extents
    (λ j e i home little.
    let p : Part = get_or a j e in
    let slab : IsInSlab q p y = x.one.small k d h j e i home little in record {
      pages = slab.pages;
      alike = mix_all (λ z. IsTrue (houses p z) → z.class ≡ y.class) x.landed slab.alike
          (λ m f g there. absurd (serves_none (get_or r m f) p (sum_nothing (serves_by p) r (no_guests x j e i) m f g) there));
      place = slab.place;
    })
    (λ j e i home little. absurd (serves_none y (get_or b j e) (sum_nothing (serves y) b (not_there x k d h) j e i) home))

-- no region has a byte in a page that no extent has
none_covers : (byte : ℕ) (parts : List Part) (regions : List Region) → holders (byte / 4096) parts ≡ 0 → All (λ r. homes r parts ≡ 1) regions → sharers byte regions ≡ 0
none_covers byte parts regions none all =
    nothing_sum (covered byte) regions
    (All-weaker (λ r. homes r parts ≡ 1) (λ r. covered byte r ≡ 0)
    (λ r home. grind (arith, none, homes-le-holders byte r parts))
    regions all)

apart_both : {a b parts : List Part} {q r regions : List Region} → Two a b parts q r regions → (byte : ℕ) → sharers byte regions ≤ 1
apart_both {a} {b} {parts} {q} {r} {regions} x byte =
    let one : holders (byte / 4096) a ≡ 0 → sharers byte q ≡ 0 = λ e. none_covers byte a q e x.one.home in
    let two : holders (byte / 4096) b ≡ 0 → sharers byte r ≡ 0 = λ e. none_covers byte b r e x.two.home in
    grind (arith, mix_sum (covered byte) x.landed, one, two, x.pages (byte / 4096), x.one.apart byte, x.two.apart byte)

-- both groups together are settled
pub both_settled : {a b parts : List Part} {q r regions : List Region} → Two a b parts q r regions → Settled parts regions
both_settled {a} {b} {parts} {q} {r} {regions} x = record {
  home = mix_all (λ r. homes r parts ≡ 1) x.landed (home_side x) (home_side (turned x));
  used = mix_all (Used regions) x.extents (used_side x) (used_side (turned x));
  large = mix_all (λ r. All (LargeAt regions r) parts) x.landed (large_side x) (large_side (turned x));
  small = mix_all (λ r. All (SmallAt regions r) parts) x.landed (small_side x) (small_side (turned x));
  classes = mix_all (λ r. r.class < 121) x.landed x.one.classes x.two.classes;
  aligned = mix_all (λ r. r.addr % align_at r.class ≡ 0) x.landed x.one.aligned x.two.aligned;
  apart = apart_both x;
}
