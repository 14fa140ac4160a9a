-- How the regions that a client holds in an arena come, go and change hands.
use Rattle.sits.proofs.Words.{[], ◌≡◌, ◌≢◌, ℕ, ◌+◌, ◌==◌, ◌&&◌, Bool, true, not, cond, List, ◌∷◌, None, map, refl, sym, ◌∙◌, ap, arith, nat_lt, filter, count_by, list_any, position_or_len, sum_by, nat_tests, sum_by-cons, sum_by-insert, Region, is_held_at, held_anew, inserted, is_held_by, landing, region_of, is_given_back, staying, eqb_itself, ones, Held, held_region, is_region, is_region_in, ◌-◌, ◌*◌, ◌/◌, ◌^◌, ◌<◌, ◌≤◌, false, All, Some, suc, zero, find, min, eqb-true, All-weaker, regions_at, size_at, pages_bounds, size_bounds, slab_filled, is_published_at, holders, covers, homes, is_published, sharers, all_sum_le, find_passes, nothing_sum, only_one, sum_add, both_true, covered, homes-le-holders, Space, Part, Sound, pages_at, ◌++◌, Look, CutDone, GrowDone, CommitDone, Land, PutLook, MergeDone, Advance, PurgeTake, LazyDone, Offer, OfferDone, DecommitDone, ForcedDone, DestroyTake, Set, with_client, after_set, step_of, Op, Setting, Unbind, DirtyMs, Bind, is_in, Widen, Trim}

-- 1 where a region of the arena is at the address and of the class
abbrev pub one_in : ℕ → ℕ → ℕ → Held → ℕ
one_in arena a k r = ones (is_region_in arena a k r)

-- how many regions of a class at an address a client holds among those of an arena
abbrev pub count_at : ℕ → ℕ → ℕ → List Region → ℕ
count_at c a k regions = count_by (is_region a k) (filter (is_held_by c) regions)

-- 1 where the client holds the region, and it is at the address and of the class
abbrev pub one_at : ℕ → ℕ → ℕ → Region → ℕ
one_at c a k r = cond (is_held_by c r) (ones (is_region a k r)) 0

pub count_sum : (c a k : ℕ) (rs : List Region) → count_at c a k rs ≡ sum_by (one_at c a k) rs
count_sum c a k [] = refl
count_sum c a k (r ∷ rs) =
    let own = sum_by-cons (λ (q : Region). ones (is_region a k q)) r (filter (is_held_by c) rs) in
    let sum = sum_by-cons (one_at c a k) r rs in grind (arith, count_sum c a k rs)

-- ---- regions that land

pub landing_sum : (f : Region → ℕ) (come rs : List Region) → sum_by f (landing come rs) ≡ sum_by f rs + sum_by f come
landing_sum f [] rs = omega arith
landing_sum f (r ∷ come) rs = omega (
  arith,
  landing_sum f come (inserted r rs),
  sum_by-insert f rs (position_or_len (λ (q : Region). nat_lt r.addr q.addr) rs) r,
  sum_by-cons f r come,
)

-- the regions of a class at these addresses are as many as the client comes to have
come_sum : (c arena a k class : ℕ) (addrs : List ℕ) → sum_by (one_at c a k) (map (region_of c class) addrs) ≡ sum_by (one_in arena a k) (map (held_region arena class) addrs)
come_sum c arena a k class [] = refl
come_sum c arena a k class (x ∷ xs) =
    let one : one_at c a k (region_of c class x) ≡ one_in arena a k (held_region arena class x) = rw (eqb_itself c, eqb_itself arena) refl in
    omega (
      arith,
      one,
      come_sum c arena a k class xs,
      sum_by-cons (one_at c a k) (region_of c class x) (map (region_of c class) xs),
      sum_by-cons (one_in arena a k) (held_region arena class x) (map (held_region arena class) xs),
    )

pub landed_counts : (c arena a k class : ℕ) (addrs : List ℕ) (rs : List Region) →
    count_at c a k (landing (map (region_of c class) addrs) rs) ≡ count_at c a k rs + sum_by (one_in arena a k) (map (held_region arena class) addrs)
landed_counts c arena a k class addrs rs = omega (
  arith,
  count_sum c a k (landing (map (region_of c class) addrs) rs),
  count_sum c a k rs,
  landing_sum (one_at c a k) (map (region_of c class) addrs) rs,
  come_sum c arena a k class addrs,
)

-- none of them is one of another arena
pub none_elsewhere : (i arena a k class : ℕ) (addrs : List ℕ) → i ≢ arena → sum_by (one_in i a k) (map (held_region arena class) addrs) ≡ 0
none_elsewhere i arena a k class [] differ = refl
none_elsewhere i arena a k class (x ∷ xs) differ =
    let none : one_in i a k (held_region arena class x) ≡ 0 = elsewhere in
    omega (arith, none, none_elsewhere i arena a k class xs differ, sum_by-cons (one_in i a k) (held_region arena class x) (map (held_region arena class) xs))
  where
    elsewhere : ones (arena == i && x == a && class == k) ≡ 0
    elsewhere = grind (arith, nat_tests)

-- ---- regions that go

-- whether one of the regions is at the address
abbrev pub any_at : ℕ → List Held → Bool
any_at a gone = list_any (λ r. r.addr == a) gone

-- where a test leaves all that counts in a sum, or nothing of it, so does a filter by it
pub filtered_sum : {X : Type 0} (f : X → ℕ) (keep : X → Bool) (gone : Bool) → ((x : X) → cond (keep x) (f x) 0 ≡ cond gone 0 (f x)) → (xs : List X) → sum_by f (filter keep xs) ≡ cond gone 0 (sum_by f xs)
filtered_sum f keep gone one [] = grind arith
filtered_sum f keep gone one (x ∷ xs) =
    let own = one x in
    let kept = sum_by-cons f x (filter keep xs) in
    let all = sum_by-cons f x xs in grind (arith, filtered_sum f keep gone one xs)

-- of those at the addresses none is left, and all others are
pub left_counts : (c a k : ℕ) (keep : Region → Bool) (rs : List Region) (gone : Bool) → ((r : Region) → is_held_by c r ≡ true → r.addr ≡ a → keep r ≡ not gone) →
    count_at c a k (filter keep rs) ≡ cond gone 0 (count_at c a k rs)
left_counts c a k keep rs gone is = count_sum c a k (filter keep rs) ∙ filtered_sum (one_at c a k) keep gone one rs ∙ ap (cond gone 0) (sym (count_sum c a k rs))
  where
    one : (r : Region) → cond (keep r) (one_at c a k r) 0 ≡ cond gone 0 (one_at c a k r)
    one r = grind (arith, nat_tests, is r)

-- regions that went back
pub back_counts : (c a k : ℕ) (addrs : List ℕ) (rs : List Region) → count_at c a k (staying c addrs rs) ≡ cond (list_any (λ x. x == a) addrs) 0 (count_at c a k rs)
back_counts c a k addrs rs =
    left_counts c a k (λ r. not (is_given_back c addrs r)) rs (list_any (λ x. x == a) addrs)
    (λ r held at. ap (λ v. not (v && list_any (λ x. x == r.addr) addrs)) held ∙ ap (λ n. not (list_any (λ x. x == n) addrs)) at)

-- a region that was published
pub published_counts : (c addr a k : ℕ) (rs : List Region) → count_at c a k (held_anew (is_held_at c addr) None rs) ≡ cond (addr == a) 0 (count_at c a k rs)
published_counts c addr a k rs = ap (count_by (is_region a k)) (as_filter rs) ∙ left_counts c a k (λ r. not (is_held_at c addr r)) rs (addr == a)
    (λ r held at. ap (λ v. not (v && r.addr == addr)) held ∙ ap (λ n. not (n == addr)) at ∙ ap not same_test)
  where
    same_test : (a == addr) ≡ (addr == a)
    same_test = grind (arith, nat_tests)

    as_filter : (xs : List Region) → filter (is_held_by c) (held_anew (is_held_at c addr) None xs) ≡ filter (is_held_by c) (filter (λ r. not (is_held_at c addr r)) xs)
    as_filter [] = refl
    as_filter (x ∷ xs) = grind (arith, as_filter xs)

-- ---- at each address a client holds at most one region, and what it comes to hold is at none of them

-- ---- one at each address

-- a region at an address has its byte, and is of one class
one_covers : (c a k l : ℕ) (r : Region) → k ≢ l → r.class < 121 → one_at c a k r + one_at c a l r ≤ ones (covers a r)
one_covers c a k l r differ below = grind (arith, nat_tests, (size_bounds r.class below).0)

pub two_classes : (c a k l : ℕ) (s : Space) → Sound s → k ≢ l → count_at c a k s.regions + count_at c a l s.regions ≤ 1
two_classes c a k l s sound differ = omega (
  arith,
  count_sum c a k s.regions,
  count_sum c a l s.regions,
  sum_add (one_at c a k) (one_at c a l) s.regions,
  all_sum_le (λ r. one_at c a k r + one_at c a l r) (covered a) s.regions (All-weaker (λ r. r.class < 121) (λ r. one_at c a k r + one_at c a l r ≤ covered a r) (λ r below. one_covers c a k l r differ below) s.regions sound.classes),
  sound.apart a,
)

pub most_one : (c a k : ℕ) (s : Space) → Sound s → count_at c a k s.regions ≤ 1
most_one c a k s sound = let two = two_classes c a k (suc k) s sound (λ e. absurd (omega arith)) in omega (arith, two)

-- an address at which a client holds a region is in a page of the arena
none_covers : (a : ℕ) (parts : List Part) (regions : List Region) → holders (a / 4096) parts ≡ 0 → All (λ r. homes r parts ≡ 1) regions → sharers a regions ≡ 0
none_covers a parts regions none all =
    nothing_sum (covered a) regions
    (All-weaker (λ r. homes r parts ≡ 1) (λ r. covered a r ≡ 0)
    (λ r home. elim (covers a r) as (λ b. covers a r ≡ b → ones b ≡ 0)
    [ false ↦ λ h. refl | true ↦ λ h. absurd (omega (arith, home, none, homes-le-holders a r parts h)) ] refl)
    regions all)

pub held_page : (c a k : ℕ) (s : Space) → Sound s → 0 < count_at c a k s.regions → 0 < holders (a / 4096) s.parts
held_page c a k s sound some = by (holders (a / 4096) s.parts) refl
  where
    bound : count_at c a k s.regions ≤ sharers a s.regions
    bound = omega (
      arith,
      count_sum c a k s.regions,
      all_sum_le (one_at c a k) (covered a) s.regions (All-weaker (λ r. r.class < 121) (λ r. one_at c a k r ≤ covered a r) (λ r below. let two = one_covers c a k (suc k) r (λ e. absurd (omega arith)) below in omega (arith, two)) s.regions sound.classes),
    )

    by : (n : ℕ) → holders (a / 4096) s.parts ≡ n → 0 < n
    by zero e = absurd (omega (arith, none_covers a s.parts s.regions e sound.homes, bound, some))
    by (suc n) e = omega arith

-- ---- a region that is taken over

-- a published region at an address has its byte
published_covers : (addr : ℕ) (r : Region) → r.class < 121 → ones (is_published_at addr r) ≤ ones (covers addr r)
published_covers addr r below = grind (arith, nat_tests, (size_bounds r.class below).0)

one_published : (addr : ℕ) (s : Space) → Sound s → count_by (is_published_at addr) s.regions ≤ 1
one_published addr s sound = omega (
  arith,
  all_sum_le (λ r. ones (is_published_at addr r)) (covered addr) s.regions (All-weaker (λ r. r.class < 121) (λ r. ones (is_published_at addr r) ≤ covered addr r) (λ r below. published_covers addr r below) s.regions sound.classes),
  sound.apart addr,
)

-- nobody holds a published region
published_apart : (c : ℕ) (r : Region) → is_published r ≡ true → is_held_by c r ≡ false
published_apart c r h = grind arith

-- the client holds what it held, and what was published there
anew_counts : (c addr a k : ℕ) (rs : List Region) →
    sum_by (one_at c a k) (held_anew (is_published_at addr) (Some c) rs) ≡ sum_by (one_at c a k) rs + sum_by (λ r. ones (is_region a k r)) (filter (is_published_at addr) rs)
anew_counts c addr a k [] = refl
anew_counts c addr a k (r ∷ rs) =
    elim (is_published_at addr r) as (λ v. is_published_at addr r ≡ v → sum_by (one_at c a k) (cond v (record r { holder = Some c }) r ∷ held_anew (is_published_at addr) (Some c) rs)
    ≡ sum_by (one_at c a k) (r ∷ rs) + sum_by (λ r. ones (is_region a k r)) (cond v (r ∷ filter (is_published_at addr) rs) (filter (is_published_at addr) rs))) [
      | true ↦ λ h.
          let not_held : one_at c a k r ≡ 0 = ap (λ v. cond v (ones (is_region a k r)) 0) (published_apart c r (both_true (is_published r) _ h).0) in
          let held : one_at c a k (record r { holder = Some c }) ≡ ones (is_region a k r) = ap (λ v. cond v (ones (is_region a k r)) 0) (eqb_itself c) in
          omega (
            arith,
            not_held,
            held,
            anew_counts c addr a k rs,
            sum_by-cons (one_at c a k) (record r { holder = Some c }) (held_anew (is_published_at addr) (Some c) rs),
            sum_by-cons (one_at c a k) r rs,
            sum_by-cons (λ r. ones (is_region a k r)) r (filter (is_published_at addr) rs),
          )
      | false ↦ λ h. omega (
        arith,
        anew_counts c addr a k rs,
        sum_by-cons (one_at c a k) r (held_anew (is_published_at addr) (Some c) rs),
        sum_by-cons (one_at c a k) r rs,
      )
    ] refl

pub taken_counts : (c arena addr a k : ℕ) (s : Space) (r : Region) → Sound s → find (is_published_at addr) s.regions ≡ Some r →
    count_at c a k (held_anew (is_published_at addr) (Some c) s.regions) ≡ count_at c a k s.regions + one_in arena a k (held_region arena r.class addr)
taken_counts c arena addr a k s r sound found =
    let passes = find_passes (is_published_at addr) s.regions r found in
    let at : r.addr ≡ addr = eqb-true r.addr addr (both_true (is_published r) _ passes).1 in
    let sole = only_one (is_published_at addr) (is_published_at addr) s.regions r (one_published addr s sound) found passes in
    let one : ones (is_region a k r) ≡ one_in arena a k (held_region arena r.class addr) = ap (λ n. ones (n == a && r.class == k)) at ∙ ap (λ v. ones (v && addr == a && r.class == k)) (sym (eqb_itself arena)) in
    omega (
      arith,
      one,
      count_sum c a k (held_anew (is_published_at addr) (Some c) s.regions),
      count_sum c a k s.regions,
      anew_counts c addr a k s.regions,
      ap (sum_by (λ (q : Region). ones (is_region a k q))) sole,
      sum_by-cons (λ (q : Region). ones (is_region a k q)) r [],
    )

-- ---- regions that land one behind another

-- an address in the space of a region of a slab is a number of 64 bits
pub behind_is : (page place class : ℕ) → class < 36 → place < regions_at class → page ≤ 536870912 →
    min (4096 * page + size_at class * place) (2 ^ 64 - 1) ≡ 4096 * page + place * size_at class
behind_is page place class small within low = by (size_at class) (regions_at class) (slab_filled class small).0 (pages_bounds class (omega (arith, small))).1 within
  where
    by : (size many : ℕ) → many * size ≡ 4096 * pages_at class → pages_at class ≤ 2 ^ 23 → place < many → min (4096 * page + size * place) (2 ^ 64 - 1) ≡ 4096 * page + place * size
    by size many fills few below = grind arith

-- ---- which operations of an arena leave its regions and its clients alone

-- ---- settings

-- the setting isn't one of who is bound
abbrev pub IsElse : Setting → Type 0
IsElse Bind = ⊥
IsElse Unbind = ⊥
IsElse setting = Unit {0}

pub set_bound : (s : Space) (c : ℕ) (setting : Setting) → IsElse setting → (after_set s c setting).after.bound ≡ s.bound
set_bound s c (DirtyMs ms now) is = grind arith
set_bound s c setting is = grind arith

-- the regions stay with any setting
pub set_regions : (s : Space) (c : ℕ) (setting : Setting) → (after_set s c setting).after.regions ≡ s.regions
set_regions s c Bind = grind arith
set_regions s c setting = grind arith

-- a client that is bound is so then
pub added_in : (c : ℕ) (clients : List ℕ) → is_in c (with_client c clients) ≡ true
added_in c clients = elim (is_in c clients) as (λ v. is_in c clients ≡ v → is_in c (cond v clients (clients ++ c ∷ [])) ≡ true) [ true ↦ λ e. e | false ↦ λ e. last clients ] refl
  where
    last : (xs : List ℕ) → is_in c (xs ++ c ∷ []) ≡ true
    last [] = grind (arith, nat_tests)
    last (x ∷ xs) = grind (arith, last xs)

pub bind_keeps : (s : Space) (c : ℕ) → is_in c s.bound ≡ true → is_in c (after_set s c Bind).after.bound ≡ true
bind_keeps s c is = grind (arith, added_in)

-- ---- all operations

-- the operation neither lands regions nor takes any away, and changes no holder
abbrev pub IsSteady : Op → Type 0
IsSteady (Look pages align) = Unit {0}
IsSteady (CutDone heard keep_low) = Unit {0}
IsSteady (GrowDone heard found) = Unit {0}
IsSteady (CommitDone heard) = Unit {0}
IsSteady (PutLook span tries) = Unit {0}
IsSteady (MergeDone heard own_low) = Unit {0}
IsSteady (Advance now) = Unit {0}
IsSteady (PurgeTake rest keep) = Unit {0}
IsSteady (LazyDone heard) = Unit {0}
IsSteady (Offer span) = Unit {0}
IsSteady (OfferDone heard found) = Unit {0}
IsSteady (DecommitDone heard) = Unit {0}
IsSteady (ForcedDone heard) = Unit {0}
IsSteady DestroyTake = Unit {0}
IsSteady (Widen addr pages) = Unit {0}
IsSteady (Trim addr class) = Unit {0}
IsSteady (Set setting) = Unit {0}
IsSteady op = ⊥

pub op_regions : (s : Space) (c : ℕ) (op : Op) → IsSteady op → (step_of s c op).after.regions ≡ s.regions
op_regions s c (Look pages align) is = grind arith
op_regions s c (Set setting) is = set_regions s c setting
op_regions s c op is = grind arith

-- the operation sets nothing of who is bound
abbrev pub BindsNobody : Op → Type 0
BindsNobody (Set setting) = IsElse setting
BindsNobody op = Unit {0}

pub op_bound : (s : Space) (c : ℕ) (op : Op) → BindsNobody op → (step_of s c op).after.bound ≡ s.bound
op_bound s c (Look pages align) is = grind arith
op_bound s c (Land span class count) is = grind arith
op_bound s c (Set setting) is = set_bound s c setting is
op_bound s c op is = grind arith
