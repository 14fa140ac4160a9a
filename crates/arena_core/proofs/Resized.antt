-- A large region that takes another class: its extent is the one that begins at its address, and the slabs stay.
use Rattle.arena_core.proofs.Words.{◌≡◌, ℕ, ◌*◌, ◌/◌, ◌<◌, ◌≤◌, Bool, true, false, not, IsTrue, List, [], ◌∷◌, get_or, find, filter, Option, None, Some, refl, sym, ◌∙◌, ap, subst, arith, ◌&&◌, nat_le, ◌+◌, All, Contains, take, drop, eqb, nat_lt, list_any, position_or_len, sum_by, IsSome, option_map, eqb-true, nat_tests, sum_by-filter_both, sum_by-cons, sum_by-insert, pages_at, large_size, size_bounds, Ask, Split, Merge, Answer, Done, Span, Part, Region, Space, IsPlaced, same_span, end_of, begins_at, is_active, exchanged, is_flight_at, taken_out, houses, inserted, is_held_by, starts_at, address_of, is_slab, lies_in, has_large, is_large_at, large_home, reclassed, trim_answered, trim_done_stands, trimmed_at, after_join, after_trim_done, is_large_class, join_stands, widened_at, holds_at, found_passes, Sound, nothing_sum, only_one, both_true, two_left, home_found, housed, All-cons, All-contains_itself, All-nil, Contains-append_right, without_client, one_left, filter_nothing, find_has, find_passes, eqb_itself, lies_between, BinSlab, filter_same, head, booked_slab, IsBooked, begins_either, high_piece, joined, low_piece, any_has, found, Home, Housed}
use Rattle.arena_core.proofs.Emptying.{begins_alone, ones}
use Rattle.part_book.proofs.Searches.{found_there}
use Rattle.arena_core.proofs.Booked.{class_stays, idle_no_slab, no_slab, same_slab}
use Rattle.arena_core.proofs.Books.{same_any, still_booked}
use Rattle.arena_core.proofs.Homes.{in_flight}
use Rattle.arena_core.proofs.Still.{Idle, kept_exchanged, still, whole_still}
use Rattle.space_model.specs.declared.Answer.TheVariants as answers

-- What is known of a client's large region at an address, and of its extent, which passes a test.
pub record Homed (c addr : ℕ) (s : Space) (test : Part → Bool) (home : Region × Part) : Type 0 where
  pub found : large_home s c addr ≡ Some home
  pub begins : find (begins_at (addr / 4096)) s.parts ≡ Some home.1
  pub passes : test home.1 ≡ true
  pub region : home.0.addr ≡ addr
  pub holder : home.0.holder ≡ Some c
  pub start : addr ≡ 4096 * home.1.span.first
  pub placed : IsPlaced home.1.span
  pub active : is_active home.1.state ≡ true
  pub hand : holds_at c s.regions addr ≡ true
  pub large : list_any (λ r. starts_at addr r && nat_le 36 r.class) s.regions ≡ true

-- the holder of what a client holds
holder_is : (c : ℕ) (o : Option ℕ) → is_held_by c (record { addr = 0; class = 0; holder = o }) ≡ true → o ≡ Some c
holder_is c None h = absurd (cc)
holder_is c (Some d) h = ap (λ n. Some n) (eqb-true d c h)

pub homed_by : (c addr : ℕ) (s : Space) (test : Part → Bool) (o : Option (Region × Part)) → large_home s c addr ≡ o → Sound s → found_passes test (option_map (λ home. home.1) o) ≡ true →
    (home : Region × Part) × Homed c addr s test home
homed_by c addr s test None e sound h = absurd (cc)
homed_by c addr s test (Some home) e sound h =
    let r = home.0 in
    let p = home.1 in
    let f = home_found c s addr home e in
    let at = housed s (is_large_at c addr) r p sound f.region f.house f.large in
    let there = found (is_large_at c addr) s.regions r f.region in
    let large = both_true (is_held_by c r && starts_at addr r) _ there.1 in
    let here = both_true (is_held_by c r) (starts_at addr r) large.0 in
    let region : r.addr ≡ addr = eqb-true r.addr addr here.1 in
    let start : addr ≡ 4096 * p.span.first = sym region ∙ at.start in
    let page : p.span.first ≡ addr / 4096 = omega arith in
    let begins = found_there s.parts (λ q. houses q r) p (record { placed = sound.placed; owners = sound.owners }) f.house in (
      home,
      record {
        found = e;
        begins = subst (λ n. find (begins_at n) s.parts ≡ Some p) page begins;
        passes = h;
        region = region;
        holder = holder_is c r.holder f.held;
        start = start;
        placed = at.placed;
        active = at.active;
        hand = any_has (λ q. is_held_by c q && starts_at addr q) s.regions r there.0 (rw here.0 here.1);
        large = any_has (λ q. starts_at addr q && nat_le 36 q.class) s.regions r there.0 (rw here.1 large.1);
      },
    )

-- the extent is there
pub home_begins : (c addr page : ℕ) (s : Space) (test : Part → Bool) → Sound s → has_large s c addr test ≡ true → addr / 4096 ≡ page → IsSome (find (begins_at page) s.parts)
home_begins c addr page s test sound h is =
    let home = homed_by c addr s test (large_home s c addr) refl sound h in
    let there : IsSome (find (begins_at (addr / 4096)) s.parts) = rw home.1.begins refl in
    subst (λ n. IsSome (find (begins_at n) s.parts)) is there

-- as a program reads it, which looked it up by its first page
pub homed : {p : Part} (c addr page : ℕ) (s : Space) (test : Part → Bool) → Sound s → has_large s c addr test ≡ true → addr / 4096 ≡ page → find (begins_at page) s.parts ≡ Some p →
    (r : Region) × Homed c addr s test (r, p)
homed {p} c addr page s test sound h is read =
    let home = homed_by c addr s test (large_home s c addr) refl sound h in
    let both : Some home.0.1 ≡ Some p = sym home.1.begins ∙ ap (λ n. find (begins_at n) s.parts) is ∙ read in
    let same : home.0.1 ≡ p = cc in
    (home.0.0, subst (λ (q : Part). Homed c addr s test (home.0.0, q)) same home.1)

-- ---- another class

-- the region of a client, as it is put in with another class
pub reclassed_is : (c addr class : ℕ) (r : Region) (regions : List Region) → r.addr ≡ addr → r.holder ≡ Some c →
    inserted (record { addr = addr; class = class; holder = Some c }) (filter (λ q. not (starts_at addr q)) regions) ≡ reclassed r class regions
reclassed_is c addr class r regions at by =
    let a = sym at in
    let h = sym by in
    λ i. inserted (record { addr = a i; class = class; holder = h i }) (filter (λ q. not (starts_at (a i) q)) regions)

-- the answer to a split does the same whoever is shrinking a region
pub shrinking_aside : (s : Space) (c class : ℕ) (ask : Ask) (answer : Answer) (clients : List ℕ) → let step = trim_answered s c class ask answer in
    trim_answered (record s { trims = clients }) c class ask answer ≡ record { after = record step.after { trims = clients }; reply = step.reply }
shrinking_aside s c class (Split span left) Done clients =
    elim (large_home s c (4096 * span.first)) as (λ o. let step = trimmed_at s c left class o in
    trimmed_at (record s { trims = clients }) c left class o ≡ record { after = record step.after { trims = clients }; reply = step.reply }) [ None ↦ refl | Some home ↦ refl ]
shrinking_aside s c class (Split span left) answers.Refused clients = refl
shrinking_aside s c class ask answer clients = refl

-- What is known of a split whose answer may be taken in.
pub record Shrinks (c class : ℕ) (s : Space) (span : Span) (left : ℕ) : Type 0 where
  pub home : has_large s c (4096 * span.first) (λ p. same_span p.span span) ≡ true
  pub some : 0 < left
  pub fewer : left < span.pages
  pub large : 36 ≤ class
  pub within : class < 121
  pub exact : left ≡ pages_at class

pub shrinks : (c class : ℕ) (s : Space) (ask : Ask) (answer : Answer) (span : Span) (left : ℕ) → ask ≡ Split span left → IsTrue (trim_done_stands s c class ask answer) → Shrinks c class s span left
shrinks c class s ask answer span left is stands =
    let may : trim_done_stands s c class (Split span left) answer ≡ true = subst (λ x. trim_done_stands s c class x answer ≡ true) is stands in
    let large : 36 ≤ class = grind (arith, nat_tests, may) in
    let within : class < 121 = grind (arith, nat_tests, may) in
    let exact : left ≡ pages_at class = grind (arith, nat_tests, may) in record {
      home = (both_true _ (has_large s c (4096 * span.first) (λ p. same_span p.span span)) may).1;
      some = omega (arith, exact, large_size class large within, (size_bounds class within).0);
      fewer = grind (arith, nat_tests, may);
      large = large;
      within = within;
      exact = exact;
    }

-- whether the extent serves the region, which is of the class
abbrev serves_class : ℕ → Part → Region → Bool
serves_class class p r = eqb r.class class && houses p r

-- a region that is found is the only one at its address
alone_at : (s : Space) (test : Region → Bool) (r : Region) → Sound s → find test s.regions ≡ Some r → filter (starts_at r.addr) s.regions ≡ r ∷ []
alone_at s test r sound found = only_one (starts_at r.addr) test s.regions r (begins_alone s r.addr sound) found (eqb_itself r.addr)

-- What a resize does: a large region takes another large class in the first of the new extents, and the others that go or
-- come serve none.
record Resized (c addr : ℕ) (s t : Space) (r : Region) (p new : Part) (class : ℕ) (gone : Part → Bool) (others more : List Part) : Type 0 where
  sound : Sound s
  also : Sound t
  found : large_home s c addr ≡ Some (r, p)
  big : (36 ≤ class) × (class < 121)
  parts : t.parts ≡ exchanged gone s.parts (new ∷ more)
  regions : t.regions ≡ reclassed r class s.regions
  left : (f : Part → ℕ) → sum_by f (filter gone s.parts) ≡ f p + sum_by f others
  idle : All Idle others
  still : All Idle more
  is : new ≡ record p { span = record { first = p.span.first; pages = new.span.pages } }
  pages : new.span.pages ≡ pages_at class

resized_booked : {c addr : ℕ} {s t : Space} {r : Region} {p new : Part} {class : ℕ} {gone : Part → Bool} {others more : List Part} (slabs : List BinSlab) →
    Resized c addr s t r p new class gone others more → IsBooked s slabs → IsBooked t slabs
resized_booked {c} {addr} {s} {t} {r} {p} {new} {class} {gone} {others} {more} slabs x book = record { small = book.small; booked = λ k low. class_stays s t slabs k (parts k low) (λ q m slab. same k q) (book.booked k low) }
  where
    of : Home c s addr (r, p)
    of = home_found c s addr (r, p) x.found

    at : Housed s r p
    at = housed s (is_large_at c addr) r p x.sound of.region of.house of.large

    now : Region
    now = record r { class = class }

    rest : List Region
    rest = filter (λ q. not (starts_at r.addr q)) s.regions

    sums : (f : Region → ℕ) → sum_by f t.regions ≡ sum_by f rest + f now
    sums f = ap (sum_by f) x.regions ∙ sum_by-insert f rest (position_or_len (λ (q : Region). nat_lt now.addr q.addr) rest) now

    was : (f : Region → ℕ) → sum_by f s.regions ≡ sum_by f rest + f r
    was f =
        omega (arith, sum_by-filter_both (starts_at r.addr) (λ q. not (starts_at r.addr q)) (λ _. refl) f s.regions, ap (sum_by f) (alone_at s (is_large_at c addr) r x.sound of.region), sum_by-cons f r [])

    -- neither class is small, so nothing is a slab that wasn't
    neither : (k : ℕ) → k < 36 → (q : Part) → is_slab k t.regions q ≡ is_slab k s.regions q
    neither k low q =
        same_any (serves_class k q) t.regions s.regions
        (grind (arith, nat_tests, sums (λ y. ones (serves_class k q y)), was (λ y. ones (serves_class k q y)), low, x.big.0, of.large))

    -- a region begins where one did
    same : (k : ℕ) (q : Part) → booked_slab t.regions k q ≡ booked_slab s.regions k q
    same k q = same_slab k q t.regions s.regions (λ a m. same_any (starts_at a) t.regions s.regions (omega (arith, sums (λ y. ones (starts_at a y)), was (λ y. ones (starts_at a y)))))

    -- the extent of the large region was no slab, and is none
    old : (k : ℕ) → k < 36 → is_slab k s.regions p ≡ false
    old k low =
        no_slab s k p x.sound low (find_has (Contains s.parts) (λ q. houses q r) s.parts p (All-contains_itself s.parts) of.house) r (find_has (Contains s.regions) (is_large_at c addr) s.regions r (All-contains_itself s.regions) of.region)
        (find_passes (λ q. houses q r) s.parts p of.house) (λ e. omega (arith, e, low, of.large))

    come : (k : ℕ) → k < 36 → is_slab k s.regions new ≡ false
    come k low =
        let n = position_or_len (λ (q : Region). nat_lt now.addr q.addr) rest in
        let there = subst (λ xs. Contains xs new) (sym x.parts) (Contains-append_right (filter (λ q. not (gone q)) s.parts) (new ∷ more) new (head new more)) in
        let region = subst (λ xs. Contains xs now) (sym x.regions) (Contains-append_right (take n rest) (now ∷ drop n rest) now (head now (drop n rest))) in
        let active : is_active new.state ≡ true = ap (λ (q : Part). is_active q.state) x.is ∙ at.active in
        let committed : new.committed ≡ true = ap (λ (q : Part). q.committed) x.is ∙ at.committed in
        let start : r.addr ≡ address_of new.span.first = at.start ∙ ap (λ (q : Part). address_of q.span.first) (sym x.is) in
        let inside : lies_in new.span now ≡ true = lies_between new.span now (omega (arith, start)) (omega (arith, start, x.pages, large_size class x.big.0 x.big.1)) in
        sym (neither k low new) ∙ no_slab t k new x.also low there now region (rw (active, committed, inside) refl) (λ e. omega (arith, e, low, x.big.0))

    parts : (k : ℕ) → k < 36 → filter (is_slab k t.regions) t.parts ≡ filter (is_slab k s.regions) s.parts
    parts k low =
        let f : Part → Bool = is_slab k s.regions in
        let none = nothing_sum (λ q. ones (f q)) others (λ j d h. ap ones (idle_no_slab k s.regions (get_or others j d) (x.idle j d h))) in
        let empty = filter_nothing f (filter gone s.parts) (omega (arith, x.left (λ q. ones (f q)), ap ones (old k low), none)) in
        filter_same (is_slab k t.regions) f t.parts (λ q m. neither k low q) ∙ ap (filter f) x.parts
        ∙ kept_exchanged f gone s.parts (new ∷ more) empty (All-cons (λ q. f q ≡ false) new more (come k low) (λ j d h. idle_no_slab k s.regions (get_or more j d) (x.still j d h)))

-- ---- the answers

join_by : (c : ℕ) (s : Space) (class : ℕ) (low high : Span) (o : Option (Region × Part)) (u : Option Part) (slabs : List BinSlab) → large_home s c (address_of low.first) ≡ o →
    find (is_flight_at c high) s.parts ≡ u → Sound s → Sound (widened_at s class o u).after → join_stands s c class (Merge low high) Done ≡ true → IsBooked s slabs →
    IsBooked (widened_at s class o u).after slabs
join_by c s class low high None u slabs e f sound also stands are = are
join_by c s class low high (Some home) None slabs e f sound also stands are = are
join_by c s class low high (Some home) (Some q) slabs e f sound also stands are =
    let home_is = (both_true (is_large_class class && eqb (low.pages + high.pages) (pages_at class) && eqb (end_of low) high.first) _ (both_true _ _ stands).0).1 in
    let p : Part = home.1 in
    let found = home_found c s (address_of low.first) home e in
    let to = in_flight c s high q sound (sym f) in
    let passes : same_span p.span low ≡ true = subst (λ o. found_passes (λ p. same_span p.span low) (option_map (λ x. x.1) o) ≡ true) e home_is in
    let beside : end_of p.span ≡ q.span.first = grind (arith, nat_tests, passes, to.first, stands) in
    let whole : p.span.pages + q.span.pages ≡ pages_at class = grind (arith, nat_tests, passes, to.pages, stands) in
    resized_booked {r = home.0} {p = home.1} {new = joined p q} {gone = begins_either p q} {others = q ∷ []} {more = []} slabs (record {
      sound = sound;
      also = also;
      found = e;
      big = (grind (arith, nat_tests, stands), grind (arith, nat_tests, stands));
      parts = refl;
      regions = refl;
      left = λ g. omega (arith, two_left s (λ x. houses x home.0) (is_flight_at c high) p q sound found.house f beside g, sum_by-cons g p (q ∷ []));
      idle = All-cons Idle q [] to.idle (All-nil Idle);
      still = All-nil Idle;
      is = refl;
      pages = whole;
    }) are

pub join_step : (c : ℕ) (s : Space) (class : ℕ) (ask : Ask) (answer : Answer) (slabs : List BinSlab) → Sound s → Sound (after_join s c class ask answer).after → join_stands s c class ask answer ≡ true →
    IsBooked s slabs → IsBooked (after_join s c class ask answer).after slabs
join_step c s class (Merge low high) Done slabs sound also stands are =
    join_by c s class low high (large_home s c (address_of low.first)) (find (is_flight_at c high) s.parts) slabs refl refl sound also stands are
join_step c s class (Merge low high) answers.Refused slabs sound also stands are = still_booked s _ slabs are (whole_still s c high sound)
join_step c s class ask answer slabs sound also stands are = are

trim_by : (c : ℕ) (s : Space) (class : ℕ) (span : Span) (left : ℕ) (o : Option (Region × Part)) (slabs : List BinSlab) → large_home s c (address_of span.first) ≡ o → Sound s →
    Sound (trimmed_at (record s { trims = without_client c s.trims }) c left class o).after → trim_done_stands s c class (Split span left) Done ≡ true → IsBooked s slabs →
    IsBooked (trimmed_at (record s { trims = without_client c s.trims }) c left class o).after slabs
trim_by c s class span left None slabs e sound also stands are = still_booked s _ slabs are (still s _ refl refl)
trim_by c s class span left (Some home) slabs e sound also stands are =
    let may = shrinks c class s (Split span left) Done span left refl stands in
    let p : Part = home.1 in
    let found = home_found c s (address_of span.first) home e in
    let high : Part = taken_out c (high_piece left p) in
    resized_booked {r = home.0} {p = home.1} {new = low_piece left p} {gone = begins_at p.span.first} {others = []} {more = high ∷ []} slabs (record {
      sound = sound;
      also = also;
      found = e;
      big = (may.large, may.within);
      parts = refl;
      regions = refl;
      left = λ g. omega (arith, one_left s (λ x. houses x home.0) p sound found.house g, sum_by-cons g p []);
      idle = All-nil Idle;
      still = All-cons Idle high [] refl (All-nil Idle);
      is = refl;
      pages = may.exact;
    }) are

pub trim_step : (c : ℕ) (s : Space) (class : ℕ) (ask : Ask) (answer : Answer) (slabs : List BinSlab) → Sound s → Sound (after_trim_done s c class ask answer).after → trim_done_stands s c class ask answer ≡ true →
    IsBooked s slabs → IsBooked (after_trim_done s c class ask answer).after slabs
trim_step c s class (Split span left) Done slabs sound also stands are =
    trim_by c s class span left (large_home s c (address_of span.first)) slabs refl sound also stands are
trim_step c s class (Split span left) answers.Refused slabs sound also stands are = still_booked s _ slabs are (still s _ refl refl)
trim_step c s class ask answer slabs sound also stands are = still_booked s _ slabs are (still s _ refl refl)
