-- Extents that change and regions that are given back, one after the other from the lowest on.
use Rattle.arena_core.proofs.Words.{false_from_ne_true, ◌≡◌, ℕ, ◌+◌, ◌<◌, ◌≤◌, Bool, true, false, cond, not, List, [], ◌∷◌, ◌++◌, append_assoc, append-nil, length, get_or, filter, refl, sym, ◌∙◌, ap, subst, arith, All, ◌*◌, IsTrue, ◌&&◌, eqb, nat_le, drop, add-one, drop-cons, count_by, list_all, list_any, not-true, nat_tests, All-append, All-cons, All-filter, All-head, All-nil, All-tail, filter-append, filter_passes, All-weaker, length-filter_both, sum_by-filter_both, sum_by-cons, Part, IsPlaced, end_of, begins_at, exchanged, turned, turned_in_order, is_active, taken_out, Span, filter-begins_at, filter-without, share, some_pages, serves, filter_swap, filter_both, IsApart, IsThere, drop_all, Region, Space, houses, is_held_by, residents, after_back, holds_at, is_emptied, is_given_back, is_live, rises_from, staying, taken_in_order, Sound, lawful_sound, back_does, both_true, filter_same, All-map, map, filter_map_is, turned_first, live_is, any_from, filter_from, eqb-true, All-contains}
use Rattle.arena_core.proofs.Emptying.{All-split, none_kept, Empties, any_counts, counted_any, empties, none_counted, gives, is_left, ones}
use Rattle.arena_core.proofs.InOrder.{lowest_first}
use Rattle.arena_core.proofs.Swaps.{apart_changed, keeps_all, others_apart, there_placed}

-- ---- a change that leaves each extent where it begins

-- a change leaves each extent where it begins
abbrev pub KeepsPlace : (Part → Part) → Type 0
KeepsPlace turn = (q : Part) → (turn q).span.first ≡ q.span.first

-- the lowest of all is the first that changes
turned_lowest : (turn : Part → Part) (p : Part) (xs : List Part) → KeepsPlace turn → filter (begins_at p.span.first) xs ≡ p ∷ [] → All (λ q. p.span.first < q.span.first) (filter (λ q. not (begins_at p.span.first q)) xs) →
    turned_in_order turn xs ≡ turn p ∷ turned_in_order turn (filter (λ q. not (begins_at p.span.first q)) xs)
turned_lowest turn p xs keeps alone above =
    let t = begins_at p.span.first in
    let now = begins_at (turn p).span.first in
    let begins : (q : Part) → now (turn q) ≡ t q = λ q k. eqb (keeps q k) (keeps p k) in
    let others = filter_map_is turn (λ q. not (now q)) xs ∙ (λ k. map turn (filter (λ q. not (begins q k)) xs)) in
    let higher = All-map (λ q. (turn p).span.first < q.span.first) turn (filter (λ q. not (t q)) xs) (λ k d h. let less = above k d h in let here = keeps p in let there = keeps (get_or (filter (λ q. not (t q)) xs) k d) in omega arith) in
    sym (turned_first turn xs)
    ∙ lowest_first (turn p) (map turn xs) (filter_map_is turn now xs ∙ (λ k. map turn (filter (λ q. begins q k) xs)) ∙ ap (map turn) alone) (subst (All (λ q. (turn p).span.first < q.span.first)) (sym others) higher)
    ∙ ap (λ ys. turn p ∷ turned_in_order (λ q. q) ys) others ∙ ap (λ ys. turn p ∷ ys) (turned_first turn (filter (λ q. not (t q)) xs))

-- What changing the lowest extent that passes a test leaves: others, fewer by one, which change to what all change to.
pub record TurnsFirst (gone : Part → Bool) (turn : Part → Part) (parts one : List Part) : Type 0 where
  pub all : turned gone turn one ≡ turned gone turn parts
  pub fewer : 1 + length (filter gone one) ≡ length (filter gone parts)

pub turns_first : (turn : Part → Part) (parts : List Part) (p : Part) (gone : Part → Bool) → KeepsPlace turn → gone p ≡ true → gone (turn p) ≡ false → filter (begins_at p.span.first) parts ≡ p ∷ [] →
    All (λ q. p.span.first < q.span.first) (filter gone (filter (λ q. not (begins_at p.span.first q)) parts)) →
    (one : List Part) → one ≡ exchanged (begins_at p.span.first) parts (turn p ∷ []) → TurnsFirst gone turn parts one
turns_first turn parts p gone keeps goes stays alone above one is =
    let t = begins_at p.span.first in
    let others : List Part = filter (λ q. not (t q)) parts in
    let stay = λ (q : Part). not (gone q) in
    let gone_one : filter gone one ≡ filter gone others = grind (arith, is, stays, filter-append gone others (turn p ∷ []), append-nil (filter gone others)) in
    let kept_one : filter stay one ≡ filter stay others ++ turn p ∷ [] = grind (arith, is, stays, filter-append stay others (turn p ∷ [])) in
    let kept = filter-without stay t parts (grind (arith, ap (filter stay) alone, goes)) in
    let first : filter t (filter gone parts) ≡ p ∷ [] = grind (arith, filter_swap t gone parts, ap (filter gone) alone, goes) in
    let rest = filter_swap (λ q. not (t q)) gone parts in
    let done = turned_lowest turn p (filter gone parts) keeps first (subst (All (λ q. p.span.first < q.span.first)) (sym rest) above) in
    record {
      all = cc (gone_one, kept_one, append_assoc (filter stay others) (turn p ∷ []) (turned_in_order turn (filter gone others)), kept, rest, done);
      fewer = grind (arith, ap length first, ap length rest, ap length gone_one, length-filter_both t (λ q. not (t q)) (λ _. refl) (filter gone parts));
    }

-- ---- a walk by address

-- one that begins no lower than another, with which it shares no page, begins where that one ends or behind
pub begins_behind : (low high : Part) → share high.span.first low + share high.span.first high ≤ 1 → 0 < high.span.pages → low.span.first ≤ high.span.first → end_of low.span ≤ high.span.first
begins_behind low high most some le = grind (arith, nat_tests)

-- How far a walk by address has come: the extents that pass the test begin at a page or behind it, and others that passed it have changed.
pub record Walk (test : Part → Bool) (turn : Part → Part) (start parts : List Part) (page : ℕ) : Type 0 where
  pub apart : IsApart parts
  pub all : turned test turn parts ≡ turned test turn start
  pub low : All (λ q. test q ≡ true → page ≤ q.span.first) parts

pub walk_begins : (test : Part → Bool) (turn : Part → Part) (parts : List Part) → IsApart parts → Walk test turn parts parts 0
walk_begins test turn parts apart = record { apart = apart; all = refl; low = λ k d h passes. omega arith }

-- the lowest extent that passes changes, or one below it that fails is passed, where the extents that begin from the page on begin no lower
pub walk_goes : (test : Part → Bool) (turn : Part → Part) (start parts one : List Part) (page : ℕ) (p : Part) → ((q : Part) → (turn q).span ≡ q.span) → test (turn p) ≡ false → IsThere parts p →
    All (λ q. page ≤ q.span.first → p.span.first ≤ q.span.first) parts → one ≡ cond (test p) (exchanged (begins_at p.span.first) parts (turn p ∷ [])) parts → Walk test turn start parts page →
    Walk test turn start one (end_of p.span)
walk_goes test turn start parts one page p spans stays there first is walk = by (test p) refl is
  where
    t : Part → Bool
    t = begins_at p.span.first

    others : List Part
    others = filter (λ q. not (t q)) parts

    P : Part → Type 0
    P = λ q. test q ≡ true → end_of p.span ≤ q.span.first

    alone : filter t parts ≡ p ∷ []
    alone = filter-begins_at t parts p (some_pages parts walk.apart.placed) (walk.apart.owners p.span.first) there

    rest : All P others
    rest =
        let other : Part → Bool = λ q. not (t q) in
        let kept = All-filter other (λ q. test q ≡ true → p.span.first ≤ q.span.first) parts (λ k d h passes. first k d h (walk.low k d h passes)) in
        let placed = All-filter other (λ q. IsPlaced q.span) parts walk.apart.placed in
        let apart = others_apart parts p alone walk.apart.owners in
        λ k d h passes. let q : Part = get_or others k d in begins_behind p q (let most = apart k d h q.span.first in omega arith) (placed k d h).0 (kept k d h passes)

    fails : (q : Part) → test q ≡ false → P q
    fails q off on = let wrong : false ≡ true = sym off ∙ on in absurd (cc)

    higher : All (λ q. p.span.first < q.span.first) (filter test others)
    higher =
        let kept = All-filter test P others rest in
        let goes = filter_passes test others in
        let some = (there_placed parts p walk.apart there).0 in
        λ k d h. let end = kept k d h (goes k d h) in omega arith

    by : (b : Bool) → test p ≡ b → one ≡ cond b (exchanged t parts (turn p ∷ [])) parts → Walk test turn start one (end_of p.span)
    by true passes is =
        let first = turns_first turn parts p test (λ q. ap (λ (s : Span). s.first) (spans q)) passes stays alone higher one is in
        record {
          apart = subst IsApart (sym is) (apart_changed parts p (turn p) walk.apart there (spans p));
          all = first.all ∙ walk.all;
          low = subst (All P) (sym is) (All-append P others (turn p ∷ []) rest (All-cons P (turn p) [] (fails (turn p) stays) (All-nil P)));
        }
    by false off is =
        record {
          apart = subst IsApart (sym is) walk.apart;
          all = ap (turned test turn) is ∙ walk.all;
          low = subst (All P) (sym is) (All-split P t parts (subst (All P) (sym alone) (All-cons P p [] (fails p off) (All-nil P))) rest);
        }

-- it ends where none begins from the page on
pub walk_ends : (test : Part → Bool) (turn : Part → Part) (start parts : List Part) (page : ℕ) → All (λ q. q.span.first < page) parts → Walk test turn start parts page → parts ≡ turned test turn start
walk_ends test turn start parts page below walk =
    let none : filter test parts ≡ [] = none_kept test parts (λ k d h. false_from_ne_true _ (λ t. let less = below k d h in let low = walk.low k d h t in omega arith)) in
    let same : turned test turn parts ≡ parts = cc (none, keeps_all test parts none, append-nil parts) in
    sym same ∙ walk.all

-- ---- the regions

-- what stays after one address and then after the others is what stays after all
pub staying_twice : (c addr : ℕ) (addrs : List ℕ) (regions : List Region) → staying c addrs (staying c (addr ∷ []) regions) ≡ staying c (addr ∷ addrs) regions
staying_twice c addr addrs regions =
    filter_both (λ r. not (is_given_back c (addr ∷ []) r)) (λ r. not (is_given_back c addrs r)) regions
    ∙ filter_same (λ r. not (is_given_back c (addr ∷ []) r) && not (is_given_back c addrs r)) (λ r. not (is_given_back c (addr ∷ addrs) r)) regions
    (λ r m. grind arith)

-- the addresses that rise from a number on are no lower
rising : (least : ℕ) (addrs : List ℕ) → rises_from least addrs ≡ true → All (λ a. least ≤ a) addrs
rising least [] h = All-nil (λ a. least ≤ a)
rising least (a ∷ more) h =
    let later : All (λ x. a + 1 ≤ x) more = rising (a + 1) more (grind (arith, nat_tests)) in
    All-cons (λ x. least ≤ x) a more (grind (arith, nat_tests)) (All-weaker (λ x. a + 1 ≤ x) (λ x. least ≤ x) (λ x le. grind (arith, nat_tests)) more later)

-- and rise from any lower number on
rises_lower : (least lower : ℕ) (addrs : List ℕ) → lower ≤ least → rises_from least addrs ≡ true → rises_from lower addrs ≡ true
rises_lower least lower [] le h = refl
rises_lower least lower (a ∷ more) le h = grind (arith, nat_tests)

-- a region at another address is still held
held_still : (c addr other : ℕ) (regions : List Region) → addr < other → holds_at c regions other ≡ true → holds_at c (staying c (addr ∷ []) regions) other ≡ true
held_still c addr other [] less h = absurd (cc)
held_still c addr other (r ∷ rs) less h = grind (arith, nat_tests, held_still c addr other rs less)

-- so are all that are held at higher addresses
all_still : (c addr : ℕ) (addrs : List ℕ) (regions : List Region) → All (λ a. addr < a) addrs → list_all (holds_at c regions) addrs ≡ true → list_all (holds_at c (staying c (addr ∷ []) regions)) addrs ≡ true
all_still c addr [] regions above h = refl
all_still c addr (a ∷ more) regions above h =
    let P : ℕ → Type 0 = λ x. addr < x in
    grind (arith, held_still c addr a regions (All-head P a more above), all_still c addr more regions (All-tail P a more above))

-- ---- the extents

-- a number among higher ones is higher
named_above : (low : ℕ) (addrs : List ℕ) (a : ℕ) → All (λ x. low < x) addrs → list_any (λ x. eqb x a) addrs ≡ true → low < a
named_above low addrs a above h =
    let x = any_from (λ y. eqb y a) addrs h in subst (λ n. low < n) (eqb-true _ _ x.2) (All-contains (λ y. low < y) addrs x.0 above x.1)

-- a region begins in the extent that serves it
begins_in : (x : Part) (r : Region) → houses x r ≡ true → (4096 * x.span.first ≤ r.addr) × (r.addr ≤ 4096 * end_of x.span)
begins_in x r h = (grind (arith, nat_tests), grind (arith, nat_tests))

-- an extent that is emptied by higher addresses is higher
above_first : (c addr : ℕ) (addrs : List ℕ) (s : Space) (p : Part) → Sound s → Empties c addr s p → All (λ a. addr < a) addrs →
    All (λ q. p.span.first < q.span.first) (filter (is_emptied (staying c addrs (staying c (addr ∷ []) s.regions))) (filter (λ q. not (begins_at p.span.first q)) s.parts))
above_first c addr addrs s p sound e above =
    let t = begins_at p.span.first in
    let one : List Region = staying c (addr ∷ []) s.regions in
    let gone = is_emptied (staying c addrs one) in
    let others : List Part = filter (λ q. not (t q)) s.parts in
    let P : Part → Type 0 = λ x. (serves e.region x ≡ 0) × (IsTrue (is_active x.state) → 0 < residents x s.regions) × (share p.span.first x + share p.span.first p ≤ 1) in
    let used = All-filter (λ q. not (t q)) (λ x. IsTrue (is_active x.state) → 0 < residents x s.regions) s.parts sound.used in
    let each : All P others = λ k d h. (
      e.others k d h,
      used k d h,
      others_apart s.parts p e.alone sound.owners k d h p.span.first,
    ) in
    let kept = All-filter gone P others each in
    let passes = filter_passes gone others in
    λ k d h. higher (get_or (filter gone others) k d) (kept k d h).0 (kept k d h).1 (kept k d h).2 (passes k d h)
  where
    higher : (x : Part) → serves e.region x ≡ 0 → (IsTrue (is_active x.state) → 0 < residents x s.regions) → share p.span.first x + share p.span.first p ≤ 1 →
        is_emptied (staying c addrs (staying c (addr ∷ []) s.regions)) x ≡ true → p.span.first < x.span.first
    higher x none used apart goes =
        let one : List Region = staying c (addr ∷ []) s.regions in
        let first = is_given_back c (addr ∷ []) in
        let later = is_given_back c addrs in
        let test = houses x in
        let gone : count_by test (filter first s.regions) ≡ count_by test (e.region ∷ []) = ap (count_by test) e.given.alone in
        let here = sum_by-filter_both first (λ q. not (first q)) (λ _. refl) (λ q. ones (test q)) s.regions in
        let there = sum_by-filter_both later (λ q. not (later q)) (λ _. refl) (λ q. ones (test q)) one in
        let zero = none_counted test (staying c addrs one) (grind (arith, goes)) in
        let some : 0 < count_by test (filter later one) = grind (arith, goes, gone, here, there, zero, none, used, sum_by-cons (λ q. ones (test q)) e.region []) in
        let found = any_from test (filter later one) (counted_any test (filter later one) some) in
        let q : Region = found.0 in
        let named = (filter_from later one q found.1).1 in
        let less = named_above addr addrs q.addr above (both_true (is_held_by c q) (list_any (λ a. eqb a q.addr) addrs) named).1 in
        grind (arith, nat_tests, apart, begins_in x q found.2, begins_in p e.region e.home, e.given.at, less, e.placed.0)

-- ---- the rounds

-- What giving one region back, and then others at higher addresses, leaves: what giving all of them back leaves.
pub record Round (c addr : ℕ) (addrs : List ℕ) (s : Space) : Type 0 where
  pub after : (after_back (after_back s c (addr ∷ [])).after c addrs).after ≡ (after_back s c (addr ∷ addrs)).after
  pub emptied : length (filter (is_emptied (staying c (addr ∷ []) s.regions)) s.parts)
      + length (filter (is_emptied (staying c addrs (staying c (addr ∷ []) s.regions))) (after_back s c (addr ∷ [])).after.parts)
      ≡ length (filter (is_emptied (staying c (addr ∷ addrs) s.regions)) s.parts)

-- where the extent of the first region isn't emptied, or is
round_by : (c addr : ℕ) (addrs : List ℕ) (s : Space) (p : Part) (b : Bool) → Sound s → Empties c addr s p → All (λ a. addr < a) addrs → is_left (staying c (addr ∷ []) s.regions) p ≡ b →
    (one : List Part) → one ≡ (after_back s c (addr ∷ [])).after.parts → (gone : Part → Bool) → gone ≡ is_emptied (staying c addrs (staying c (addr ∷ []) s.regions)) →
    (exchanged gone one (taken_in_order c (filter gone one)) ≡ exchanged gone s.parts (taken_in_order c (filter gone s.parts)))
    × (length (filter (is_emptied (staying c (addr ∷ []) s.regions)) s.parts) + length (filter gone one) ≡ length (filter gone s.parts))
round_by c addr addrs s p false sound e above left one is gone same =
    let g = gives c addr s p false e (sym left) in
    let one_is : one ≡ s.parts = is ∙ sym g.parts in
    let n : length (filter gone one) ≡ length (filter gone s.parts) = ap (λ xs. length (filter gone xs)) one_is in
    (ap (λ xs. exchanged gone xs (taken_in_order c (filter gone xs))) one_is, omega (arith, g.count, n))
round_by c addr addrs s p true sound e above left one is gone same =
    let g = gives c addr s p true e (sym left) in
    let first : List Region = staying c (addr ∷ []) s.regions in
    let goes : gone p ≡ true = ap (λ (f : Part → Bool). f p) same ∙ emptied_still c addrs first p e.active left in
    let stays : gone (taken_out c p) ≡ false = ap (λ (f : Part → Bool). f (taken_out c p)) same in
    let higher = subst (λ (f : Part → Bool). All (λ q. p.span.first < q.span.first) (filter f (filter (λ q. not (begins_at p.span.first q)) s.parts))) (sym same) (above_first c addr addrs s p sound e above) in
    let both = turns_first (taken_out c) s.parts p gone (λ q. refl) goes stays e.alone higher one (is ∙ sym g.parts) in
    (both.all, omega (arith, g.count, both.fewer))
  where
    emptied_still : (c : ℕ) (addrs : List ℕ) (regions : List Region) (p : Part) → is_active p.state ≡ true → is_left regions p ≡ true → is_emptied (staying c addrs regions) p ≡ true
    emptied_still c addrs regions p active left =
        let none = none_counted (houses p) regions (not-true (list_any (houses p) regions) left) in
        let sums = sum_by-filter_both (is_given_back c addrs) (λ q. not (is_given_back c addrs q)) (λ _. refl) (λ q. ones (houses p q)) regions in
        grind (arith, active, none, sums, any_counts (houses p) (staying c addrs regions))

pub round : (c addr : ℕ) (addrs : List ℕ) (s : Space) → Sound s → holds_at c s.regions addr ≡ true → All (λ a. addr < a) addrs → Round c addr addrs s
round c addr addrs s sound held above =
    let e = empties c addr s sound held in
    let first : List Region = staying c (addr ∷ []) s.regions in
    let by = round_by c addr addrs s e.0 (is_left first e.0) sound e.1 above refl (after_back s c (addr ∷ [])).after.parts refl (is_emptied (staying c addrs first)) refl in
    let regions = staying_twice c addr addrs s.regions in
    record {
      after =
          (λ i. record s { parts = by.0 i; regions = staying c addrs first })
          ∙ ap (λ (rs : List Region). record s { parts = exchanged (is_emptied rs) s.parts (taken_in_order c (filter (is_emptied rs) s.parts)); regions = rs }) regions;
      emptied = by.1 ∙ ap (λ (rs : List Region). length (filter (is_emptied rs) s.parts)) regions;
    }

-- with no address nothing changes
pub no_round : (c : ℕ) (s : Space) → Sound s → ((after_back s c []).after ≡ s) × (length (filter (is_emptied (staying c [] s.regions)) s.parts) ≡ 0)
no_round c s sound =
    let given = is_given_back c [] in
    let regions : staying c [] s.regions ≡ s.regions = keeps_all given s.regions (none_kept given s.regions (λ k d h. grind arith)) in
    let none = none_kept (is_emptied s.regions) s.parts (λ k d h. serves_still (get_or s.parts k d) (sound.used k d h)) in
    let all : filter (λ p. not (is_emptied s.regions p)) s.parts ≡ s.parts = keeps_all (is_emptied s.regions) s.parts none in
    let parts : exchanged (is_emptied s.regions) s.parts (taken_in_order c (filter (is_emptied s.regions) s.parts)) ≡ s.parts = cc (none, all, append-nil s.parts) in (
      ap (λ (rs : List Region). record s { parts = exchanged (is_emptied rs) s.parts (taken_in_order c (filter (is_emptied rs) s.parts)); regions = rs }) regions
          ∙ (λ i. record s { parts = parts i }),
      ap (λ (rs : List Region). length (filter (is_emptied rs) s.parts)) regions ∙ ap length none,
    )
  where
    serves_still : (p : Part) → (IsTrue (is_active p.state) → 0 < residents p s.regions) → is_emptied s.regions p ≡ false
    serves_still p used = grind (arith, used, counted_any (houses p) s.regions)

-- How far a client has come in giving regions back: some are left, whose return leaves what was to be left at first.
pub record Left (c : ℕ) (rest all : List ℕ) (start s : Space) (emptied : ℕ) : Type 0 where
  pub sound : Sound s
  pub live : is_live s.life ≡ true
  pub rises : rises_from 0 rest ≡ true
  pub held : list_all (holds_at c s.regions) rest ≡ true
  pub after : (after_back s c rest).after ≡ (after_back start c all).after
  pub count : emptied + length (filter (is_emptied (staying c rest s.regions)) s.parts) ≡ length (filter (is_emptied (staying c all start.regions)) start.parts)

-- ---- as a loop cites them, at place `i` of the addresses

-- what is left is the address there and the others
left_at : {c i : ℕ} {all : List ℕ} {start s : Space} {n : ℕ} → Left c (drop i all) all start s n → i < length all → Left c (get_or all i 0 ∷ drop (i + 1) all) all start s n
left_at {c} {i} {all} {start} {s} {n} left h = subst (λ xs. Left c xs all start s n) (drop-cons all i 0 h ∙ ap (λ j. get_or all i 0 ∷ drop j all) (sym (add-one i))) left

-- it is held
pub left_held : {c i : ℕ} {all : List ℕ} {start s : Space} {n : ℕ} → Left c (drop i all) all start s n → i < length all → holds_at c s.regions (get_or all i 0) ≡ true
left_held {c} {i} {all} {start} {s} {n} left h =
    (both_true (holds_at c s.regions (get_or all i 0)) (list_all (holds_at c s.regions) (drop (i + 1) all)) (left_at left h).held).0

-- it is given back
pub left_step : {c i : ℕ} {all : List ℕ} {start s one : Space} {n k : ℕ} → Left c (drop i all) all start s n → i < length all → one ≡ (after_back s c (get_or all i 0 ∷ [])).after →
    k ≡ length (filter (is_emptied (staying c (get_or all i 0 ∷ []) s.regions)) s.parts) → Left c (drop (i + 1) all) all start one (n + k)
left_step {c} {i} {all} {start} {s} {one} {n} {k} old h is counted =
    let addr = get_or all i 0 in
    let rest : List ℕ = drop (i + 1) all in
    let left = left_at old h in
    let held = both_true (holds_at c s.regions addr) (list_all (holds_at c s.regions) rest) left.held in
    let rises = (both_true (nat_le 0 addr) (rises_from (addr + 1) rest) left.rises).1 in
    let above : All (λ a. addr < a) rest = All-weaker (λ a. addr + 1 ≤ a) (λ a. addr < a) (λ a le. omega arith) rest (rising (addr + 1) rest rises) in
    let r = round c addr rest s left.sound held.0 above in
    subst (λ x. Left c rest all start x (n + k)) (sym is) (record {
      sound = lawful_sound (back_does c s (addr ∷ []) left.sound (live_is s.life left.live)).lawful left.sound;
      live = left.live;
      rises = rises_lower (addr + 1) 0 rest (omega arith) rises;
      held = all_still c addr rest s.regions above held.1;
      after = r.after ∙ left.after;
      count = omega (arith, counted, r.emptied, left.count);
    })

-- none is left
pub left_end : {c i : ℕ} {all : List ℕ} {start s : Space} {n : ℕ} → Left c (drop i all) all start s n → length all ≤ i →
    (s ≡ (after_back start c all).after) × (n ≡ length (filter (is_emptied (staying c all start.regions)) start.parts))
left_end {c} {i} {all} {start} {s} {n} old h =
    let left = subst (λ xs. Left c xs all start s n) (drop_all i all h) old in
    let none = no_round c s left.sound in (sym none.0 ∙ left.after, omega (arith, none.1, left.count))
