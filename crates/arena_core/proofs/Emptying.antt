-- One region is given back: its extent is the only one that can be emptied.
use Rattle.arena_core.proofs.Words.{filter_has, ◌≡◌, ℕ, ◌/◌, ◌<◌, ◌≤◌, Bool, true, false, not, cond, IsTrue, List, [], ◌∷◌, append-nil, length, get_or, find, filter, Some, refl, sym, ◌∙◌, ap, subst, arith, All, ◌&&◌, eqb, inl, inr, count_by, list_any, sum_by, cases_Bool, eqb-true, nat_tests, All-cons, All-filter, All-head, All-nil, All-tail, filter_passes, recursion_from_All, sum_by-filter_both, sum_by-cons, size_at, size_bounds, filter_none, Part, Region, Space, IsPlaced, has_page, begins_at, exchanged, holders, is_active, taken_out, covers, homes, houses, is_held_by, residents, starts_at, after_back, holds_at, is_emptied, is_given_back, staying, Sound, filter-begins_at, find_has, find_passes, serves, some_pages, serves-le-share, sum_nothing, only_one, filter_same, All-contains, found}
use Rattle.list_facts.proofs.Members.{all_from}
pub use Rattle.space_model.proofs.Lists.{any_counts, counted_any, none_counted, ones}
use Rattle.arena_core.proofs.Homes.{home_shares}
use Rattle.arena_core.proofs.Swaps.{keeps_all}

-- ---- lists

-- what such a number says of its test
pub most_one : (b : Bool) → ones b ≤ 1
most_one b = grind arith

pub ones_le : (a b : Bool) → ones a ≤ ones b → a ≡ true → b ≡ true
ones_le a b le h = grind arith

pub ones_same : (a b : Bool) → ones a ≡ ones b → a ≡ b
ones_same a b h = grind arith

pub count_all : {X : Type 0} (xs : List X) → count_by (λ x. true) xs ≡ length xs
count_all [] = refl
count_all (x ∷ xs) = omega (arith, count_all xs, sum_by-cons (λ y. 1) x xs)

-- what passes at all is found, and counted
pub some_found : {X : Type 0} (t : X → Bool) (xs : List X) → 0 < count_by t xs → (x : X) × (find t xs ≡ Some x)
some_found t [] some = absurd (omega (arith, some))
some_found t (x ∷ xs) some = elim (cases_Bool (t x)) [
  | inl h ↦ (x, rw h refl)
  | inr h ↦ let rest = some_found t xs (grind (arith, sum_by-cons (λ y. ones (t y)) x xs, h, some)) in let e : find t (x ∷ xs) ≡ find t xs = rw h refl in (rest.0, e ∙ rest.1)
]

-- what a filter keeps alone is what a search finds
pub find_alone : {X : Type 0} (test : X → Bool) (xs : List X) (x : X) → filter test xs ≡ x ∷ [] → find test xs ≡ Some x
find_alone test [] x e = absurd (cc)
find_alone test (y ∷ ys) x e = grind (arith, find_alone test ys x)

-- where what passes one test passes another, no more pass the first
fewer_pass : {X : Type 0} (t u : X → Bool) (xs : List X) → All (λ x. t x ≡ true → u x ≡ true) xs → count_by t xs ≤ count_by u xs
fewer_pass t u [] has = omega arith
fewer_pass {X} t u (x ∷ xs) has =
    let P : X → Type 0 = λ y. t y ≡ true → u y ≡ true in
    grind (arith, fewer_pass t u xs (All-tail P x xs has), All-head P x xs has, sum_by-cons (λ y. cond (t y) 1 0) x xs, sum_by-cons (λ y. cond (u y) 1 0) x xs)

-- what is true of those that pass and of the others is true of all
pub All-split : {X : Type 0} (P : X → Type 0) (t : X → Bool) (xs : List X) → All P (filter t xs) → All P (filter (λ x. not (t x)) xs) → All P xs
All-split P t xs kept left = all_from P xs (λ x m. elim (cases_Bool (t x)) [
  | inl h ↦ All-contains P (filter t xs) x kept (filter_has t xs x m h)
  | inr h ↦ All-contains P (filter (λ y. not (t y)) xs) x left (filter_has (λ y. not (t y)) xs x m (ap not h))
])

-- ---- the region

-- at most one region begins at an address
pub begins_alone : (s : Space) (addr : ℕ) → Sound s → count_by (starts_at addr) s.regions ≤ 1
begins_alone s addr sound =
    let has : (r : Region) → r.class < 121 → starts_at addr r ≡ true → covers addr r ≡ true =
    λ r class h. let size : 0 < size_at r.class = omega (arith, size_bounds r.class class) in grind (arith, nat_tests) in
    omega (arith, sound.apart addr, fewer_pass (starts_at addr) (covers addr) s.regions (λ k d h. has (get_or s.regions k d) (sound.classes k d h)))

-- a region that is given back at an address begins there
pub given_starts : (c addr : ℕ) (r : Region) → is_given_back c (addr ∷ []) r ≡ true → starts_at addr r ≡ true
given_starts c addr r h = grind (arith, nat_tests)

-- The region that a client gives back.
pub record Given (c addr : ℕ) (regions : List Region) (r : Region) : Type 0 where
  pub alone : filter (is_given_back c (addr ∷ [])) regions ≡ r ∷ []
  pub at : r.addr ≡ addr

pub given : (c addr : ℕ) (s : Space) → Sound s → holds_at c s.regions addr ≡ true → (r : Region) × Given c addr s.regions r
given c addr s sound held =
    let t = is_given_back c (addr ∷ []) in
    let same : (r : Region) → (is_held_by c r && eqb r.addr addr) ≡ t r = λ r. grind (arith, nat_tests) in
    let some : 0 < count_by t s.regions = any_counts t s.regions (sym (λ i. list_any (λ r. same r i) s.regions) ∙ held) in
    let fewer = fewer_pass t (starts_at addr) s.regions (λ k d h e. given_starts c addr (get_or s.regions k d) e) in
    let one = some_found t s.regions some in
    let passes = find_passes t s.regions one.0 one.1 in
    (one.0, record { alone = only_one t t s.regions one.0 (omega (arith, fewer, begins_alone s addr sound)) one.1 passes; at = eqb-true _ _ (given_starts c addr one.0 passes) })

-- ---- its extent

-- the extent of a region: the one that has the page of its address
home_of : (r : Region) (parts : List Part) → r.class < 121 → homes r parts ≡ 1 → holders (r.addr / 4096) parts ≤ 1 →
    (p : Part) × (find (λ q. has_page (r.addr / 4096) q.span) parts ≡ Some p) × (houses p r ≡ true)
home_of r parts class home most =
    let size : 0 < size_at r.class = omega (arith, size_bounds r.class class) in
    let starts : covers r.addr r ≡ true = grind (arith, nat_tests) in
    let here : Part → Bool = λ q. has_page (r.addr / 4096) q.span in
    let has : (q : Part) → houses q r ≡ true → here q ≡ true = λ q h. ones_le (houses q r) (here q) (serves-le-share r.addr r q starts) h in
    let fewer = fewer_pass (λ q. houses q r) here parts (λ k d h. has (get_or parts k d)) in
    let p = some_found here parts (omega (arith, fewer, home)) in
    let there = found here parts p.0 p.1 in
    let same = home_shares r parts p.0 class home most there.0 in
    (p.0, p.1, ones_same (houses p.0 r) (here p.0) same ∙ there.1)

-- ---- what is emptied

-- whether the extent is emptied
abbrev pub is_left : List Region → Part → Bool
is_left regions p = not (list_any (houses p) regions)

-- an extent that doesn't serve the region that goes serves as many as before
other_serves : (c addr : ℕ) (s : Space) (r : Region) (x : Part) → Given c addr s.regions r → serves r x ≡ 0 → (IsTrue (is_active x.state) → 0 < residents x s.regions) →
    is_emptied (staying c (addr ∷ []) s.regions) x ≡ false
other_serves c addr s r x given none used =
    let t = is_given_back c (addr ∷ []) in
    let gone : count_by (houses x) (filter t s.regions) ≡ count_by (houses x) (r ∷ []) = ap (count_by (houses x)) given.alone in
    let sums = sum_by-filter_both t (λ q. not (t q)) (λ _. refl) (λ q. ones (houses x q)) s.regions in
    grind (arith, gone, sums, none, used, sum_by-cons (λ q. ones (houses x q)) r [], counted_any (houses x) (staying c (addr ∷ []) s.regions))

-- What giving one region back leaves: its extent is emptied, if none of the regions that stay begins in it, and no other one is.
pub record Empties (c addr : ℕ) (s : Space) (p : Part) : Type 0 where
  pub found : find (λ q. has_page (addr / 4096) q.span) s.parts ≡ Some p
  pub placed : IsPlaced p.span
  pub active : is_active p.state ≡ true
  pub region : Region
  pub given : Given c addr s.regions region
  pub home : houses p region ≡ true
  pub others : All (λ x. serves region x ≡ 0) (filter (λ x. not (begins_at p.span.first x)) s.parts)
  pub each : All (λ x. is_emptied (staying c (addr ∷ []) s.regions) x ≡ (begins_at p.span.first x && is_left (staying c (addr ∷ []) s.regions) p)) s.parts
  pub alone : filter (begins_at p.span.first) s.parts ≡ p ∷ []

pub empties : (c addr : ℕ) (s : Space) → Sound s → holds_at c s.regions addr ≡ true → (p : Part) × Empties c addr s p
empties c addr s sound held =
    let region = given c addr s sound held in
    let r : Region = region.0 in
    let t = is_given_back c (addr ∷ []) in
    let regions : List Region = staying c (addr ∷ []) s.regions in
    let mine = λ (P : Region → Type 0) (all : All P s.regions). All-head P r [] (subst (All P) region.1.alone (All-filter t P s.regions all)) in
    let class = mine (λ q. q.class < 121) sound.classes in
    let one = mine (λ q. homes q s.parts ≡ 1) sound.homes in
    let home = home_of r s.parts class one (sound.owners (r.addr / 4096)) in
    let p : Part = home.0 in
    let search : Part → Bool = λ q. has_page (r.addr / 4096) q.span in
    let alone = filter-begins_at search s.parts p (some_pages s.parts sound.placed) (sound.owners p.span.first) home.1 in
    let active : is_active p.state ≡ true = grind (arith, home.2) in
    let begins = begins_at p.span.first in
    let served : sum_by (serves r) (filter begins s.parts) ≡ sum_by (serves r) (p ∷ []) = ap (sum_by (serves r)) alone in
    let none = sum_nothing (serves r) (filter (λ x. not (begins x)) s.parts)
    (grind (arith, one, home.2, served, sum_by-cons (serves r) p [], sum_by-filter_both begins (λ x. not (begins x)) (λ _. refl) (serves r) s.parts)) in
    let used = All-filter (λ x. not (begins x)) (λ x. IsTrue (is_active x.state) → 0 < residents x s.regions) s.parts sound.used in
    let apart = filter_passes (λ x. not (begins x)) s.parts in
    let P : Part → Type 0 = λ x. is_emptied regions x ≡ (begins x && is_left regions p) in
    let itself : begins p ≡ true = grind (arith, nat_tests) in (
      p,
      record {
        found = subst (λ a. find (λ q. has_page (a / 4096) q.span) s.parts ≡ Some p) region.1.at home.1;
        placed = find_has (λ q. IsPlaced q.span) search s.parts p sound.placed home.1;
        active = active;
        region = r;
        given = region.1;
        home = home.2;
        others = none;
        each = All-split P begins s.parts
            (subst (All P) (sym alone) (All-cons P p [] (rw (active, itself) refl) (All-nil P)))
            (λ k d h. let x : Part = get_or (filter (λ x. not (begins x)) s.parts) k d in
            grind (arith, apart k d h, other_serves c addr s r x region.1 (none k d h) (used k d h)));
        alone = alone;
      },
    )

-- ---- the extents afterwards

pub none_kept : {X : Type 0} (t : X → Bool) (xs : List X) → All (λ x. t x ≡ false) xs → filter t xs ≡ []
none_kept t xs fails = filter_none t xs (recursion_from_All (λ x. t x ≡ false) xs fails)

-- What the return then comes to: how many extents are emptied, and the extents afterwards.
pub record Gives (c addr : ℕ) (s : Space) (p : Part) (left : Bool) : Type 0 where
  pub count : ones left ≡ length (filter (is_emptied (staying c (addr ∷ []) s.regions)) s.parts)
  pub parts : cond left (exchanged (begins_at p.span.first) s.parts (taken_out c p ∷ [])) s.parts ≡ (after_back s c (addr ∷ [])).after.parts

pub gives : (c addr : ℕ) (s : Space) (p : Part) (left : Bool) → Empties c addr s p → left ≡ is_left (staying c (addr ∷ []) s.regions) p → Gives c addr s p left
gives c addr s p left e is = by left (subst (λ x. All (λ q. gone q ≡ (t q && x)) s.parts) (sym is) e.each)
  where
    t : Part → Bool
    t = begins_at p.span.first

    gone : Part → Bool
    gone = is_emptied (staying c (addr ∷ []) s.regions)

    by : (b : Bool) → All (λ q. gone q ≡ (t q && b)) s.parts → Gives c addr s p b
    by true each =
        let P : Part → Type 0 = λ x. gone x ≡ (t x && true) in
        let here = filter_same gone t s.parts (λ x m. grind (arith, All-contains P s.parts x each m)) ∙ e.alone in
        let others = filter_same (λ x. not (gone x)) (λ x. not (t x)) s.parts (λ x m. grind (arith, All-contains P s.parts x each m)) in
        record { count = ap length (sym here); parts = cc (here, others) }
    by false each =
        let none = none_kept gone s.parts (λ k d h. grind (arith, each k d h)) in
        record { count = ap length (sym none); parts = cc (none, keeps_all gone s.parts none, append-nil s.parts) }
