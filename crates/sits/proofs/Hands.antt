-- The regions that a client has are such that it holds in the arenas, however they are counted there.
use Rattle.sits.proofs.Words.{[], IsOf, ◌≡◌, ◌≢◌, ℕ, ◌+◌, ◌<◌, ◌≤◌, ◌==◌, ◌&&◌, ◌||◌, inl, inr, Bool, true, false, cond, List, ◌∷◌, All, None, Some, length, get_or, cases_lt, refl, sym, ◌∙◌, ap, subst, arith, suc, nat_eq, filter, count_by, flat_map, sum_by, lookup, eqb-true, nat_tests, All-head, All-tail, get_or-le-sum_by, sum_by-cons, Region, eqb_itself, ones, is_elsewhere, discarding, holding, is_in_arena, Held, DeskFacts, cached_of, held_at, is_region, both_true, Has, gaining}
use Rattle.sits.proofs.Counting.{as_many, shifts, through}
use Rattle.cache_set.specs.Sets.{explicit}
use Rattle.sits.proofs.Having.{IsKeyed, Shaped, gain_gains, hold_of, none_found, of_entry, of_hand, over}
use Rattle.sits.proofs.Indexes.{at_or_else}
use Rattle.sits.proofs.Parting.{Parts}
use Rattle.sits.proofs.Regions.{any_at, filtered_sum, one_in}

-- how many regions of a class at an address the client holds in each arena
abbrev pub Count : Type 0
Count = ℕ → ℕ → ℕ → ℕ

-- Each is there at most once, and no two of one arena are at one address, nor two of any where all are known at one moment.
pub record Single (together : Bool) (n : Count) : Type 0 where
  pub once : (i a k : ℕ) → n i a k ≤ 1
  pub alone : (i a k l : ℕ) → 0 < n i a k → 0 < n i a l → k ≡ l
  pub apart : together ≡ true → (i j a k l : ℕ) → 0 < n i a k → 0 < n j a l → i ≡ j

-- what the client has, and some regions beside, are such that it holds there
abbrev pub Hands : Bool → Count → List Held → DeskFacts → Type 0
Hands together n extra desk = (i a k : ℕ) → IsOf together (sum_by (one_in i a k) extra + over (one_in i a k) desk) (n i a k)

-- a region counts at its own place
pub counts_itself : (r : Held) → one_in r.arena r.addr r.class r ≡ 1
counts_itself r = rw (eqb_itself r.arena, eqb_itself r.addr, eqb_itself r.class) refl

-- ---- what is held stands alone

-- a region that is found is at its address, and is one of those that are held
found_is : (f : Held → ℕ) (k : ℕ) (es : List (ℕ × Held)) (q : Held) → All IsKeyed es → lookup (nat_eq k) es ≡ Some q → (q.addr ≡ k) × (f q ≤ sum_by (of_entry f) es)
found_is f k [] q all found = absurd (cc)
found_is f k (e ∷ es) q all found =
    elim (nat_eq k e.0) as (λ v. nat_eq k e.0 ≡ v → cond v (Some e.1) (lookup (nat_eq k) es) ≡ Some q → (q.addr ≡ k) × (f q ≤ sum_by (of_entry f) (e ∷ es))) [
      | true ↦ λ h is.
          let same : e.1 ≡ q = cc in
          let one : f e.1 ≡ f q = ap f same in
          (ap (λ (r : Held). r.addr) (sym same) ∙ sym (All-head IsKeyed e es all) ∙ sym (eqb-true k e.0 h), omega (arith, one, sum_by-cons (of_entry f) e es))
      | false ↦ λ h is. let rest = found_is f k es q (All-tail IsKeyed e es all) is in (rest.0, omega (arith, rest.1, sum_by-cons (of_entry f) e es))
    ] refl found

pub held_is : (k : ℕ) (desk : DeskFacts) (q : Held) → Shaped desk → held_at k desk ≡ Some q → q.addr ≡ k
held_is k desk q is found = (found_is (λ r. 0) k desk.held q is.keyed found).0

pub held_counts : (f : Held → ℕ) (k : ℕ) (desk : DeskFacts) (q : Held) → Shaped desk → held_at k desk ≡ Some q → f q ≤ sum_by (of_entry f) desk.held
held_counts f k desk q is found = (found_is f k desk.held q is.keyed found).1

-- a region that a client has beside those that are held is at the address of none of them, where no page is in two arenas
pub stands_alone : {together : Bool} (n : Count) (extra : List Held) (desk : DeskFacts) (r : Held) → Single together n → Hands together n extra desk → Shaped desk →
    ((f : Held → ℕ) → f r ≤ sum_by f extra + (sum_by f (flat_map (λ l. l) desk.cached) + of_hand f desk.hand + of_hand f desk.gained)) → together ≡ true → held_at r.addr desk ≡ None
stands_alone n extra desk r single hands is beside known = none_found r.addr desk.held (λ q found. absurd (twice q found))
  where
    twice : (q : Held) → held_at r.addr desk ≡ Some q → ⊥
    twice q found =
        let at : q.addr ≡ r.addr = held_is r.addr desk q is found in
        let mine = (hands r.arena r.addr r.class).within in
        let theirs = (hands q.arena q.addr q.class).within in
        let own : 0 < n r.arena r.addr r.class = omega (arith, mine, counts_itself r, beside (one_in r.arena r.addr r.class)) in
        let other : 0 < n q.arena q.addr q.class = omega (arith, theirs, counts_itself q, held_counts (one_in q.arena q.addr q.class) r.addr desk q is found) in
        let there : 0 < n q.arena r.addr q.class = subst (λ a. 0 < n q.arena a q.class) at other in
        let home : r.arena ≡ q.arena = single.apart known r.arena q.arena r.addr r.class q.class own there in
        let kind : r.class ≡ q.class = single.alone r.arena r.addr r.class q.class own (subst (λ i. 0 < n i r.addr q.class) (sym home) there) in
        let here : one_in r.arena r.addr r.class q ≡ 1 = rw (sym home, at, sym kind, eqb_itself r.arena, eqb_itself r.addr, eqb_itself r.class) refl in
        omega (
          arith,
          here,
          single.once r.arena r.addr r.class,
          mine,
          counts_itself r,
          beside (one_in r.arena r.addr r.class),
          held_counts (one_in r.arena r.addr r.class) r.addr desk q is found,
        )

-- a region that a client came by is held from then on
pub hands_held : (together : Bool) (n : Count) (r : Held) (desk : DeskFacts) → Single together n → Hands together n (r ∷ []) desk → Shaped desk → Hands together n [] (holding r desk)
hands_held together n r desk single hands is i a k =
    let free = stands_alone n (r ∷ []) desk r single hands is (λ f. omega (arith, sum_by-cons f r [])) in
    through (shifts (hold_of together (one_in i a k) r desk free) (omega (arith, sum_by-cons (one_in i a k) r []))) (hands i a k)

-- the one in hand is at the address of none that is held
pub hand_alone : {together : Bool} (n : Count) (desk : DeskFacts) (r : Held) → Single together n → Hands together n [] desk → Shaped desk → desk.hand ≡ Some r → together ≡ true → held_at r.addr desk ≡ None
hand_alone n desk r single hands is e = stands_alone n [] desk r single hands is (λ f. let own : of_hand f desk.hand ≡ f r = ap (of_hand f) e in omega (arith, own))

-- nor is the one gained
pub gained_alone : {together : Bool} (n : Count) (desk : DeskFacts) (r : Held) → Single together n → Hands together n [] desk → Shaped desk → desk.gained ≡ Some r → together ≡ true → held_at r.addr desk ≡ None
gained_alone n desk r single hands is e = stands_alone n [] desk r single hands is (λ f. let own : of_hand f desk.gained ≡ f r = ap (of_hand f) e in omega (arith, own))

-- a region that came takes the place of the one in hand
pub hands_gain : {together : Bool} (n : Count) (r : Held) (desk : DeskFacts) → Hands together n (r ∷ []) desk → Shaped desk → desk.gained ≡ None → Hands together n [] (gaining r desk)
hands_gain n r desk hands is none i a k =
    let gains = gain_gains r desk is none in shifts (hands i a k) (omega (arith, gains.more (one_in i a k), sum_by-cons (one_in i a k) r []))

-- ---- regions come and go in an arena

-- regions of an arena come, some of which are handed out
pub hands_come : {together : Bool} (n m : Count) (arena : ℕ) (come extra : List Held) (desk after : DeskFacts) → Hands together n [] desk →
    ((f : Held → ℕ) → sum_by f extra + over f after ≡ over f desk + sum_by f come) → ((a k : ℕ) → m arena a k ≡ n arena a k + sum_by (one_in arena a k) come) →
    ((i a k : ℕ) → i ≢ arena → (m i a k ≡ n i a k) × (sum_by (one_in i a k) come ≡ 0)) → Hands together m extra after
hands_come {together} n m arena come extra desk after hands more here others i a k =
    at_or_else (λ j. IsOf together (sum_by (one_in j a k) extra + over (one_in j a k) after) (m j a k)) i arena (λ same. shifts (hands arena a k) (omega (arith, here a k, more (one_in arena a k))))
    (λ differ. shifts (hands i a k) (omega (arith, others i a k differ, more (one_in i a k))))

-- an address is that of none or of some of the regions
none_at : (i a k : ℕ) (gone : List Held) → any_at a gone ≡ false → sum_by (one_in i a k) gone ≡ 0
none_at i a k [] none = refl
none_at i a k (r ∷ gone) none = let sum = sum_by-cons (one_in i a k) r gone in grind (arith, none_at i a k gone)

some_at : (arena a : ℕ) (gone : List Held) → All (λ (r : Held). r.arena ≡ arena) gone → any_at a gone ≡ true → (l : ℕ) × (0 < sum_by (one_in arena a l) gone)
some_at arena a [] home some = absurd (cc)
some_at arena a (r ∷ gone) home some =
    elim (r.addr == a) as (λ v. (r.addr == a) ≡ v → (v || any_at a gone) ≡ true → (l : ℕ) × (0 < sum_by (one_in arena a l) (r ∷ gone))) [
      | true ↦ λ e h.
          let here : one_in arena a r.class r ≡ 1 = rw (e, All-head (λ (r : Held). r.arena ≡ arena) r gone home, eqb_itself arena, eqb_itself r.class) refl in
          (r.class, omega (arith, here, sum_by-cons (one_in arena a r.class) r gone))
      | false ↦ λ e h.
          let rest = some_at arena a gone (All-tail (λ (r : Held). r.arena ≡ arena) r gone home) h in
          (rest.0, omega (arith, rest.1, sum_by-cons (one_in arena a rest.0) r gone))
    ] refl some

none_home : (i arena a k : ℕ) (gone : List Held) → All (λ (r : Held). r.arena ≡ arena) gone → i ≢ arena → sum_by (one_in i a k) gone ≡ 0
none_home i arena a k [] home differ = refl
none_home i arena a k (r ∷ gone) home differ =
    let own = All-head (λ (r : Held). r.arena ≡ arena) r gone home in
    let rest = none_home i arena a k gone (All-tail (λ (r : Held). r.arena ≡ arena) r gone home) differ in
    let sum = sum_by-cons (one_in i a k) r gone in grind (arith, nat_tests)

-- regions of an arena go, and with them all that the client held at their addresses
pub hands_part : {together : Bool} (n m : Count) (arena : ℕ) (gone : List Held) (desk after : DeskFacts) → Single together n → Hands together n [] desk → Parts desk after gone →
    All (λ (r : Held). r.arena ≡ arena) gone → ((a k : ℕ) → m arena a k ≡ cond (any_at a gone) 0 (n arena a k)) → ((i a k : ℕ) → i ≢ arena → m i a k ≡ n i a k) → Hands together m [] after
hands_part {together} n m arena gone desk after single hands parts home here others i a k =
    shifts (at_or_else (λ j. IsOf together (over (one_in j a k) after) (m j a k)) i arena (λ same. at_home (any_at a gone) refl (here a k))
    (λ differ. shifts (hands i a k) (omega (arith, others i a k differ, parts.less (one_in i a k), none_home i arena a k gone home differ)))) (omega arith)
  where
    at_home : (v : Bool) → any_at a gone ≡ v → m arena a k ≡ cond v 0 (n arena a k) → IsOf together (over (one_in arena a k) after) (m arena a k)
    at_home false e now = shifts (hands arena a k) (omega (arith, now, none_at arena a k gone e, parts.less (one_in arena a k)))
    at_home true e now =
        let some = some_at arena a gone home e in
        let had = (hands arena a k).within in
        let there : 0 < n arena a some.0 = let more = (hands arena a some.0).within in omega (arith, some.1, more, parts.less (one_in arena a some.0)) in
        let left : over (one_in arena a k) after ≡ 0 = at_or_else (λ _. over (one_in arena a k) after ≡ 0) k some.0
        (λ same. let sum = subst (λ (j : ℕ). 0 < sum_by (one_in arena a j) gone) (sym same) some.1 in omega (arith, sum, single.once arena a k, had, parts.less (one_in arena a k)))
        (λ differ. elim (cases_lt 0 (n arena a k)) [ inl z ↦ absurd (differ (single.alone arena a k some.0 z there)) | inr none ↦ omega (arith, none, had, parts.less (one_in arena a k)) ]) in
        as_many (omega (arith, now, left))

-- ---- nothing is left in an arena

-- what no region of a list is of, none is at
none_of_arena : (arena a k : ℕ) (rs : List Held) → count_by (is_in_arena arena) rs ≡ 0 → sum_by (one_in arena a k) rs ≡ 0
none_of_arena arena a k [] none = refl
none_of_arena arena a k (r ∷ rs) none =
    let count = sum_by-cons (λ (q : Held). ones (is_in_arena arena q)) r rs in
    let sum = sum_by-cons (one_in arena a k) r rs in grind (arith, none_of_arena arena a k rs)

-- what is held elsewhere stays
elsewhere_sum : (arena i a k : ℕ) (es : List (ℕ × Held)) →
    sum_by (of_entry (one_in i a k)) (filter (λ (e : ℕ × Held). is_elsewhere arena e.1) es) ≡ cond (i == arena) 0 (sum_by (of_entry (one_in i a k)) es)
elsewhere_sum arena i a k es = filtered_sum (of_entry (one_in i a k)) (λ (e : ℕ × Held). is_elsewhere arena e.1) (i == arena) (λ e. one e.1) es
  where
    one : (r : Held) → cond (is_elsewhere arena r) (one_in i a k r) 0 ≡ cond (i == arena) 0 (one_in i a k r)
    one r = grind (arith, nat_tests)

-- all regions of an arena go, of which the client has none cached, in its own cache or in explicit ones
pub hands_discard : {together : Bool} (n m : Count) (arena : ℕ) (desk : DeskFacts) → Hands together n [] desk → desk.hand ≡ None → desk.gained ≡ None → cached_of arena desk ≡ 0 →
    ((a k : ℕ) → m arena a k ≡ 0) → ((i a k : ℕ) → i ≢ arena → m i a k ≡ n i a k) → Hands together m [] (discarding arena desk)
hands_discard {together} n m arena desk hands empty no_gain none here others i a k = by (i == arena) refl (elsewhere_sum arena i a k desk.held)
  where
    by : (v : Bool) → (i == arena) ≡ v → sum_by (of_entry (one_in i a k)) (filter (λ (e : ℕ × Held). is_elsewhere arena e.1) desk.held) ≡ cond v 0 (sum_by (of_entry (one_in i a k)) desk.held) →
        IsOf together (sum_by (one_in i a k) [] + over (one_in i a k) (discarding arena desk)) (m i a k)
    by true e kept =
        let same : i ≡ arena = eqb-true i arena e in
        let now : m i a k ≡ 0 = subst (λ j. m j a k ≡ 0) (sym same) (here a k) in
        let cached : sum_by (one_in i a k) (flat_map (λ l. l) desk.cached) ≡ 0 = subst (λ j. sum_by (one_in j a k) (flat_map (λ l. l) desk.cached) ≡ 0) (sym same) (none_of_arena arena a k (flat_map (λ l. l) desk.cached) (omega (arith, none))) in
        let others : sum_by (one_in i a k) (explicit desk.set) ≡ 0 = subst (λ j. sum_by (one_in j a k) (explicit desk.set) ≡ 0) (sym same) (none_of_arena arena a k (explicit desk.set) (omega (arith, none))) in
        let hand : of_hand (one_in i a k) desk.hand ≡ 0 = ap (of_hand (one_in i a k)) empty in
        let gained : of_hand (one_in i a k) desk.gained ≡ 0 = ap (of_hand (one_in i a k)) no_gain in
        as_many (omega (arith, now, kept, cached, others, hand, gained))
    by false e kept =
        let differ : i ≢ arena = λ same. grind (arith, nat_tests) in
        shifts (hands i a k) (omega (arith, others i a k differ, kept))

-- ---- what a client has it holds

-- a region that a client has counts there
pub had_counts : {together : Bool} (n : Count) (desk : DeskFacts) (r : Held) → Hands together n [] desk → Has desk r → Shaped desk → 0 < n r.arena r.addr r.class
had_counts n desk r hands (inl (k, found)) is =
    let had = (hands r.arena r.addr r.class).within in omega (arith, had, counts_itself r, held_counts (one_in r.arena r.addr r.class) k desk r is found)
had_counts n desk r hands (inr (inl (j, within, at))) is =
    let f : Held → ℕ = one_in r.arena r.addr r.class in
    let same : f (get_or (flat_map (λ l. l) desk.cached) j r) ≡ f r = ap f at in
    let had = (hands r.arena r.addr r.class).within in
    omega (arith, had, counts_itself r, same, get_or-le-sum_by f (flat_map (λ l. l) desk.cached) j r within)
had_counts n desk r hands (inr (inr e)) is =
    let own : of_hand (one_in r.arena r.addr r.class) desk.hand ≡ one_in r.arena r.addr r.class r = ap (of_hand (one_in r.arena r.addr r.class)) e in
    let had = (hands r.arena r.addr r.class).within in
    omega (arith, had, counts_itself r, own)

-- one that passes a test is taken out of a list
one_out : (p : Region → Bool) (ys : List Region) → 0 < count_by p ys → (x : Region) × (zs : List Region) × (p x ≡ true) × (length ys ≡ suc (length zs)) × ((f : Region → ℕ) → sum_by f ys ≡ f x + sum_by f zs)
one_out p [] some = absurd (omega (arith, some))
one_out p (y ∷ ys) some =
    elim (p y) as (λ v. p y ≡ v → ones (p y) ≡ ones v → (x : Region) × (zs : List Region) × (p x ≡ true) × (suc (length ys) ≡ suc (length zs)) × ((f : Region → ℕ) → sum_by f (y ∷ ys) ≡ f x + sum_by f zs)) [
      | true ↦ λ e o. (y, ys, e, refl, λ f. sum_by-cons f y ys)
      | false ↦ λ e o.
          let rest = one_out p ys (omega (arith, some, o, sum_by-cons (λ q. ones (p q)) y ys)) in
          (rest.0, y ∷ rest.1, rest.2, ap suc rest.3, λ f. omega (arith, rest.4 f, sum_by-cons f y ys, sum_by-cons f y rest.1))
    ] refl refl

-- no more regions of an arena are listed than there are, where each is
pub no_more : (arena : ℕ) (xs : List Held) (ys : List Region) → ((a k : ℕ) → sum_by (one_in arena a k) xs ≤ count_by (is_region a k) ys) → count_by (is_in_arena arena) xs ≤ length ys
no_more arena [] ys within = omega arith
no_more arena (r ∷ rs) ys within =
    elim (is_in_arena arena r) as (λ v. is_in_arena arena r ≡ v → ones (is_in_arena arena r) ≡ ones v → count_by (is_in_arena arena) (r ∷ rs) ≤ length ys) [
      | true ↦ λ e o.
          let own : one_in arena r.addr r.class r ≡ 1 = rw (e, eqb_itself r.addr, eqb_itself r.class) refl in
          let out = one_out (is_region r.addr r.class) ys (omega (arith, own, within r.addr r.class, sum_by-cons (one_in arena r.addr r.class) r rs)) in
          let rest = no_more arena rs out.1 (λ a k. omega (arith, alike a k e out.0 out.2, within a k, out.4 (λ q. ones (is_region a k q)), sum_by-cons (one_in arena a k) r rs)) in
          omega (arith, o, rest, out.3, sum_by-cons (λ (q : Held). ones (is_in_arena arena q)) r rs)
      | false ↦ λ e o.
          let rest = no_more arena rs ys (λ a k. omega (arith, within a k, sum_by-cons (one_in arena a k) r rs)) in
          omega (arith, o, rest, sum_by-cons (λ (q : Held). ones (is_in_arena arena q)) r rs)
    ] refl refl
  where
    alike : (a k : ℕ) → is_in_arena arena r ≡ true → (x : Region) → is_region r.addr r.class x ≡ true → one_in arena a k r ≡ ones (is_region a k x)
    alike a k e x is =
        let tests = both_true (x.addr == r.addr) (x.class == r.class) is in
        ap (λ v. ones (v && r.addr == a && r.class == k)) e ∙ sym (ap (λ n. ones (n == a && x.class == k)) (eqb-true x.addr r.addr tests.0) ∙ ap (λ n. ones (r.addr == a && n == k)) (eqb-true x.class r.class tests.1))
