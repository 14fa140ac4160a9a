-- The totals of regions as some come or go.
use Rattle.region_book.proofs.Words.{◌≡◌, ◌≢◌, ℕ, ◌+◌, ◌*◌, ◌<◌, ◌≤◌, ◌^◌, true, false, cond, eqb, eq-eqb, ne_eqb, nat_lt, List, [], ◌∷◌, get_or, map, length, count_by, Option, Some, sym, refl, ap, ◌∙◌, arith, Every, position_or_len, sum_by, sum_by-cons, sum_by-insert, sum_by-le-sum_by, size_at, size_bounds, Region, inserted, landing, region_of, region_bytes, region_bytes_where, code_of, bit, Totals, IsOf, AreMore, AreTotals, CanGrow, CanShrink, small_size_at}
use Rattle.region_book.proofs.ByClass.{at_tally, tally_less, tally_more}

-- how many regions are of a class, and how many a holder has
abbrev pub number_of : List Region → ℕ → ℕ
number_of regions class = count_by (λ r. eqb r.class class) regions

abbrev pub held_of : List Region → ℕ → ℕ
held_of regions code = count_by (λ r. eqb (code_of r.holder) code) regions

-- so many regions of a class and a holder are there besides
abbrev pub HaveCome : ℕ → Option ℕ → ℕ → List Region → List Region → Type 0
HaveCome class holder count old new = (f : Region → ℕ) (k : ℕ) → ((a : ℕ) → f (record { addr = a; class = class; holder = holder }) ≡ k) → sum_by f new ≡ sum_by f old + count * k

-- ---- regions that come

pub one_comes : (r : Region) (rs : List Region) → HaveCome r.class r.holder 1 rs (inserted r rs)
one_comes r rs f k same = omega (arith, same r.addr, sum_by-insert f rs (position_or_len (λ (q : Region). nat_lt r.addr q.addr) rs) r)

pub landing_sum : (f : Region → ℕ) (come rs : List Region) → sum_by f (landing come rs) ≡ sum_by f rs + sum_by f come
landing_sum f [] rs = omega arith
landing_sum f (r ∷ come) rs = omega (arith, landing_sum f come (inserted r rs), sum_by-insert f rs (position_or_len (λ (q : Region). nat_lt r.addr q.addr) rs) r, sum_by-cons f r come)

pub some_come : {X : Type 0} (client class : ℕ) (g : X → ℕ) (xs : List X) (rs : List Region) → HaveCome class (Some client) (length xs) rs (landing (map (λ x. region_of client class (g x)) xs) rs)
some_come client class g xs rs f k same = landing_sum f (map (λ x. region_of client class (g x)) xs) rs ∙ ap (λ n. sum_by f rs + n) (alike xs)
  where
    alike : (xs : List _) → sum_by f (map (λ x. region_of client class (g x)) xs) ≡ length xs * k
    alike [] = omega arith
    alike (x ∷ xs) = let n = length xs in omega (arith, sum_by-cons f (region_of client class (g x)) (map (λ y. region_of client class (g y)) xs), same (g x), alike xs)

-- ---- the totals afterwards, and before

one_at : (k : ℕ) → bit (eqb k k) ≡ 1
one_at k = ap bit (eq-eqb k k refl)

none_at : (k j : ℕ) → k ≢ j → bit (eqb k j) ≡ 0
none_at k j other = ap bit (ne_eqb k j other)

-- as many ones as regions
all_count : (rs : List Region) → sum_by (λ r. 1) rs ≡ length rs
all_count [] = refl
all_count (r ∷ rs) = omega (arith, all_count rs, sum_by-cons (λ (q : Region). 1) r rs)

module _ (class : ℕ) (holder : Option ℕ) (count : ℕ) (less more : List Region) (come : HaveCome class holder count less more) where
  number : length more ≡ length less + count
  number = sym (all_count more) ∙ (let n = come (λ r. 1) 1 (λ a. refl) in omega (arith, n, all_count less))

  of_class : number_of more class ≡ number_of less class + count
  of_class = let n = come (λ r. bit (eqb r.class class)) 1 (λ a. one_at class) in omega (arith, n)

  other_class : (k : ℕ) → k ≢ class → number_of more k ≡ number_of less k
  other_class k other = let n = come (λ r. bit (eqb r.class k)) 0 (λ a. none_at class k (λ e. other (sym e))) in omega (arith, n)

  of_holder : held_of more (code_of holder) ≡ held_of less (code_of holder) + count
  of_holder = let n = come (λ r. bit (eqb (code_of r.holder) (code_of holder))) 1 (λ a. one_at (code_of holder)) in omega (arith, n)

  other_holder : (k : ℕ) → k ≢ code_of holder → held_of more k ≡ held_of less k
  other_holder k other = let n = come (λ r. bit (eqb (code_of r.holder) k)) 0 (λ a. none_at (code_of holder) k (λ e. other (sym e))) in omega (arith, n)

  pub totals_more : (t u : Totals) → AreMore class holder count t u → AreTotals t less → AreTotals u more
  totals_more t u are totals = record {
    bytes = let n = come (λ r. size_at r.class) (size_at class) (λ a. refl) in omega (arith, n, are.bytes, totals.bytes);
    small = let n = come (λ r. small_size_at r.class) (small_size_at class) (λ a. refl) in omega (arith, n, are.small, totals.small);
    classes = tally_more (number_of less) (number_of more) 121 class count t.classes u.classes are.classes of_class other_class totals.classes;
    number = omega (arith, number, are.number, totals.number);
    holders = tally_more (held_of less) (held_of more) 33 (code_of holder) count t.holders u.holders are.holders of_holder other_holder totals.holders;
  }

  pub totals_less : (t u : Totals) → AreMore class holder count t u → AreTotals u more → AreTotals t less
  totals_less t u are totals = record {
    bytes = let n = come (λ r. size_at r.class) (size_at class) (λ a. refl) in omega (arith, n, are.bytes, totals.bytes);
    small = let n = come (λ r. small_size_at r.class) (small_size_at class) (λ a. refl) in omega (arith, n, are.small, totals.small);
    classes = tally_less (number_of less) (number_of more) 121 class count t.classes u.classes are.classes of_class other_class totals.classes;
    number = omega (arith, number, are.number, totals.number);
    holders = tally_less (held_of less) (held_of more) 33 (code_of holder) count t.holders u.holders are.holders of_holder other_holder totals.holders;
  }

  -- where each counts one at most, there are no more than all have bytes
  few : (f : Region → ℕ) (rs : List Region) → ((r : Region) → f r ≤ 1) → Every (IsOf 0 121) rs → sum_by f rs ≤ region_bytes rs
  few f [] one of = omega arith
  few f (r ∷ rs) one of = omega (arith, one r, size_bounds r.class of.0.class, few f rs one of.1, sum_by-cons f r rs, sum_by-cons (λ (q : Region). size_at q.class) r rs)

  pub can_grow : (t : Totals) → class < 121 → code_of holder < 33 → AreTotals t less → Every (IsOf 0 121) more → region_bytes more < 2 ^ 64 → CanGrow class holder count t
  can_grow t low held totals of fits = record {
    low = low;
    known = held;
    number = omega (arith, number, totals.number, few (λ r. 1) more (λ r. omega arith) of, all_count more, fits);
    bytes = let n = come (λ r. size_at r.class) (size_at class) (λ a. refl) in omega (arith, n, totals.bytes, fits);
    small = let n = come (λ r. small_size_at r.class) (small_size_at class) (λ a. refl) in omega (arith, n, totals.small, fits, small_few more);
    of_class = omega (arith, of_class, ap (λ l. get_or l class 0) totals.classes, at_tally (number_of less) 121 class low, few (λ r. bit (eqb r.class class)) more (λ r. grind arith) of, fits);
    of_holder = omega (arith, of_holder, ap (λ l. get_or l (code_of holder) 0) totals.holders, at_tally (held_of less) 33 (code_of holder) held, few (λ r. bit (eqb (code_of r.holder) (code_of holder))) more (λ r. grind arith) of, fits);
  }
    where
      small_few : (rs : List Region) → region_bytes_where (λ c. nat_lt c 36) rs ≤ region_bytes rs
      small_few rs = sum_by-le-sum_by (λ r. small_size_at r.class) (λ r. size_at r.class) rs (λ r. elim (nat_lt r.class 36) as (λ b. cond b (size_at r.class) 0 ≤ size_at r.class) [ true ↦ omega arith | false ↦ omega arith ])

pub can_shrink : (class : ℕ) (holder : Option ℕ) (less more : List Region) (t : Totals) → HaveCome class holder 1 less more → class < 121 → code_of holder < 33 → AreTotals t more → CanShrink class holder t
can_shrink class holder less more t come low held totals = record {
  low = low;
  known = held;
  number = omega (arith, number class holder 1 less more come, totals.number);
  bytes = let n = come (λ r. size_at r.class) (size_at class) (λ a. refl) in omega (arith, n, totals.bytes);
  small = let n = come (λ r. small_size_at r.class) (small_size_at class) (λ a. refl) in omega (arith, n, totals.small);
  of_class = omega (arith, of_class class holder 1 less more come, ap (λ l. get_or l class 0) totals.classes, at_tally (number_of more) 121 class low);
  of_holder = omega (arith, of_holder class holder 1 less more come, ap (λ l. get_or l (code_of holder) 0) totals.holders, at_tally (held_of more) 33 (code_of holder) held);
}
