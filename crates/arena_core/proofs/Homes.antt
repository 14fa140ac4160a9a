-- The extent that serves a region is the one that has the page of its address.
use Rattle.arena_core.proofs.Words.{false_from_ne_true, ◌≡◌, ℕ, ◌*◌, ◌/◌, ◌<◌, ◌≤◌, Bool, true, false, cond, IsTrue, List, [], ◌∷◌, get_or, find, Some, sym, ap, arith, eqb, ◌&&◌, list_any, sum_by, nat_tests, list_any_none, sum_by-cons, sum_by-le-sum_by, size_at, size_bounds, Part, Answer, Merge, Region, Span, Space, IsPlaced, end_of, has_page, holders, is_active, is_flight, is_flight_at, covers, homes, is_yes_or_no, merge_stands, Sound, find_has, find_passes, share, idle-serves, serves, serves-le-share, both_true, flight-idle, AreBeside, Contains, contains_cases, found}

-- where a sum is no more than that of smaller terms, each term is no more than the smaller one
exact_of : {X : Type 0} (f g : X → ℕ) (xs : List X) (x : X) → ((y : X) → g y ≤ f y) → sum_by f xs ≤ sum_by g xs → Contains xs x → f x ≤ g x
exact_of f g [] x less whole m = absurd (omega arith)
exact_of f g (y ∷ ys) x less whole m = grind (arith, contains_cases y ys x m, whole, less y, sum_by-cons f y ys, sum_by-cons g y ys, sum_by-le-sum_by g f ys less, exact_of f g ys x less)

-- a region that has one home is served by an extent just where that has the page of its address
pub home_shares : (r : Region) (parts : List Part) (p : Part) → r.class < 121 → homes r parts ≡ 1 → holders (r.addr / 4096) parts ≤ 1 → Contains parts p → serves r p ≡ share (r.addr / 4096) p
home_shares r parts p class home most there =
    let size : 0 < size_at r.class = omega (arith, size_bounds r.class class) in
    let starts : covers r.addr r ≡ true = grind (arith, nat_tests) in
    let less : (q : Part) → serves r q ≤ share (r.addr / 4096) q = λ q. serves-le-share r.addr r q starts in
    omega (arith, less p, exact_of (share (r.addr / 4096)) (serves r) parts p less (omega (arith, home, most)) there)

-- no region begins in an extent that serves none
pub none_begins : (s : Space) (test : Part → Bool) (p : Part) (addr : ℕ) → Sound s → find test s.parts ≡ Some p → is_active p.state ≡ false →
    4096 * p.span.first ≤ addr → addr < 4096 * end_of p.span → list_any (λ r. eqb r.addr addr) s.regions ≡ false
none_begins s test p addr sound told idle above below =
    let placed : IsPlaced p.span = find_has (λ q. IsPlaced q.span) test s.parts p sound.placed told in
    let ones : Bool → ℕ = λ b. cond b 1 0 in
    list_any_none (λ r. eqb r.addr addr) s.regions (λ k d h.
    let r : Region = get_or s.regions k d in
    false_from_ne_true _ (λ t.
    let at : r.addr ≡ addr = grind (arith, nat_tests) in
    let has : has_page (r.addr / 4096) p.span ≡ true = grind (arith, nat_tests, at, above, below) in
    let one : share (r.addr / 4096) p ≡ 1 = ap ones has in
    let same = home_shares r s.parts p (sound.classes k d h) (sound.homes k d h) (sound.owners (r.addr / 4096)) (found test s.parts p told).0 in
    omega (arith, one, idle-serves p r idle, same)))

-- What is true of a client's extent in flight that was found.
pub record InFlight (c : ℕ) (s : Space) (span : Span) (p : Part) : Type 0 where
  pub own : is_flight c p.state ≡ true
  pub idle : is_active p.state ≡ false
  pub first : p.span.first ≡ span.first
  pub pages : p.span.pages ≡ span.pages
  pub placed : IsPlaced p.span

pub in_flight : (c : ℕ) (s : Space) (span : Span) (p : Part) → Sound s → Some p ≡ find (is_flight_at c span) s.parts → InFlight c s span p
in_flight c s span p sound found =
    let passes = find_passes (is_flight_at c span) s.parts p (sym found) in
    let own : is_flight c p.state ≡ true = grind (arith, nat_tests, passes) in record {
      own = own;
      idle = flight-idle c p.state own;
      first = grind (arith, nat_tests, passes);
      pages = grind (arith, nat_tests, passes);
      placed = find_has (λ q. IsPlaced q.span) (is_flight_at c span) s.parts p sound.placed (sym found);
    }

-- ---- merges

-- two extents in flight that may be merged are beside each other
pub merged_beside : (c : ℕ) (s : Space) (low high : Span) (answer : Answer) (p q : Part) → Sound s → IsTrue (merge_stands s c (Merge low high) answer) →
    Some p ≡ find (is_flight_at c low) s.parts → Some q ≡ find (is_flight_at c high) s.parts → AreBeside p q
merged_beside c s low high answer p q sound stands e f =
    let first = both_true (is_yes_or_no answer && eqb (end_of low) high.first) _ stands in
    let at = in_flight c s low p sound e in
    let to = in_flight c s high q sound f in
    grind (arith, nat_tests, at.first, at.pages, to.first, first.0)
