-- What an exchange makes of the extents, and of their slots.
use Rattle.part_book.proofs.Words.{IsThere, begins_either, HaveRows, GainsLists, HasMore, LosesLists, lists_of, set_at, ◌≡◌, ◌≢◌, ℕ, ◌-◌, ◌≤◌, nat_cmp, unsigned_tied, nat_cmp_total, true, false, not, eqb, [], ◌∷◌, ◌++◌, filter, length-append, Some, option_map, vec_len, vec_capacity, refl, sym, ap, ◌∙◌, subst, arith, All, Contains, count_by, ◌<◌, ◌||◌, List, find, Option, None, IfSome, IsSome, eqb-true, not_from_false, nat_tests, map-append, All-contains, All-filter, All-push, All-weaker, sum_by_push, Pages, Part, Span, IsPlaced, end_of, has_page, meets, begins_at, exchanged, Table, IsKeyed, Own, Row, first_key, is_edge, with_edges, without_edges, IsApart, IsRowTable, KeepsExtents, parts_of, rows_of, bit, find_is, all_from, filter_neither, filter_swap, find_kept, found, low_piece, high_piece, AreBeside, joined, leaves_for}
use Rattle.part_book.proofs.Additions.{IsFresh, count_fewer, edges_less, edges_more, fewer, fresh_again, lists_less, lists_more, numbers_less, numbers_more, one, order_less, parts_more, slots_less, slots_more, slotted}
use Rattle.part_book.proofs.Indexes.{in_slots, keeps, parts_in}
use Rattle.part_book.proofs.Keyed.{keyed_same}
use Rattle.part_book.proofs.Parts.{edge_has, placed}
use Rattle.part_book.proofs.Rowed.{apart_less, one_row, other_row, others, others_begin, row_placed}
use Rattle.part_book.proofs.Chunks.{leaves_both, leaves_none}
use Rattle.std.specs.FinMap as map_of

-- ---- the first and the last page

-- a page that is the first or the last one of a span has the number of the span
edge_own : (pages : Pages) (p : Part) (number page : ℕ) → IsPlaced p.span → Own pages p.span number → is_edge page p ≡ true → map_of.get pages.numbers page ≡ Some number
edge_own pages p number page placed own t = grind (arith, nat_tests, own.first, own.last, t)

-- where two spans begin at the same page, which keeps the number, their last pages alone change
pub moved : (m : map_of.FinMap nat_cmp ℕ) (s t : Span) (number page : ℕ) → IsPlaced s → IsPlaced t → t.first ≡ s.first → t.pages ≢ s.pages → map_of.get m s.first ≡ Some number → 1 < s.pages →
    map_of.get (map_of.remove (map_of.insert m (end_of t - 1) number) (end_of s - 1)) page ≡ map_of.get (with_edges (without_edges m s) t number) page
moved m s t number page from to first differ own more =
    simp (map_of.get-insert {X = ℕ} nat_cmp_total, map_of.get-remove {X = ℕ} nat_cmp_total, unsigned_tied) (grind (arith, nat_tests, own))

pub moved_up : (m : map_of.FinMap nat_cmp ℕ) (s t : Span) (number page : ℕ) → IsPlaced s → IsPlaced t → t.first ≡ s.first → map_of.get m s.first ≡ Some number → s.pages ≤ 1 →
    map_of.get (map_of.insert m (end_of t - 1) number) page ≡ map_of.get (with_edges (without_edges m s) t number) page
moved_up m s t number page from to first own one =
    simp (map_of.get-insert {X = ℕ} nat_cmp_total, map_of.get-remove {X = ℕ} nat_cmp_total, unsigned_tied) (grind (arith, nat_tests, own))

-- a map that has the number already is as if it were taken away and given again
pub own_again : (pages : Pages) (p : Part) (number page : ℕ) → IsPlaced p.span → Own pages p.span number → map_of.get pages.numbers page ≡ map_of.get (with_edges (without_edges pages.numbers p.span) p.span number) page
own_again pages p number page placed own = grind (arith, nat_tests, edge_own, numbers_less, numbers_more)

pub same_span : (s t : Span) → s.first ≡ t.first → s.pages ≡ t.pages → s ≡ t
same_span s t e f = λ i. record { first = e i; pages = f i }

module _ (t : Table) (row : Row) (i : IsRowTable t (rows_of t)) (m : Contains (rows_of t) row) where
  -- the first and the last page of an extent have its number
  own_page : (page : ℕ) → is_edge page row.part ≡ true → map_of.get t.edges.numbers page ≡ Some row.number
  own_page page e =
      let rows = rows_of t in
      let has : (x : Row) → Contains rows x → is_edge page x.part ≡ true → has_page page x.part.span ≡ true = λ x k. edge_has x.part page (row_placed rows x i.indexes.apart k) in
      let is = find_is (λ r. is_edge page r.part) rows row m e (λ y n u. one_row rows i.indexes.apart page row y m n (has row m e) (has y n u)) in
      i.indexes.edges.numbers page ∙ ap (option_map (λ r. r.number)) is

  pub own : (edges : Pages) → edges ≡ t.edges → Own edges row.part.span row.number
  own edges same = grind (arith, nat_tests, own_page, row_placed)

  -- the others are those that begin elsewhere
  pub begins : parts_in (others row.number (rows_of t)) ≡ filter (λ p. not (begins_at row.part.span.first p)) (parts_of t)
  begins = others_begin t (rows_of t) row row.part.span.first i m (grind (arith, nat_tests))

  -- an extent that gets its number, and meets no other, is fresh among the others
  pub fresh_for : (other : Row) → other.number ≡ row.number → IsPlaced other.part.span → All (λ p. meets p.span other.part.span ≡ false) (filter (λ p. not (begins_at row.part.span.first p)) (parts_of t)) → IsFresh (vec_len t.slots) (others row.number (rows_of t)) other
  fresh_for other same placed apart =
      fresh_again t (rows_of t) row i m other placed (subst (All (λ p. meets p.span other.part.span ≡ false)) (sym begins) apart)
      (let slot = in_slots t (rows_of t) row i.slots m in omega arith) (λ r n e. (other_row row.number (rows_of t) r n).1 (e ∙ same))

  -- the table keeps the extents, and the other one in place of the one
  pub table_exchanged : (w u : Table) (other : Row) → other.number ≡ row.number → IsPlaced other.part.span → All (λ p. meets p.span other.part.span ≡ false) (filter (λ p. not (begins_at row.part.span.first p)) (parts_of t)) → other.part.span.first ≡ row.part.span.first →
      LosesLists (lists_of t) (lists_of w) row → GainsLists (lists_of w) (lists_of u) other → u.order.numbers ≡ filter (λ n. not (eqb n row.number)) t.order.numbers ++ other.number ∷ [] → u.order.places ≡ t.order.places → u.firsts ≡ t.firsts →
      ((page : ℕ) → map_of.get u.edges.numbers page ≡ map_of.get (with_edges (without_edges t.edges.numbers row.part.span) other.part.span other.number) page) → HasMore t.edges.chunks u.edges.chunks other.part.span →
      u.slots.items ≡ set_at t.slots.items other.number other.part → vec_len u.slots ≡ vec_len t.slots → u.free ≡ t.free → KeepsExtents u (exchanged (begins_at row.part.span.first) (parts_of t) (other.part ∷ []))
  table_exchanged w u other same placed apart first lost gained order places firsts numbers chunks slots slots_len free =
      let rows = rows_of t in
      let x = i.indexes in
      let n = vec_len t.slots in
      let rest = others row.number rows in
      let now = rest ++ other ∷ [] in
      let f = fresh_for other same placed apart in
      let key : first_key row ≡ first_key other = λ k. Some (record { major = sym first k; minor = sym same k }) in
      let few = apart_less row.number rows x.apart in
      let without = edges_less t rows row i m (record t.edges { numbers = without_edges t.edges.numbers row.part.span }) refl refl in
      let all = x.places in
      subst (KeepsExtents u) (map-append (λ r. r.part) rest (other ∷ []) ∙ ap (λ ps. ps ++ other.part ∷ []) begins)
      (keeps u now (record {
        indexes = record {
          apart = parts_more rest other n f few;
          order = order ∙ ap (λ ns. ns ++ other.number ∷ []) (order_less t rows row i m _ refl) ∙ sym (map-append (λ r. r.number) rest (other ∷ []));
          places = omega arith;
          lists = subst (λ k. HaveRows (lists_of u) k now) (sym slots_len) (lists_more rest other n f (lists_of w) (lists_of u) (lists_less t rows row i m (lists_of w) lost) gained);
          firsts = subst (λ k. IsKeyed first_key now k.keys) (sym firsts) (keyed_same first_key rows row t.firsts.keys x.firsts m (one t rows row i m) other key);
          edges = edges_more rest other n f _ u.edges few without numbers chunks;
          slots = slots_more rest other n f t.slots.items u.slots.items (omega (arith, t.slots.ok.0)) slots (slots_less t rows row i m);
        };
        slots = slotted t u rows now i.slots slots_len (λ number.
            let of = ap (λ v. count_by (λ n. eqb n number) v.items) free in
            let new = sum_by_push (λ r. bit (eqb r.number number)) rest other in
            let own = ap (λ n. bit (eqb n number)) same in
            omega (arith, count_fewer t rows row i m number))
            (omega (arith, length-append rest (other ∷ []), fewer t rows row i m, ap (λ v. vec_len v) free)) (omega (arith, ap (λ v. vec_capacity v) free));
      }))

-- ---- a cut

-- the pieces of an extent lie in the space
pub low_placed : (left : ℕ) (p : Part) → IsPlaced p.span → 0 < left → left < p.span.pages → IsPlaced (low_piece left p).span
low_placed left p inside some fewer = (some, inside.1, omega arith)

pub high_placed : (left : ℕ) (p : Part) → IsPlaced p.span → left < p.span.pages → IsPlaced (high_piece left p).span
high_placed left p inside fewer = (omega arith, omega arith, omega arith)

-- what doesn't meet an extent meets none of its pieces
meets_low : (left : ℕ) (x p : Part) → left < p.span.pages → meets x.span p.span ≡ false → meets x.span (low_piece left p).span ≡ false
meets_low left x p fewer f = grind (arith, nat_tests)

meets_high : (left : ℕ) (x p : Part) → left < p.span.pages → meets x.span p.span ≡ false → meets x.span (high_piece left p).span ≡ false
meets_high left x p fewer f = grind (arith, nat_tests)

pub low_apart : (left : ℕ) (p : Part) (others : List Part) → left < p.span.pages → All (λ x. meets x.span p.span ≡ false) others → All (λ x. meets x.span (low_piece left p).span ≡ false) others
low_apart left p others fewer all = All-weaker (λ x. meets x.span p.span ≡ false) (λ x. meets x.span (low_piece left p).span ≡ false) (λ x f. meets_low left x p fewer f) others all

-- nor does one piece meet the other
pub high_apart : (left : ℕ) (p low : Part) (others now : List Part) → left < p.span.pages → All (λ x. meets x.span p.span ≡ false) others → low.span ≡ (low_piece left p).span → now ≡ others ++ low ∷ [] → All (λ x. meets x.span (high_piece left p).span ≡ false) now
high_apart left p low others now fewer all same e =
    rw e (All-push (λ x. meets x.span (high_piece left p).span ≡ false) others low
    (All-weaker (λ x. meets x.span p.span ≡ false) (λ x. meets x.span (high_piece left p).span ≡ false) (λ x f. meets_high left x p fewer f) others all)
    (rw same (grind (arith, nat_tests))))

-- ---- a join

-- the first of two extents that are joined is still there when the second one is gone
pub still_there : (parts : List Part) (p q : Part) → IsApart parts → IsThere parts p → AreBeside p q → IsThere (filter (λ x. not (begins_at q.span.first x)) parts) p
still_there parts p q apart there beside =
    let inside = placed parts p apart (found (begins_at p.span.first) parts p there).0 in
    let less : p.span.first < q.span.first = omega arith in
    find_kept (begins_at p.span.first) (λ x. not (begins_at q.span.first x)) parts (λ x m t. not_from_false (begins_at q.span.first x) (grind (arith, nat_tests))) ∙ there

-- two extents of the space as one lie in the space
pub joined_placed : (p q : Part) → IsPlaced p.span → IsPlaced q.span → AreBeside p q → IsPlaced (joined p q).span
joined_placed p q placed_p placed_q beside = (omega arith, placed_p.1, omega (arith, beside))

-- what meets neither of two does not meet both as one
apart_from_both : (x p q : Part) → IsPlaced x.span → AreBeside p q → meets x.span p.span ≡ false → meets x.span q.span ≡ false → meets x.span (joined p q).span ≡ false
apart_from_both x p q placed beside a b = grind (arith, nat_tests)

-- the two as one meet no other extent
pub joined_apart : (old : List Part) (at : ℕ) (p q : Part) → IsApart old → AreBeside p q → All (λ x. meets x.span p.span ≡ false) (filter (λ x. not (begins_at at x)) old) → All (λ x. meets x.span q.span ≡ false) old →
    All (λ x. meets x.span (joined p q).span ≡ false) (filter (λ x. not (begins_at at x)) old)
joined_apart old at p q sound beside from_p from_q =
    let others = filter (λ x. not (begins_at at x)) old in
    let from_q' = All-filter (λ x. not (begins_at at x)) (λ x. meets x.span q.span ≡ false) old from_q in
    let inside = All-filter (λ x. not (begins_at at x)) (λ x. IsPlaced x.span) old sound.placed in
    all_from (λ x. meets x.span (joined p q).span ≡ false) others (λ x m. apart_from_both x p q (All-contains (λ y. IsPlaced y.span) others x inside m) beside (All-contains (λ y. meets y.span p.span ≡ false) others x from_p m) (All-contains (λ y. meets y.span q.span ≡ false) others x from_q' m))

-- its first and its last page have leaves
pub joined_leaves : (t : Pages) (p q : Part) → AreBeside p q → leaves_for t p.span ≡ 0 → leaves_for t q.span ≡ 0 → leaves_for t (joined p q).span ≡ 0
joined_leaves t p q beside of_p of_q = grind (arith, nat_tests, leaves_both, leaves_none)

-- the extents after a join
pub join_parts : (parts : List Part) (p q : Part) → exchanged (begins_at p.span.first) (filter (λ x. not (begins_at q.span.first x)) parts) (joined p q ∷ []) ≡ exchanged (begins_either p q) parts (joined p q ∷ [])
join_parts parts p q = ap (λ xs. xs ++ joined p q ∷ []) (filter_swap (λ x. not (begins_at p.span.first x)) (λ x. not (begins_at q.span.first x)) parts ∙ filter_neither (begins_at p.span.first) (begins_at q.span.first) parts)
