-- An extent comes, or goes.
use Rattle.part_book.proofs.Words.{IsThere, ArePagesOf, GainsPages, IsTrue, PageSums, is_active, CanEnter, GainsLists, HasEdges, HaveRows, KeepsOthers, Lists, LosesLists, lists_of, ◌≡◌, ◌≢◌, ℕ, ◌+◌, ◌-◌, ◌/◌, ◌^◌, ◌<◌, ◌≤◌, Bool, true, false, cond, eqb, ltb, ◌||◌, List, [], ◌∷◌, ◌++◌, filter, find, length, count_by, Option, Some, None, is_some, option_map, set_at, vec_len, vec_capacity, inl, inr, refl, sym, ap, ◌∙◌, subst, arith, All, length-append, Contains, option_to_list, nat_cmp, sum_by, not, IsSome, unsigned_tied, nat_cmp_total, cases_Bool, eq-eqb, false_from_ne_true, eqb-true, not-true, nat_tests, get_or-set_other, get_or-set_same, length-map, map-append, All-contains, All-filter, All-map, All-push, All-weaker, filter-append, find-append, count_by-le-length, length-filter, sum_by-append, sum_by-cons, sum_by_push, Part, Rest, IsPlaced, end_of, meets, has_page, is_listed, begins_at, is_in_flight, AgeList, Table, HasMore, leaves_for, CanList, GainsRow, CanUnlist, LosesRow, IsApart, IsKeyed, Row, first_key, is_edge, keys_with, listed_in, numbers_of, part_at, size_key, with_edges, keys_without, without_edges, CanLower, HasListRoom, IsListOf, IsSlotted, IsRowTable, KeepsExtents, parts_of, rows_of, all_from, bit, count_some, find_none, map_has, count_less_one, count_kept, count_map, filter_all_of, filter_map_is, filter_none_of, filter_swap, find_kept, found, kept_length, only, sum_by-filter_both, filter_from, filter_has, Pages}
use Rattle.part_book.proofs.Indexes.{IsLeafed, in_slots, keeps, parts_in, edge_none, edge_part, edge_row, slot_of, small_numbers}
use Rattle.part_book.proofs.Keyed.{first_own, key_absent, keyed_more, size_own, keyed_less}
use Rattle.part_book.proofs.Parts.{edge_has, begins_by_edge}
use Rattle.part_book.proofs.Rowed.{apart_more, page_meets, pages_most, pages_of_row, serving_of, sums_most, row_placed, apart_less, numbers_most, one_number, one_row, other_row, others, others_apart, others_begin}
use Rattle.std.specs.FinMap as map_of
use Rattle.space_model.specs.declared.Rest.TheVariants as rests

-- an extent with a number that no other has, and that meets no other, where there are so many slots
pub record IsFresh (slots : ℕ) (rows : List Row) (row : Row) : Type 0 where
  pub placed : IsPlaced row.part.span
  pub apart : All (λ p. meets p.span row.part.span ≡ false) (parts_in rows)
  pub others : (r : Row) → Contains rows r → (r.number ≢ row.number) × (r.number < slots)
  pub slot : row.number < slots
  pub small : slots < 2 ^ 32
  pub few : length rows ≤ slots

-- a slot that has no extent
pub record IsUnused (t : Table) (n : ℕ) : Type 0 where
  pub number : (r : Row) → Contains (rows_of t) r → r.number ≢ n
  pub slot : n < vec_len t.slots

-- such is the number that was popped off the free ones
pub popped : (t : Table) (front : List ℕ) (o : Option ℕ) (number : ℕ) → IsRowTable t (rows_of t) → t.free.items ≡ front ++ option_to_list o → o ≡ Some number → IsUnused t number
popped t front o number i free is =
    let all = i.slots.free number in
    let last = ap (count_by (λ n. eqb n number)) (free ∙ ap (λ x. front ++ option_to_list x) is) ∙ sum_by_push (λ n. bit (eqb n number)) front number in
    let one : bit (eqb number number) ≡ 1 = ap bit (eq-eqb number number refl) in
    let slot : number < vec_len t.slots = grind (arith, nat_tests) in
    let some : bit (ltb number (vec_len t.slots)) ≡ 1 = grind (arith, nat_tests) in
    record {
      number = λ r m e. (let there = count_some (λ x. eqb x.number number) (rows_of t) r m (eq-eqb r.number number e) in omega arith);
      slot = slot;
    }

-- and with it an extent that meets no other is fresh
pub fresh : (t : Table) (row : Row) → IsRowTable t (rows_of t) → IsUnused t row.number → IsPlaced row.part.span → All (λ p. meets p.span row.part.span ≡ false) (parts_of t) → IsFresh (vec_len t.slots) (rows_of t) row
fresh t row i unused placed apart = record {
  placed = placed;
  apart = apart;
  others = λ r m. (unused.number r m, in_slots t (rows_of t) r i.slots m);
  slot = unused.slot;
  small = i.slots.small;
  few = omega (arith, i.slots.places);
}

-- the key that it has among the first pages is not there
pub absent_first : (t : Table) (row : Row) → IsRowTable t (rows_of t) → IsUnused t row.number → Contains t.firsts.keys (record { major = row.part.span.first; minor = row.number }) → ⊥
absent_first t row i unused m = key_absent first_key (rows_of t) row t.firsts.keys i.indexes.firsts (λ r k n a b. first_own r row k a b) unused.number m

-- a page has the number of the extent whose first or last page it is
pub edge_test : (p : Part) (page : ℕ) → IsPlaced p.span → is_edge page p ≡ (eqb page (end_of p.span - 1) || eqb page p.span.first)
edge_test p page placed = grind (arith, nat_tests)

-- a choice after a choice
pub twice : (a b : Bool) (x y : Option ℕ) → cond a x (cond b x y) ≡ cond (a || b) x y
twice a b x y = grind arith

-- a page has the number where it is the first or the last one of the extent
pub numbers_more : (m : map_of.FinMap nat_cmp ℕ) (p : Part) (number page : ℕ) → IsPlaced p.span → map_of.get (with_edges m p.span number) page ≡ cond (is_edge page p) (Some number) (map_of.get m page)
numbers_more m p number page placed =
    simp (map_of.get-insert {X = ℕ} nat_cmp_total, unsigned_tied) (
    twice (eqb page (end_of p.span - 1)) (eqb page p.span.first) (Some number) (map_of.get m page)
    ∙ ap (λ b. cond b (Some number) (map_of.get m page)) (sym (edge_test p page placed)))

-- the rows that pass get the new one if it passes
more : (test : Row → Bool) (rows : List Row) (row : Row) → filter test (rows ++ row ∷ []) ≡ filter test rows ++ cond (test row) (row ∷ []) []
more test rows row = grind (arith, filter-append test rows (row ∷ []))

-- and so do their numbers
more_numbers : (test : Row → Bool) (rows : List Row) (row : Row) → numbers_of (filter test (rows ++ row ∷ [])) ≡ numbers_of (filter test rows) ++ cond (test row) (row.number ∷ []) []
more_numbers test rows row = grind (arith, nat_tests, map-append, more)

-- an extent is unused for one rest at most, and then it has a key
pub one_rest : (row : Row) → bit (is_listed rests.Dirty row.part.state) + bit (is_listed rests.Muzzy row.part.state) + bit (is_listed rests.Retained row.part.state) ≡ bit (is_some (size_key row))
one_rest row = grind (arith, nat_tests)

-- no more are unused than there are
unused_most : (rows : List Row) → length (listed_in rests.Dirty rows) + length (listed_in rests.Muzzy rows) + length (listed_in rests.Retained rows) ≤ length rows
unused_most rows =
    let d : Row → Bool = λ r. is_listed rests.Dirty r.part.state in
    let m : Row → Bool = λ r. is_listed rests.Muzzy r.part.state in
    let e : Row → Bool = λ r. is_listed rests.Retained r.part.state in
    omega (arith, length-filter d rows, length-filter m rows, length-filter e rows, counts rows)
  where
    most : (b : Bool) → bit b ≤ 1
    most true = omega arith
    most false = omega arith

    counts : (xs : List Row) → count_by (λ r. is_listed rests.Dirty r.part.state) xs + count_by (λ r. is_listed rests.Muzzy r.part.state) xs + count_by (λ r. is_listed rests.Retained r.part.state) xs ≤ length xs
    counts [] = omega arith
    counts (x ∷ xs) =
        omega (arith, counts xs, one_rest x, most (is_some (size_key x)), sum_by-cons (λ (r : Row). bit (is_listed rests.Dirty r.part.state)) x xs, sum_by-cons (λ (r : Row). bit (is_listed rests.Muzzy r.part.state)) x xs, sum_by-cons (λ (r : Row). bit (is_listed rests.Retained r.part.state)) x xs)

-- the slots and the free numbers of a table whose extents are others
pub slotted : (t u : Table) (rows now : List Row) → IsSlotted t rows → vec_len u.slots ≡ vec_len t.slots →
    ((number : ℕ) → count_by (λ n. eqb n number) u.free.items + count_by (λ r. eqb r.number number) now ≡ count_by (λ n. eqb n number) t.free.items + count_by (λ r. eqb r.number number) rows) →
    vec_len u.free + length now ≡ vec_len t.free + length rows → vec_capacity t.free ≤ vec_capacity u.free → IsSlotted u now
slotted t u rows now i len free places room = record {
  free = λ number. let test = ap (λ n. bit (ltb number n)) len in omega (arith, i.free number, free number);
  places = omega (arith, i.places);
  small = omega (arith, i.small);
  room = omega (arith, i.room);
}

-- ---- one more extent

module _ (rows : List Row) (row : Row) (slots : ℕ) (f : IsFresh slots rows row) where
  -- no extent among some has its number
  new_number : (test : Row → Bool) → All (λ n. n ≢ row.number) (numbers_of (filter test rows))
  new_number test = All-map (λ n. n ≢ row.number) (λ r. r.number) (filter test rows) (All-filter test (λ r. r.number ≢ row.number) rows (all_from (λ r. r.number ≢ row.number) rows (λ r m. (f.others r m).0)))

  -- the list of a rest has a place for it, and its pages can be counted
  can_list : IsApart (parts_in rows) → (rest : Rest) (list : AgeList) → IsListOf rest list slots rows → CanList list row
  can_list apart rest list l =
      let most = pages_most rest rows apart in
      let few = f.few in
      let small = f.small in
      let own = f.placed in
      record {
        place = omega (arith, l.places, f.slot);
        new_number = rw l.numbers (new_number (λ r. is_listed rest r.part.state));
        fits = omega (arith, l.pages);
      }

  -- so the lists take it
  pub can_enter : (t : Table) (more : ℕ) → IsApart (parts_in rows) → HaveRows (lists_of t) slots rows → HasListRoom t more → length t.order.numbers + more ≡ length rows + 1 → CanEnter t row
  can_enter t more apart l room all =
      let in_flight : Row → Bool = λ r. is_in_flight r.part.state in
      let d = ap length l.dirty.numbers ∙ length-map (listed_in rests.Dirty rows) (λ r. r.number) in
      let m = ap length l.muzzy.numbers ∙ length-map (listed_in rests.Muzzy rows) (λ r. r.number) in
      let e = ap length l.retained.numbers ∙ length-map (listed_in rests.Retained rows) (λ r. r.number) in
      let flown = ap length l.flights ∙ length-map (filter in_flight rows) (λ r. r.number) in
      let small = f.small in
      let slot = f.slot in
      let own = f.placed in
      let sums = sums_most t.sums rows apart l.sums in
      record {
        placed = f.placed;
        dirty = can_list apart rests.Dirty t.dirty l.dirty;
        muzzy = can_list apart rests.Muzzy t.muzzy l.muzzy;
        retained = can_list apart rests.Retained t.retained l.retained;
        sizes = λ _. omega (arith, unused_most rows, room.sizes);
        absent = key_absent size_key rows row t.sizes.keys l.sizes (λ r k n a b. size_own r row k (let low = (f.others r n).1 in omega arith) (omega arith) a b) (λ r n. (f.others r n).0);
        within = sums.0;
        fits = omega (arith, sums.1, f.few);
        flights = omega (arith, t.flights.ok.0, room.flights, length-filter in_flight rows, count_by-le-length in_flight rows);
      }

  -- and so does the order
  pub can_lower : (t : Table) → t.order.numbers ≡ numbers_of rows → slots ≤ t.order.places → IsApart (parts_in rows) → HaveRows (lists_of t) slots rows → HasListRoom t 1 → CanLower t row
  can_lower t order places apart l room = record {
    place = omega (arith, f.slot);
    new_number = rw order (All-map (λ n. n ≢ row.number) (λ r. r.number) rows (all_from (λ r. r.number ≢ row.number) rows (λ r m. (f.others r m).0)));
    lists = can_enter t 1 apart l room (omega (arith, ap length order, length-map rows (λ r. r.number)));
  }

  -- a list of a rest gets its number and its pages if it is listed there
  listed_more : (rest : Rest) (old new : AgeList) → IsListOf rest old slots rows → GainsRow rest old new row → IsListOf rest new slots (rows ++ row ∷ [])
  listed_more rest old new l g = grind (arith, nat_tests, more, more_numbers, sum_by-append, sum_by-cons)

  -- the lists have it besides
  pub lists_more : (l k : Lists) → HaveRows l slots rows → GainsLists l k row → HaveRows k slots (rows ++ row ∷ [])
  lists_more l k has g = record {
    dirty = listed_more rests.Dirty l.dirty k.dirty has.dirty g.dirty;
    muzzy = listed_more rests.Muzzy l.muzzy k.muzzy has.muzzy g.muzzy;
    retained = listed_more rests.Retained l.retained k.retained has.retained g.retained;
    sums = record { all = omega (arith, has.sums.all, g.sums.all, sum_by_push pages_of_row rows row); active = omega (arith, has.sums.active, g.sums.active, sum_by_push serving_of rows row) };
    flights = g.flights ∙ ap (λ ns. ns ++ cond (is_in_flight row.part.state) (row.number ∷ []) []) has.flights ∙ sym (more_numbers (λ r. is_in_flight r.part.state) rows row);
    sizes = subst (IsKeyed size_key (rows ++ row ∷ [])) (sym g.sizes) (keyed_more size_key rows row l.sizes has.sizes);
  }

  -- its first and its last page get its number
  pub edges_more : (e u : Pages) → IsApart (parts_in rows) → HasEdges e rows → ((page : ℕ) → map_of.get u.numbers page ≡ map_of.get (with_edges e.numbers row.part.span row.number) page) → HasMore e.chunks u.chunks row.part.span → HasEdges u (rows ++ row ∷ [])
  edges_more e u apart has numbers chunks = record {
    numbers = λ page.
        numbers page ∙ numbers_more e.numbers row.part row.number page f.placed
        ∙ elim (cases_Bool (is_edge page row.part)) [
          | inl t ↦
              let none = find_none (λ r. is_edge page r.part) rows (λ r m. false_from_ne_true (is_edge page r.part) (λ g.
              let met = page_meets r.part row.part page (edge_has r.part page (row_placed rows r apart m) g) (edge_has row.part page f.placed t) in
              let no_met = All-contains (λ p. meets p.span row.part.span ≡ false) (parts_in rows) r.part f.apart (map_has (λ x. x.part) rows r m) in cc)) in
              rw (t, find-append (λ r. is_edge page r.part) rows (row ∷ []), none, t) refl
          | inr g ↦ grind (arith, find-append (λ r. is_edge page r.part) rows (row ∷ []), has.numbers page, g)
        ];
    leaves = All-push (IsLeafed u.chunks) rows row (All-weaker (IsLeafed e.chunks) (IsLeafed u.chunks) (λ r l. (chunks.kept (r.part.span.first / 512) l.0, chunks.kept ((end_of r.part.span - 1) / 512) l.1)) rows has.leaves) (chunks.first, chunks.last);
  }

  -- no two share a page
  pub parts_more : IsApart (parts_in rows) → IsApart (parts_in (rows ++ row ∷ []))
  parts_more apart = subst IsApart (sym (map-append (λ r. r.part) rows (row ∷ []))) (apart_more (parts_in rows) row.part apart f.placed f.apart)

  -- the slots have it if it was put there
  pub slots_more : (old new : List Part) → slots ≤ length old → new ≡ set_at old row.number row.part → All (λ r. part_at old r.number ≡ r.part) rows → All (λ r. part_at new r.number ≡ r.part) (rows ++ row ∷ [])
  slots_more old new le e all =
      All-push (λ r. part_at new r.number ≡ r.part) rows row
      (all_from (λ r. part_at new r.number ≡ r.part) rows (λ r m. rw e (get_or-set_other old row.number r.number row.part _ (f.others r m).0) ∙ All-contains (λ r. part_at old r.number ≡ r.part) rows r all m))
      (let slot = f.slot in rw e (get_or-set_same old row.number row.part _ (omega arith)))

-- ---- the extent that begins at a page

-- the map has a number for the page
pub some_number : (t : Table) (first : ℕ) (o : Option ℕ) → IsRowTable t (rows_of t) → IsSome (find (begins_at first) (parts_of t)) → o ≡ map_of.get t.edges.numbers first → IsSome o
some_number t first None i some e = absurd (
    let none = begins_by_edge (parts_of t) first i.indexes.apart None (edge_none t (rows_of t) first i (sym e)) in
    let no = subst IsSome none some in cc)
some_number t first (Some number) i some e = refl

-- the extent has that number
pub row_read : (t : Table) (p : Part) (number : ℕ) → IsRowTable t (rows_of t) → IsThere (parts_of t) p → map_of.get t.edges.numbers p.span.first ≡ Some number → Contains (rows_of t) (record { number = number; part = p })
row_read t p number i there e =
    let r = edge_row t (rows_of t) p.span.first number i e in
    let slot = slot_of t (rows_of t) r.0 i r.2 r.3 in
    let begins = begins_by_edge (parts_of t) p.span.first i.indexes.apart _ (edge_part t (rows_of t) p.span.first number i e) in
    let is : r.0.part ≡ p = grind (arith, nat_tests, begins, there, slot.1) in
    let same : r.0 ≡ record { number = number; part = p } = λ k. record { number = r.3 k; part = is k } in
    subst (Contains (rows_of t)) same r.2

-- and the others don't meet it
pub row_apart : (t : Table) (row : Row) → IsRowTable t (rows_of t) → Contains (rows_of t) row → All (λ p. meets p.span row.part.span ≡ false) (filter (λ p. not (begins_at row.part.span.first p)) (parts_of t))
row_apart t row i m =
    subst (All (λ p. meets p.span row.part.span ≡ false)) (others_begin t (rows_of t) row row.part.span.first i m (eq-eqb row.part.span.first row.part.span.first refl)) (others_apart t (rows_of t) row i m)

-- ---- one extent less

-- a page has no number where it was the first or the last one of the extent
pub numbers_less : (m : map_of.FinMap nat_cmp ℕ) (p : Part) (page : ℕ) → IsPlaced p.span → map_of.get (without_edges m p.span) page ≡ cond (is_edge page p) None (map_of.get m page)
numbers_less m p page placed =
    simp (map_of.get-remove {X = ℕ} nat_cmp_total, unsigned_tied) (
    twice (eqb page (end_of p.span - 1)) (eqb page p.span.first) None (map_of.get m page)
    ∙ ap (λ b. cond b None (map_of.get m page)) (sym (edge_test p page placed)))

module _ (t : Table) (rows : List Row) (row : Row) (i : IsRowTable t rows) (m : Contains rows row) where
  -- no other row has its number
  pub one : (r : Row) → Contains rows r → r.number ≡ row.number → r ≡ row
  one r n e = one_number t rows row r i m n e

  -- a row that differs from the one by a test has another number
  differs : (test : Row → Bool) (r : Row) → Contains rows r → test r ≡ true → test row ≡ false → not (eqb r.number row.number) ≡ true
  differs test r n t' f = grind (arith, nat_tests, one r n, t', f)

  -- a filter leaves out of some numbers what it leaves out of the rows
  less : (test : Row → Bool) → numbers_of (filter test (others row.number rows)) ≡ cond (test row) (filter (λ n. not (eqb n row.number)) (numbers_of (filter test rows))) (numbers_of (filter test rows))
  less test =
      let all : test row ≡ false → filter (λ r. not (eqb r.number row.number)) (filter test rows) ≡ filter test rows =
      (λ f. filter_all_of (λ r. not (eqb r.number row.number)) (filter test rows) (λ r n. let p = filter_from test rows r n in differs test r p.0 p.1 f)) in
      ap numbers_of (filter_swap test (λ r. not (eqb r.number row.number)) rows) ∙ grind (arith, filter_map_is (λ (r : Row). r.number) (λ n. not (eqb n row.number)) (filter test rows), all)

  -- and what it comes to is left out of a sum
  pub sum_fewer : (f : Row → ℕ) → sum_by f (others row.number rows) + f row ≡ sum_by f rows
  sum_fewer f =
      let own : Row → Bool = λ r. eqb r.number row.number in
      let most = numbers_most t rows row.number i.slots in
      let len = length-filter own rows in
      let alone = ap (sum_by f) (only (filter own rows) row (omega arith) (filter_has own rows row m (eq-eqb row.number row.number refl))) ∙ sum_by-cons f row [] in
      omega (arith, sum_by-filter_both own (λ r. not (own r)) (λ r. refl) f rows, alone)

  -- also of one over those that pass
  sum_less : (test : Row → Bool) → sum_by pages_of_row (filter test (others row.number rows)) + cond (test row) row.part.span.pages 0 ≡ sum_by pages_of_row (filter test rows)
  sum_less test = omega (arith, sum_fewer (λ r. cond (test r) r.part.span.pages 0), sum_where test rows, sum_where test (others row.number rows))
    where
      sum_where : (test : Row → Bool) (xs : List Row) → sum_by pages_of_row (filter test xs) ≡ sum_by (λ r. cond (test r) r.part.span.pages 0) xs
      sum_where test [] = refl
      sum_where test (x ∷ xs) = grind (arith, sum_where test xs, sum_by-cons pages_of_row x (filter test xs), sum_by-cons (λ (r : Row). cond (test r) r.part.span.pages 0) x xs)

  -- its number is among those that pass once at most
  pub once : (test : Row → Bool) → count_by (λ n. eqb n row.number) (numbers_of (filter test rows)) ≤ 1
  once test =
      let same = count_map (λ (r : Row). r.number) (λ n. eqb n row.number) (filter test rows) in
      let kept = count_kept test (λ (r : Row). eqb r.number row.number) rows in
      let most = numbers_most t rows row.number i.slots in
      omega arith

  -- it can be taken off the list of a rest
  pub can_unlist : (rest : Rest) (list : AgeList) → IsListOf rest list (vec_len t.slots) rows → CanUnlist rest list row
  can_unlist rest list l =
      let test : Row → Bool = λ r. is_listed rest r.part.state in
      record {
        listed = λ is. rw l.numbers (map_has (λ r. r.number) (filter test rows) row (filter_has test rows row m is));
        pages = λ is. (
            let sum = sum_less test in
            let own : cond (test row) row.part.span.pages 0 ≡ row.part.span.pages = ap (λ b. cond b row.part.span.pages 0) is in
            omega (arith, l.pages));
        once = rw l.numbers (once test);
      }

  -- the list of a rest lacks its number and its pages
  listed_less : (rest : Rest) (old new : AgeList) → IsListOf rest old (vec_len t.slots) rows → LosesRow rest old new row → IsListOf rest new (vec_len t.slots) (others row.number rows)
  listed_less rest old new l lost =
      let test : Row → Bool = λ r. is_listed rest r.part.state in
      record {
        numbers = lost.numbers ∙ ap (λ ns. cond (test row) (filter (λ n. not (eqb n row.number)) ns) ns) l.numbers ∙ sym (less test);
        pages = omega (arith, l.pages, lost.pages, sum_less test);
        places = omega (arith, l.places, lost.places);
      }

  -- the sums lack its pages
  pub can_lose : (row.part.span.pages ≤ t.sums.all) × (IsTrue (is_active row.part.state) → row.part.span.pages ≤ t.sums.active)
  can_lose =
      let sums = i.indexes.lists.sums in
      (omega (arith, sums.all, sum_fewer pages_of_row), λ is. (let own : serving_of row ≡ row.part.span.pages = ap (λ b. cond b row.part.span.pages 0) is in omega (arith, sums.active, sum_fewer serving_of)))

  sums_less : (u : PageSums) → GainsPages u t.sums row.part → ArePagesOf u (others row.number rows)
  sums_less u lost = let sums = i.indexes.lists.sums in record { all = omega (arith, sums.all, lost.all, sum_fewer pages_of_row); active = omega (arith, sums.active, lost.active, sum_fewer serving_of) }

  -- the lists lack it
  pub lists_less : (k : Lists) → LosesLists (lists_of t) k row → HaveRows k (vec_len t.slots) (others row.number rows)
  lists_less k lost =
      let l = i.indexes.lists in
      record {
        dirty = listed_less rests.Dirty t.dirty k.dirty l.dirty lost.dirty;
        muzzy = listed_less rests.Muzzy t.muzzy k.muzzy l.muzzy lost.muzzy;
        retained = listed_less rests.Retained t.retained k.retained l.retained lost.retained;
        sums = sums_less k.sums lost.sums;
        flights = lost.flights ∙ ap (λ ns. cond (is_in_flight row.part.state) (filter (λ n. not (eqb n row.number)) ns) ns) l.flights ∙ sym (less (λ r. is_in_flight r.part.state));
        sizes = subst (IsKeyed size_key (others row.number rows)) (sym lost.sizes) (keyed_less size_key rows row t.sizes.keys l.sizes m one (λ r k n e f. size_own r row k (small_numbers t rows i.slots r n) (small_numbers t rows i.slots row m) e f));
      }

  -- and so does the order
  pub order_less : (numbers : List ℕ) → numbers ≡ filter (λ n. not (eqb n row.number)) t.order.numbers → numbers ≡ numbers_of (others row.number rows)
  order_less numbers e = e ∙ ap (filter (λ n. not (eqb n row.number))) i.indexes.order ∙ filter_map_is (λ r. r.number) (λ n. not (eqb n row.number)) rows

  -- its first and its last page have no number
  pub edges_less : (u : Pages) → u.numbers ≡ without_edges t.edges.numbers row.part.span → u.chunks ≡ t.edges.chunks → HasEdges u (others row.number rows)
  edges_less u numbers chunks = record {
    numbers = λ page.
        ap (λ n. map_of.get n page) numbers
        ∙ numbers_less t.edges.numbers row.part page (row_placed rows row i.indexes.apart m)
        ∙ elim (cases_Bool (is_edge page row.part)) [
          | inl e ↦ rw (
            e,
            find_none (λ r. is_edge page r.part) (others row.number rows) (λ r n. false_from_ne_true (is_edge page r.part) (λ g.
                let o = other_row row.number rows r n in
                let has : (x : Row) → Contains rows x → is_edge page x.part ≡ true → has_page page x.part.span ≡ true = λ x k. edge_has x.part page (row_placed rows x i.indexes.apart k) in
                o.1 (ap (λ (x : Row). x.number) (one_row rows i.indexes.apart page row r m o.0 (has row m e) (has r o.0 g))))),
          ) refl
          | inr f ↦ rw f (i.indexes.edges.numbers page ∙ ap (option_map (λ r. r.number)) (sym (find_kept (λ r. is_edge page r.part) (λ r. not (eqb r.number row.number)) rows (λ r n g. differs (λ x. is_edge page x.part) r n g f))))
        ];
    leaves = subst (λ chunks. All (IsLeafed chunks) (others row.number rows)) (sym chunks) (All-filter (λ r. not (eqb r.number row.number)) (IsLeafed t.edges.chunks) rows i.indexes.edges.leaves);
  }

  -- the slots have the others
  pub slots_less : All (λ r. part_at t.slots.items r.number ≡ r.part) (others row.number rows)
  slots_less = All-filter (λ r. not (eqb r.number row.number)) (λ r. part_at t.slots.items r.number ≡ r.part) rows i.indexes.slots

  -- how many extents are left
  pub fewer : length (others row.number rows) + 1 ≡ length rows
  fewer =
      let kept = kept_length (λ (r : Row). eqb r.number row.number) rows in
      let some = count_some (λ (r : Row). eqb r.number row.number) rows row m (eq-eqb row.number row.number refl) in
      let most = numbers_most t rows row.number i.slots in
      omega arith

  -- how many have a number
  pub count_fewer : (number : ℕ) → count_by (λ r. eqb r.number number) (others row.number rows) + bit (eqb row.number number) ≡ count_by (λ r. eqb r.number number) rows
  count_fewer number = count_less_one (λ r. eqb r.number row.number) (λ r. eqb r.number number) rows row m (eq-eqb row.number row.number refl) (numbers_most t rows row.number i.slots)

  -- an extent is fresh among the others
  pub fresh_again : (x : Row) → IsPlaced x.part.span → All (λ p. meets p.span x.part.span ≡ false) (parts_in (others row.number rows)) → x.number < vec_len t.slots → ((r : Row) → Contains (others row.number rows) r → r.number ≢ x.number) → IsFresh (vec_len t.slots) (others row.number rows) x
  fresh_again x placed apart slot other = record {
    placed = placed;
    apart = apart;
    others = λ r n. (other r n, in_slots t rows r i.slots (other_row row.number rows r n).0);
    slot = slot;
    small = i.slots.small;
    few = omega (arith, fewer, i.slots.places);
  }

-- ---- in the words of a table

-- with an extent that was put on, the table keeps its extents and that one
pub table_added : (t s u : Table) (row : Row) → IsRowTable t (rows_of t) → IsUnused t row.number → IsPlaced row.part.span → All (λ p. meets p.span row.part.span ≡ false) (parts_of t) →
    u.order.numbers ≡ t.order.numbers ++ row.number ∷ [] → u.order.places ≡ t.order.places → GainsLists (lists_of t) (lists_of u) row → KeepsOthers s u →
    s.firsts.keys ≡ keys_with t.firsts.keys (first_key row) → s.edges.numbers ≡ with_edges t.edges.numbers row.part.span row.number → HasMore t.edges.chunks s.edges.chunks row.part.span →
    s.slots.items ≡ set_at t.slots.items row.number row.part → vec_len s.slots ≡ vec_len t.slots → t.free.items ≡ s.free.items ++ row.number ∷ [] → vec_len s.free + 1 ≡ vec_len t.free → vec_capacity t.free ≤ vec_capacity s.free →
    KeepsExtents u (parts_of t ++ row.part ∷ [])
table_added t s u row i unused placed apart order places lists kept firsts numbers chunks slots slots_len free free_len room =
    let rows = rows_of t in
    let x = i.indexes in
    let f = fresh t row i unused placed apart in
    let len : vec_len t.slots ≡ vec_len u.slots = sym (ap (λ v. vec_len v) kept.slots ∙ slots_len) in
    let all = x.places in
    let left = ap (λ v. vec_len v) kept.free in
    let more = ap (λ v. vec_capacity v) kept.free in
    subst (KeepsExtents u) (map-append (λ r. r.part) rows (row ∷ [])) (keeps u (rows ++ row ∷ []) (record {
      indexes = record {
        apart = parts_more rows row (vec_len t.slots) f x.apart;
        order = order ∙ ap (λ ns. ns ++ row.number ∷ []) x.order ∙ sym (map-append (λ r. r.number) rows (row ∷ []));
        places = omega arith;
        lists = subst (λ n. HaveRows (lists_of u) n (rows ++ row ∷ [])) len (lists_more rows row (vec_len t.slots) f (lists_of t) (lists_of u) x.lists lists);
        firsts = subst (IsKeyed first_key (rows ++ row ∷ [])) (sym (ap (λ k. k.keys) kept.firsts ∙ firsts)) (keyed_more first_key rows row t.firsts.keys x.firsts);
        edges = subst (λ (e : Pages). HasEdges e (rows ++ row ∷ [])) (sym kept.edges) (edges_more rows row (vec_len t.slots) f t.edges s.edges x.apart x.edges (λ page. ap (λ m. map_of.get m page) numbers) chunks);
        slots = slots_more rows row (vec_len t.slots) f t.slots.items u.slots.items (omega (arith, t.slots.ok.0)) (ap (λ v. v.items) kept.slots ∙ slots) x.slots;
      };
      slots = slotted t u rows (rows ++ row ∷ []) i.slots (sym len) (λ number.
          let old = ap (count_by (λ n. eqb n number)) (free ∙ ap (λ v. v.items ++ row.number ∷ []) (sym kept.free)) ∙ sum_by_push (λ n. bit (eqb n number)) u.free.items row.number in
          let new = sum_by_push (λ r. bit (eqb r.number number)) rows row in
          omega arith) (omega (arith, length-append rows (row ∷ []))) (omega arith);
    }))

-- without an extent, the table keeps those that begin elsewhere
pub table_removed : (t u : Table) (row : Row) → IsRowTable t (rows_of t) → Contains (rows_of t) row → u.order.numbers ≡ filter (λ n. not (eqb n row.number)) t.order.numbers → u.order.places ≡ t.order.places → LosesLists (lists_of t) (lists_of u) row →
    u.slots ≡ t.slots → u.firsts.keys ≡ keys_without t.firsts.keys (first_key row) → u.edges.numbers ≡ without_edges t.edges.numbers row.part.span → u.edges.chunks ≡ t.edges.chunks →
    u.free.items ≡ t.free.items ++ row.number ∷ [] → vec_len u.free ≡ vec_len t.free + 1 → vec_capacity t.free ≤ vec_capacity u.free → KeepsExtents u (filter (λ p. not (begins_at row.part.span.first p)) (parts_of t))
table_removed t u row i m order places lists slots firsts numbers chunks free free_len room =
    let rows = rows_of t in
    let x = i.indexes in
    let rest = others row.number rows in
    let len : vec_len t.slots ≡ vec_len u.slots = ap (λ v. vec_len v) (sym slots) in
    let all = x.places in
    subst (KeepsExtents u) (others_begin t rows row row.part.span.first i m (eq-eqb row.part.span.first row.part.span.first refl)) (keeps u rest (record {
      indexes = record {
        apart = apart_less row.number rows x.apart;
        order = order_less t rows row i m u.order.numbers order;
        places = omega arith;
        lists = subst (λ n. HaveRows (lists_of u) n rest) len (lists_less t rows row i m (lists_of u) lists);
        firsts = subst (IsKeyed first_key rest) (sym firsts) (keyed_less first_key rows row t.firsts.keys x.firsts m (one t rows row i m) (λ r k n e f. first_own r row k e f));
        edges = edges_less t rows row i m u.edges numbers chunks;
        slots = subst (λ v. All (λ r. part_at v.items r.number ≡ r.part) rest) (sym slots) (slots_less t rows row i m);
      };
      slots = slotted t u rows rest i.slots (sym len) (λ number.
          let new = ap (count_by (λ n. eqb n number)) free ∙ sum_by_push (λ n. bit (eqb n number)) t.free.items row.number in
          omega (arith, count_fewer t rows row i m number)) (omega (arith, fewer t rows row i m)) (omega arith);
    }))

-- there is one less
pub order_fewer : (t : Table) (row : Row) → IsRowTable t (rows_of t) → Contains (rows_of t) row → (numbers : List ℕ) → numbers ≡ filter (λ n. not (eqb n row.number)) t.order.numbers → length numbers + 1 ≡ length t.order.numbers
order_fewer t row i m numbers e =
    let all = ap length i.indexes.order ∙ length-map (rows_of t) (λ r. r.number) in
    let new = ap length (order_less t (rows_of t) row i m numbers e) ∙ length-map (others row.number (rows_of t)) (λ r. r.number) in
    let less = fewer t (rows_of t) row i m in
    omega arith

-- its first and its last page have leaves
pub leaves_there : (t : Table) (edges : Pages) (row : Row) → IsRowTable t (rows_of t) → Contains (rows_of t) row → edges.chunks ≡ t.edges.chunks → leaves_for edges row.part.span ≡ 0
leaves_there t edges row i m chunks = grind (arith, nat_tests)
