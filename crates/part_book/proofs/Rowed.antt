-- The extents of a table and their numbers: which are the same, and which share no page.
use Rattle.part_book.proofs.Words.{◌≢◌, ◌≡◌, ℕ, ◌*◌, ◌≤◌, Bool, true, false, not, eqb, List, [], ◌∷◌, ◌++◌, filter, length, count_by, inl, inr, refl, sym, ap, ◌∙◌, subst, arith, All, Contains, cases_lt, eq-eqb, false_from_ne_true, not-true, nat_tests, All-contains, All-filter, All-push, count_by-le-length, length-filter, sum_by, sum_by-cons, sum_by-le, sum_by-le-sum_by, sum_by_push, filter_from, Part, IsPlaced, has_page, meets, pages_end, Rest, begins_at, cond, is_active, is_listed, PageSums, ArePagesOf, active_pages, all_pages, parts_of, rows_of, Table, IsApart, Row, pages_of_rows, IsSlotted, IsRowTable, all_from, bit, count_kept, count_map, count_none, filter_map_is, filter_same, map_from, map_has, only_one}
use Rattle.part_book.proofs.Indexes.{parts_in}
use Rattle.part_book.proofs.Parts.{begins_has, placed}

pub row_placed : (rows : List Row) (r : Row) → IsApart (parts_in rows) → Contains rows r → IsPlaced r.part.span
row_placed rows r apart m = placed (parts_in rows) r.part apart (map_has (λ row. row.part) rows r m)

-- the pages of an extent, and those that serve regions
abbrev pub pages_of_row : Row → ℕ
pages_of_row r = r.part.span.pages

abbrev pub serving_of : Row → ℕ
serving_of r = cond (is_active r.part.state) r.part.span.pages 0

-- the extents of a rest have no more pages than so many extents can have
pub pages_most : (rest : Rest) (rows : List Row) → IsApart (parts_in rows) → pages_of_rows rest rows ≤ length rows * pages_end
pages_most rest rows apart =
    let test : Row → Bool = λ r. is_listed rest r.part.state in
    let inside : All (λ r. r.part.span.pages ≤ pages_end) (filter test rows) = All-filter test (λ r. r.part.span.pages ≤ pages_end) rows (all_from (λ r. r.part.span.pages ≤ pages_end) rows (λ r m. let placed = row_placed rows r apart m in omega arith)) in
    omega (arith, sum_by-le (λ (r : Row). r.part.span.pages) pages_end (filter test rows) inside, length-filter test rows, count_by-le-length test rows)

-- nor have all together, and those that serve regions have no more than all
pub sums_most : (sums : PageSums) (rows : List Row) → IsApart (parts_in rows) → ArePagesOf sums rows → (sums.active ≤ sums.all) × (sums.all ≤ length rows * pages_end)
sums_most sums rows apart are =
    let inside : All (λ r. r.part.span.pages ≤ pages_end) rows = all_from (λ r. r.part.span.pages ≤ pages_end) rows (λ r m. let placed = row_placed rows r apart m in omega arith) in
    (omega (arith, are.all, are.active, sum_by-le-sum_by serving_of pages_of_row rows (λ r. grind arith)), omega (arith, are.all, sum_by-le pages_of_row pages_end rows inside))

-- the sums of a table are those of its extents
sum_parts : (f : Part → ℕ) (rows : List Row) → sum_by f (parts_in rows) ≡ sum_by (λ r. f r.part) rows
sum_parts f [] = refl
sum_parts f (r ∷ rows) = omega (arith, sum_parts f rows, sum_by-cons f r.part (parts_in rows), sum_by-cons (λ (x : Row). f x.part) r rows)

pub all_sum : (t : Table) → IsRowTable t (rows_of t) → t.sums.all ≡ all_pages (parts_of t)
all_sum t i = i.indexes.lists.sums.all ∙ sym (sum_parts (λ p. p.span.pages) (rows_of t))

pub active_sum : (t : Table) → IsRowTable t (rows_of t) → t.sums.active ≡ active_pages (parts_of t)
active_sum t i = i.indexes.lists.sums.active ∙ sym (sum_parts (λ p. cond (is_active p.state) p.span.pages 0) (rows_of t))

-- a page is that of one extent
pub one_row : (rows : List Row) → IsApart (parts_in rows) → (page : ℕ) (x y : Row) → Contains rows x → Contains rows y → has_page page x.part.span ≡ true → has_page page y.part.span ≡ true → y ≡ x
one_row rows apart page x y m n t u =
    let most = apart.owners page in
    let same = count_map (λ row. row.part) (λ p. has_page page p.span) rows in
    only_one (λ row. has_page page row.part.span) rows x y (omega arith) m n t u

-- a number is that of one extent
pub numbers_most : (t : Table) (rows : List Row) (number : ℕ) → IsSlotted t rows → count_by (λ row. eqb row.number number) rows ≤ 1
numbers_most t rows number i =
    let all = i.free number in
    grind (arith, nat_tests)

pub one_number : (t : Table) (rows : List Row) (x y : Row) → IsRowTable t rows → Contains rows x → Contains rows y → y.number ≡ x.number → y ≡ x
one_number t rows x y i m n e = only_one (λ row. eqb row.number x.number) rows x y (numbers_most t rows x.number i.slots) m n (eq-eqb x.number x.number refl) (eq-eqb y.number x.number e)

-- all extents but the one with a number
abbrev pub others : ℕ → List Row → List Row
others number rows = filter (λ row. not (eqb row.number number)) rows

pub other_row : (number : ℕ) (rows : List Row) (x : Row) → Contains (others number rows) x → Contains rows x × (x.number ≢ number)
other_row number rows x m =
    let p = filter_from (λ row. not (eqb row.number number)) rows x m in
    (p.0, λ e. (let no : true ≡ false = sym (eq-eqb x.number number e) ∙ not-true (eqb x.number number) p.1 in cc))

-- spans that meet share a page
pub share_page : (p q : Part) → IsPlaced p.span → IsPlaced q.span → meets p.span q.span ≡ true → (page : ℕ) × (has_page page p.span ≡ true) × (has_page page q.span ≡ true)
share_page p q placed_p placed_q t =
    elim (cases_lt p.span.first q.span.first) [
      | inl l ↦ (q.span.first, grind (arith, nat_tests), grind (arith, nat_tests))
      | inr g ↦ (p.span.first, grind (arith, nat_tests), grind (arith, nat_tests))
    ]

-- and the other way round
pub page_meets : (p q : Part) (page : ℕ) → has_page page p.span ≡ true → has_page page q.span ≡ true → meets p.span q.span ≡ true
page_meets p q page t u = grind (arith, nat_tests)

-- ---- one more extent

pub apart_more : (parts : List Part) (p : Part) → IsApart parts → IsPlaced p.span → All (λ q. meets q.span p.span ≡ false) parts → IsApart (parts ++ p ∷ [])
apart_more parts p apart in_space none = record {
  placed = All-push (λ q. IsPlaced q.span) parts p apart.placed in_space;
  owners = λ page.
      let sum = sum_by_push (λ q. bit (has_page page q.span)) parts p in
      let most = apart.owners page in
      let nobody : has_page page p.span ≡ true → count_by (λ q. has_page page q.span) parts ≡ 0 =
      (λ t. count_none (λ q. has_page page q.span) parts (λ q m. grind (arith, page_meets q p page, t, All-contains (λ q. meets q.span p.span ≡ false) parts q none m))) in
      grind (arith, sum, most, nobody);
}

-- ---- one extent less

pub apart_less : (number : ℕ) (rows : List Row) → IsApart (parts_in rows) → IsApart (parts_in (others number rows))
apart_less number rows apart = record {
  placed = all_from (λ p. IsPlaced p.span) (parts_in (others number rows)) (λ p m.
      let r = map_from (λ row. row.part) (others number rows) p m in
      subst (λ q. IsPlaced q.span) r.2 (row_placed rows r.0 apart (other_row number rows r.0 r.1).0));
  owners = λ page.
      let most = apart.owners page in
      let all = count_map (λ row. row.part) (λ p. has_page page p.span) rows in
      let rest = count_map (λ row. row.part) (λ p. has_page page p.span) (others number rows) in
      let kept = count_kept (λ row. not (eqb row.number number)) (λ row. has_page page row.part.span) rows in
      omega arith;
}

-- the extents but one are those that begin elsewhere
pub others_begin : (t : Table) (rows : List Row) (r : Row) (first : ℕ) → IsRowTable t rows → Contains rows r → begins_at first r.part ≡ true → parts_in (others r.number rows) ≡ filter (λ p. not (begins_at first p)) (parts_in rows)
others_begin t rows r first i m b =
    ap parts_in (filter_same (λ row. not (eqb row.number r.number)) (λ row. not (begins_at first row.part)) rows (λ x n. ap not (same x n)))
    ∙ sym (filter_map_is (λ row. row.part) (λ p. not (begins_at first p)) rows)
  where
    same : (x : Row) → Contains rows x → eqb x.number r.number ≡ begins_at first x.part
    same x n = grind (
      arith,
      nat_tests,
      one_number t rows r x i m n,
      one_row rows i.indexes.apart first r x m n (begins_has r.part first (row_placed rows r i.indexes.apart m) b),
      begins_has x.part first (row_placed rows x i.indexes.apart n),
      b,
    )

-- the extents but one don't meet it
pub others_apart : (t : Table) (rows : List Row) (r : Row) → IsRowTable t rows → Contains rows r → All (λ p. meets p.span r.part.span ≡ false) (parts_in (others r.number rows))
others_apart t rows r i m = all_from (λ p. meets p.span r.part.span ≡ false) (parts_in (others r.number rows)) (λ p n.
    let x = map_from (λ row. row.part) (others r.number rows) p n in
    let o = other_row r.number rows x.0 x.1 in
    ap (λ (q : Part). meets q.span r.part.span) (sym x.2) ∙ false_from_ne_true (meets x.0.part.span r.part.span) (λ t'.
    let page = share_page x.0.part r.part (row_placed rows x.0 i.indexes.apart o.0) (row_placed rows r i.indexes.apart m) t' in
    absurd (o.1 (ap (λ (y : Row). y.number) (one_row rows i.indexes.apart page.0 r x.0 m o.0 page.2 page.1)))))
