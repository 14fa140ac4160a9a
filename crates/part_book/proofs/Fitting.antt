-- The walk through the unused extents by size finds the one that fits best.
use Rattle.part_book.proofs.Words.{◌≡◌, ℕ, ◌+◌, ◌*◌, ◌-◌, ◌/◌, ◌%◌, ◌^◌, ◌<◌, ◌≤◌, Bool, true, false, ◌&&◌, eqb, List, [], ◌∷◌, length, count_by, cond, filter, find, slice_get, Some, None, Less, inl, inr, refl, sym, ap, ◌∙◌, subst, arith, sum_by, Contains, list_any, and_left, and_parts, cases_Bool, false_from_ne_true, not-true, nat_tests, list_any-from_Any, list_any_none, get_or-le-sum_by, sum_by-cons, mul-le, Key, IsAscending, is_above, is_from, key_cmp, key_tie, key_total, contains_later, filter_has, from_start, less_from_parts, less_major, start, start_from, Part, Rest, Span, State, IsPlaced, holds_run, is_listed, fit_of, is_best, is_better, is_candidate, IsApart, IsKeyed, Row, key_span, listed_in, numbers_of, pages_of_rows, rank, rank_of, ranked_key, size_key, all_from, find_is, find_none, head, map_from, map_has, mapped_some, none_found}
use Rattle.part_book.proofs.Walks.{find_some}
use Rattle.part_book.proofs.Indexes.{parts_in}
use Rattle.part_book.proofs.Parts.{one_owner, placed}
use Rattle.part_book.proofs.Rowed.{row_placed}

-- ---- runs

-- no multiple at or above a number is lower than this one
no_lower : (first align k : ℕ) → 0 < align → first ≤ k * align → (first + (align - 1)) / align * align ≤ k * align
no_lower first align k some le = grind (arith, mul-le (k + 1) align ((first + (align - 1)) / align) align, mul-le ((first + (align - 1)) / align) align k align, le)

-- the next multiple is where a run starts
pub next_multiple : (first align skipped : ℕ) → 0 < align → (k : ℕ) × (k * align ≡ first + skipped) → ((k : ℕ) → first ≤ k * align → first + skipped ≤ k * align) → first + skipped ≡ (first + (align - 1)) / align * align
next_multiple first align skipped some (k, e) least = grind (arith, nat_tests, no_lower)

-- a span that holds a run has no fewer pages
holds_pages : (s : Span) (pages align : ℕ) → 0 < align → holds_run pages align s ≡ true → pages ≤ s.pages
holds_pages s pages align some t = grind (arith, nat_tests)

-- ---- keys

-- an extent is listed for a rest where it stands there
listed_rank : (rest : Rest) (s : State) → is_listed rest s ≡ true → rank_of s ≡ Some (rank rest)
listed_rank rest s e = grind (arith, e)

rank_listed : (rest : Rest) (s : State) → rank_of s ≡ Some (rank rest) → is_listed rest s ≡ true
rank_listed rest s e = grind (arith, e)

-- whether the extent with a key is one of a rest and holds the run
abbrev pub serves : ℕ → ℕ → ℕ → Key → Bool
serves r pages align key = eqb (key.major / 2 ^ 32) r && holds_run pages align (key_span key)

pub serves_both : (r pages align : ℕ) (key : Key) → key.major / 2 ^ 32 ≡ r → holds_run pages align (key_span key) ≡ true → serves r pages align key ≡ true
serves_both r pages align key a b = grind (arith, nat_tests, a, b)

pub serves_not : (r pages align : ℕ) (key : Key) → holds_run pages align (key_span key) ≡ false → serves r pages align key ≡ false
serves_not r pages align key f = grind (arith, f)

-- no key below this one serves
abbrev pub NoneBelow : List Key → Key → ℕ → ℕ → ℕ → Type 0
NoneBelow ks key r pages align = (k : Key) → Contains ks k → key_cmp k key ≡ Less → serves r pages align k ≡ false

-- what the key of an extent says of it
pub record IsKeyOf (row : Row) (r : ℕ) (key : Key) : Type 0 where
  pub own : ranked_key row r ≡ key
  pub span : key_span key ≡ row.part.span
  pub rank : key.major / 2 ^ 32 ≡ r
  pub number : key.minor % 2 ^ 32 ≡ row.number

key_is : (row : Row) (r : ℕ) → IsPlaced row.part.span → row.number < 2 ^ 32 → IsKeyOf row r (ranked_key row r)
key_is row r inside small = grind (arith, nat_tests)

-- ---- the walk

-- a key before those of so many pages doesn't serve
too_small : (r pages align : ℕ) (k : Key) → 0 < align → k.major < r * 2 ^ 32 + pages → serves r pages align k ≡ false
too_small r pages align k some l = grind (arith, nat_tests, holds_pages (key_span k) pages align some)

small_below : (r pages align : ℕ) (k : Key) → 0 < align → is_from (start (r * 2 ^ 32 + pages)) k ≡ false → serves r pages align k ≡ false
small_below r pages align k some f = too_small r pages align k some (grind (arith, start_from k (r * 2 ^ 32 + pages), f))

pub none_at_start : (r pages align : ℕ) (ks : List Key) → 0 < align → find (is_from (start (r * 2 ^ 32 + pages))) ks ≡ None → (k : Key) → Contains ks k → serves r pages align k ≡ false
none_at_start r pages align ks some e k m = small_below r pages align k some (none_found (is_from (start (r * 2 ^ 32 + pages))) ks e k m)

-- what the walk knows of the key where it stands
pub record IsWalk (ks : List Key) (size : Key) (r pages align : ℕ) : Type 0 where
  pub listed : Contains ks size
  pub below : NoneBelow ks size r pages align
  pub from : r * 2 ^ 32 ≤ size.major

pub begins : (r pages align : ℕ) (ks : List Key) (y : Key) → 0 < align → IsAscending ks → find (is_from (start (r * 2 ^ 32 + pages))) ks ≡ Some y → IsWalk ks y r pages align
begins r pages align ks y some s e =
    let p = find_some (is_from (start (r * 2 ^ 32 + pages))) ks y s e in
    let from = from_start y (r * 2 ^ 32 + pages) p.1 in
    record { listed = p.0; below = λ k m l. small_below r pages align k some (p.2 k m l); from = omega arith }

-- a key that isn't above this one is below it or is it
not_above : (ks : List Key) (size : Key) (r pages align : ℕ) → NoneBelow ks size r pages align → serves r pages align size ≡ false → (k : Key) → Contains ks k → is_above size k ≡ false → serves r pages align k ≡ false
not_above ks size r pages align below here k m f = grind (arith, below k m, key_tie k size, here, f)

pub none_after : (r pages align : ℕ) (ks : List Key) (size : Key) → IsWalk ks size r pages align → serves r pages align size ≡ false → find (is_above size) ks ≡ None → (k : Key) → Contains ks k → serves r pages align k ≡ false
none_after r pages align ks size w here e k m = not_above ks size r pages align w.below here k m (none_found (is_above size) ks e k m)

pub goes_on : (r pages align : ℕ) (ks : List Key) (size y : Key) → IsAscending ks → IsWalk ks size r pages align → serves r pages align size ≡ false → find (is_above size) ks ≡ Some y → IsWalk ks y r pages align
goes_on r pages align ks size y s w here e =
    let p = find_some (is_above size) ks y s e in
    record { listed = p.0; below = λ k m l. not_above ks size r pages align w.below here k m (p.2 k m l); from = let up = above_major size y p.1 in let from = w.from in omega arith }
  where
    above_major : (a b : Key) → is_above a b ≡ true → a.major ≤ b.major
    above_major a b t = grind (arith, less_major a b, key_total.antisymm a b, t)

-- where the walk comes to another rest, none serves
pub none_of_others : (r pages align : ℕ) (ks : List Key) (size : Key) → IsWalk ks size r pages align → (size.major / 2 ^ 32 ≡ r → ⊥) → (k : Key) → Contains ks k → serves r pages align k ≡ false
none_of_others r pages align ks size w other k m = grind (arith, nat_tests, w.below k m, key_tie k size, less_major size k, key_total.antisymm size k, w.from, other)

-- ---- what is found

module _ (rest : Rest) (rows : List Row) (keys : List Key) (pages align : ℕ) (apart : IsApart (parts_in rows)) (small : (r : Row) → Contains rows r → r.number < 2 ^ 32) (keyed : IsKeyed size_key rows keys) (some : 0 < align) where
  -- an extent that may serve has a key that serves
  served : (x : Part) → Contains (parts_in rows) x → is_candidate rest pages align x ≡ true → (r : Row) × (r.part ≡ x) × Contains rows r × Contains keys (ranked_key r (rank rest)) × (serves (rank rest) pages align (ranked_key r (rank rest)) ≡ true)
  served x m t =
      let q = map_from (λ row. row.part) rows x m in
      let both = and_parts (is_listed rest x.state) (holds_run pages align x.span) t in
      let state = listed_rank rest q.0.part.state (ap (λ (z : Part). is_listed rest z.state) q.2 ∙ both.0) in
      let is = key_is q.0 (rank rest) (row_placed rows q.0 apart q.1) (small q.0 q.1) in
      let own : eqb ((ranked_key q.0 (rank rest)).major / 2 ^ 32) (rank rest) ≡ true = let e = is.rank in grind (arith, nat_tests) in
      let holds = ap (holds_run pages align) is.span ∙ ap (λ (z : Part). holds_run pages align z.span) q.2 ∙ both.1 in
      (q.0, q.2, q.1, keyed.has q.0 (ranked_key q.0 (rank rest)) q.1 (rw state refl), rw (own, holds) refl)

  -- no extent serves where no key does
  pub none_fits : ((k : Key) → Contains keys k → serves (rank rest) pages align k ≡ false) → fit_of rest pages align (parts_in rows) ≡ None
  none_fits none = find_none (is_best rest pages align (parts_in rows)) (parts_in rows) (λ p m. and_left (is_candidate rest pages align p) _ (false_from_ne_true (is_candidate rest pages align p) (λ t.
      let s = served p m t in
      let no = none (ranked_key s.0 (rank rest)) s.3 in
      let yes = s.4 in cc)))

  -- nor where the rest has too few pages
  pub too_few : pages_of_rows rest rows < pages → fit_of rest pages align (parts_in rows) ≡ None
  too_few l = find_none (is_best rest pages align (parts_in rows)) (parts_in rows) (λ p m. and_left (is_candidate rest pages align p) _ (false_from_ne_true (is_candidate rest pages align p) (λ t.
      let q = map_from (λ row. row.part) rows p m in
      let both = and_parts (is_listed rest p.state) (holds_run pages align p.span) t in
      let there = filter_has (λ r. is_listed rest r.part.state) rows q.0 q.1 (ap (λ (z : Part). is_listed rest z.state) q.2 ∙ both.0) in
      let held = holds_pages p.span pages align some both.1 in
      let same = ap (λ (z : Part). z.span.pages) q.2 in
      let part = ap (λ (r : Row). r.part.span.pages) there.2 in
      let sum = get_or-le-sum_by (λ (r : Row). r.part.span.pages) (listed_in rest rows) there.0 q.0 there.1 in
      omega arith)))

  -- an extent that isn't smaller, nor as small and at a lower page, is no better
  better_below : (y r : Row) → y.number < 2 ^ 32 → is_better y.part r.part ≡ true → key_cmp (ranked_key y (rank rest)) (ranked_key r (rank rest)) ≡ Less
  better_below y r l t = less_from_parts (ranked_key y (rank rest)) (ranked_key r (rank rest)) (grind (arith, nat_tests, l, t))

  -- of two extents that aren't better than one another both begin at one page
  same_first : (p q : Part) → is_better p q ≡ false → is_better q p ≡ false → p.span.first ≡ q.span.first
  same_first p q f g = grind (arith, nat_tests)

  any_member : {X : Type 0} (p : X → Bool) (xs : List X) (x : X) → list_any p xs ≡ false → Contains xs x → p x ≡ false
  any_member p xs x none (k, l, e) = false_from_ne_true (p x) (λ t. let some = list_any-from_Any p xs (k, x, l, e, t) in cc)

  -- the extent of the first key that serves is the one that fits best
  pub fits : (size : Key) → IsWalk keys size (rank rest) pages align → serves (rank rest) pages align size ≡ true → (r : Row) × Contains rows r × (r.number ≡ size.minor % 2 ^ 32) × (fit_of rest pages align (parts_in rows) ≡ Some r.part)
  fits size w t =
      let both = and_parts (eqb (size.major / 2 ^ 32) (rank rest)) (holds_run pages align (key_span size)) t in
      let q = keyed.from size w.listed in
      let r = q.0 in
      let key = mapped_some (ranked_key r) (rank_of r.part.state) size q.2 in
      let is = subst (IsKeyOf r key.0) key.2 (key_is r key.0 (row_placed rows r apart q.1) (small r q.1)) in
      let of : key.0 ≡ rank rest = let e = is.rank in let own = both.0 in grind (arith, nat_tests) in
      let own = map_has (λ row. row.part) rows r q.1 in
      let listed = rank_listed rest r.part.state (key.1 ∙ ap (λ n. Some n) of) in
      let holds = sym (ap (holds_run pages align) is.span) ∙ both.1 in
      let least = best r listed holds (ap (ranked_key r) (sym of) ∙ key.2) in
      (r, q.1, sym is.number, find_is (is_best rest pages align (parts_in rows)) (parts_in rows) r.part own least (alone r own least))
    where
      no_better : (r : Row) → ranked_key r (rank rest) ≡ size → (x : Part) → Contains (parts_in rows) x → (is_candidate rest pages align x && is_better x r.part) ≡ false
      no_better r e x m = false_from_ne_true (is_candidate rest pages align x && is_better x r.part) (λ t.
          let both = and_parts (is_candidate rest pages align x) (is_better x r.part) t in
          let y = served x m both.0 in
          let below = better_below y.0 r (small y.0 y.2) (ap (λ z. is_better z r.part) y.1 ∙ both.1) in
          let no = w.below (ranked_key y.0 (rank rest)) y.3 (subst (λ k. key_cmp (ranked_key y.0 (rank rest)) k ≡ Less) e below) in
          let yes = y.4 in cc)

      best : (r : Row) → is_listed rest r.part.state ≡ true → holds_run pages align r.part.span ≡ true → ranked_key r (rank rest) ≡ size → is_best rest pages align (parts_in rows) r.part ≡ true
      best r l h e =
          let better : Part → Bool = λ x. is_candidate rest pages align x && is_better x r.part in
          let none = list_any_none better (parts_in rows) (all_from (λ x. better x ≡ false) (parts_in rows) (no_better r e)) in
          rw (l, h, none) refl

      alone : (r : Row) → Contains (parts_in rows) r.part → is_best rest pages align (parts_in rows) r.part ≡ true → (p : Part) → Contains (parts_in rows) p → is_best rest pages align (parts_in rows) p ≡ true → p ≡ r.part
      alone r own t p m u =
          let a = and_parts (is_candidate rest pages align r.part) _ t in
          let b = and_parts (is_candidate rest pages align p) _ u in
          let f = any_member _ (parts_in rows) r.part (not-true _ b.1) own in
          let g = any_member _ (parts_in rows) p (not-true _ a.1) m in
          let first = same_first r.part p (rw a.0 at f) (rw b.0 at g) in
          let some_r = placed (parts_in rows) r.part apart own in
          let some_p = placed (parts_in rows) p apart m in
          one_owner (parts_in rows) apart r.part.span.first r.part p own m (grind (arith, nat_tests)) (grind (arith, nat_tests))

-- ---- the oldest, how many, and the pages

pub first_listed : (rest : Rest) (rows : List Row) (number : ℕ) → slice_get (numbers_of (listed_in rest rows)) 0 ≡ Some number → (r : Row) × Contains rows r × (r.number ≡ number) × (find (λ p. is_listed rest p.state) (parts_in rows) ≡ Some r.part)
first_listed rest [] number e = absurd (cc)
first_listed rest (r ∷ rows) number e = elim (cases_Bool (is_listed rest r.part.state)) [
  | inl t ↦ (r, head r rows, grind (arith, t, e), rw t refl)
  | inr f ↦ let deep = first_listed rest rows number (rw f at e) in (deep.0, contains_later r rows deep.0 deep.1, deep.2, rw f deep.3)
]

pub none_listed : (rest : Rest) (rows : List Row) → slice_get (numbers_of (listed_in rest rows)) 0 ≡ None → find (λ p. is_listed rest p.state) (parts_in rows) ≡ None
none_listed rest [] e = refl
none_listed rest (r ∷ rows) e = grind (arith, none_listed rest rows, e)

pub pages_listed : (rest : Rest) (rows : List Row) → pages_of_rows rest rows ≡ sum_by (λ p. p.span.pages) (filter (λ p. is_listed rest p.state) (parts_in rows))
pages_listed rest [] = refl
pages_listed rest (r ∷ rows) = grind (
  arith,
  pages_listed rest rows,
  sum_by-cons (λ (x : Row). x.part.span.pages) r (listed_in rest rows),
  sum_by-cons (λ (p : Part). p.span.pages) r.part (filter (λ p. is_listed rest p.state) (parts_in rows)),
)

pub count_listed : (rest : Rest) (rows : List Row) → length (numbers_of (listed_in rest rows)) ≡ count_by (λ p. is_listed rest p.state) (parts_in rows)
count_listed rest [] = refl
count_listed rest (r ∷ rows) = grind (arith, count_listed rest rows, sum_by-cons (λ (p : Part). cond (is_listed rest p.state) 1 0) r.part (parts_in rows))

pub first_row : (rows : List Row) (number : ℕ) → slice_get (numbers_of rows) 0 ≡ Some number → (r : Row) × Contains rows r × (r.number ≡ number) × (slice_get (parts_in rows) 0 ≡ Some r.part)
first_row [] number e = absurd (cc)
first_row (r ∷ rows) number e = (r, head r rows, (let same : Some r.number ≡ Some number = e in cc), refl)

pub no_first : (rows : List Row) → slice_get (numbers_of rows) 0 ≡ None → slice_get (parts_in rows) 0 ≡ None
no_first [] e = refl
no_first (r ∷ rows) e = absurd (cc)
