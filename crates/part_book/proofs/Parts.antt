-- Extents of which no two have a page in common: what is found by a page.
use Rattle.part_book.proofs.Words.{◌≡◌, ℕ, ◌+◌, ◌<◌, ◌≤◌, true, false, cond, List, find, Option, Some, None, inl, inr, ap, ◌∙◌, arith, All, ltb, min, Contains, list_any, cases_Bool, false_from_ne_true, or_left, or_right, nat_tests, All-contains, All-weaker, list_any-from_Any, list_any_none, Part, Span, IsPlaced, end_of, has_page, meets, pages_end, begins_at, ends_at, IsApart, IsLastBelow, is_edge, all_from, find_closer, find_is, find_none, found, only_one}

pub placed : (parts : List Part) (p : Part) → IsApart parts → Contains parts p → IsPlaced p.span
placed parts p apart m = All-contains (λ q. IsPlaced q.span) parts p apart.placed m

-- a page has one extent
pub one_owner : (parts : List Part) → IsApart parts → (page : ℕ) (x y : Part) → Contains parts x → Contains parts y → has_page page x.span ≡ true → has_page page y.span ≡ true → y ≡ x
one_owner parts apart page x y m n t u = only_one (λ p. has_page page p.span) parts x y (apart.owners page) m n t u

pub begins_has : (p : Part) (page : ℕ) → IsPlaced p.span → begins_at page p ≡ true → has_page page p.span ≡ true
begins_has p page placed t = grind (arith, nat_tests)

pub edge_has : (p : Part) (page : ℕ) → IsPlaced p.span → is_edge page p ≡ true → has_page page p.span ≡ true
edge_has p page placed t = grind (arith, nat_tests)

-- a page is the first or the last one of one extent
pub one_edge : (parts : List Part) → IsApart parts → (page : ℕ) (x y : Part) → Contains parts x → Contains parts y → is_edge page x ≡ true → is_edge page y ≡ true → y ≡ x
one_edge parts apart page x y m n t u = one_owner parts apart page x y m n (edge_has x page (placed parts x apart m) t) (edge_has y page (placed parts y apart n) u)

-- which has that page
pub held_by_edge : (parts : List Part) (page : ℕ) (p : Part) → IsApart parts → find (is_edge page) parts ≡ Some p → find (λ q. has_page page q.span) parts ≡ Some p
held_by_edge parts page p apart e =
    let is = found (is_edge page) parts p e in
    let has = edge_has p page (placed parts p apart is.0) is.1 in
    find_is (λ q. has_page page q.span) parts p is.0 has (λ y m u. one_owner parts apart page p y is.0 m has u)

-- the extent that begins at a page is the one with this edge, or none
pub begins_by_edge : (parts : List Part) (page : ℕ) → IsApart parts → (o : Option Part) → find (is_edge page) parts ≡ o → find (begins_at page) parts ≡ elim o [ None ↦ None | Some p ↦ cond (begins_at page p) (Some p) None ]
begins_by_edge parts page apart o e = find_closer (begins_at page) (is_edge page) parts (λ p m t. or_left (begins_at page p) (ends_at (page + 1) p) t) (one_edge parts apart page) o e

-- and so is the one that ends before the next page
pub ends_by_edge : (parts : List Part) (last page : ℕ) → last + 1 ≡ page → IsApart parts → (o : Option Part) →
    find (is_edge last) parts ≡ o → find (ends_at page) parts ≡ elim o [ None ↦ None | Some p ↦ cond (ends_at page p) (Some p) None ]
ends_by_edge parts last page next apart o e = find_closer (ends_at page) (is_edge last) parts (λ p m t. rw next (or_right (begins_at last p) (ends_at page p) t)) (one_edge parts apart last) o e

-- none ends before page 0
pub none_ends : (parts : List Part) (page : ℕ) → IsApart parts → page < 1 → find (ends_at page) parts ≡ None
none_ends parts page apart l = find_none (ends_at page) parts (λ p m. let some = placed parts p apart m in grind (arith, nat_tests))

-- ---- the last extent that begins below a page

-- one that begins below the page and has a page from there on is that one
pub last_owns : (parts : List Part) (p x : Part) (page other : ℕ) → IsApart parts → IsLastBelow page parts p → Contains parts x → x.span.first < page → page ≤ other + 1 → has_page other x.span ≡ true → x ≡ p
last_owns parts p x page other apart last m l le t =
    let up : x.span.first ≤ p.span.first = All-contains (λ q. q.span.first < page → q.span.first ≤ p.span.first) parts x last.last m l in
    let own : has_page p.span.first p.span ≡ true = let some = placed parts p apart last.listed in grind (arith, nat_tests) in
    let shared : has_page p.span.first x.span ≡ true = grind (arith, nat_tests) in
    one_owner parts apart p.span.first p x last.listed m own shared

-- the extent that has a page is the last one that begins at it or below, or none
pub held_by_last : (parts : List Part) (page : ℕ) (p : Part) → IsApart parts → IsLastBelow (page + 1) parts p → find (λ q. has_page page q.span) parts ≡ cond (has_page page p.span) (Some p) None
held_by_last parts page p apart last = elim (cases_Bool (has_page page p.span)) [
  | inl t ↦ rw t (find_is (λ q. has_page page q.span) parts p last.listed t (λ y m u. one_owner parts apart page p y last.listed m t u))
  | inr f ↦ rw f (find_none (λ q. has_page page q.span) parts (λ x m. false_from_ne_true (has_page page x.span) (λ t.
      let same = last_owns parts p x (page + 1) page apart last m (grind (arith, nat_tests)) (omega arith) t in
      let g : has_page page x.span ≡ false = ap (λ q. has_page page q.span) same ∙ f in cc)))
]

pub held_by_none : (parts : List Part) (page : ℕ) → All (λ p. page + 1 ≤ p.span.first) parts → find (λ q. has_page page q.span) parts ≡ None
held_by_none parts page above = find_none (λ q. has_page page q.span) parts (λ x m. let l = All-contains (λ p. page + 1 ≤ p.span.first) parts x above m in grind (arith, nat_tests))

-- a bound of 64 bits lies above all pages
pub clamped : (parts : List Part) (p : Part) (page : ℕ) → IsApart parts → IsLastBelow (min page 18446744073709551615) parts p → IsLastBelow page parts p
clamped parts p page apart last = grind (arith, nat_tests, all_from, placed)

pub clamped_none : (parts : List Part) (page : ℕ) → IsApart parts → All (λ p. min page 18446744073709551615 ≤ p.span.first) parts → All (λ p. page ≤ p.span.first) parts
clamped_none parts page apart above = grind (arith, nat_tests, all_from, placed)

-- the last extent that begins before a span ends meets it, or none does
pub met_by_last : (parts : List Part) (s : Span) (p : Part) → IsApart parts → IsLastBelow (end_of s) parts p → list_any (λ q. meets q.span s) parts ≡ ltb s.first (end_of p.span)
met_by_last parts s p apart last = elim (cases_Bool (ltb s.first (end_of p.span))) [
  | inl t ↦ rw t (list_any-from_Any (λ q. meets q.span s) parts (let at = last.listed in (at.0, p, at.1, at.2, grind (arith, nat_tests))))
  | inr f ↦ rw f (list_any_none (λ q. meets q.span s) parts (all_from (λ q. meets q.span s ≡ false) parts (λ q m. false_from_ne_true (meets q.span s) (λ t. other q m t f))))
]
  where
    other : (q : Part) → Contains parts q → meets q.span s ≡ true → ltb s.first (end_of p.span) ≡ false → ⊥
    other q m t f =
        let in_q = placed parts q apart m in
        let in_p = placed parts p apart last.listed in
        let under : q.span.first < end_of s = grind (arith, nat_tests) in
        let up : q.span.first ≤ p.span.first = All-contains (λ q. q.span.first < end_of s → q.span.first ≤ p.span.first) parts q last.last m under in
        grind (arith, nat_tests, one_owner parts apart p.span.first p q last.listed m)

pub met_by_none : (parts : List Part) (s : Span) → All (λ p. end_of s ≤ p.span.first) parts → list_any (λ q. meets q.span s) parts ≡ false
met_by_none parts s above = list_any_none (λ q. meets q.span s) parts (All-weaker (λ p. end_of s ≤ p.span.first) (λ q. meets q.span s ≡ false) (λ q l. grind (arith, nat_tests)) parts above)

-- none begins above all pages
pub none_begins : (parts : List Part) (page : ℕ) → IsApart parts → pages_end ≤ page → find (begins_at page) parts ≡ None
none_begins parts page apart far = find_none (begins_at page) parts (λ p m. let inside = placed parts p apart m in grind (arith, nat_tests))
