-- What searches find among extents that are apart, as functions cite it of a book that callers see as `now`.
use Rattle.part_book.proofs.Words.{◌≡◌, ℕ, ◌-◌, Bool, true, false, List, [], ◌∷◌, find, Option, None, Some, IfSome, refl, sym, ◌∙◌, ap, subst, arith, ◌&&◌, eqb, leb as nat_le, slice_get, Contains, and_parts, eq-eqb, nat_tests, Part, Span, IsPlaced, end_of, has_page, begins_at, ends_at, is_flight, is_flight_at, is_unused, fit, is_spare, is_beside, is_left_of, is_like, is_right_of, Book, IsApart, IsFirstFrom, IsThere, found_if, find_closer, find_is, found}
use Rattle.part_book.proofs.Parts.{begins_has, one_owner, placed}
use Rattle.space_model.proofs.Pieces.{fit-listed}

-- ---- what is found is there

-- at most one extent begins at a page, and at most one ends before it
one_begins : (parts : List Part) → IsApart parts → (page : ℕ) (x y : Part) → Contains parts x → Contains parts y → begins_at page x ≡ true → begins_at page y ≡ true → y ≡ x
one_begins parts apart page x y m n t u = one_owner parts apart page x y m n (begins_has x page (placed parts x apart m) t) (begins_has y page (placed parts y apart n) u)

one_ends : (parts : List Part) → IsApart parts → (page : ℕ) (x y : Part) → Contains parts x → Contains parts y → ends_at page x ≡ true → ends_at page y ≡ true → y ≡ x
one_ends parts apart page x y m n t u = one_owner parts apart (page - 1) x y m n (ends_has x (placed parts x apart m) t) (ends_has y (placed parts y apart n) u)
  where
    ends_has : (p : Part) → IsPlaced p.span → ends_at page p ≡ true → has_page (page - 1) p.span ≡ true
    ends_has p placed t = grind (arith, nat_tests)

-- an extent of a book is there
member_there : (parts : List Part) (p : Part) → IsApart parts → Contains parts p → IsThere parts p
member_there parts p apart m =
    let itself = eq-eqb p.span.first p.span.first refl in
    find_is (begins_at p.span.first) parts p m itself (λ q n t. one_begins parts apart p.span.first p q m n itself t)

pub found_there : (parts : List Part) (test : Part → Bool) (p : Part) → IsApart parts → find test parts ≡ Some p → IsThere parts p
found_there parts test p apart e = member_there parts p apart (found test parts p e).0

-- what begins at a page has it as its first one
pub found_first : (parts : List Part) (first : ℕ) (p : Part) → find (begins_at first) parts ≡ Some p → p.span.first ≡ first
found_first parts first p e = let t = (found (begins_at first) parts p e).1 in grind (arith, nat_tests, t)

-- what may be found is there, where each extent that may be is there inside
inside : {b now : Book} (o : Option Part) → b ≡ now → ((p : Part) → o ≡ Some p → IsThere b.parts p) → IfSome o (IsThere now.parts)
inside None view each = tt
inside (Some p) view each = subst (λ (x : Book). IsThere x.parts p) view (each p refl)

-- what a search found is there
pub found_inside : {b now : Book} {o : Option Part} (test : Part → Bool) → b ≡ now → IsApart b.parts → o ≡ find test b.parts → IfSome o (IsThere now.parts)
found_inside {b} {now} {o} test view apart e = inside o view (λ p is. found_there b.parts test p apart (sym e ∙ is))

-- so is the first one
pub first_inside : {b now : Book} {o : Option Part} → b ≡ now → IsApart b.parts → o ≡ slice_get b.parts 0 → IfSome o (IsThere now.parts)
first_inside {b} view apart e = found_inside (λ _. true) view apart (e ∙ first_found b.parts)
  where
    first_found : (parts : List Part) → slice_get parts 0 ≡ find (λ _. true) parts
    first_found [] = refl
    first_found (p ∷ ps) = refl

-- so is the unused extent that serves a request
pub fit_inside : {b now : Book} {o : Option Part} (pages align : ℕ) → b ≡ now → IsApart b.parts → o ≡ fit pages align b.parts → IfSome o (IsThere now.parts)
fit_inside {b} {now} {o} pages align view apart e = inside o view (λ p is. let l = fit-listed pages align b.parts p (sym e ∙ is) in found_there b.parts l.test p apart l.found)

-- so is the first one from a page on
pub from_inside : {b now : Book} (page : ℕ) (o : Option Part) → b ≡ now → IsApart b.parts → IfSome o (IsFirstFrom page b.parts) → IfSome o (IsThere now.parts)
from_inside {b} page o view apart e = inside o view (λ p is. let first = subst (λ u. IfSome u (IsFirstFrom page b.parts)) is e in member_there b.parts p apart first.listed)

-- ---- a search for one page

-- What was found inside by one test, and kept if it passes another, is what a search by both finds, and is there.
pub record Kept (got : Option Part) (both : Part → Bool) (now : Book) : Type 0 where
  pub found : got ≡ find both now.parts
  pub there : IfSome got (IsThere now.parts)

-- it is the only one that the first test can find
kept_inside : {b now : Book} {near got : Option Part} (a t both : Part → Bool) → b ≡ now → IsApart b.parts → ((x y : Part) → Contains b.parts x → Contains b.parts y → t x ≡ true → t y ≡ true → y ≡ x) → ((p : Part) → (a p && t p) ≡ both p) →
    near ≡ find t b.parts → got ≡ found_if a near → Kept got both now
kept_inside {b} {now} {near} {got} a t both view apart own same near_is got_is =
    let is : got ≡ find both b.parts = got_is ∙ by near (sym near_is) in
    record { found = is ∙ ap (λ (x : Book). find both x.parts) view; there = found_inside both view apart is }
  where
    closer : (x : Part) → Contains b.parts x → both x ≡ true → t x ≡ true
    closer x m h = (and_parts (a x) (t x) (same x ∙ h)).1

    by : (o : Option Part) → find t b.parts ≡ o → found_if a o ≡ find both b.parts
    by None e = sym (find_closer both t b.parts closer own None e)
    by (Some y) e = let h : t y ≡ true = (found t b.parts y e).1 in grind (arith, same y, h, find_closer both t b.parts closer own (Some y) e)

-- a client's extent in flight is the one at its first page, if that is the client's and as long
pub flight_inside : {b now : Book} {near got : Option Part} (client : ℕ) (s : Span) → b ≡ now → IsApart b.parts → near ≡ find (begins_at s.first) b.parts →
    got ≡ found_if (λ p. is_flight client p.state && eqb p.span.pages s.pages) near → Kept got (is_flight_at client s) now
flight_inside {b} client s view apart =
    kept_inside (λ p. is_flight client p.state && eqb p.span.pages s.pages) (begins_at s.first) (is_flight_at client s) view apart (one_begins b.parts apart s.first) (λ p. grind arith)

-- the unused extent that begins at a page is the one that begins there, if it is unused and has so many pages
pub spare_inside : {b now : Book} {near got : Option Part} (page pages : ℕ) → b ≡ now → IsApart b.parts → near ≡ find (begins_at page) b.parts →
    got ≡ found_if (λ p. is_unused p.state && nat_le pages p.span.pages) near → Kept got (is_spare page pages) now
spare_inside {b} page pages view apart =
    kept_inside (λ p. is_unused p.state && nat_le pages p.span.pages) (begins_at page) (is_spare page pages) view apart (one_begins b.parts apart page) (λ p. grind arith)

-- a neighbour that a merge may join is the extent beside, if it is alike
pub right_inside : {b now : Book} {near got : Option Part} (p : Part) → b ≡ now → IsApart b.parts → near ≡ find (is_beside p.span true) b.parts →
    got ≡ found_if (is_like p) near → Kept got (is_right_of p) now
right_inside {b} p view apart = kept_inside (is_like p) (is_beside p.span true) (is_right_of p) view apart (one_begins b.parts apart (end_of p.span)) (λ q. refl)

pub left_inside : {b now : Book} {near got : Option Part} (p : Part) → b ≡ now → IsApart b.parts → near ≡ find (is_beside p.span false) b.parts →
    got ≡ found_if (is_like p) near → Kept got (is_left_of p) now
left_inside {b} p view apart = kept_inside (is_like p) (is_beside p.span false) (is_left_of p) view apart (one_ends b.parts apart p.span.first) (λ q. refl)
