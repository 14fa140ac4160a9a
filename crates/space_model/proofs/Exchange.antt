-- What an exchange of extents does to sums, facts and filters, and that one extent alone begins at a page.
use Rattle.std.proofs.Common.{◌≡◌, ℕ, ◌+◌, ◌<◌, ◌≤◌, Bool, true, not, cond, List, [], ◌∷◌, Some, refl, ap, arith, All, filter, find}
use Rattle.space_model.proofs.Words.{sum_by, sum_by-append, sum_by-cons, sum_by-filter_both, All-append, All-filter, All-weaker, nat_tests, Part, has_page, exchanged, begins_at, holders}
pub use Rattle.space_model.proofs.Lists.{find_passes, find_has, find-le-sum_by, filter_nothing, filter-without, sum_by-either}
use Rattle.space_model.proofs.Lists.{all_sum_le, only_one}

-- a sum after an exchange
pub sum_by-exchanged : (f : Part → ℕ) (gone : Part → Bool) (parts pieces : List Part) →
    sum_by f (exchanged gone parts pieces) + sum_by f (filter gone parts) ≡ sum_by f parts + sum_by f pieces
sum_by-exchanged f gone parts pieces =
    omega (
      arith,
      sum_by-append f (filter (λ p. not (gone p)) parts) pieces,
      sum_by-filter_both gone (λ p. not (gone p)) (λ _. refl) f parts,
    )

-- what is true of all extents and of all pieces is true after the exchange
pub All-exchanged : (P : Part → Type 0) (gone : Part → Bool) (parts pieces : List Part) →
    All P parts → All P pieces → All P (exchanged gone parts pieces)
All-exchanged P gone parts pieces old new = All-append P _ _ (All-filter (λ p. not (gone p)) P parts old) new

-- an extent begins where it begins
begins_itself : (p : Part) → begins_at p.span.first p ≡ true
begins_itself p = grind (arith, nat_tests)

-- 1 where the extent has the page
abbrev pub share : ℕ → Part → ℕ
share page p = cond (has_page page p.span) 1 0

-- where extents don't meet, one that is found is the only one that begins where it does
pub filter-begins_at : (test : Part → Bool) (parts : List Part) (p : Part) → All (λ q. 0 < q.span.pages) parts →
    holders p.span.first parts ≤ 1 → find test parts ≡ Some p → filter (begins_at p.span.first) parts ≡ p ∷ []
filter-begins_at test parts p some most e =
    let page : ℕ = p.span.first in
    let few = all_sum_le (λ q. cond (begins_at page q) 1 0) (share page) parts
    (All-weaker (λ q. 0 < q.span.pages) (λ q. cond (begins_at page q) 1 0 ≤ share page q) (λ q h. grind (arith, nat_tests)) parts some) in
    only_one (begins_at page) test parts p (omega (arith, few)) e (begins_itself p)

-- a sum after one extent is replaced by pieces
pub sum_by-replaced : (f : Part → ℕ) (test : Part → Bool) (parts pieces : List Part) (p : Part) →
    All (λ q. 0 < q.span.pages) parts → holders p.span.first parts ≤ 1 → find test parts ≡ Some p →
    sum_by f (exchanged (begins_at p.span.first) parts pieces) + f p ≡ sum_by f parts + sum_by f pieces
sum_by-replaced f test parts pieces p some most e =
    let gone = begins_at p.span.first in
    let one : sum_by f (filter gone parts) ≡ sum_by f (p ∷ []) = ap (sum_by f) (filter-begins_at test parts p some most e) in
    omega (arith, sum_by-exchanged f gone parts pieces, one, sum_by-cons f p [])
