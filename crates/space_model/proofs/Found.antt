-- The extent that a client has in flight is found where the client left it: last.
use Rattle.std.proofs.Common.{◌≡◌, ℕ, ◌+◌, ◌<◌, ◌≤◌, Bool, true, false, not, cond, List, [], ◌∷◌, ◌++◌, Some, None, refl, ◌∙◌, ap, subst, arith, All, filter, find}
use Rattle.space_model.proofs.Words.{option_or, find-append, sum_by-append, sum_by-cons, All-head, nat_tests, Part, Space, Span, same_span, exchanged, holders, is_flight, is_flight_at, Sound, Flying}
use Rattle.space_model.proofs.Mixes.{mix_second, mixed_append}
use Rattle.space_model.proofs.Lists.{find_passes}
use Rattle.space_model.proofs.Exchange.{share}
use Rattle.space_model.proofs.Pieces.{both_true}
use Rattle.space_model.proofs.Settled.{some_pages}

-- spans with the same first page and pages are the same
pub span_is : (s t : Span) → same_span s t ≡ true → s ≡ t
span_is s t h = grind (arith, nat_tests)

-- what is found in flight has the span
pub found_span : (c : ℕ) (span : Span) (parts : List Part) (p : Part) → find (is_flight_at c span) parts ≡ Some p → (p.span ≡ span) × (is_flight c p.state ≡ true)
found_span c span parts p found =
    let passes = both_true (is_flight c p.state) (same_span p.span span) (find_passes (is_flight_at c span) parts p found) in
    (span_is p.span span passes.1, passes.0)

-- nothing in front of the last extent has its span, where no page has two extents
none_in_front : (c : ℕ) (q : Part) (front : List Part) → 0 < q.span.pages → holders q.span.first front + share q.span.first q ≤ 1 →
    find (is_flight_at c q.span) front ≡ None
none_in_front c q [] some most = refl
none_in_front c q (p ∷ front) some most = grind (arith, nat_tests, sum_by-cons (share q.span.first) p front, none_in_front c q front some)

-- the client's extent that comes last is the one that is found by its span
pub last_found : (c : ℕ) (t : Space) (front : List Part) (q : Part) → Sound t → t.parts ≡ front ++ q ∷ [] → is_flight c q.state ≡ true →
    find (is_flight_at c q.span) t.parts ≡ Some q
last_found c t front q sound is own =
    let page : ℕ = q.span.first in
    let some : All (λ p. 0 < p.span.pages) (front ++ q ∷ []) = subst (All (λ p. 0 < p.span.pages)) is (some_pages t.parts sound.placed) in
    let at_end : 0 < q.span.pages = All-head (λ p. 0 < p.span.pages) q [] (mix_second (λ p. 0 < p.span.pages) (mixed_append front (q ∷ [])) some) in
    let most : holders page front + share page q ≤ 1 =
    omega (arith, sound.owners page, ap (holders page) is, sum_by-append (share page) front (q ∷ []), sum_by-cons (share page) q []) in
    let none = none_in_front c q front at_end most in
    let passes : is_flight_at c q.span q ≡ true = grind (arith, nat_tests, own) in
    ap (find (is_flight_at c q.span)) is ∙ find-append (is_flight_at c q.span) front (q ∷ [])
    ∙ ap (λ o. option_or o (find (is_flight_at c q.span) (q ∷ []))) none
    ∙ ap (λ (b : Bool). cond b (Some q) None) passes

pub last_flies : (c : ℕ) (t : Space) (front : List Part) (q : Part) (b : Bool) → Sound t → t.parts ≡ front ++ q ∷ [] → is_flight c q.state ≡ true →
    q.committed ≡ b → Flying c t q.span b
last_flies c t front q b sound is own committed = record { part = q; found = last_found c t front q sound is own; committed = committed }

-- an extent that was found is found after others went, where these aren't what is looked for
pub find_kept : (test gone : Part → Bool) (parts pieces : List Part) (p : Part) → ((q : Part) → test q ≡ true → gone q ≡ false) →
    find test parts ≡ Some p → find test (exchanged gone parts pieces) ≡ Some p
find_kept test gone parts pieces p other found =
    find-append test (filter (λ q. not (gone q)) parts) pieces ∙ ap (λ o. option_or o (find test pieces)) (stays parts found)
  where
    stays : (parts : List Part) → find test parts ≡ Some p → find test (filter (λ q. not (gone q)) parts) ≡ Some p
    stays [] e = e
    stays (q ∷ qs) e = grind (arith, other q, stays qs)

-- the first extent that the client has in flight is found by its span
pub first_found : (c : ℕ) (parts : List Part) (p : Part) → find (λ q. is_flight c q.state) parts ≡ Some p → find (is_flight_at c p.span) parts ≡ Some p
first_found c [] p e = absurd (cc)
first_found c (q ∷ qs) p e = grind (arith, nat_tests, first_found c qs p)
