-- Extents of which one is changed where it lies, and one more that meets none.
use Rattle.arena_core.proofs.Words.{◌≡◌, ℕ, ◌+◌, ◌≤◌, Bool, false, not, cond, List, [], ◌∷◌, filter, refl, sym, ap, subst, arith, All, list_any, sum_by, sum_by-cons, All-cons, All-nil, Part, IsPlaced, has_page, meets, begins_at, exchanged, holders, All-exchanged, find_has, share, sum_by-replaced, some_pages, IsApart, IsThere, get_or-le-sum_by, sum_by-filter_both, list_any_none, false_from_ne_true, get_or}
use Rattle.part_book.proofs.Rowed.{share_page}

-- an extent that is there lies in the space
pub there_placed : (parts : List Part) (p : Part) → IsApart parts → IsThere parts p → IsPlaced p.span
there_placed parts p apart there = find_has (λ q. IsPlaced q.span) (begins_at p.span.first) parts p apart.placed there

-- where no two extents share a page, none that begins elsewhere shares one with an extent that begins there alone
pub others_apart : (parts : List Part) (p : Part) → filter (begins_at p.span.first) parts ≡ p ∷ [] → ((page : ℕ) → holders page parts ≤ 1) →
    All (λ q. (page : ℕ) → share page q + share page p ≤ 1) (filter (λ q. not (begins_at p.span.first q)) parts)
others_apart parts p alone owners = λ k d h page.
    let t = begins_at p.span.first in
    let others : List Part = filter (λ q. not (t q)) parts in
    let own : sum_by (share page) (filter t parts) ≡ sum_by (share page) (p ∷ []) = ap (sum_by (share page)) alone in
    omega (arith, get_or-le-sum_by (share page) others k d h, own, sum_by-cons (share page) p [], sum_by-filter_both t (λ q. not (t q)) (λ _. refl) (share page) parts, owners page)

-- an extent that is changed where it lies shares no page with another
pub apart_changed : (parts : List Part) (p q : Part) → IsApart parts → IsThere parts p → q.span ≡ p.span → IsApart (exchanged (begins_at p.span.first) parts (q ∷ []))
apart_changed parts p q apart there same = record {
  placed = All-exchanged (λ x. IsPlaced x.span) (begins_at p.span.first) parts (q ∷ []) apart.placed (All-cons (λ x. IsPlaced x.span) q [] (subst IsPlaced (sym same) (there_placed parts p apart there)) (All-nil (λ x. IsPlaced x.span)));
  owners = λ page.
      let e : share page q ≡ share page p = ap (λ s. cond (has_page page s) 1 0) same in
      omega (arith, sum_by-replaced (share page) (begins_at p.span.first) parts (q ∷ []) p (some_pages parts apart.placed) (apart.owners p.span.first) there, e, sum_by-cons (share page) q [], apart.owners page);
}

-- where no page would be in two, none of the extents meets a new one of the space
pub none_meets : (parts : List Part) (p : Part) → All (λ q. IsPlaced q.span) parts → IsPlaced p.span → ((page : ℕ) → holders page parts + share page p ≤ 1) → list_any (λ q. meets q.span p.span) parts ≡ false
none_meets parts p placed inside owners =
    list_any_none (λ q. meets q.span p.span) parts (λ k d h. false_from_ne_true _ (λ t.
    let q : Part = get_or parts k d in
    let both = share_page q p (placed k d h) inside t in
    let own : share both.0 q ≡ 1 = ap (λ b. cond b 1 0) both.1 in
    let other : share both.0 p ≡ 1 = ap (λ b. cond b 1 0) both.2 in
    omega (arith, get_or-le-sum_by (share both.0) parts k d h, owners both.0, own, other)))

-- where none passes, all others are all
pub keeps_all : {X : Type 0} (t : X → Bool) (xs : List X) → filter t xs ≡ [] → filter (λ x. not (t x)) xs ≡ xs
keeps_all t [] none = refl
keeps_all t (x ∷ xs) none = grind (arith, keeps_all t xs)
