-- What the order of keys says of their numbers.
use Rattle.ordered_set.proofs.Words.{nat_tests, ◌≡◌, ℕ, ◌<◌, ◌≤◌, suc, zero, true, false, List, [], ◌∷◌, Some, Ordering, Less, Equal, Greater, nat_cmp, ◌⊎◌, inl, inr, refl, ap, ◌∙◌, subst, arith, length, slice_get, ◌-◌, Contains, Every, IsStrictlySortedBy, ordering_then, MatchOrdering, cases_Bool, cases_order, not-true, lt-ltb, ranked, Key, key_cmp, IsAscending, is_from, last_of}
use Rattle.std.proofs.Common.{find}
use Rattle.ordered_set.proofs.Sorted.{every_member, less_from_lt}
use Rattle.ordered_set.proofs.Members.{contains_cases, contains_later}

rank : (m n : ℕ) (r : Ordering) → nat_cmp m n ≡ r → MatchOrdering r (m < n) (m ≡ n) (n < m)
rank m n r e = subst (λ o. MatchOrdering o (m < n) (m ≡ n) (n < m)) e (ranked m n (nat_cmp m n) refl)

-- a key comes before another by its major number, or at equal ones by its minor number
pub less_parts : (a b : Key) → key_cmp a b ≡ Less → (a.major < b.major) ⊎ ((a.major ≡ b.major) × (a.minor < b.minor))
unfolding key_cmp
less_parts a b e = grind (arith, nat_tests)

-- and the other way round
pub less_from_parts : (a b : Key) → (a.major < b.major) ⊎ ((a.major ≡ b.major) × (a.minor < b.minor)) → key_cmp a b ≡ Less
unfolding key_cmp
less_from_parts a b (inl l) = rw (lt-ltb a.major b.major l)
less_from_parts a b (inr p) = by (nat_cmp a.major b.major) refl
  where
    by : (r : Ordering) → nat_cmp a.major b.major ≡ r → ordering_then (nat_cmp a.major b.major) (nat_cmp a.minor b.minor) ≡ Less
    by Less f = absurd (let l = rank a.major b.major Less f in omega (arith, p.0))
    by Equal f = rw (f, lt-ltb a.minor b.minor p.1)
    by Greater f = absurd (let l = rank a.major b.major Greater f in omega (arith, p.0))

pub less_major : (a b : Key) → key_cmp a b ≡ Less → a.major ≤ b.major
less_major a b e = elim (less_parts a b e) [ inl l ↦ omega arith | inr p ↦ omega (arith, p.0) ]

-- the first key of a major number
abbrev pub start : ℕ → Key
start major = record { major = major; minor = 0 }

pub from_start : (k : Key) (major : ℕ) → is_from (start major) k ≡ true → major ≤ k.major
from_start k major t = grind (arith, nat_tests, cases_order, less_from_parts, not-true)

pub start_from : (k : Key) (major : ℕ) → major ≤ k.major → is_from (start major) k ≡ true
start_from k major le = grind (arith, nat_tests, cases_Bool, less_from_lt, less_parts)

-- where some key has this major number, the first key from its start on has it too
pub first_of : (ks : List Key) (major : ℕ) (x : Key) → IsAscending ks → Contains ks x → x.major ≡ major → (y : Key) × (find (is_from (start major)) ks ≡ Some y) × Contains ks y × (y.major ≡ major)
unfolding IsStrictlySortedBy
first_of [] major x s (k, l, e) f = absurd (omega arith)
first_of (k ∷ ks) major x s m f = elim (cases_Bool (is_from (start major) k)) [
  | inl t ↦ (k, rw t, (zero, omega arith, refl), same t (contains_cases k ks x m))
  | inr b ↦
      let p = first_of ks major x s.1 (later b (contains_cases k ks x m)) f in
      (p.0, rw b p.1, contains_later k ks p.0 p.2, p.3)
]
  where
    same : is_from (start major) k ≡ true → (k ≡ x) ⊎ Contains ks x → k.major ≡ major
    same t (inl e) = ap (λ y. y.major) e ∙ f
    same t (inr d) = let low = from_start k major t in let high = less_major k x (every_member _ ks s.0 x d) in omega arith

    later : is_from (start major) k ≡ false → (k ≡ x) ⊎ Contains ks x → Contains ks x
    later b (inl e) = absurd (let t = start_from k major (let g : k.major ≡ major = ap (λ y. y.major) e ∙ f in omega arith) in cc)
    later b (inr d) = d

-- a key with a lower major number comes before another
pub major_less : (a b : Key) → a.major < b.major → key_cmp a b ≡ Less
unfolding key_cmp
major_less a b l = rw (lt-ltb a.major b.major l)

-- the last key has the greatest major number
pub last_greatest : (ks : List Key) (last : Key) → IsAscending ks → Some last ≡ last_of ks → Every (λ k. k.major ≤ last.major) ks
unfolding IsStrictlySortedBy
last_greatest [] last s e = tt
last_greatest (k ∷ []) last s e =
    let same : Some last ≡ Some k = e in
    let one : last ≡ k = cc in
    (let m = ap (λ (y : Key). y.major) one in omega arith, tt)
last_greatest (k ∷ (l ∷ ks)) last s e =
    let place : length (k ∷ (l ∷ ks)) - 1 ≡ suc (length (l ∷ ks) - 1) = omega arith in
    let deep = last_greatest (l ∷ ks) last s.1 (e ∙ ap (slice_get (k ∷ (l ∷ ks))) place) in
    (let first = less_major k l s.0.0 in let more = deep.0 in omega arith, deep)
