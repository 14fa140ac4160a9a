-- Rings that get a place or lose one.
use Rattle.std.proofs.Common.{◌≡◌, ◌≢◌, ℕ, zero, suc, ◌+◌, ◌-◌, ◌<◌, ◌≤◌, Bool, true, false, cond, not, eqb, List, [], ◌∷◌, ◌++◌, length, length-append, map, filter, slice_get, Some, inl, inr, refl, sym, ap, ◌∙◌, subst, arith, All, Contains}
use Rattle.std.specs.List.{AllByRecursion as Every, IsDistinct, list_any}
use Rattle.std.proofs.lemmas.Bool.{cases_Bool, eqb-true, eq-eqb, ne_eqb, not_from_false}
use Rattle.std.proofs.lemmas.Bool.Decides.{nat_tests}
use Rattle.std.proofs.lemmas.List.Elements.{Contains-push, recursion_from_All}
use Rattle.std.proofs.lemmas.Map.Steps.{length-le_from_distinct_below}
use Rattle.ordered_set.proofs.Members.{contains_cases, contains_later}
use Rattle.ordered_set.proofs.Sorted.{every_append, every_filter, every_map, every_member, filter_all}
use Rattle.age_ring.specs.declared.Link.{Link}
use Rattle.age_ring.specs.Links.{Differ, IsRing, Joined, link_at, next_of, prev_of, walk}
use Rattle.age_ring.specs.Rings.{ring_of}

-- joined places are those of the walk
pub walked : (next prev : ℕ → ℕ) (a : ℕ) (xs : List ℕ) (b : ℕ) → Joined next prev a xs b → walk next (length xs) (next a) ≡ xs
unfolding walk
walked next prev a [] b j = refl
walked next prev a (x ∷ xs) b j = rw j.0 (ap (λ ys. x ∷ ys) (walked next prev x xs b j.1.1))

pub length-walk : (next : ℕ → ℕ) (n at : ℕ) → length (walk next n at) ≡ n
unfolding walk
length-walk next zero at = refl
length-walk next (suc n) at = omega (arith, length-walk next n (next at))

-- different places, and one more
differ_more : (xs : List ℕ) (x : ℕ) → Differ xs → Every (λ y. y ≢ x) xs → Differ (xs ++ x ∷ [])
differ_more [] x d e = (tt, tt)
differ_more (y ∷ ys) x d e = (every_append (λ z. z ≢ y) ys (x ∷ []) d.0 ((λ s. e.0 (sym s)), tt), differ_more ys x d.1 e.1)

-- different places, and some less
differ_less : (p : ℕ → Bool) (xs : List ℕ) → Differ xs → Differ (filter p xs)
differ_less p [] d = tt
differ_less p (x ∷ xs) d = elim (cases_Bool (p x)) [
  | inl t ↦ rw t (every_filter (λ y. y ≢ x) p xs d.0, differ_less p xs d.1)
  | inr f ↦ rw f (differ_less p xs d.1)
]

module _ (next prev : ℕ → ℕ) where
  -- the place before the end is one of those before it
  end_has : (Q : ℕ → Type 0) (a : ℕ) (xs : List ℕ) (b : ℕ) → Q a → Every Q xs → Joined next prev a xs b → Q (prev b)
  end_has Q a [] b q _ j = subst Q (sym j.1) q
  end_has Q a (x ∷ xs) b q e j = end_has Q x xs b e.0 e.1 j.1.1

  -- the neighbours of a place are among the others or are the ends
  prev_has : (Q : ℕ → Type 0) (a : ℕ) (xs : List ℕ) (b x : ℕ) → Q a → Every Q xs → Joined next prev a xs b → Contains xs x → Q (prev x)
  prev_has Q a [] b x q e j (k, l, is) = absurd (omega arith)
  prev_has Q a (y ∷ ys) b x q e j m = elim (contains_cases y ys x m) [
    | inl same ↦ subst Q (sym (ap prev (sym same) ∙ j.1.0)) q
    | inr deep ↦ prev_has Q y ys b x e.0 e.1 j.1.1 deep
  ]

  first_has : (Q : ℕ → Type 0) (a : ℕ) (xs : List ℕ) (b : ℕ) → Every Q xs → Q b → Joined next prev a xs b → Q (next a)
  first_has Q a [] b e q j = subst Q (sym j.0) q
  first_has Q a (x ∷ xs) b e q j = subst Q (sym j.0) e.0

  next_has : (Q : ℕ → Type 0) (a : ℕ) (xs : List ℕ) (b x : ℕ) → Every Q xs → Q b → Joined next prev a xs b → Contains xs x → Q (next x)
  next_has Q a [] b x e q j (k, l, is) = absurd (omega arith)
  next_has Q a (y ∷ ys) b x e q j m = elim (contains_cases y ys x m) [
    | inl same ↦ subst (λ z. Q (next z)) same (first_has Q y ys b e.1 q j.1.1)
    | inr deep ↦ next_has Q y ys b x e.1 q j.1.1 deep
  ]

  module _ (next' prev' : ℕ → ℕ) where
    -- places whose links are as they were are joined as they were
    as_before : (a : ℕ) (xs : List ℕ) (b : ℕ) → next' a ≡ next a → Every (λ x. (next' x ≡ next x) × (prev' x ≡ prev x)) xs → prev' b ≡ prev b → Joined next prev a xs b → Joined next' prev' a xs b
    as_before a [] b n e p j = (n ∙ j.0, p ∙ j.1)
    as_before a (x ∷ xs) b n e p j = (n ∙ j.0, (e.0.1 ∙ j.1.0, as_before x xs b e.0.0 e.1 p j.1.1))

    -- a place before the end
    more : (a : ℕ) (xs : List ℕ) (b x : ℕ) → ((k : ℕ) → next' k ≡ cond (eqb k x) b (cond (eqb k (prev b)) x (next k))) → ((k : ℕ) → prev' k ≡ cond (eqb k b) x (cond (eqb k x) (prev b) (prev k))) →
        a ≢ x → b ≢ x → Every (λ k. k ≢ a) xs → Every (λ k. k ≢ b) xs → Every (λ k. k ≢ x) xs → Differ xs → Joined next prev a xs b → Joined next' prev' a (xs ++ x ∷ []) b
    more a [] b x n p ax bx of_a of_b of_x d j =
        let na = n a in let px = p x in let nx = n x in let pb = p b in
        let before : prev b ≡ a = j.1 in
        (grind (arith, nat_tests), (grind (arith, nat_tests), (grind (arith, nat_tests), grind (arith, nat_tests))))
    more a (y ∷ ys) b x n p ax bx of_a of_b of_x d j =
        let na = n a in let py = p y in
        let other : prev b ≢ a = end_has (λ k. k ≢ a) y ys b of_a.0 of_a.1 j.1.1 in
        let yb = of_b.0 in let yx = of_x.0 in
        (grind (arith, nat_tests, j.0), (grind (arith, nat_tests, j.1.0), more y ys b x n p of_x.0 bx d.0 of_b.1 of_x.1 d.1 j.1.1))

    -- a place between two goes
    skipped : (a x : ℕ) (xs : List ℕ) (b : ℕ) → ((k : ℕ) → next' k ≡ cond (eqb k (prev x)) (next x) (next k)) → ((k : ℕ) → prev' k ≡ cond (eqb k (next x)) (prev x) (prev k)) →
        prev x ≡ a → Every (λ k. k ≢ a) xs → Every (λ k. k ≢ b) xs → Differ xs → Joined next prev x xs b → Joined next' prev' a xs b
    skipped a x [] b n p before of_a of_b d j = (
      let na = n a in grind (arith, nat_tests, j.0),
      let pb = p b in grind (arith, nat_tests, j.0),
    )
    skipped a x (y ∷ ys) b n p before of_a of_b d j =
        let na = n a in let py = p y in let ny = n y in let pb = p b in
        let ya = of_a.0 in let yb = of_b.0 in let after : next x ≡ y = j.0 in (
          grind (arith, nat_tests),
          (
            grind (arith, nat_tests),
            as_before y ys b (grind (arith, nat_tests)) (both ys of_a.1 d.0) (grind (arith, nat_tests)) j.1.1,
          ),
        )
      where
        both : (zs : List ℕ) → Every (λ k. k ≢ a) zs → Every (λ k. k ≢ y) zs → Every (λ z. (next' z ≡ next z) × (prev' z ≡ prev z)) zs
        both [] u v = tt
        both (z ∷ zs) u v =
            let nz = n z in let pz = p z in let za = u.0 in let zy = v.0 in
            ((grind (arith, nat_tests, before), grind (arith, nat_tests, j.0)), both zs u.1 v.1)

    less : (a : ℕ) (xs : List ℕ) (b x : ℕ) → ((k : ℕ) → next' k ≡ cond (eqb k (prev x)) (next x) (next k)) → ((k : ℕ) → prev' k ≡ cond (eqb k (next x)) (prev x) (prev k)) →
        Every (λ k. k ≢ a) xs → Every (λ k. k ≢ b) xs → Differ xs → Contains xs x → Joined next prev a xs b → Joined next' prev' a (filter (λ k. not (eqb k x)) xs) b
    less a [] b x n p of_a of_b d (k, l, is) j = absurd (omega arith)
    less a (y ∷ ys) b x n p of_a of_b d m j = elim (cases_Bool (eqb y x)) [
      | inl t ↦
          let same = eqb-true y x t in
          let rest = filter_all (λ k. not (eqb k x)) ys (every_map (λ k. k ≢ y) (λ k. not (eqb k x) ≡ true) (λ k ne. not_from_false (eqb k x) (ne_eqb k x (λ e. ne (e ∙ sym same)))) ys d.0) in
          rw (t, rest) (skipped a x ys b n p (ap prev (sym same) ∙ j.1.0) of_a.1 of_b.1 d.1 (subst (λ z. Joined next prev z ys b) same j.1.1))
      | inr f ↦
          let deep : Contains ys x = elim (contains_cases y ys x m) [ inl e ↦ absurd (let t = eq-eqb y x e in cc) | inr d ↦ d ] in
          let na = n a in let py = p y in
          let first : prev x ≢ a = prev_has (λ k. k ≢ a) y ys b x of_a.0 of_a.1 j.1.1 deep in
          let second : next x ≢ y = next_has (λ k. k ≢ y) y ys b x d.0 (λ e. of_b.0 (sym e)) j.1.1 deep in
          rw f (grind (arith, nat_tests, j.0), (grind (arith, nat_tests, j.1.0), less y ys b x n p d.0 of_b.1 d.1 deep j.1.1))
    ]

-- ---- rings

-- a ring is what the walk gives
pub ring_walk : (next prev : ℕ → ℕ) (places : ℕ) (xs : List ℕ) (len : ℕ) → IsRing next prev places xs → length xs ≡ len → walk next len (next 0) ≡ xs
ring_walk next prev places xs len r e = subst (λ n. walk next n (next 0) ≡ xs) e (walked next prev 0 xs 0 r.joined)

-- the links of a ring, of which so many places are walked, show it
pub shows : (links : List Link) (len places : ℕ) (xs : List ℕ) → IsRing (next_of links) (prev_of links) places xs → length xs ≡ len →
    (ring_of links len ≡ xs) × IsRing (next_of links) (prev_of links) places (ring_of links len)
shows links len places xs r e =
    let same = ring_walk (next_of links) (prev_of links) places xs len r e in
    (same, subst (IsRing (next_of links) (prev_of links) places) (sym same) r)

-- a ring with a place more, after two joins
pub ring_more : (next prev next' prev' next'' prev'' : ℕ → ℕ) (places : ℕ) (xs : List ℕ) (x : ℕ) →
    ((k : ℕ) → next' k ≡ cond (eqb k (prev 0)) x (next k)) → ((k : ℕ) → prev' k ≡ cond (eqb k x) (prev 0) (prev k)) →
    ((k : ℕ) → next'' k ≡ cond (eqb k x) 0 (next' k)) → ((k : ℕ) → prev'' k ≡ cond (eqb k 0) x (prev' k)) →
    x ≢ 0 → x < places → Every (λ k. k ≢ x) xs → IsRing next prev places xs → IsRing next'' prev'' places (xs ++ x ∷ [])
ring_more next prev next' prev' next'' prev'' places xs x n p n' p' some inside new r = grind (arith, nat_tests, differ_more, every_append, more)

-- a ring with a place less, after its neighbours were joined
pub ring_less : (next prev next' prev' : ℕ → ℕ) (places : ℕ) (xs : List ℕ) (x : ℕ) →
    ((k : ℕ) → next' k ≡ cond (eqb k (prev x)) (next x) (next k)) → ((k : ℕ) → prev' k ≡ cond (eqb k (next x)) (prev x) (prev k)) →
    Contains xs x → IsRing next prev places xs → IsRing next' prev' places (filter (λ k. not (eqb k x)) xs)
ring_less next prev next' prev' places xs x n p m r = record {
  joined = less next prev next' prev' 0 xs 0 x n p r.above r.above r.differ m r.joined;
  differ = differ_less (λ k. not (eqb k x)) xs r.differ;
  above = every_filter (λ k. k ≢ 0) (λ k. not (eqb k x)) xs r.above;
  within = every_filter (λ k. k < places) (λ k. not (eqb k x)) xs r.within;
}

-- a ring whose links are read alike
pub ring_same : (next prev next' prev' : ℕ → ℕ) (places more : ℕ) (xs : List ℕ) → ((k : ℕ) → next' k ≡ next k) → ((k : ℕ) → prev' k ≡ prev k) → places ≤ more → IsRing next prev places xs → IsRing next' prev' more xs
ring_same next prev next' prev' places more xs n p le r = grind (arith, nat_tests, as_before, every_map)

-- the neighbours of a place, and of the place 0, are places
pub prev_inside : (next prev : ℕ → ℕ) (places : ℕ) (xs : List ℕ) (x : ℕ) → 0 < places → Contains xs x → IsRing next prev places xs → prev x < places
prev_inside next prev places xs x some m r = prev_has next prev (λ k. k < places) 0 xs 0 x some r.within r.joined m

pub next_inside : (next prev : ℕ → ℕ) (places : ℕ) (xs : List ℕ) (x : ℕ) → 0 < places → Contains xs x → IsRing next prev places xs → next x < places
next_inside next prev places xs x some m r = next_has next prev (λ k. k < places) 0 xs 0 x r.within some r.joined m

pub last_inside : (next prev : ℕ → ℕ) (places : ℕ) (xs : List ℕ) → 0 < places → IsRing next prev places xs → prev 0 < places
last_inside next prev places xs some r = end_has next prev (λ k. k < places) 0 xs 0 some r.within r.joined

-- different places are no more than there are
pub ring_fits : (next prev : ℕ → ℕ) (places : ℕ) (xs : List ℕ) → IsRing next prev places xs → length xs ≤ places
unfolding IsDistinct
ring_fits next prev places xs r = length-le_from_distinct_below xs places (distinct xs r.differ) (λ q t. inside xs r.within q t)
  where
    distinct : (ys : List ℕ) → Differ ys → IsDistinct eqb ys
    distinct [] d = tt
    distinct (y ∷ ys) d = (every_map (λ z. z ≢ y) (λ z. eqb y z ≡ false) (λ z ne. ne_eqb y z (λ e. ne (sym e))) ys d.0, distinct ys d.1)

    inside : (ys : List ℕ) → Every (λ k. k < places) ys → (q : ℕ) → list_any (eqb q) ys ≡ true → q < places
    inside [] e q t = absurd (cc)
    inside (y ∷ ys) e q t = elim (cases_Bool (eqb q y)) [
      | inl same ↦ let is = eqb-true q y same in let l = e.0 in omega arith
      | inr other ↦ inside ys e.1 q (rw other at t)
    ]

-- the place before the end is the last one
last_is : (next prev : ℕ → ℕ) (a x : ℕ) (xs : List ℕ) (b : ℕ) → Joined next prev a (x ∷ xs) b → (front : List ℕ) × (x ∷ xs ≡ front ++ prev b ∷ [])
last_is next prev a x [] b j = ([], ap (λ k. k ∷ []) (sym j.1.1.1))
last_is next prev a x (y ∷ ys) b j = let p = last_is next prev x y ys b j.1.1 in (x ∷ p.0, ap (λ ks. x ∷ ks) p.1)

-- and what is left without it are those before it
all_before : (front : List ℕ) (x : ℕ) → Differ (front ++ x ∷ []) → filter (λ k. not (eqb k x)) (front ++ x ∷ []) ≡ front
all_before [] x d = rw (eq-eqb x x refl) refl
all_before (y ∷ ys) x d =
    let other : x ≢ y = every_member (λ k. k ≢ y) (ys ++ x ∷ []) d.0 x (Contains-push ys x) in
    rw (ne_eqb y x (λ e. other (sym e))) (ap (λ ks. y ∷ ks) (all_before ys x d.1))

-- so the last place comes last where it is taken out and put back
pub last_stays : (next prev : ℕ → ℕ) (places : ℕ) (xs : List ℕ) (x : ℕ) → IsRing next prev places xs → Contains xs x → prev 0 ≡ x → filter (λ k. not (eqb k x)) xs ++ x ∷ [] ≡ xs
last_stays next prev places [] x r (k, l, is) e = absurd (omega arith)
last_stays next prev places (y ∷ ys) x r m e =
    let p = last_is next prev 0 y ys 0 r.joined in
    let all : y ∷ ys ≡ p.0 ++ x ∷ [] = p.1 ∙ ap (λ k. p.0 ++ k ∷ []) e in
    subst (λ ks. filter (λ k. not (eqb k x)) ks ++ x ∷ [] ≡ ks) (sym all) (ap (λ ks. ks ++ x ∷ []) (all_before p.0 x (subst Differ all r.differ)))

-- one less
pub length_less : (xs : List ℕ) (x : ℕ) → Differ xs → Contains xs x → length (filter (λ k. not (eqb k x)) xs) + 1 ≡ length xs
length_less [] x d (k, l, is) = absurd (omega arith)
length_less (y ∷ ys) x d m = elim (cases_Bool (eqb y x)) [
  | inl t ↦
      let same = eqb-true y x t in
      let rest = filter_all (λ k. not (eqb k x)) ys (every_map (λ k. k ≢ y) (λ k. not (eqb k x) ≡ true) (λ k ne. not_from_false (eqb k x) (ne_eqb k x (λ e. ne (e ∙ sym same)))) ys d.0) in
      rw (t, rest) (omega arith)
  | inr f ↦
      let deep : Contains ys x = elim (contains_cases y ys x m) [ inl e ↦ absurd (let t = eq-eqb y x e in cc) | inr n ↦ n ] in
      rw f (omega (arith, length_less ys x d.1 deep))
]

-- ---- the numbers of the places

-- a number that is new has a new place
pub new_place : (xs : List ℕ) (number : ℕ) → Every (λ n. n ≢ number) (map (λ k. k - 1) xs) → Every (λ k. k ≢ number + 1) xs
new_place [] number e = tt
new_place (x ∷ xs) number e = ((λ s. e.0 (omega arith)), new_place xs number e.1)

-- a number that is there has its place there
pub place_there : (xs : List ℕ) (number : ℕ) → Every (λ k. k ≢ 0) xs → Contains (map (λ k. k - 1) xs) number → Contains xs (number + 1)
place_there [] number e (k, l, is) = absurd (omega arith)
place_there (x ∷ xs) number e m = elim (contains_cases (x - 1) (map (λ k. k - 1) xs) number m) [
  | inl is ↦ (zero, omega arith, let some = e.0 in grind (arith, nat_tests))
  | inr deep ↦ contains_later x xs (number + 1) (place_there xs number e.1 deep)
]

-- the other numbers are those of the other places
pub numbers_less : (xs : List ℕ) (number : ℕ) → Every (λ k. k ≢ 0) xs → map (λ k. k - 1) (filter (λ k. not (eqb k (number + 1))) xs) ≡ filter (λ n. not (eqb n number)) (map (λ k. k - 1) xs)
numbers_less [] number e = refl
numbers_less (x ∷ xs) number e =
    let some = e.0 in
    let same : eqb (x - 1) number ≡ eqb x (number + 1) = grind (arith, nat_tests) in
    elim (cases_Bool (eqb x (number + 1))) [
      | inl t ↦ rw (same, t) (numbers_less xs number e.1)
      | inr f ↦ rw (same, f) (ap (λ ys. (x - 1) ∷ ys) (numbers_less xs number e.1))
    ]

-- a place without links more
pub blank_more : (links : List Link) (k : ℕ) → link_at (links ++ record { prev = 0; next = 0 } ∷ []) k ≡ link_at links k
blank_more [] zero = refl
blank_more [] (suc k) = refl
blank_more (x ∷ xs) zero = refl
blank_more (x ∷ xs) (suc k) = blank_more xs k

-- the first number
pub first_place : (links : List Link) (len places : ℕ) → IsRing (next_of links) (prev_of links) places (ring_of links len) → 0 < len →
    (0 < places) × (1 ≤ next_of links 0) × (slice_get (map (λ k. k - 1) (ring_of links len)) 0 ≡ Some (next_of links 0 - 1))
unfolding walk
first_place links zero places r some = absurd (omega arith)
first_place links (suc n) places r some = let above = r.above.0 in let within = r.within.0 in (omega arith, grind (arith, nat_tests), refl)

-- a number that is there
pub there : (links : List Link) (len places number : ℕ) → IsRing (next_of links) (prev_of links) places (ring_of links len) → Contains (map (λ k. k - 1) (ring_of links len)) number → Contains (ring_of links len) (number + 1)
there links len places number r m = place_there (ring_of links len) number r.above m

pub there_inside : (links : List Link) (len places number : ℕ) → IsRing (next_of links) (prev_of links) places (ring_of links len) → Contains (map (λ k. k - 1) (ring_of links len)) number → number + 1 < places
there_inside links len places number r m = every_member (λ k. k < places) (ring_of links len) r.within (number + 1) (there links len places number r m)

-- the links after two joins that put a number last
pub record IsMore (old mid new : List Link) (number : ℕ) : Type 0 where
  pub next : (k : ℕ) → next_of mid k ≡ cond (eqb k (prev_of old 0)) (number + 1) (next_of old k)
  pub prev : (k : ℕ) → prev_of mid k ≡ cond (eqb k (number + 1)) (prev_of old 0) (prev_of old k)
  pub next_last : (k : ℕ) → next_of new k ≡ cond (eqb k (number + 1)) 0 (next_of mid k)
  pub prev_last : (k : ℕ) → prev_of new k ≡ cond (eqb k 0) (number + 1) (prev_of mid k)

pub is_more : (old mid new : List Link) (len places number : ℕ) → IsMore old mid new number → IsRing (next_of old) (prev_of old) places (ring_of old len) → number + 1 < places →
    All (λ n. n ≢ number) (map (λ k. k - 1) (ring_of old len)) →
    (ring_of new (len + 1) ≡ ring_of old len ++ (number + 1) ∷ []) × IsRing (next_of new) (prev_of new) places (ring_of new (len + 1))
is_more old mid new len places number e r inside absent =
    let xs = ring_of old len in
    let fresh = new_place xs number (recursion_from_All (λ n. n ≢ number) (map (λ k. k - 1) xs) absent) in
    let some : number + 1 ≢ 0 = λ e. omega arith in
    shows new (len + 1) places (xs ++ (number + 1) ∷ [])
    (ring_more (next_of old) (prev_of old) (next_of mid) (prev_of mid) (next_of new) (prev_of new) places xs (number + 1) e.next e.prev e.next_last e.prev_last some inside fresh r)
    (omega (arith, length-append xs ((number + 1) ∷ []), length-walk (next_of old) len (next_of old 0)))

-- the links after a join over a number
pub record IsLess (old new : List Link) (number : ℕ) : Type 0 where
  pub next : (k : ℕ) → next_of new k ≡ cond (eqb k (prev_of old (number + 1))) (next_of old (number + 1)) (next_of old k)
  pub prev : (k : ℕ) → prev_of new k ≡ cond (eqb k (next_of old (number + 1))) (prev_of old (number + 1)) (prev_of old k)

pub is_less : (old new : List Link) (len places number : ℕ) → IsLess old new number → IsRing (next_of old) (prev_of old) places (ring_of old len) → Contains (ring_of old len) (number + 1) →
    (1 ≤ len) × (map (λ k. k - 1) (ring_of new (len - 1)) ≡ filter (λ n. not (eqb n number)) (map (λ k. k - 1) (ring_of old len))) × IsRing (next_of new) (prev_of new) places (ring_of new (len - 1))
is_less old new len places number e r m =
    let xs = ring_of old len in
    let fewer = length_less xs (number + 1) r.differ m in
    let all = length-walk (next_of old) len (next_of old 0) in
    let p = shows new (len - 1) places (filter (λ k. not (eqb k (number + 1))) xs) (ring_less (next_of old) (prev_of old) (next_of new) (prev_of new) places xs (number + 1) e.next e.prev m r) (omega arith) in
    (omega arith, ap (map (λ k. k - 1)) p.0 ∙ numbers_less xs number r.above, p.1)
