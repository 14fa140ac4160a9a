-- The first key of a list that passes a test.
use Rattle.part_book.proofs.Words.{◌≡◌, ◌<◌, zero, Bool, true, false, List, [], ◌∷◌, length, filter, find, Some, Less, Equal, Greater, is_gt, inl, inr, sym, ap, ◌∙◌, subst, arith, Every, IsStrictlySortedBy, ordering_reverse, cases_Bool, tied_itself, Key, key_cmp, IsAscending, is_above, key_total, every_map, every_member, filter_all, contains_cases, contains_later, nat_tests}
use Rattle.std.specs.List.{Contains}

-- it is listed, passes, and none below it passes
pub find_some : (p : Key → Bool) (ks : List Key) (y : Key) → IsAscending ks → find p ks ≡ Some y → Contains ks y × (p y ≡ true) × ((k : Key) → Contains ks k → key_cmp k y ≡ Less → p k ≡ false)
unfolding IsStrictlySortedBy
find_some p [] y s e = cc
find_some p (x ∷ xs) y s e = elim (cases_Bool (p x)) [
  | inl t ↦
      let found : Some x ≡ Some y = rw t at e in
      let same : x ≡ y = cc in
      ((zero, omega arith, same), ap p (sym same) ∙ t, λ k m l. absurd (not_before k m (subst (λ z. key_cmp k z ≡ Less) (sym same) l)))
  | inr b ↦
      let p' = find_some p xs y s.1 (rw b at e) in
      (contains_later x xs y p'.0, p'.1, λ k m l. elim (contains_cases x xs k m) [ inl same ↦ ap p (sym same) ∙ b | inr d ↦ p'.2 k d l ])
]
  where
    not_before : (k : Key) → Contains (x ∷ xs) k → key_cmp k x ≡ Less → ⊥
    not_before k m l = grind (arith, contains_cases x xs k m, tied_itself key_total k, every_member _ xs s.0 k, key_total.antisymm k x, l)

-- fewer keys stand above the next key
pub fewer_above : (ks : List Key) (q y : Key) → IsAscending ks → find (is_above q) ks ≡ Some y → length (filter (is_above y) ks) < length (filter (is_above q) ks)
unfolding IsStrictlySortedBy
fewer_above [] q y s e = cc
fewer_above (x ∷ xs) q y s e = elim (cases_Bool (is_above q x)) [
  | inl t ↦
      let found : Some x ≡ Some y = rw t at e in
      let same : x ≡ y = cc in
      let itself : is_above y x ≡ false = ap is_gt (subst (λ z. key_cmp x z ≡ Equal) same (tied_itself key_total x)) in
      let over : Every (λ k. is_above q k ≡ true) xs = every_map _ _ (λ k l. chain k l t) xs s.0 in
      let more : Every (λ k. is_above y k ≡ true) xs = every_map _ _ (λ k l. ap is_gt (subst (λ z. key_cmp k z ≡ Greater) same (key_total.antisymm k x ∙ ap ordering_reverse l))) xs s.0 in
      rw (t, itself, filter_all (is_above q) xs over, filter_all (is_above y) xs more) (omega arith)
  | inr b ↦
      let deep = fewer_above xs q y s.1 (rw b at e) in
      let p = find_some (is_above q) xs y s.1 (rw b at e) in
      let low : is_above y x ≡ false = ap is_gt (every_member _ xs s.0 y p.0) in
      rw (b, low) deep
]
  where
    chain : (k : Key) → key_cmp x k ≡ Less → is_above q x ≡ true → is_above q k ≡ true
    chain k l t = grind (arith, nat_tests, key_total)
