-- The lowest keys of a set, as a key comes or goes.
use Rattle.bin_book.proofs.Words.{◌≡◌, ◌≢◌, ℕ, ◌<◌, ◌≤◌, true, false, List, [], ◌∷◌, find, get_or, set, length, Option, Some, None, ◌⊎◌, inl, inr, refl, sym, ap, ◌∙◌, subst, arith, Contains, Less, MatchOption, IsStrictlySortedBy, cases_eq, get_or-set_other, get_or-set_same, Key, IsAscending, is_from, key_cmp, with_key, without_key, with_from, with_keeps, with_self, without_from, without_keeps, contains_cases, first_of, less_parts, start, start_from, every_member, AreLowest, IsLeast, IsLowest, found}

-- the first key from a start on is below each other one from there on
least : (ks : List Key) (first y x : Key) → IsAscending ks → find (is_from first) ks ≡ Some y → Contains ks x → is_from first x ≡ true → (y ≡ x) ⊎ (key_cmp y x ≡ Less)
unfolding IsStrictlySortedBy
least [] first y x s e m t = absurd (omega arith)
least (k ∷ ks) first y x s e m t = grind (arith, least ks first y x, every_member _ ks s.0 x, contains_cases k ks x m, e, t)

-- no key is found from the start of a number on, or one of a later number
pub none_lowest : (keys : List Key) (major : ℕ) → IsAscending keys → find (is_from (start major)) keys ≡ None → (k : Key) → Contains keys k → k.major ≢ major
none_lowest keys major s e k m at = grind (arith, first_of keys major k s m at, e)

pub later_lowest : (keys : List Key) (major : ℕ) (first : Key) → IsAscending keys → find (is_from (start major)) keys ≡ Some first → first.major ≢ major → (k : Key) → Contains keys k → k.major ≢ major
later_lowest keys major first s e other k m at = grind (arith, first_of keys major k s m at, e, other)

-- the first key of the number
pub first_lowest : (keys : List Key) (major : ℕ) (first : Key) → IsAscending keys → find (is_from (start major)) keys ≡ Some first → first.major ≡ major → IsLeast keys major first
first_lowest keys major first s e at = record {
  there = (found (is_from (start major)) keys first e).0;
  at = at;
  least = λ k m mine. grind (arith, least keys (start major) first k s e m (start_from k major (omega arith)), less_parts first k, mine);
}

-- the lowest key stays as another one comes that isn't lower
lowest_with : (keys : List Key) (key : Key) (major : ℕ) (o : Option Key) → IsLowest keys major o → (key.major ≡ major → (f : Key) × (o ≡ Some f) × (f.minor ≤ key.minor)) → IsLowest (with_key keys key) major o
lowest_with keys key major None i higher = λ k m at. grind (arith, with_from keys key k m, i k, at, higher)
lowest_with keys key major (Some f) i higher = record {
  there = with_keeps keys key f i.there;
  at = i.at;
  least = λ k m at. grind (arith, with_from keys key k m, i.least k, at, higher);
}

-- a lower one takes its place
lowest_new : (keys : List Key) (key : Key) (o : Option Key) → IsLowest keys key.major o → ((f : Key) → o ≡ Some f → key.minor ≤ f.minor) → IsLeast (with_key keys key) key.major key
lowest_new keys key None i lower = record { there = with_self keys key; at = refl; least = λ k m at. grind (arith, with_from keys key k m, i k, at) }
lowest_new keys key (Some f) i lower = record { there = with_self keys key; at = refl; least = λ k m at. grind (arith, with_from keys key k m, i.least k, lower f refl, at) }

-- and it stays as another one goes
lowest_without : (keys : List Key) (key : Key) (major : ℕ) (o : Option Key) → IsLowest keys major o → o ≢ Some key → IsLowest (without_key keys key) major o
lowest_without keys key major None i other = λ k m at. i k (without_from keys key k m).0 at
lowest_without keys key major (Some f) i other = record {
  there = without_keeps keys key f i.there (λ e. other (ap (λ k. Some k) e));
  at = i.at;
  least = λ k m at. i.least k (without_from keys key k m).0 at;
}

-- ---- of all classes

pub none_yet : (keys : List Key) (lows : List (Option Key)) → keys ≡ [] → ((class : ℕ) → class < 36 → get_or lows class None ≡ None) → AreLowest keys lows
none_yet keys lows e none class small = subst (IsLowest keys class) (sym (none class small)) (λ k m at. absurd (let no : Contains [] k = subst (λ ks. Contains ks k) e m in omega (arith, no.1)))

module _ (keys : List Key) (key : Key) (lows : List (Option Key)) (i : AreLowest keys lows) where
  pub stayed : ((class : ℕ) → class < 36 → key.major ≡ class → (f : Key) × (get_or lows class None ≡ Some f) × (f.minor ≤ key.minor)) → AreLowest (with_key keys key) lows
  stayed higher c low = lowest_with keys key c (get_or lows c None) (i c low) (higher c low)

  pub still : get_or lows key.major None ≢ Some key → AreLowest (without_key keys key) lows
  still other c low = lowest_without keys key c (get_or lows c None) (i c low) (λ e. other (subst (λ n. get_or lows n None ≡ Some key) (sym (subst (IsLowest keys c) e (i c low)).at) e))

  module _ (class : ℕ) (small : class < 36) (len : length lows ≡ 36) where
    -- where one class has another lowest key
    one_changed : (after : List Key) (o : Option Key) → IsLowest after class o → ((c : ℕ) → c < 36 → c ≢ class → IsLowest after c (get_or lows c None)) → AreLowest after (set lows class o)
    one_changed after o here others c low = elim (cases_eq c class) [
      | inl e ↦ rw (e, get_or-set_same lows class o None (omega arith)) here
      | inr ne ↦ subst (IsLowest after c) (sym (get_or-set_other lows class c o None ne)) (others c low ne)
    ]

    pub opened : key.major ≡ class → ((f : Key) → get_or lows class None ≡ Some f → key.minor ≤ f.minor) → AreLowest (with_key keys key) (set lows class (Some key))
    opened is lower = one_changed (with_key keys key) (Some key)
        (subst (λ m. IsLeast (with_key keys key) m key) is (lowest_new keys key (get_or lows class None) (subst (λ m. IsLowest keys m (get_or lows class None)) (sym is) (i class small)) lower))
        (λ c low ne. lowest_with keys key c (get_or lows c None) (i c low) (λ e. absurd (ne (sym e ∙ is))))

    pub sought : get_or lows class None ≡ Some key → (o : Option Key) → IsLowest (without_key keys key) key.major o → AreLowest (without_key keys key) (set lows class o)
    sought was o here =
        let is : key.major ≡ class = (subst (IsLowest keys class) was (i class small)).at in
        one_changed (without_key keys key) o (subst (λ m. IsLowest (without_key keys key) m o) is here)
        (λ c low ne. lowest_without keys key c (get_or lows c None) (i c low) (λ e. ne (sym (subst (IsLowest keys c) e (i c low)).at ∙ is)))

-- a key that isn't lower than the kept one
pub not_lower : (key : Key) (o : Option Key) → MatchOption o (false ≡ true) (λ f. (false ≡ true → key.minor < f.minor) × (key.minor < f.minor → false ≡ true)) → (f : Key) × (o ≡ Some f) × (f.minor ≤ key.minor)
not_lower key None p = absurd (cc)
not_lower key (Some f) p = (f, refl, grind (arith, p.1))
