-- Lists whose keys rise: what has a key tells them apart.
use Rattle.std.proofs.Common.{◌++◌, zero, count_by, Contains, ◌≡◌, ◌≢◌, ℕ, suc, ◌+◌, ◌<◌, ◌≤◌, Bool, true, false, not, cond, List, [], ◌∷◌, filter, Option, None, Some, refl, sym, ◌∙◌, ap, subst, arith, eqb, eqb-true, ltb as nat_lt, inl, inr, ◌⊎◌}
use Rattle.std.specs.List.{AllByRecursion as Every, insert, position_or_len}
use Rattle.std.specs.Option.{option_map, option_or}
use Rattle.std.proofs.lemmas.List.Sums.{sum_by-cons}
use Rattle.std.proofs.lemmas.Bool.{cases_Bool, cases_order, false_from_ne_true}
use Rattle.std.proofs.lemmas.Bool.Decides.{nat_tests}
use Rattle.list_facts.proofs.Members.{bit, none_kept, uncounted, every_append, every_from, every_member, find_none, found as finds_member, head}
use Rattle.list_facts.specs.ByKey.{AreApart, AreBehind, AreDistinct, AreNew, IsRising, changed, found, has_key, inserted, landing}

module _ {A : Type 0} (key : A → ℕ) where
  -- ---- what has a key

  -- nothing has a key at or below the one behind which all are
  pub none_behind : (k low : ℕ) (xs : List A) → k ≤ low → AreBehind key low xs → found key k xs ≡ None
  none_behind k low [] le behind = refl
  none_behind k low (x ∷ xs) le behind = grind (arith, nat_tests, behind.0, none_behind k low xs le behind.1)

  pub behind_lower : (low k : ℕ) (xs : List A) → low ≤ k → AreBehind key k xs → AreBehind key low xs
  behind_lower low k [] le behind = tt
  behind_lower low k (x ∷ xs) le behind = (omega (arith, behind.0), behind_lower low k xs le behind.1)

  -- the first thing has its key
  pub first_found : (x : A) (xs : List A) → found key (key x) (x ∷ xs) ≡ Some x
  first_found x xs = grind (arith, nat_tests)

  -- a thing of another key is passed over
  pub later_found : (k : ℕ) (x : A) (xs : List A) → key x ≢ k → found key k (x ∷ xs) ≡ found key k xs
  later_found k x xs other = grind (arith, nat_tests)

  -- what is found has the key
  pub found_there : (k : ℕ) (xs : List A) (x : A) → found key k xs ≡ Some x → key x ≡ k
  found_there k [] x e = absurd (cc)
  found_there k (y ∷ ys) x e = grind (arith, nat_tests, found_there k ys x)

  -- ---- two rising lists in which the same is found are equal

  same_tails : (x : A) (xs ys : List A) → AreBehind key (key x) xs → AreBehind key (key x) ys → ((k : ℕ) → found key k (x ∷ xs) ≡ found key k (x ∷ ys)) → (k : ℕ) → found key k xs ≡ found key k ys
  same_tails x xs ys behind behind' same k =
      grind (arith, nat_tests, same k, none_behind k (key x) xs, none_behind k (key x) ys, behind, behind')

  pub same_finds : (xs ys : List A) → IsRising key xs → IsRising key ys → ((k : ℕ) → found key k xs ≡ found key k ys) → xs ≡ ys
  same_finds [] [] rising rising' same = refl
  same_finds [] (y ∷ ys) rising rising' same = grind (arith, nat_tests, same (key y))
  same_finds (x ∷ xs) [] rising rising' same = grind (arith, nat_tests, same (key x))
  same_finds (x ∷ xs) (y ∷ ys) rising rising' same =
      let is : x ≡ y = grind (arith, nat_tests, same (key x), same (key y), none_behind (key x) (key y) ys, none_behind (key y) (key x) xs, rising.0, rising'.0) in
      let tails = same_tails x xs ys rising.0 (subst (λ z. AreBehind key (key z) ys) (sym is) rising'.0) (λ k. same k ∙ ap (λ z. found key k (z ∷ ys)) (sym is)) in
      ap (λ z. z ∷ xs) is ∙ ap (λ zs. y ∷ zs) (same_finds xs ys rising.1 rising'.1 tails)

  -- ---- one more

  -- what is inserted stands before the first of a higher key
  before_higher : (x y : A) (ys : List A) → key x < key y → inserted key x (y ∷ ys) ≡ x ∷ y ∷ ys
  before_higher x y ys l = grind (arith, nat_tests)

  behind_lower_one : (x y : A) (ys : List A) → key y < key x → inserted key x (y ∷ ys) ≡ y ∷ inserted key x ys
  behind_lower_one x y ys l = grind (arith, nat_tests)

  behind_inserted : (k : ℕ) (x : A) (xs : List A) → k < key x → AreBehind key k xs → AreBehind key k (inserted key x xs)
  behind_inserted k x [] l behind = (l, tt)
  behind_inserted k x (y ∷ ys) l behind =
      let next : 1 + position_or_len (λ z. nat_lt (key x) (key z)) ys ≡ suc (position_or_len (λ z. nat_lt (key x) (key z)) ys) = omega arith in
      elim (nat_lt (key x) (key y)) as (λ b. AreBehind key k (insert (y ∷ ys) (cond (not b) (1 + position_or_len (λ z. nat_lt (key x) (key z)) ys) 0) x)) [
        | true ↦ (l, behind)
        | false ↦ rw next (behind.0, behind_inserted k x ys l behind.1)
      ]

  -- a thing whose key is free is found, and so is what was found
  pub record Inserted (x : A) (xs : List A) : Type 0 where
    pub rising : IsRising key (inserted key x xs)
    pub finds : (k : ℕ) → found key k (inserted key x xs) ≡ cond (eqb (key x) k) (Some x) (found key k xs)

  pub inserts : (x : A) (xs : List A) → IsRising key xs → found key (key x) xs ≡ None → Inserted x xs
  inserts x [] rising free = record { rising = (tt, tt); finds = λ k. refl }
  inserts x (y ∷ ys) rising free =
      elim (cases_order (key y) (key x)) [
        | inl e ↦ let here = sym (ap (λ k. found key k (y ∷ ys)) e) ∙ first_found y ys in absurd (cc)
        | inr o ↦ elim o [
          | inl l ↦
              let rest = inserts x ys rising.1 (sym (later_found (key x) y ys (λ e. omega (arith, e, l))) ∙ free) in
              record {
                rising = subst (IsRising key) (sym (behind_lower_one x y ys l)) (behind_inserted (key y) x ys l rising.0, rest.rising);
                finds = λ k. ap (found key k) (behind_lower_one x y ys l) ∙ grind (arith, nat_tests, rest.finds k);
              }
          | inr g ↦ record {
            rising = subst (IsRising key) (sym (before_higher x y ys g)) ((g, behind_lower (key x) (key y) ys (omega (arith, g)) rising.0), rising);
            finds = λ k. ap (found key k) (before_higher x y ys g);
          }
        ]
      ]

  -- ---- more

  pub rising_distinct : (xs : List A) → IsRising key xs → AreDistinct key xs
  rising_distinct [] rising = tt
  rising_distinct (x ∷ xs) rising = (none_behind (key x) (key x) xs (omega arith) rising.0, rising_distinct xs rising.1)

  still_new : (x : A) (come xs : List A) → found key (key x) come ≡ None → Inserted x xs → AreNew key come xs → AreNew key come (inserted key x xs)
  still_new x [] xs none put new = tt
  still_new x (y ∷ ys) xs none put new =
      let others : found key (key x) ys ≡ None = grind (arith, nat_tests) in
      (grind (arith, nat_tests, put.finds (key y), new.0), still_new x ys xs others put new.1)

  -- where no two have one key afterwards, what comes is distinct and new
  pub distinct_new : (come xs : List A) → ((k : ℕ) → count_by (has_key key k) xs + count_by (has_key key k) come ≤ 1) → AreDistinct key come × AreNew key come xs
  distinct_new [] xs alone = (tt, tt)
  distinct_new (x ∷ come) xs alone =
      let here = sum_by-cons (λ y. bit (has_key key (key x) y)) x come in
      let rest = distinct_new come xs (λ k. let s = sum_by-cons (λ y. bit (has_key key k y)) x come in let l = alone k in omega (arith, s, l)) in
      ((uncounted (has_key key (key x)) come (grind (arith, nat_tests, alone (key x), here)), rest.0), (uncounted (has_key key (key x)) xs (grind (arith, nat_tests, alone (key x), here)), rest.1))

  pub record Landed (come xs : List A) : Type 0 where
    pub rising : IsRising key (landing key come xs)
    pub finds : (k : ℕ) → found key k (landing key come xs) ≡ option_or (found key k come) (found key k xs)

  pub lands : (come xs : List A) → AreDistinct key come → IsRising key xs → AreNew key come xs → Landed come xs
  lands [] xs distinct rising new = record { rising = rising; finds = λ k. refl }
  lands (x ∷ come) xs distinct rising new =
      let put = inserts x xs rising new.0 in
      let rest = lands come (inserted key x xs) distinct.1 put.rising (still_new x come xs distinct.0 put new.1) in
      record { rising = rest.rising; finds = λ k. rest.finds k ∙ ap (option_or (found key k come)) (put.finds k) ∙ grind (arith, nat_tests, distinct.0) }

  -- ---- less

  behind_filter : (keep : A → Bool) (k : ℕ) (xs : List A) → AreBehind key k xs → AreBehind key k (filter keep xs)
  behind_filter keep k [] behind = tt
  behind_filter keep k (x ∷ xs) behind =
      elim (keep x) as (λ b. AreBehind key k (cond b (x ∷ filter keep xs) (filter keep xs))) [
        | true ↦ (behind.0, behind_filter keep k xs behind.1)
        | false ↦ behind_filter keep k xs behind.1
      ]

  pub rising_filter : (keep : A → Bool) (xs : List A) → IsRising key xs → IsRising key (filter keep xs)
  rising_filter keep [] rising = tt
  rising_filter keep (x ∷ xs) rising =
      elim (keep x) as (λ b. IsRising key (cond b (x ∷ filter keep xs) (filter keep xs))) [
        | true ↦ (behind_filter keep (key x) xs rising.0, rising_filter keep xs rising.1)
        | false ↦ rising_filter keep xs rising.1
      ]

  -- without what has a key, nothing of that key is found, and of another one what was found
  pub finds_without : (gone k : ℕ) (xs : List A) → found key k (filter (λ x. not (has_key key gone x)) xs) ≡ cond (eqb gone k) None (found key k xs)
  finds_without gone k [] = elim (eqb gone k) as (λ b. ◌≡◌ {A = Option A} None (cond b None None)) [ true ↦ refl | false ↦ refl ]
  finds_without gone k (x ∷ xs) = grind (arith, nat_tests, finds_without gone k xs)

  -- ---- a change that keeps the keys

  module _ (change : A → A) (keeps : (x : A) → key (change x) ≡ key x) where
    behind_changed : (test : A → Bool) (k : ℕ) (xs : List A) → AreBehind key k xs → AreBehind key k (changed test change xs)
    behind_changed test k [] behind = tt
    behind_changed test k (x ∷ xs) behind = (
      elim (test x) as (λ b. k < key (cond b (change x) x)) [ true ↦ omega (arith, keeps x, behind.0) | false ↦ behind.0 ],
      behind_changed test k xs behind.1,
    )

    pub rising_changed : (test : A → Bool) (xs : List A) → IsRising key xs → IsRising key (changed test change xs)
    rising_changed test [] rising = tt
    rising_changed test (x ∷ xs) rising = (
      elim (test x) as (λ b. AreBehind key (key (cond b (change x) x)) (changed test change xs)) [
        | true ↦ subst (λ k. AreBehind key k (changed test change xs)) (sym (keeps x)) (behind_changed test (key x) xs rising.0)
        | false ↦ behind_changed test (key x) xs rising.0
      ],
      rising_changed test xs rising.1,
    )

    -- what has the key is changed, and of another one is found what was found
    pub finds_changed : (at k : ℕ) (xs : List A) → found key k (changed (has_key key at) change xs) ≡ cond (eqb at k) (option_map change (found key k xs)) (found key k xs)
    finds_changed at k [] = elim (eqb at k) as (λ b. ◌≡◌ {A = Option A} None (cond b None None)) [ true ↦ refl | false ↦ refl ]
    finds_changed at k (x ∷ xs) = grind (arith, nat_tests, finds_changed at k xs, keeps x)

  -- ---- members

  -- a member is what is found by its key
  pub member_found : (xs : List A) (x : A) → IsRising key xs → Contains xs x → found key (key x) xs ≡ Some x
  member_found [] x rising m = absurd (omega arith)
  member_found (y ∷ ys) x rising (zero, l, e) = grind (arith, nat_tests, e)
  member_found (y ∷ ys) x rising (suc i, l, e) =
      let m : Contains ys x = (i, omega arith, e) in
      grind (arith, nat_tests, every_member (λ z. key y < key z) ys rising.0 x m, member_found ys x rising.1 m)

  pub found_member : (xs : List A) (k : ℕ) (x : A) → found key k xs ≡ Some x → Contains xs x × (key x ≡ k)
  found_member xs k x e = ((finds_member (has_key key k) xs x e).0, found_there k xs x e)

  -- nothing is found of a key that no member has
  pub not_found : (xs : List A) (k : ℕ) → ((x : A) → Contains xs x → key x ≢ k) → found key k xs ≡ None
  not_found xs k none = find_none (has_key key k) xs (λ x m. false_from_ne_true _ (λ e. none x m (eqb-true (key x) k e)))

  -- rising lists with the same members are equal
  pub same_members : (xs ys : List A) → IsRising key xs → IsRising key ys → ((x : A) → Contains xs x → Contains ys x) → ((x : A) → Contains ys x → Contains xs x) → xs ≡ ys
  same_members xs ys rising rising' there back = same_finds xs ys rising rising' (λ k. by k (found key k xs) refl)
    where
      by : (k : ℕ) (o : Option A) → found key k xs ≡ o → found key k xs ≡ found key k ys
      by k (Some x) e = let m = found_member xs k x e in e ∙ sym (member_found ys x rising' (there x m.0)) ∙ ap (λ j. found key j ys) m.1
      by k None e = e ∙ sym (not_found ys k (λ x m at. let is = ap (λ j. found key j xs) (sym at) ∙ member_found xs x rising (back x m) in let no : None ≡ Some x = sym e ∙ is in cc))

  pub behind_members : (k : ℕ) (xs : List A) → ((x : A) → Contains xs x → k < key x) → AreBehind key k xs
  behind_members k xs all = every_from (λ x. k < key x) xs all

  -- one rising list behind another one
  pub rising_both : (xs ys : List A) → IsRising key xs → IsRising key ys → ((x y : A) → Contains xs x → Contains ys y → key x < key y) → IsRising key (xs ++ ys)
  rising_both [] ys rising rising' less = rising'
  rising_both (x ∷ xs) ys rising rising' less = (
    every_append (λ z. key x < key z) xs ys rising.0 (every_from (λ z. key x < key z) ys (λ z m. less x z (head x xs) m)),
    rising_both xs ys rising.1 rising' (λ a b (i, l, e) n. less a b (suc i, omega arith, e) n),
  )

  -- what is found is all that has the key
  pub found_alone : (xs : List A) (k : ℕ) (x : A) → IsRising key xs → found key k xs ≡ Some x → filter (has_key key k) xs ≡ x ∷ []
  found_alone [] k x rising e = absurd (cc)
  found_alone (y ∷ ys) k x rising e =
      grind (arith, nat_tests, found_alone ys k x rising.1, none_kept (has_key key k) ys, (λ (le : k ≤ key y). none_behind k (key y) ys le rising.0))

  -- ---- one in place of another

  -- a list in which the key of a thing finds that thing, and another one what was found
  pub is_inserted : (x : A) (xs zs : List A) → IsRising key xs → IsRising key zs → ((k : ℕ) → found key k zs ≡ cond (eqb (key x) k) (Some x) (found key k xs)) → zs ≡ inserted key x (filter (λ y. not (has_key key (key x) y)) xs)
  is_inserted x xs zs rising rising' finds =
      let rest = filter (λ y. not (has_key key (key x) y)) xs in
      let put = inserts x rest (rising_filter (λ y. not (has_key key (key x) y)) xs rising) (grind (arith, nat_tests, finds_without (key x) (key x) xs)) in
      same_finds zs (inserted key x rest) rising' put.rising (λ k. finds k ∙ sym (put.finds k ∙ ap (cond (eqb (key x) k) (Some x)) (finds_without (key x) k xs) ∙ grind arith))

  -- what is found stands among the others
  pub taken_out : (xs : List A) (k : ℕ) (x : A) → IsRising key xs → found key k xs ≡ Some x → xs ≡ inserted key x (filter (λ y. not (has_key key k y)) xs)
  taken_out xs k x rising e =
      let at = found_there k xs x e in
      is_inserted x xs xs rising rising (λ j. grind (arith, nat_tests, at, e)) ∙ ap (λ n. inserted key x (filter (λ y. not (has_key key n y)) xs)) at

  pub changed_is : (change : A → A) (keeps : (x : A) → key (change x) ≡ key x) (xs : List A) (k : ℕ) (x : A) → IsRising key xs → found key k xs ≡ Some x
      → changed (has_key key k) change xs ≡ inserted key (change x) (filter (λ y. not (has_key key k y)) xs)
  changed_is change keeps xs k x rising e =
      let at : key (change x) ≡ k = keeps x ∙ found_there k xs x e in
      is_inserted (change x) xs (changed (has_key key k) change xs) rising (rising_changed change keeps (has_key key k) xs rising) (λ j. finds_changed change keeps k j xs ∙ grind (arith, nat_tests, at, e))
      ∙ ap (λ n. inserted key (change x) (filter (λ y. not (has_key key n y)) xs)) at

  -- what isn't there is neither left out nor changed
  pub absent_filter : (k : ℕ) (xs : List A) → found key k xs ≡ None → filter (λ x. not (has_key key k x)) xs ≡ xs
  absent_filter k [] none = refl
  absent_filter k (x ∷ xs) none = grind (arith, nat_tests, absent_filter k xs)

  pub absent_changed : (change : A → A) (k : ℕ) (xs : List A) → found key k xs ≡ None → changed (has_key key k) change xs ≡ xs
  absent_changed change k [] none = refl
  absent_changed change k (x ∷ xs) none = grind (arith, nat_tests, absent_changed change k xs)

  -- ---- what is true of each

  pub every_inserted : (P : A → Type 0) (x : A) (xs : List A) → P x → Every P xs → Every P (inserted key x xs)
  every_inserted P x xs here every = every_insert (position_or_len (λ y. nat_lt (key x) (key y)) xs) xs every
    where
      every_insert : (n : ℕ) (ys : List A) → Every P ys → Every P (insert ys n x)
      every_insert zero ys every = (here, every)
      every_insert (suc n) [] every = (here, tt)
      every_insert (suc n) (y ∷ ys) every = (every.0, every_insert n ys every.1)

  pub every_landing : (P : A → Type 0) (come xs : List A) → Every P come → Every P xs → Every P (landing key come xs)
  every_landing P [] xs come every = every
  every_landing P (x ∷ rest) xs come every = every_landing P rest (inserted key x xs) come.1 (every_inserted P x xs come.0 every)

  pub every_changed : (P : A → Type 0) (test : A → Bool) (change : A → A) (xs : List A) → ((x : A) → P x → P (change x)) → Every P xs → Every P (changed test change xs)
  every_changed P test change [] keeps every = tt
  every_changed P test change (x ∷ xs) keeps every = (elim (test x) as (λ b. P (cond b (change x) x)) [ true ↦ keeps x every.0 | false ↦ every.0 ], every_changed P test change xs keeps every.1)

  -- ---- two lists together

  -- where no thing is new, none has a key in both
  pub new_apart : (xs ys : List A) → AreNew key xs ys → (k : ℕ) → (found key k xs ≡ None) ⊎ (found key k ys ≡ None)
  new_apart [] ys new k = inl refl
  new_apart (x ∷ xs) ys new k = elim (cases_Bool (eqb (key x) k)) [
    | inl t ↦ inr (ap (λ n. found key n ys) (sym (eqb-true _ _ t)) ∙ new.0)
    | inr f ↦ elim (new_apart xs ys new.1 k) [ inl e ↦ inl (rw f e) | inr e ↦ inr e ]
  ]

  apart_new : (xs ys : List A) → ((k : ℕ) → (found key k xs ≡ None) ⊎ (found key k ys ≡ None)) → AreNew key xs ys
  apart_new [] ys one = tt
  apart_new (x ∷ xs) ys one = (
    elim (one (key x)) [ inl e ↦ absurd (let here = first_found x xs in cc) | inr e ↦ e ],
    apart_new xs ys (λ k. elim (one k) [ inl e ↦ inl (grind arith) | inr e ↦ inr e ]),
  )

  pub merged : (xs ys : List A) → AreApart key xs ys → Landed xs ys
  merged xs ys apart = lands xs ys (rising_distinct xs apart.left) apart.right (apart_new xs ys apart.one)

  -- a rising list in which is found what either has is both together
  pub is_merged : (xs ys zs : List A) → AreApart key xs ys → IsRising key zs → ((k : ℕ) → found key k zs ≡ option_or (found key k xs) (found key k ys)) → zs ≡ landing key xs ys
  is_merged xs ys zs apart rising same = let both = merged xs ys apart in same_finds zs (landing key xs ys) rising both.rising (λ k. same k ∙ sym (both.finds k))

  -- what comes to one of the lists comes to both
  module _ (come xs ys : List A) (apart : AreApart key xs ys) (distinct : AreDistinct key come) (new : AreNew key come (landing key xs ys)) where
    both : Landed xs ys
    both = merged xs ys apart

    all : Landed come (landing key xs ys)
    all = lands come (landing key xs ys) distinct both.rising new

    free : (k : ℕ) → (found key k come ≡ None) ⊎ ((found key k xs ≡ None) × (found key k ys ≡ None))
    free k = elim (new_apart come (landing key xs ys) new k) [ inl e ↦ inl e | inr e ↦ inr (grind (arith, e, both.finds k), grind (arith, e, both.finds k)) ]

    pub land_right : AreApart key xs (landing key come ys) × (landing key come (landing key xs ys) ≡ landing key xs (landing key come ys))
    land_right =
        let right = lands come ys distinct apart.right (apart_new come ys (λ k. elim (free k) [ inl e ↦ inl e | inr e ↦ inr e.1 ])) in
        let apart' : AreApart key xs (landing key come ys) = record {
          left = apart.left;
          right = right.rising;
          one = λ k. elim (free k) [
            | inl e ↦ elim (apart.one k) [ inl f ↦ inl f | inr f ↦ inr (right.finds k ∙ rw (e, f) refl) ]
            | inr e ↦ inl e.0
          ];
        } in (
          apart',
          is_merged xs (landing key come ys) _ apart' all.rising (λ k.
              all.finds k ∙ rw (both.finds k, right.finds k) (elim (free k) [ inl e ↦ rw e refl | inr e ↦ rw (e.0, e.1) refl ])),
        )

    pub land_left : AreApart key (landing key come xs) ys × (landing key come (landing key xs ys) ≡ landing key (landing key come xs) ys)
    land_left =
        let left = lands come xs distinct apart.left (apart_new come xs (λ k. elim (free k) [ inl e ↦ inl e | inr e ↦ inr e.0 ])) in
        let apart' : AreApart key (landing key come xs) ys = record {
          left = left.rising;
          right = apart.right;
          one = λ k. elim (free k) [
            | inl e ↦ elim (apart.one k) [ inl f ↦ inl (left.finds k ∙ rw (e, f) refl) | inr f ↦ inr f ]
            | inr e ↦ inr e.1
          ];
        } in (
          apart',
          is_merged (landing key come xs) ys _ apart' all.rising (λ k.
              all.finds k ∙ rw (both.finds k, left.finds k) (grind arith)),
        )

  -- what is done to one of the lists is done to both, where it changes what is found key by key, and finds nothing new
  pub done_both : (does : List A → List A) (change : ℕ → Option A → Option A) → ((xs : List A) → IsRising key xs → IsRising key (does xs)) → ((k : ℕ) (xs : List A) → found key k (does xs) ≡ change k (found key k xs))
      → ((k : ℕ) → change k None ≡ None) → (xs ys : List A) → AreApart key xs ys → AreApart key (does xs) (does ys) × (does (landing key xs ys) ≡ landing key (does xs) (does ys))
  done_both does change rises finds none xs ys apart =
      let both = merged xs ys apart in
      let apart' : AreApart key (does xs) (does ys) = record {
        left = rises xs apart.left;
        right = rises ys apart.right;
        one = λ k. elim (apart.one k) [ inl e ↦ inl (finds k xs ∙ ap (change k) e ∙ none k) | inr e ↦ inr (finds k ys ∙ ap (change k) e ∙ none k) ];
      } in (
        apart',
        is_merged (does xs) (does ys) _ apart' (rises (landing key xs ys) both.rising) (λ k.
            let same = finds k (landing key xs ys) ∙ ap (change k) (both.finds k) in
            elim (apart.one k) [ inl e ↦ grind (arith, e, same, none k, finds k xs, finds k ys) | inr e ↦ grind (arith, e, same, none k, finds k xs, finds k ys) ]),
      )

  pub drop_both : (gone : ℕ) (xs ys : List A) → AreApart key xs ys → AreApart key (filter (λ x. not (has_key key gone x)) xs) (filter (λ x. not (has_key key gone x)) ys)
      × (filter (λ x. not (has_key key gone x)) (landing key xs ys) ≡ landing key (filter (λ x. not (has_key key gone x)) xs) (filter (λ x. not (has_key key gone x)) ys))
  drop_both gone = done_both (filter (λ x. not (has_key key gone x))) (λ k o. cond (eqb gone k) None o) (rising_filter (λ x. not (has_key key gone x))) (finds_without gone) (λ k. grind arith)

  pub change_both : (change : A → A) (keeps : (x : A) → key (change x) ≡ key x) (at : ℕ) (xs ys : List A) → AreApart key xs ys → AreApart key (changed (has_key key at) change xs) (changed (has_key key at) change ys)
      × (changed (has_key key at) change (landing key xs ys) ≡ landing key (changed (has_key key at) change xs) (changed (has_key key at) change ys))
  change_both change keeps at = done_both (changed (has_key key at) change) (λ k o. cond (eqb at k) (option_map change o) o) (rising_changed change keeps (has_key key at)) (finds_changed change keeps at) (λ k. grind arith)
