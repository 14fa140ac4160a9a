-- Extents in order of address, as some go or one comes.
use Rattle.arena_core.proofs.Words.{◌≡◌, ◌≢◌, ◌<◌, ◌≤◌, suc, Bool, true, false, cond, List, [], ◌∷◌, ◌++◌, All, filter, ltb, fold, ◌+◌, subst, inl, inr, refl, sym, ap, ◌∙◌, arith, Every, position_or_len, cases_Bool, cases_lt, nat_tests, every_filter, every_map, filter_none, Part, placed, turned_in_order, OrderGrows, OrderStays, ℕ, not, Contains, filter_same, filter_has, All-contains, begins_at, filter_none_of, filter_from, filter-append, append-nil, filter_passes, ltb-true}
use Rattle.arena_core.proofs.Swaps.{keeps_all}

-- each extent begins no later than those behind it
Rising : List Part → Type 0
Rising [] = Unit {0}
Rising (q ∷ L) = Every (λ x. q.span.first ≤ x.span.first) L × Rising L

-- an extent in front of the first one that begins later
put : Part → List Part → List Part
put p [] = p ∷ []
put p (q ∷ L) = cond (ltb p.span.first q.span.first) (p ∷ q ∷ L) (q ∷ put p L)

placed_is : (p : Part) (L : List Part) → placed p L ≡ put p L
unfolding put
placed_is p [] = refl
placed_is p (q ∷ L) =
    let n = position_or_len (λ (x : Part). ltb p.span.first x.span.first) L in
    let one : 1 + n ≡ suc n = omega arith in
    grind (arith, one, placed_is p L)

every_put : (P : Part → Type 0) (p : Part) (L : List Part) → P p → Every P L → Every P (put p L)
unfolding put
every_put P p [] here all = (here, tt)
every_put P p (q ∷ L) here all = elim (cases_Bool (ltb p.span.first q.span.first)) [ inl t ↦ rw t (here, all) | inr f ↦ rw f (all.0, every_put P p L here all.1) ]

rising_put : (p : Part) (L : List Part) → Rising L → Rising (put p L)
unfolding put Rising
rising_put p [] r = (tt, tt)
rising_put p (q ∷ L) r = elim (cases_lt p.span.first q.span.first) [
  | inl l ↦ let t : ltb p.span.first q.span.first ≡ true = grind (arith, nat_tests) in rw t ((omega arith, every_map (λ x. q.span.first ≤ x.span.first) (λ x. p.span.first ≤ x.span.first) (λ x le. omega arith) L r.0), r)
  | inr g ↦ let f : ltb p.span.first q.span.first ≡ false = grind (arith, nat_tests) in rw f (every_put (λ x. q.span.first ≤ x.span.first) p L g r.0, rising_put p L r.1)
]

-- it comes first where all others begin later
put_first : (p : Part) (L : List Part) → Every (λ x. p.span.first < x.span.first) L → put p L ≡ p ∷ L
unfolding put
put_first p [] all = refl
put_first p (q ∷ L) all = let l = all.0 in let t : ltb p.span.first q.span.first ≡ true = grind (arith, nat_tests) in rw t refl

filter_put : (keep : Part → Bool) (p : Part) (L : List Part) → Rising L → filter keep (put p L) ≡ cond (keep p) (put p (filter keep L)) (filter keep L)
unfolding put Rising
filter_put keep p [] r = elim (cases_Bool (keep p)) [ inl t ↦ rw t refl | inr f ↦ rw f refl ]
filter_put keep p (q ∷ L) r = elim (cases_lt p.span.first q.span.first) [
  | inl l ↦
      let t : ltb p.span.first q.span.first ≡ true = grind (arith, nat_tests) in
      let later : Every (λ x. p.span.first < x.span.first) (q ∷ L) = (l, every_map (λ x. q.span.first ≤ x.span.first) (λ x. p.span.first < x.span.first) (λ x le. omega arith) L r.0) in
      rw t (ap (λ xs. cond (keep p) xs (filter keep (q ∷ L))) (sym (put_first p (filter keep (q ∷ L)) (every_filter (λ x. p.span.first < x.span.first) keep (q ∷ L) later))))
  | inr g ↦ grind (arith, nat_tests, filter_put keep p L r.1)
]

order : List Part → List Part → List Part
order before parts = fold (λ turned p. placed p turned) before parts

order_filter : (keep : Part → Bool) (before parts : List Part) → Rising before → order (filter keep before) (filter keep parts) ≡ filter keep (order before parts)
unfolding order
order_filter keep before [] r = refl
order_filter keep before (p ∷ ps) r =
    let step = ap (filter keep) (placed_is p before) ∙ filter_put keep p before r in
    let deep = order_filter keep (put p before) ps (rising_put p before r) in
    grind (arith, step, deep, placed_is p before, placed_is p (filter keep before))

pub order_stays : OrderStays
unfolding order Rising
order_stays keep parts = order_filter keep [] parts tt

rising_order : (before parts : List Part) → Rising before → Rising (order before parts)
unfolding order
rising_order before [] r = r
rising_order before (p ∷ ps) r = rising_order (placed p before) ps (subst Rising (sym (placed_is p before)) (rising_put p before r))

-- those below a page stand in front of the others
split_below : (n : ℕ) (L : List Part) → Rising L → filter (λ q. ltb q.span.first n) L ++ filter (λ q. not (ltb q.span.first n)) L ≡ L
unfolding Rising
split_below n [] r = refl
split_below n (q ∷ L) r = elim (cases_lt q.span.first n) [
  | inl l ↦ let t : ltb q.span.first n ≡ true = grind (arith, nat_tests) in rw t (ap (λ xs. q ∷ xs) (split_below n L r.1))
  | inr g ↦
      let later : Every (λ x. q.span.first ≤ x.span.first) (q ∷ L) = (omega arith, r.0) in
      let none = filter_none (λ x. ltb x.span.first n) (q ∷ L) (every_map (λ x. q.span.first ≤ x.span.first) (λ x. ltb x.span.first n ≡ false) (λ x le. grind (arith, nat_tests)) (q ∷ L) later) in
      λ k. none k ++ keeps_all (λ x. ltb x.span.first n) (q ∷ L) none k
]

in_two : (n : ℕ) (parts : List Part) →
    turned_in_order (λ q. q) parts ≡ turned_in_order (λ q. q) (filter (λ q. ltb q.span.first n) parts) ++ turned_in_order (λ q. q) (filter (λ q. not (ltb q.span.first n)) parts)
unfolding order Rising
in_two n parts =
    sym (split_below n (order [] parts) (rising_order [] parts tt)) ∙ (λ k. sym (order_stays (λ q. ltb q.span.first n) parts) k ++ sym (order_stays (λ q. not (ltb q.span.first n)) parts) k)

pub order_splits : (parts : List Part) (p : Part) → All (λ q. q.span.first ≢ p.span.first) parts →
    filter (λ q. ltb q.span.first p.span.first) (turned_in_order (λ q. q) parts) ++ filter (λ q. ltb p.span.first q.span.first) (turned_in_order (λ q. q) parts) ≡ turned_in_order (λ q. q) parts
order_splits parts p other =
    let over = λ (q : Part). ltb p.span.first q.span.first in
    let same = filter_same over (λ q. not (ltb q.span.first p.span.first)) parts (λ q m. let differs = All-contains (λ x. x.span.first ≢ p.span.first) parts q other m in grind (arith, nat_tests, differs)) in
    (λ k. sym (order_stays (λ q. ltb q.span.first p.span.first) parts) k ++ (sym (order_stays over parts) ∙ ap (turned_in_order (λ q. q)) same) k) ∙ sym (in_two p.span.first parts)

-- the lowest one comes first
pub lowest_first : (p : Part) (parts : List Part) → filter (begins_at p.span.first) parts ≡ p ∷ [] → All (λ q. p.span.first < q.span.first) (filter (λ q. not (begins_at p.span.first q)) parts) →
    turned_in_order (λ q. q) parts ≡ p ∷ turned_in_order (λ q. q) (filter (λ q. not (begins_at p.span.first q)) parts)
lowest_first p parts alone above =
    let t = begins_at p.span.first in
    let under = λ (q : Part). ltb q.span.first (p.span.first + 1) in
    let here : (q : Part) → Contains parts q → under q ≡ t q = λ q m. elim (cases_Bool (t q)) [
      | inl e ↦ grind (arith, nat_tests)
      | inr f ↦ let less = All-contains (λ x. p.span.first < x.span.first) (filter (λ x. not (t x)) parts) q above (filter_has (λ x. not (t x)) parts q m (ap not f)) in grind (arith, nat_tests)
    ] in
    in_two (p.span.first + 1) parts
    ∙ (λ k. turned_in_order (λ q. q) ((filter_same under t parts here ∙ alone) k) ++ turned_in_order (λ q. q) (filter_same (λ q. not (under q)) (λ q. not (t q)) parts (λ q m. ap not (here q m)) k))

-- a new one stands between those below it and those above it
pub order_grows : OrderGrows
order_grows parts p other =
    let t = begins_at p.span.first in
    let under = λ (q : Part). ltb q.span.first p.span.first in
    let over = λ (q : Part). ltb p.span.first q.span.first in
    let differs = λ (q : Part) (m : Contains parts q). All-contains (λ x. x.span.first ≢ p.span.first) parts q other m in
    let none = filter_none_of t (filter (λ q. not (under q)) parts) (λ q m. let away = differs q (filter_from (λ x. not (under x)) parts q m).0 in grind (arith, nat_tests, away)) in
    let upper = filter_same (λ q. not (under q)) over parts (λ q m. let away = differs q m in grind (arith, nat_tests, away)) in
    let high : filter (λ q. not (under q)) (parts ++ p ∷ []) ≡ filter (λ q. not (under q)) parts ++ p ∷ [] = grind (arith, nat_tests, filter-append (λ q. not (under q)) parts (p ∷ [])) in
    let low : filter under (parts ++ p ∷ []) ≡ filter under parts = grind (arith, nat_tests, filter-append under parts (p ∷ []), append-nil (filter under parts)) in
    let above : filter (λ q. not (t q)) (filter (λ q. not (under q)) parts ++ p ∷ []) ≡ filter over parts = grind (arith, nat_tests, filter-append (λ q. not (t q)) (filter (λ q. not (under q)) parts) (p ∷ []), keeps_all t (filter (λ q. not (under q)) parts) none, append-nil (filter over parts), upper) in
    let alone : filter t (filter (λ q. not (under q)) parts ++ p ∷ []) ≡ p ∷ [] = grind (arith, nat_tests, filter-append t (filter (λ q. not (under q)) parts) (p ∷ []), none) in
    let higher : All (λ q. p.span.first < q.span.first) (filter over parts) = λ k d h. ltb-true _ _ (filter_passes over parts k d h) in
    in_two p.span.first (parts ++ p ∷ [])
    ∙ (λ k. turned_in_order (λ q. q) (low k) ++ turned_in_order (λ q. q) (high k))
    ∙ ap (λ xs. turned_in_order (λ q. q) (filter under parts) ++ xs) (lowest_first p (filter (λ q. not (under q)) parts ++ p ∷ []) alone (subst (All (λ q. p.span.first < q.span.first)) (sym above) higher) ∙ ap (λ xs. p ∷ turned_in_order (λ q. q) xs) above)
    ∙ (λ k. order_stays under parts k ++ p ∷ order_stays over parts k)
