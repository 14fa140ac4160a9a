-- The batches in which regions go back: what is so of their addresses.
use Rattle.call_plan.proofs.ClientWords.{◌≡◌, ℕ, ◌+◌, ◌-◌, ◌/◌, ◌<◌, ◌≤◌, ◌==◌, ◌&&◌, ◌⊎◌, inl, inr, Bool, true, false, cond, List, [], ◌∷◌, ◌++◌, length, take, drop, map, filter, not, fold, min, Option, None, Some, refl, sym, ap, subst, ◌∙◌, arith, nat_lt, suc, zero, le-leb, set, Contains, flat_map, list_all, insert_key, match_ordering, nat_cmp, Less, Equal, Greater, option_map, ltb-true, eqb-true, nat_tests, get_or-set_same, get_or-take, length-append, length-drop, length-take, length-take-le, flat_map-cons, filter-append, Contains-append_left, Contains-append_right, Held, cached_in, gone_from, is_elsewhere, BatchFacts, BatchesEnd, BatchesRise, IsBatch, added, addrs_in, batch_of, gave_with, going, going_with, is_cacheable, is_in_arena, least_arena, lesser, older_count, rising_from, slots_at}

-- both tests pass
both_true : (v w : Bool) → (v && w) ≡ true → (v ≡ true) × (w ≡ true)
both_true true true e = (refl, refl)
both_true true false e = absurd (cc)
both_true false w e = absurd (cc)

-- one among others
among_others : {X : Type 0} (x : X) (xs : List X) (y : X) → Contains xs y → Contains (x ∷ xs) y
among_others x xs y (k, inside, is) = (suc k, omega (arith, inside), is)

-- ---- an address among rising ones

-- how two addresses stand to each other decides where the one goes
by_order : (P : List ℕ → Type 0) (a x : ℕ) (xs : List ℕ) → (a < x → P (a ∷ x ∷ xs)) → (a ≡ x → P (x ∷ xs)) → (x < a → P (x ∷ insert_key nat_cmp xs a)) → P (insert_key nat_cmp (x ∷ xs) a)
by_order P a x xs below same above =
    elim (nat_lt a x) as (λ v. nat_lt a x ≡ v → P (match_ordering (cond v Less (cond (a == x) Equal Greater)) (a ∷ x ∷ xs) (x ∷ xs) (x ∷ insert_key nat_cmp xs a))) [
      | true ↦ λ h. below (ltb-true _ _ h)
      | false ↦ λ h. elim (a == x) as (λ w. a == x ≡ w → P (match_ordering (cond w Equal Greater) (a ∷ x ∷ xs) (x ∷ xs) (x ∷ insert_key nat_cmp xs a))) [
        | true ↦ λ k. same (eqb-true _ _ k)
        | false ↦ λ k. let greater : x < a = grind (arith, nat_tests) in above greater
      ] refl
    ] refl

insert_rises : (least a : ℕ) (xs : List ℕ) → rising_from least xs ≡ true → least ≤ a → rising_from least (insert_key nat_cmp xs a) ≡ true
insert_rises least a [] rise le = rw (le-leb least a le) refl
insert_rises least a (x ∷ xs) rise le =
    let both = both_true _ (rising_from (x + 1) xs) rise in
    by_order (λ ys. rising_from least ys ≡ true) a x xs
    (λ h. rw (le-leb least a le, le-leb (a + 1) x (omega (arith, h)), both.1) refl)
    (λ h. rise)
    (λ h. rw (both.0, insert_rises (x + 1) a xs both.1 (omega (arith, h))) refl)

insert_all : (test : ℕ → Bool) (a : ℕ) (xs : List ℕ) → list_all test xs ≡ true → test a ≡ true → list_all test (insert_key nat_cmp xs a) ≡ true
insert_all test a [] all one = rw one refl
insert_all test a (x ∷ xs) all one =
    let both = both_true (test x) (list_all test xs) all in
    by_order (λ ys. list_all test ys ≡ true) a x xs (λ h. rw (one, both.0, both.1) refl) (λ h. all) (λ h. rw (both.0, insert_all test a xs both.1 one) refl)

insert_some : (a : ℕ) (xs : List ℕ) → 0 < length (insert_key nat_cmp xs a)
insert_some a [] = omega arith
insert_some a (x ∷ xs) = by_order (λ ys. 0 < length ys) a x xs (λ h. omega arith) (λ h. omega arith) (λ h. omega arith)

-- ---- the addresses of the regions of an arena

added_rise : (arena : ℕ) (xs : List ℕ) (regions : List Held) → rising_from 0 xs ≡ true → rising_from 0 (fold (added arena) xs regions) ≡ true
added_rise arena xs [] rise = rise
added_rise arena xs (r ∷ rs) rise =
    added_rise arena (added arena xs r) rs
    (elim (is_in_arena arena r) as (λ v. rising_from 0 (cond v (insert_key nat_cmp xs r.addr) xs) ≡ true) [ true ↦ insert_rises 0 r.addr xs rise (omega arith) | false ↦ rise ])

added_all : (test : ℕ → Bool) (arena : ℕ) (xs : List ℕ) (regions : List Held) → list_all test xs ≡ true → ((r : Held) → Contains regions r → r.arena ≡ arena → test r.addr ≡ true) →
    list_all test (fold (added arena) xs regions) ≡ true
added_all test arena xs [] all each = all
added_all test arena xs (r ∷ rs) all each =
    added_all test arena (added arena xs r) rs
    (elim (is_in_arena arena r) as (λ v. is_in_arena arena r ≡ v → list_all test (cond v (insert_key nat_cmp xs r.addr) xs) ≡ true) [
      | true ↦ λ h. insert_all test r.addr xs all (each r (0, omega arith, refl) (eqb-true _ _ h))
      | false ↦ λ h. all
    ] refl)
    (λ other there home. each other (among_others r rs other there) home)

-- once there is an address there always is
added_more : (arena : ℕ) (xs : List ℕ) (regions : List Held) → 0 < length xs → 0 < length (fold (added arena) xs regions)
added_more arena xs [] some = some
added_more arena xs (r ∷ rs) some =
    added_more arena (added arena xs r) rs (elim (is_in_arena arena r) as (λ v. 0 < length (cond v (insert_key nat_cmp xs r.addr) xs)) [ true ↦ insert_some r.addr xs | false ↦ some ])

at_home : (a b : ℕ) → a ≡ b → (a == b) ≡ true
at_home a b e = grind (arith, nat_tests)

added_some : (arena : ℕ) (xs : List ℕ) (regions : List Held) (r : Held) → Contains regions r → r.arena ≡ arena → 0 < length (fold (added arena) xs regions)
added_some arena xs [] r (k, inside, is) home = absurd (omega (arith, inside))
added_some arena xs (x ∷ rs) r (zero, inside, is) home =
    let here : is_in_arena arena x ≡ true = at_home x.arena arena (ap (λ (h : Held). h.arena) is ∙ home) in
    added_more arena (added arena xs x) rs (subst (λ v. 0 < length (cond v (insert_key nat_cmp xs x.addr) xs)) (sym here) (insert_some x.addr xs))
added_some arena xs (x ∷ rs) r (suc k, inside, is) home = added_some arena (added arena xs x) rs r (k, omega (arith, inside), is) home

-- the lesser of two is the one or the other
lesser_is : (found : Option ℕ) (x : Held) (arena : ℕ) → lesser found x ≡ Some arena → (found ≡ Some arena) ⊎ (x.arena ≡ arena)
lesser_is None x arena e = let same : x.arena ≡ arena = cc in inr same
lesser_is (Some other) x arena e =
    let same : min other x.arena ≡ arena = cc in
    elim (one_of other x.arena) [ inl is ↦ inl (ap Some (sym is ∙ same)) | inr is ↦ inr (sym is ∙ same) ]
  where
    one_of : (a b : ℕ) → (min a b ≡ a) ⊎ (min a b ≡ b)
    one_of a b = grind arith

-- the least arena is that of a region
least_is : (found : Option ℕ) (regions : List Held) (arena : ℕ) → fold lesser found regions ≡ Some arena → (found ≡ Some arena) ⊎ ((r : Held) × Contains regions r × (r.arena ≡ arena))
least_is found [] arena e = inl e
least_is found (x ∷ rs) arena e =
    elim (least_is (lesser found x) rs arena e) [
      | inl here ↦ elim (lesser_is found x arena here) [ inl was ↦ inl was | inr home ↦ inr (x, (zero, omega arith, refl), home) ]
      | inr (r, there, home) ↦ inr (r, among_others x rs r there, home)
    ]

-- ---- batches

pub batch_is : BatchesRise
batch_is regions batch e = from_least (least_arena regions) refl e
  where
    from_least : (least : Option ℕ) → least_arena regions ≡ least → option_map (λ arena. record { arena = arena; addrs = addrs_in arena regions }) least ≡ Some batch → IsBatch regions batch
    from_least None h e = absurd (cc)
    from_least (Some arena) h e =
        let same : record { arena = arena; addrs = addrs_in arena regions } ≡ batch = cc in
        subst (IsBatch regions) same (elim (least_is None regions arena h) [
          | inl no_one ↦ absurd (cc)
          | inr (r, there, home) ↦ record {
            some = added_some arena [] regions r there home;
            rise = added_rise arena [] regions refl;
            all = λ test each. added_all test arena [] regions refl each;
          }
        ])

-- ---- among the cached ones

-- a region of one class is among all
pub cached_is_flat : (lists : List (List Held)) (class : ℕ) (region : Held) → Contains (cached_in lists class) region → Contains (flat_map (λ list. list) lists) region
cached_is_flat [] class region (k, inside, is) = absurd (omega (arith, inside))
cached_is_flat (list ∷ lists) zero region there = rw (flat_map-cons (λ l. l) list lists) (Contains-append_left list (flat_map (λ l. l) lists) region there)
cached_is_flat (list ∷ lists) (suc class) region there =
    rw (flat_map-cons (λ l. l) list lists) (Contains-append_right list (flat_map (λ l. l) lists) region (cached_is_flat lists class region there))

-- one of the first is one of all
pub taken_is_in : (count : ℕ) (regions : List Held) (region : Held) → Contains (take count regions) region → Contains regions region
taken_is_in count regions region (k, inside, is) =
    let n = length-take count regions in
    (k, within (length regions) count (length (take count regions)) inside n, sym (get_or-take count regions k region (early (length regions) count (length (take count regions)) inside n)) ∙ is)
  where
    within : (all count taken : ℕ) → k < taken → taken ≡ min count all → k < all
    within all count taken inside n = grind arith

    early : (all count taken : ℕ) → k < taken → taken ≡ min count all → k < count
    early all count taken inside n = grind arith

-- ---- fewer are to go

-- no more pass a test than there are
most_pass : (test : Held → Bool) (regions : List Held) → length (filter test regions) ≤ length regions
most_pass test [] = omega arith
most_pass test (x ∷ rs) = elim (test x) as (λ v. length (cond v (x ∷ filter test rs) (filter test rs)) ≤ suc (length rs)) [ true ↦ omega (arith, most_pass test rs) | false ↦ omega (arith, most_pass test rs) ]

-- where one fails the test, fewer pass it
fewer_pass : (test : Held → Bool) (regions : List Held) (r : Held) → Contains regions r → test r ≡ false → length (filter test regions) < length regions
fewer_pass test [] r (k, inside, is) fails = absurd (omega (arith, inside))
fewer_pass test (x ∷ rs) r (zero, inside, is) fails = rw (ap test is ∙ fails) (omega (arith, most_pass test rs))
fewer_pass test (x ∷ rs) r (suc k, inside, is) fails =
    let fewer = fewer_pass test rs r (k, omega (arith, inside), is) fails in
    elim (test x) as (λ v. length (cond v (x ∷ filter test rs) (filter test rs)) < suc (length rs)) [ true ↦ omega (arith, fewer) | false ↦ omega (arith, fewer) ]

-- the regions of the least arena are some of all
some_home : (regions : List Held) (batch : BatchFacts) → batch_of regions ≡ Some batch → length (filter (is_elsewhere batch.arena) regions) < length regions
some_home regions batch e = from_least (least_arena regions) refl e
  where
    from_least : (least : Option ℕ) → least_arena regions ≡ least → option_map (λ arena. record { arena = arena; addrs = addrs_in arena regions }) least ≡ Some batch →
        length (filter (is_elsewhere batch.arena) regions) < length regions
    from_least None h e = absurd (cc)
    from_least (Some arena) h e =
        let same : arena ≡ batch.arena = cc in
        elim (least_is None regions arena h) [
          | inl no_one ↦ absurd (cc)
          | inr (r, there, home) ↦ fewer_pass (is_elsewhere batch.arena) regions r there (ap not (at_home r.arena batch.arena (home ∙ same)))
        ]

-- all cached ones but those of an arena
flat_filter : (test : Held → Bool) (lists : List (List Held)) → flat_map (λ l. l) (map (filter test) lists) ≡ filter test (flat_map (λ l. l) lists)
flat_filter test [] = refl
flat_filter test (list ∷ lists) =
    flat_map-cons (λ l. l) (filter test list) (map (filter test) lists)
    ∙ ap (λ xs. filter test list ++ xs) (flat_filter test lists)
    ∙ sym (filter-append test list (flat_map (λ l. l) lists)) ∙ ap (filter test) (sym (flat_map-cons (λ l. l) list lists))

-- of the older ones of a class fewer are left to go
older_fewer : (lists : List (List Held)) (class stay : ℕ) (batch : BatchFacts) → batch_of (take (length (cached_in lists class) - stay) (cached_in lists class)) ≡ Some batch →
    (left : List Held) → left ≡ cached_in (set lists class (gone_from batch.arena (length (cached_in lists class) - stay) (cached_in lists class))) class →
    length (take (length left - stay) left) < length (take (length (cached_in lists class) - stay) (cached_in lists class))
older_fewer lists class stay batch e left is =
    let list = cached_in lists class in
    let count : ℕ = length list - stay in
    let front = take count list in
    let n : length front ≡ count = length-take-le count list (omega arith) in
    let fewer = some_home front batch e in
    let behind : length (drop count list) ≡ length list - count = length-drop count list in
    let sum = length-append (filter (is_elsewhere batch.arena) front) (drop count list) in
    let here : left ≡ gone_from batch.arena count list = is ∙ get_or-set_same lists class (gone_from batch.arena count list) [] (within_lists lists class (omega (arith, fewer, n))) in
    let size = ap length here in
    let most = length-take (length left - stay) left in
    let least : min (length left - stay) (length left) ≤ length left - stay = grind arith in
    omega (arith, n, fewer, behind, sum, size, most, least)
  where
    within_lists : (lists : List (List Held)) (class : ℕ) → 0 < length (cached_in lists class) → class < length lists
    within_lists [] class some = absurd (omega (arith, some))
    within_lists (list ∷ lists) zero some = omega arith
    within_lists (list ∷ lists) (suc class) some = let inside = within_lists lists class some in omega (arith, inside)

pub batches-end : BatchesEnd
batches-end desk all batch or_else e = by_hand desk.hand refl e
  where
    by_hand : (hand : Option Held) → desk.hand ≡ hand → batch_of (going_with hand all desk) ≡ Some batch → length (going all (gave_with hand batch.arena desk)) < length (going_with hand all desk)
    by_hand None h e = elim all as (λ v. batch_of (going_with None v desk) ≡ Some batch → length (going v (gave_with None batch.arena desk)) < length (going_with None v desk)) [
      | true ↦ λ e. rw (h, flat_filter (is_elsewhere batch.arena) desk.cached) (some_home (flat_map (λ l. l) desk.cached) batch e)
      | false ↦ λ e. absurd (cc)
    ] e
    by_hand (Some region) h e =
        elim (is_cacheable region.class desk) as (λ v. is_cacheable region.class desk ≡ v →
        batch_of (cond v (take (older_count region.class desk) (cached_in desk.cached region.class)) (region ∷ [])) ≡ Some batch →
        length (going all (cond v (record desk { cached = set desk.cached region.class (gone_from batch.arena (older_count region.class desk) (cached_in desk.cached region.class)) }) (record desk { hand = None })))
        < length (cond v (take (older_count region.class desk) (cached_in desk.cached region.class)) (region ∷ []))) [
          | true ↦ λ k e. rw (h, k) (older_fewer desk.cached region.class (slots_at region.class - slots_at region.class / 2) batch e _ refl)
          | false ↦ λ k e. elim or_else [ inl empty ↦ (let both : Some region ≡ None = sym h ∙ empty in absurd (cc)) | inr no_flush ↦ rw no_flush (omega arith) ]
        ] refl e
