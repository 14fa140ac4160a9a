-- Lists of stacks by class, and the place at which a list has what passes a test.
use Rattle.thread_cache.proofs.Words.{◌≡◌, ℕ, ◌+◌, ◌<◌, Bool, true, List, [], ◌∷◌, length, map, get_or, ◌++◌, take, replicate, ap, sym, refl, ◌∙◌, arith, inl, inr, Option, Some, None, IfSome, cond, not, lt-ltb, ◌||◌, subst, list_any, position, position_or_len, prefix_len, range_with_len, slice_get, set, map-set_same, cases_Bool, get_or-map, get_or-set_same, length-map, map-append, map-id, map-set, take_more, get_or-range_with_len, length-range_with_len, map-range_with_len_more, position-Some, list_any_at, get_or_from_slice_get, slice_get_within, nat_tests, replicate_next, Held, Listed, IsByClass, addrs_of, cached_in, changed_at, dropped, has_at, is_at, is_cached, regions_of, without}

-- the stacks are as many as the classes
pub by_class_length : (stacks : List Listed) → IsByClass stacks → length stacks ≡ 41
by_class_length stacks by =
    let n : length (map (λ (s : Listed). s.class) stacks) ≡ 41 = ap length by ∙ length-range_with_len 0 41 in
    sym (length-map stacks (λ (s : Listed). s.class)) ∙ n

-- the stack at a place is that of the class
pub class_at : (stacks : List Listed) (class : ℕ) (x : Listed) → IsByClass stacks → class < 41 → x ≡ get_or stacks class x → x.class ≡ class
class_at stacks class x by small is =
    ap (λ (s : Listed). s.class) is
    ∙ sym (get_or-map (λ (s : Listed). s.class) stacks class x 0 (omega (arith, by_class_length stacks by)))
    ∙ ap (λ classes. get_or classes class 0) by
    ∙ get_or-range_with_len 0 41 class 0 small ∙ omega arith

-- the list of a class is that of its stack
pub list_at : (stacks : List Listed) (class : ℕ) (x : Listed) → class < length stacks → x ≡ get_or stacks class x → cached_in (regions_of stacks) class ≡ x.regions
list_at stacks class x inside is = get_or-map (λ (s : Listed). s.regions) stacks class x [] inside ∙ sym (ap (λ (s : Listed). s.regions) is)

-- a stack of the same class takes the place of another
pub by_class_kept : (stacks : List Listed) (class : ℕ) (x y : Listed) → IsByClass stacks → x ≡ get_or stacks class x → y.class ≡ x.class → IsByClass (set stacks class y)
by_class_kept stacks class x y by is same = map-set_same (λ (s : Listed). s.class) stacks class y x (same ∙ ap (λ (s : Listed). s.class) is) ∙ by

-- the lists after a stack took the place of another
pub lists_after : (stacks : List Listed) (class : ℕ) (y : Listed) → regions_of (set stacks class y) ≡ set (regions_of stacks) class y.regions
lists_after stacks class y = map-set (λ (s : Listed). s.regions) stacks class y

-- the list of a class whose stack took the place of another
pub list_after : (stacks : List Listed) (class : ℕ) (y : Listed) → class < length stacks → cached_in (regions_of (set stacks class y)) class ≡ y.regions
list_after stacks class y inside =
    let n = length-map stacks (λ (s : Listed). s.regions) in
    ap (λ lists. cached_in lists class) (lists_after stacks class y) ∙ get_or-set_same (regions_of stacks) class y.regions [] (omega (arith, n))

-- where something passes a test, the first that does has a place
pub any_within : {X : Type 0} (p : X → Bool) (xs : List X) → list_any p xs ≡ true → position_or_len p xs < length xs
any_within p [] e = absurd (cc)
any_within p (x ∷ xs) e = elim (cases_Bool (p x)) [
  | inl t ↦ rw t (omega arith)
  | inr f ↦
      let rest : list_any p xs ≡ true = subst (λ b. (b || list_any p xs) ≡ true) f e in
      let h = any_within p xs rest in
      rw f (omega (arith, h))
]

-- so the place is told
pub any_has_place : {X : Type 0} (p : X → Bool) (xs : List X) → list_any p xs ≡ true → position p xs ≡ Some (position_or_len p xs)
any_has_place p xs e = rw (lt-ltb (position_or_len p xs) (length xs) (any_within p xs e)) refl

-- how many pass a test from the front on, read through a function
pub prefix_len_through : {X Y : Type 0} (f : X → Y) (p : Y → Bool) (xs : List X) → prefix_len p (map f xs) ≡ prefix_len (λ x. p (f x)) xs
prefix_len_through f p [] = refl
prefix_len_through f p (x ∷ xs) = ap (λ n. cond (p (f x)) (1 + n) 0) (prefix_len_through f p xs)

-- the place of the first that passes a test, read through a function
pub place_through : {X Y : Type 0} (f : X → Y) (p : Y → Bool) (xs : List X) → position p (map f xs) ≡ position (λ x. p (f x)) xs
place_through f p xs = rw (prefix_len_through f (λ y. not (p y)) xs, length-map xs f) refl

-- one more number
range_more : (n : ℕ) → range_with_len 0 (n + 1) ≡ range_with_len 0 n ++ n ∷ []
range_more n = sym (map-id (range_with_len 0 (n + 1))) ∙ map-range_with_len_more (λ n. n) 0 n n (omega arith) ∙ ap (λ ns. ns ++ n ∷ []) (map-id (range_with_len 0 n))

-- one more stack, which has no region
pub one_more : (stacks : List Listed) (n : ℕ) → map (λ (s : Listed). s.class) stacks ≡ range_with_len 0 n → regions_of stacks ≡ replicate n []
    → (map (λ (s : Listed). s.class) (stacks ++ record { class = n; regions = [] } ∷ []) ≡ range_with_len 0 (n + 1))
    × (regions_of (stacks ++ record { class = n; regions = [] } ∷ []) ≡ replicate (n + 1) [])
one_more stacks n classes lists =
    let new : Listed = record { class = n; regions = [] } in (
      map-append (λ (s : Listed). s.class) stacks (new ∷ []) ∙ ap (λ ns. ns ++ n ∷ []) classes ∙ sym (range_more n),
      map-append (λ (s : Listed). s.regions) stacks (new ∷ []) ∙ ap (λ ls. ls ++ [] ∷ []) lists ∙ sym (replicate_next n []),
    )

-- the addresses of one more region from the front on
pub addrs_more : (regions : List Held) (i : ℕ) (held : Held) → i < length regions → held ≡ get_or regions i held → take (i + 1) (addrs_of regions) ≡ take i (addrs_of regions) ++ held.addr ∷ []
addrs_more regions i held inside is =
    let at : get_or (addrs_of regions) i 0 ≡ held.addr = get_or-map (λ (h : Held). h.addr) regions i held 0 inside ∙ sym (ap (λ (h : Held). h.addr) is) in
    take_more (addrs_of regions) i 0 (omega (arith, inside, length-map regions (λ (h : Held). h.addr))) ∙ ap (λ addr. take i (addrs_of regions) ++ addr ∷ []) at

-- the stack of the first list with the address has it
pub has_first : (stacks : List Listed) (addr class : ℕ) (x : Listed) → position (has_at addr) (regions_of stacks) ≡ Some class → x ≡ get_or stacks class x → has_at addr x.regions ≡ true
has_first stacks addr class x found is =
    let first = position-Some (has_at addr) (regions_of stacks) class [] found in
    let inside : class < length stacks = omega (arith, length-map stacks (λ (s : Listed). s.regions), first.0) in
    ap (has_at addr) (sym (list_at stacks class x inside is)) ∙ first.1

-- the lists after the first region at an address left the first list that has one
pub dropped_at : (stacks : List Listed) (addr class : ℕ) (x y : Listed) → position (has_at addr) (regions_of stacks) ≡ Some class → x ≡ get_or stacks class x → y.regions ≡ without addr x.regions
    → regions_of (set stacks class y) ≡ dropped addr (regions_of stacks)
dropped_at stacks addr class x y found is less =
    let there = (position-Some (has_at addr) (regions_of stacks) class [] found).0 in
    let inside : class < length stacks = omega (arith, length-map stacks (λ (s : Listed). s.regions), there) in
    let before = list_at stacks class x inside is in
    lists_after stacks class y ∙ ap (λ list. set (regions_of stacks) class list) (less ∙ ap (without addr) (sym before))
    ∙ sym (ap (changed_at (without addr) (regions_of stacks)) found)

-- a region that is read in a list is cached
pub read_is_cached : (lists : List (List Held)) (class place : ℕ) (told : Option Held) → class < length lists → slice_get (cached_in lists class) place ≡ told → IfSome told (λ held. is_cached held.addr lists ≡ true)
read_is_cached lists class place None inside e = tt
read_is_cached lists class place (Some held) inside e =
    let there = get_or_from_slice_get (cached_in lists class) place held held e in
    let here : has_at held.addr (cached_in lists class) ≡ true =
    list_any_at (is_at held.addr) (cached_in lists class) place held (slice_get_within (cached_in lists class) place held e) (rw there (grind (arith, nat_tests))) in
    list_any_at (has_at held.addr) lists class [] inside here

-- whether any passes a test, read through a function
pub any_through : {X Y : Type 0} (f : X → Y) (p : Y → Bool) (xs : List X) → list_any p (map f xs) ≡ list_any (λ x. p (f x)) xs
any_through f p [] = refl
any_through f p (x ∷ xs) = ap (λ v. p (f x) || v) (any_through f p xs)
