-- What changes of what a client has do to its regions.
use Rattle.sits.proofs.Words.{[], IsOf, empty_handed, ◌≡◌, ℕ, ◌+◌, ◌-◌, ◌<◌, ◌≤◌, ◌==◌, ◌&&◌, ◌≢◌, Bool, true, false, cond, List, ◌∷◌, ◌++◌, All, Option, None, Some, length, map, get_or, take, drop, slice_set, refl, sym, ◌∙◌, ap, subst, arith, nat_lt, lt-ltb, flat_map, sum_by, ltb-true, nat_tests, get_or_from_slice_get, slice_get-get_or, slice_get_within, drop_more, length-drop, nil_from_length, get_or-set_other, get_or-set_same, length-set, All-append, All-cons, All-filter, All-nil, All-take, sum_by-cons, sum_by-take-drop, sum_by_push, both_true, is_elsewhere, put_in, before_last, discarding, has_slot, held_again, held_again_with, holding, kept, kept_with, not_holding, Held, DeskFacts, caching, freeing, held_at, hit, hitting, is_cacheable, slots_at, cached_in, held_region, sharing, length-map, suc, zero, nat_eq, position, swap_remove, keys_of, lookup, option_map_or, eqb-true, flat_map-cons, All-head, All-set, All-tail, sum_by-append, sum_by-swap_remove, Found-position, Missing-position, slice_get, insert_entry, swap_remove_entry, freed_with, gaining, reclassing, reclassing_with, gain_held, gain_held_with}
use Rattle.cache_set.specs.Sets.{explicit}
use Rattle.sits.specs.Sitting.{IsInClasses}
use Rattle.std.proofs.lemmas.List.{length-append, get_or-map}
use Rattle.sits.proofs.Counting.{as_many, shifts}

-- what is summed over regions, over entries with them
abbrev pub of_entry : (Held → ℕ) → ℕ × Held → ℕ
of_entry f e = f e.1

-- an entry stands by the address of its region
abbrev pub IsKeyed : ℕ × Held → Type 0
IsKeyed e = e.0 ≡ e.1.addr

-- ---- one more region

pub sum_insert : (f : Held → ℕ) (es : List (ℕ × Held)) (r : Held) → lookup (nat_eq r.addr) es ≡ None →
    sum_by (of_entry f) (insert_entry nat_eq es r.addr r) ≡ sum_by (of_entry f) es + f r
sum_insert f [] r none = refl
sum_insert f (e ∷ es) r none =
    elim (nat_eq r.addr e.0) as (λ v. cond v (Some e.1) (lookup (nat_eq r.addr) es) ≡ None →
    sum_by (of_entry f) (cond v ((e.0, r) ∷ es) (e ∷ insert_entry nat_eq es r.addr r)) ≡ sum_by (of_entry f) (e ∷ es) + f r) [
      | true ↦ λ h. absurd (cc)
      | false ↦ λ h. omega (arith, sum_by-cons (of_entry f) e (insert_entry nat_eq es r.addr r), sum_by-cons (of_entry f) e es, sum_insert f es r h)
    ] none

pub keyed_insert : (es : List (ℕ × Held)) (r : Held) → All IsKeyed es → All IsKeyed (insert_entry nat_eq es r.addr r)
keyed_insert [] r all = All-cons IsKeyed (r.addr, r) [] refl (All-nil IsKeyed)
keyed_insert (e ∷ es) r all =
    elim (nat_eq r.addr e.0) as (λ v. nat_eq r.addr e.0 ≡ v → All IsKeyed (cond v ((e.0, r) ∷ es) (e ∷ insert_entry nat_eq es r.addr r))) [
      | true ↦ λ h. All-cons IsKeyed (e.0, r) es (sym (eqb-true _ _ h)) (All-tail IsKeyed e es all)
      | false ↦ λ h. All-cons IsKeyed e (insert_entry nat_eq es r.addr r) (All-head IsKeyed e es all) (keyed_insert es r (All-tail IsKeyed e es all))
    ] refl

-- a held region is found where it stands
pub found_place : (k : ℕ) (es : List (ℕ × Held)) (r : Held) → lookup (nat_eq k) es ≡ Some r →
    (i : ℕ) × (position (nat_eq k) (keys_of es) ≡ Some i) × (i < length es) × ((d : ℕ × Held) → (get_or es i d).1 ≡ r)
found_place k es r found = by (position (nat_eq k) (keys_of es)) refl
  where
    by : (o : Option ℕ) → position (nat_eq k) (keys_of es) ≡ o → (i : ℕ) × (position (nat_eq k) (keys_of es) ≡ Some i) × (i < length es) × ((d : ℕ × Held) → (get_or es i d).1 ≡ r)
    by None e = let none = (Missing-position (nat_eq k) es e).value in absurd (cc)
    by (Some i) e =
        let at = Found-position (nat_eq k) es i e in
        let value : slice_get (map (λ (x : ℕ × Held). x.1) es) i ≡ Some r = sym at.value ∙ found in
        (i, e, at.within, λ d. sym (get_or-map (λ (x : ℕ × Held). x.1) es i d d.1 at.within) ∙ get_or_from_slice_get (map (λ (x : ℕ × Held). x.1) es) i r d.1 value)

-- ---- one region less

pub sum_remove : (f : Held → ℕ) (es : List (ℕ × Held)) (k : ℕ) (r : Held) → lookup (nat_eq k) es ≡ Some r →
    sum_by (of_entry f) (swap_remove_entry (nat_eq k) es) + f r ≡ sum_by (of_entry f) es
sum_remove f [] k r found = absurd (cc)
sum_remove f (e ∷ es) k r found =
    let at = found_place k (e ∷ es) r found in
    let same : f (get_or (e ∷ es) at.0 e).1 ≡ f r = ap f (at.3 e) in
    let less = sum_by-swap_remove (of_entry f) (e ∷ es) at.0 e at.2 in
    ap (λ o. sum_by (of_entry f) (option_map_or (λ i. swap_remove (e ∷ es) i e) o (e ∷ es)) + f r) at.1 ∙ omega (arith, less, same)

pub keyed_remove : (es : List (ℕ × Held)) (k : ℕ) → All IsKeyed es → All IsKeyed (swap_remove_entry (nat_eq k) es)
keyed_remove [] k all = all
keyed_remove (e ∷ es) k all = by (position (nat_eq k) (keys_of (e ∷ es)))
  where
    by : (o : Option ℕ) → All IsKeyed (option_map_or (λ i. swap_remove (e ∷ es) i e) o (e ∷ es))
    by None = all
    by (Some i) = All-take IsKeyed (length (e ∷ es) - 1) (slice_set (e ∷ es) i (get_or (e ∷ es) (length (e ∷ es) - 1) e))
        (All-set IsKeyed (e ∷ es) i (get_or (e ∷ es) (length (e ∷ es) - 1) e) (all (length (e ∷ es) - 1) e (omega arith)) all)

-- where no entry has the address, none is found there
pub none_found : (k : ℕ) (es : List (ℕ × Held)) → ((r : Held) → lookup (nat_eq k) es ≡ Some r → ⊥) → lookup (nat_eq k) es ≡ None
none_found k es free = elim (lookup (nat_eq k) es) as (λ o. lookup (nat_eq k) es ≡ o → o ≡ None) [ None ↦ λ h. refl | Some r ↦ λ h. absurd (free r h) ] refl

-- ---- cached lists

pub sum_set : (f : Held → ℕ) (lists : List (List Held)) (k : ℕ) (list : List Held) → k < length lists →
    sum_by f (flat_map (λ l. l) (slice_set lists k list)) + sum_by f (get_or lists k []) ≡ sum_by f (flat_map (λ l. l) lists) + sum_by f list
sum_set f [] k list within = absurd (omega (arith, within))
sum_set f (l ∷ ls) zero list within = simp (flat_map-cons, sum_by-append) (omega arith)
sum_set f (l ∷ ls) (suc k) list within = simp (flat_map-cons, sum_by-append) (omega (arith, sum_set f ls k list (omega (arith, within))))

-- ---- what changes of what a client has do to its regions

-- what is summed over the region in hand, or the one gained
abbrev pub of_hand : (Held → ℕ) → Option Held → ℕ
of_hand f None = 0
of_hand f (Some r) = f r

-- a sum over the regions that a client has
abbrev pub over : (Held → ℕ) → DeskFacts → ℕ
over f desk = sum_by (of_entry f) desk.held + sum_by f (flat_map (λ l. l) desk.cached) + of_hand f desk.hand + of_hand f desk.gained + sum_by f (explicit desk.set)

-- What a client has is in order: what is held by its address, and what is cached by its class.
pub record Shaped (desk : DeskFacts) : Type 0 where
  pub keyed : All IsKeyed desk.held
  pub lists : length desk.cached ≡ 41
  pub classed : (class : ℕ) → All (λ (r : Held). r.class ≡ class) (cached_in desk.cached class)
  pub places : All IsInClasses desk.set

-- ---- what is held

pub hold_over : (f : Held → ℕ) (r : Held) (desk : DeskFacts) → held_at r.addr desk ≡ None → over f (holding r desk) ≡ over f desk + f r
hold_over f r desk none = omega (arith, sum_insert f desk.held r none)

-- whether another region is held at its address or not, there is at most one more
insert_within : (f : Held → ℕ) (es : List (ℕ × Held)) (r : Held) → sum_by (of_entry f) (insert_entry nat_eq es r.addr r) ≤ sum_by (of_entry f) es + f r
insert_within f [] r = let one = sum_by-cons (of_entry f) (r.addr, r) [] in omega (arith, one)
insert_within f (e ∷ es) r =
    elim (nat_eq r.addr e.0) as (λ v. sum_by (of_entry f) (cond v ((e.0, r) ∷ es) (e ∷ insert_entry nat_eq es r.addr r)) ≤ sum_by (of_entry f) (e ∷ es) + f r) [
      | true ↦ omega (arith, sum_by-cons (of_entry f) (e.0, r) es, sum_by-cons (of_entry f) e es)
      | false ↦ omega (arith, sum_by-cons (of_entry f) e (insert_entry nat_eq es r.addr r), sum_by-cons (of_entry f) e es, insert_within f es r)
    ]

pub hold_of : (together : Bool) (f : Held → ℕ) (r : Held) (desk : DeskFacts) → (together ≡ true → held_at r.addr desk ≡ None) → IsOf together (over f (holding r desk)) (over f desk + f r)
hold_of together f r desk free = record { within = omega (arith, insert_within f desk.held r); all = λ e. hold_over f r desk (free e) }

pub hold_shaped : (r : Held) (desk : DeskFacts) → Shaped desk → Shaped (holding r desk)
hold_shaped r desk is = record { keyed = keyed_insert desk.held r is.keyed; lists = is.lists; classed = is.classed; places = is.places }

pub drop_over : (f : Held → ℕ) (addr : ℕ) (r : Held) (desk : DeskFacts) → held_at addr desk ≡ Some r → over f (not_holding addr desk) + f r ≡ over f desk
drop_over f addr r desk found = omega (arith, sum_remove f desk.held addr r found)

pub drop_shaped : (addr : ℕ) (desk : DeskFacts) → Shaped desk → Shaped (not_holding addr desk)
drop_shaped addr desk is = record { keyed = keyed_remove desk.held addr is.keyed; lists = is.lists; classed = is.classed; places = is.places }

pub discard_shaped : (arena : ℕ) (desk : DeskFacts) → Shaped desk → Shaped (discarding arena desk)
discard_shaped arena desk is =
    record { keyed = All-filter (λ (e : ℕ × Held). is_elsewhere arena e.1) IsKeyed desk.held is.keyed; lists = is.lists; classed = is.classed; places = is.places }

-- ---- one list of the cache changes

-- what is known of the lists where the one of a class is others of it
pub set_classed : (desk : DeskFacts) (class : ℕ) (list : List Held) → Shaped desk → All (λ (r : Held). r.class ≡ class) list → class < 41 → Shaped (record desk { cached = slice_set desk.cached class list })
set_classed desk class list is all small = record {
  keyed = is.keyed;
  lists = length-set desk.cached class list ∙ is.lists;
  classed = λ k. by k (class == k) refl;
  places = is.places;
}
  where
    by : (k : ℕ) (v : Bool) → (class == k) ≡ v → All (λ (r : Held). r.class ≡ k) (get_or (slice_set desk.cached class list) k [])
    by k true e =
        let same : class ≡ k = grind (arith, nat_tests) in
        subst (λ j. All (λ (r : Held). r.class ≡ j) (get_or (slice_set desk.cached class list) j [])) same
        (subst (All (λ (r : Held). r.class ≡ class)) (sym (get_or-set_same desk.cached class list [] (omega (arith, small, is.lists)))) all)
    by k false e =
        let other : k ≢ class = λ same. grind (arith, nat_tests) in
        subst (All (λ (r : Held). r.class ≡ k)) (sym (get_or-set_other desk.cached class k list [] other)) (is.classed k)

-- ---- what is cached

-- A region is cached where its class has a slot: it comes last in the list of its class, and nothing else changes.
pub cached_as : (r : Held) (desk : DeskFacts) → r.class < 41 → has_slot r.class desk ≡ true →
    caching r desk ≡ record desk { cached = slice_set desk.cached r.class (cached_in desk.cached r.class ++ r ∷ []) }
cached_as r desk small slot =
    ap (λ v. cond v (record desk { cached = slice_set desk.cached r.class (put_in r.class r (cached_in desk.cached r.class)) }) desk) (lt-ltb r.class 41 small)
    ∙ ap (λ v. record desk { cached = slice_set desk.cached r.class (cond v (cached_in desk.cached r.class ++ r ∷ []) (cached_in desk.cached r.class)) }) slot

pub cache_over : (f : Held → ℕ) (r : Held) (desk : DeskFacts) → r.class < 41 → has_slot r.class desk ≡ true → Shaped desk → over f (caching r desk) ≡ over f desk + f r
cache_over f r desk small slot is = ap (over f) (cached_as r desk small slot) ∙ omega (
  arith,
  sum_set f desk.cached r.class (cached_in desk.cached r.class ++ r ∷ []) (omega (arith, small, is.lists)),
  sum_by_push f (cached_in desk.cached r.class) r,
)

pub cache_shaped : (r : Held) (desk : DeskFacts) → r.class < 41 → has_slot r.class desk ≡ true → Shaped desk → Shaped (caching r desk)
cache_shaped r desk small slot is =
    subst Shaped (sym (cached_as r desk small slot)) (set_classed desk r.class (cached_in desk.cached r.class ++ r ∷ []) is
    (All-append (λ (q : Held). q.class ≡ r.class) (cached_in desk.cached r.class) (r ∷ []) (is.classed r.class) (All-cons (λ (q : Held). q.class ≡ r.class) r [] refl (All-nil (λ (q : Held). q.class ≡ r.class)))) small)

pub cache_hand : (r : Held) (desk : DeskFacts) → (caching r desk).hand ≡ desk.hand
cache_hand r desk = grind arith

pub cache_gained : (r : Held) (desk : DeskFacts) → (caching r desk).gained ≡ desk.gained
cache_gained r desk = grind arith

pub cache_arena : (r : Held) (desk : DeskFacts) → (caching r desk).arena ≡ desk.arena
cache_arena r desk = grind arith

-- ---- regions of a class are shared out

-- What is so once regions of a class were cached: they are all the client has more.
pub record Shares (desk after : DeskFacts) (class : ℕ) (regions : List Held) : Type 0 where
  pub more : (f : Held → ℕ) → over f after ≡ over f desk + sum_by f regions
  pub shaped : Shaped after
  pub long : length (cached_in after.cached class) ≡ length (cached_in desk.cached class) + length regions

pub share_all : (arena class : ℕ) (addrs : List ℕ) (desk : DeskFacts) → Shaped desk → (0 < length addrs → (class < 41) × (length (cached_in desk.cached class) + length addrs ≤ slots_at class)) →
    Shares desk (sharing arena class addrs desk) class (map (held_region arena class) addrs)
share_all arena class [] desk is slots = record { more = λ f. omega arith; shaped = is; long = omega arith }
share_all arena class (addr ∷ addrs) desk is slots =
    let room = slots (omega arith) in
    let rest = share_all arena class addrs desk is (λ some. (room.0, omega (arith, room.1))) in
    let shared : DeskFacts = sharing arena class addrs desk in
    let n : length (map (held_region arena class) addrs) ≡ length addrs = length-map addrs (held_region arena class) in
    let slot : has_slot class shared ≡ true = lt-ltb _ _ (omega (arith, rest.long, n, room.1)) in
    let r : Held = held_region arena class addr in
    let same = cached_as r shared room.0 slot in record {
      more = λ f. omega (arith, cache_over f r shared room.0 slot rest.shaped, rest.more f, sum_by-cons f r (map (held_region arena class) addrs));
      shaped = cache_shaped r shared room.0 slot rest.shaped;
      long = ap (λ (d : DeskFacts). length (cached_in d.cached class)) same
          ∙ ap length (get_or-set_same shared.cached class (cached_in shared.cached class ++ r ∷ []) [] (omega (arith, room.0, rest.shaped.lists)))
          ∙ omega (arith, length-append (cached_in shared.cached class) (r ∷ []), rest.long);
    }

-- what is in hand stays, the arena from which the client allocates, and what is gained
pub share_stays : (arena class : ℕ) (addrs : List ℕ) (desk : DeskFacts) →
    ((sharing arena class addrs desk).hand ≡ desk.hand) × ((sharing arena class addrs desk).arena ≡ desk.arena) × ((sharing arena class addrs desk).gained ≡ desk.gained)
share_stays arena class [] desk = (refl, refl, refl)
share_stays arena class (addr ∷ addrs) desk =
    let shared : DeskFacts = sharing arena class addrs desk in
    let rest = share_stays arena class addrs desk in
    (cache_hand (held_region arena class addr) shared ∙ rest.0, cache_arena (held_region arena class addr) shared ∙ rest.1, cache_gained (held_region arena class addr) shared ∙ rest.2)

-- ---- a region that is freed

-- What a client has more by one region, which is cached or in hand.
pub record Gains (desk after : DeskFacts) (r : Held) : Type 0 where
  pub more : (f : Held → ℕ) → over f after ≡ over f desk + f r
  pub shaped : Shaped after
  pub arena : after.arena ≡ desk.arena

pub free_gains : (r : Held) (desk : DeskFacts) → Shaped desk → desk.hand ≡ None → Gains desk (freeing r desk) r
free_gains r desk is empty = by (is_cacheable r.class desk && has_slot r.class desk) refl
  where
    by : (v : Bool) → (is_cacheable r.class desk && has_slot r.class desk) ≡ v → Gains desk (cond v (caching r desk) (record desk { hand = Some r })) r
    by true e =
        let both = both_true (is_cacheable r.class desk) (has_slot r.class desk) e in
        let small = ltb-true r.class 41 (both_true desk.caches (nat_lt r.class 41) both.0).1 in record {
          more = λ f. cache_over f r desk small both.1 is;
          shaped = cache_shaped r desk small both.1 is;
          arena = cache_arena r desk;
        }
    by false e = record {
      more = λ f. let none : of_hand f desk.hand ≡ 0 = ap (of_hand f) empty in omega (arith, none);
      shaped = record { keyed = is.keyed; lists = is.lists; classed = is.classed; places = is.places };
      arena = refl;
    }

-- ---- a region that is gained

-- a region that takes the place of the one in hand, if one is, is one more
pub gain_gains : (r : Held) (desk : DeskFacts) → Shaped desk → desk.gained ≡ None → Gains desk (gaining r desk) r
gain_gains r desk is none = by desk.hand refl
  where
    gained : DeskFacts
    gained = record desk { gained = Some r }

    had : (f : Held → ℕ) → of_hand f desk.gained ≡ 0
    had f = ap (of_hand f) none

    by : (hand : Option Held) → desk.hand ≡ hand → Gains desk (freed_with hand gained) r
    by None e = record { more = λ f. omega (arith, had f); shaped = record { keyed = is.keyed; lists = is.lists; classed = is.classed; places = is.places }; arena = refl }
    by (Some old) e =
        let freed = free_gains old (empty_handed gained) (record { keyed = is.keyed; lists = is.lists; classed = is.classed; places = is.places }) refl in record {
          more = λ f. let hand : of_hand f desk.hand ≡ f old = ap (of_hand f) e in omega (arith, had f, hand, freed.more f);
          shaped = freed.shaped;
          arena = freed.arena;
        }

-- the region in hand is gained with another class
pub reclass_over : (f : Held → ℕ) (desk : DeskFacts) (r : Held) (class : ℕ) → desk.hand ≡ Some r → desk.gained ≡ None → over f (reclassing class desk) + f r ≡ over f desk + f (record r { class = class })
reclass_over f desk r class e none =
    let had : of_hand f desk.gained ≡ 0 = ap (of_hand f) none in
    let hand : of_hand f desk.hand ≡ f r = ap (of_hand f) e in
    subst (λ (o : Option Held). over f (reclassing_with o class desk) + f r ≡ over f desk + f (record r { class = class })) (sym e) (omega (arith, had, hand))

pub reclass_shaped : (desk : DeskFacts) (class : ℕ) → Shaped desk → Shaped (reclassing class desk)
reclass_shaped desk class is = by desk.hand
  where
    by : (hand : Option Held) → Shaped (reclassing_with hand class desk)
    by None = is
    by (Some r) = record { keyed = is.keyed; lists = is.lists; classed = is.classed; places = is.places }

pub reclass_arena : (desk : DeskFacts) (class : ℕ) → (reclassing class desk).arena ≡ desk.arena
reclass_arena desk class = grind arith

-- ---- the region in hand

-- the region in hand can be cached
abbrev pub CanKeep : DeskFacts → Option Held → Type 0
CanKeep desk None = Unit {0}
CanKeep desk (Some r) = (r.class < 41) × (has_slot r.class desk ≡ true)

-- What a client has stays, and nothing is in hand. Where the arenas aren't known at one moment together, a region that is held again
-- may take the place of another one at its address.
pub record Settles (together : Bool) (desk after : DeskFacts) : Type 0 where
  pub same : (f : Held → ℕ) → IsOf together (over f after) (over f desk)
  pub shaped : Shaped after
  pub arena : after.arena ≡ desk.arena
  pub hand : after.hand ≡ None

pub keep_settles : (together : Bool) (desk : DeskFacts) → Shaped desk → CanKeep desk desk.hand → Settles together desk (kept desk)
keep_settles together desk is can = by desk.hand refl can
  where
    by : (hand : Option Held) → desk.hand ≡ hand → CanKeep desk hand → Settles together desk (kept_with hand desk)
    by None e can = record { same = λ f. as_many refl; shaped = is; arena = refl; hand = e }
    by (Some r) e can =
        let shaped = cache_shaped r desk can.0 can.1 is in record {
          same = λ f.
              let none : of_hand f (caching r desk).hand ≡ f r = ap (of_hand f) (cache_hand r desk ∙ e) in
              let had : of_hand f desk.hand ≡ f r = ap (of_hand f) e in
              as_many (omega (arith, cache_over f r desk can.0 can.1 is, none, had));
          shaped = record { keyed = shaped.keyed; lists = shaped.lists; classed = shaped.classed; places = shaped.places };
          arena = cache_arena r desk;
          hand = refl;
        }

pub hold_settles : (together : Bool) (desk : DeskFacts) → Shaped desk → ((r : Held) → desk.hand ≡ Some r → together ≡ true → held_at r.addr desk ≡ None) → Settles together desk (held_again desk)
hold_settles together desk is free = by desk.hand refl
  where
    by : (hand : Option Held) → desk.hand ≡ hand → Settles together desk (held_again_with hand desk)
    by None e = record { same = λ f. as_many refl; shaped = is; arena = refl; hand = e }
    by (Some r) e =
        let shaped = hold_shaped r desk is in record {
          same = λ f.
              let had : of_hand f desk.hand ≡ f r = ap (of_hand f) e in
              shifts (hold_of together f r (empty_handed desk) (free r e)) (omega (arith, had));
          shaped = record { keyed = shaped.keyed; lists = shaped.lists; classed = shaped.classed; places = shaped.places };
          arena = refl;
          hand = refl;
        }

-- what is gained stays with what becomes of the one in hand
pub kept_gained : (desk : DeskFacts) → (kept desk).gained ≡ desk.gained
kept_gained desk = by desk.hand
  where
    by : (hand : Option Held) → (kept_with hand desk).gained ≡ desk.gained
    by None = refl
    by (Some r) = cache_gained r desk

pub again_gained : (desk : DeskFacts) → (held_again desk).gained ≡ desk.gained
again_gained desk = grind arith

-- the region gained is held
pub gain_settles : (together : Bool) (desk : DeskFacts) → Shaped desk → desk.hand ≡ None → ((r : Held) → desk.gained ≡ Some r → together ≡ true → held_at r.addr desk ≡ None) →
    Settles together desk (gain_held desk) × ((gain_held desk).gained ≡ None)
gain_settles together desk is empty free = by desk.gained refl
  where
    by : (gained : Option Held) → desk.gained ≡ gained → Settles together desk (gain_held_with gained desk) × ((gain_held_with gained desk).gained ≡ None)
    by None e = (record { same = λ f. as_many refl; shaped = is; arena = refl; hand = empty }, e)
    by (Some r) e =
        let shaped = hold_shaped r desk is in (
          record {
            same = λ f.
                let had : of_hand f desk.gained ≡ f r = ap (of_hand f) e in
                shifts (hold_of together f r (record desk { gained = None }) (free r e)) (omega (arith, had));
            shaped = record { keyed = shaped.keyed; lists = shaped.lists; classed = shaped.classed; places = shaped.places };
            arena = refl;
            hand = empty;
          },
          refl,
        )

-- ---- a region that was hit

-- a region that was hit is one of its class
pub hit_is : (class : ℕ) (desk : DeskFacts) (r : Held) → Shaped desk → hit class desk ≡ Some r → (class < 41) × (r.class ≡ class)
    × ((f : Held → ℕ) → over f (hitting class desk) + f r ≡ over f desk) × Shaped (hitting class desk)
hit_is class desk r is found =
    elim (is_cacheable class desk) as (λ v. is_cacheable class desk ≡ v → cond v (slice_get (cached_in desk.cached class) (before_last class desk)) None ≡ Some r → (class < 41) × (r.class ≡ class)
    × ((f : Held → ℕ) → over f (hitting class desk) + f r ≡ over f desk) × Shaped (hitting class desk)) [
      | true ↦ λ e is_it.
          let list : List Held = cached_in desk.cached class in
          let small : class < 41 = ltb-true class 41 (both_true desk.caches (nat_lt class 41) e).1 in
          let within = slice_get_within list (length list - 1) r is_it in
          let at : get_or list (length list - 1) r ≡ r = get_or_from_slice_get list (length list - 1) r r is_it in (
            small,
            sym (ap (λ (q : Held). q.class) at) ∙ is.classed class (length list - 1) r within,
            λ f. let last : f (get_or list (length list - 1) r) ≡ f r = ap f at in omega (
              arith,
              last,
              sum_set f desk.cached class (take (length list - 1) list) (omega (arith, small, is.lists)),
              sum_by-take-drop f list (length list - 1),
              ap (sum_by f) (drop_more list (length list - 1) r within),
              sum_by-cons f (get_or list (length list - 1) r) (drop (length list - 1 + 1) list),
              ap (sum_by f) (nil_from_length (drop (length list - 1 + 1) list) (length-drop (length list - 1 + 1) list ∙ omega (arith, within))),
            ),
            set_classed desk class (take (length list - 1) list) is (All-take (λ (q : Held). q.class ≡ class) (length list - 1) list (is.classed class)) small,
          )
      | false ↦ λ e is_it. absurd (cc)
    ] refl found

-- where none was hit of a class that is cached, there is none
pub miss_is : (class : ℕ) (desk : DeskFacts) → is_cacheable class desk ≡ true → hit class desk ≡ None → cached_in desk.cached class ≡ []
miss_is class desk e none = by (cached_in desk.cached class) (sym (ap (λ v. cond v (slice_get (cached_in desk.cached class) (before_last class desk)) None) e) ∙ none)
  where
    by : (list : List Held) → slice_get list (length list - 1) ≡ None → list ≡ []
    by [] h = refl
    by (x ∷ xs) h = let there = slice_get-get_or (x ∷ xs) (length (x ∷ xs) - 1) x (omega arith) in absurd (cc)
