-- The regions that go back of those that a client has.
use Rattle.sits.proofs.Words.{[], ◌≡◌, ℕ, ◌+◌, ◌<◌, ◌==◌, ◌&&◌, ◌||◌, Bool, true, false, cond, List, ◌∷◌, ◌++◌, All, Option, None, Some, map, take, drop, slice_set, refl, sym, ◌∙◌, ap, subst, arith, nat_lt, filter, fold, insert_key, flat_map, list_any, sum_by, nat_cmp, ltb-true, nat_tests, length-map, get_or-map, flat_map-cons, All-append, All-drop, All-filter, All-take, filter-append, sum_by-filter_both, sum_by-append, sum_by-cons, sum_by-take-drop, gone_from, is_elsewhere, added, addrs_in, gave, gave_with, is_in_arena, lesser, older_count, Held, DeskFacts, BatchFacts, batch_of, going, going_with, is_cacheable, cached_in, both_true, eq-eqb}
use Rattle.sits.proofs.Having.{Shaped, of_hand, over, set_classed, sum_set}

-- ---- the addresses of a batch

-- an address is among rising ones once it was added, and every other one as it was
insert_any : (a b : ℕ) (xs : List ℕ) → list_any (λ x. x == a) (insert_key nat_cmp xs b) ≡ ((b == a) || list_any (λ x. x == a) xs)
insert_any a b [] = refl
insert_any a b (x ∷ xs) = grind (arith, nat_tests, insert_any a b xs)

added_any : (arena a : ℕ) (xs : List ℕ) (regions : List Held) →
    list_any (λ x. x == a) (fold (added arena) xs regions) ≡ (list_any (λ x. x == a) xs || list_any (λ r. is_in_arena arena r && r.addr == a) regions)
added_any arena a xs [] = grind arith
added_any arena a xs (r ∷ rs) = grind (arith, added_any arena a (added arena xs r) rs, insert_any a r.addr xs)

-- an address goes back where a region of the arena is at it
pub addrs_any : (arena a : ℕ) (regions : List Held) → list_any (λ x. x == a) (addrs_in arena regions) ≡ list_any (λ r. r.addr == a) (filter (is_in_arena arena) regions)
addrs_any arena a regions = added_any arena a [] regions ∙ kept_any regions
  where
    kept_any : (rs : List Held) → list_any (λ r. is_in_arena arena r && r.addr == a) rs ≡ list_any (λ r. r.addr == a) (filter (is_in_arena arena) rs)
    kept_any [] = refl
    kept_any (r ∷ rs) = grind (arith, kept_any rs)

-- what a batch is of
pub batch_addrs : (regions : List Held) (arena : ℕ) (addrs : List ℕ) → batch_of regions ≡ Some (record { arena = arena; addrs = addrs }) → addrs ≡ addrs_in arena regions
batch_addrs regions arena addrs e = grind arith

-- ---- what is left

-- What a client has less by regions that go back.
pub record Parts (desk after : DeskFacts) (gone : List Held) : Type 0 where
  pub less : (f : Held → ℕ) → over f after + sum_by f gone ≡ over f desk
  pub shaped : Shaped after
  pub arena : after.arena ≡ desk.arena

flat_filter : (test : Held → Bool) (lists : List (List Held)) → flat_map (λ l. l) (map (filter test) lists) ≡ filter test (flat_map (λ l. l) lists)
flat_filter test [] = refl
flat_filter test (list ∷ lists) =
    flat_map-cons (λ l. l) (filter test list) (map (filter test) lists)
    ∙ ap (λ xs. filter test list ++ xs) (flat_filter test lists)
    ∙ sym (filter-append test list (flat_map (λ l. l) lists)) ∙ ap (filter test) (sym (flat_map-cons (λ l. l) list lists))

-- all cached ones of an arena
all_part : (desk : DeskFacts) (arena : ℕ) → Shaped desk → Parts desk (gave_with None arena desk) (filter (is_in_arena arena) (flat_map (λ l. l) desk.cached))
all_part desk arena is = record {
  less = λ f. omega (
    arith,
    ap (sum_by f) (flat_filter (is_elsewhere arena) desk.cached),
    sum_by-filter_both (is_in_arena arena) (is_elsewhere arena) (λ r. refl) f (flat_map (λ l. l) desk.cached),
  );
  shaped = record {
    keyed = is.keyed;
    places = is.places;
    lists = length-map desk.cached (filter (is_elsewhere arena)) ∙ is.lists;
    classed = λ k. subst (All (λ (r : Held). r.class ≡ k)) (sym (get_or-map (filter (is_elsewhere arena)) desk.cached k [])) (All-filter (is_elsewhere arena) (λ (r : Held). r.class ≡ k) (cached_in desk.cached k) (is.classed k));
  };
  arena = refl;
}

-- the older ones of a class
older_part : (desk : DeskFacts) (class count arena : ℕ) → Shaped desk → class < 41 →
    Parts desk (record desk { cached = slice_set desk.cached class (gone_from arena count (cached_in desk.cached class)) }) (filter (is_in_arena arena) (take count (cached_in desk.cached class)))
older_part desk class count arena is small =
    let list : List Held = cached_in desk.cached class in record {
      less = λ f. omega (
        arith,
        sum_set f desk.cached class (gone_from arena count list) (omega (arith, small, is.lists)),
        sum_by-append f (filter (is_elsewhere arena) (take count list)) (drop count list),
        sum_by-take-drop f list count,
        sum_by-filter_both (is_in_arena arena) (is_elsewhere arena) (λ r. refl) f (take count list),
      );
      shaped = set_classed desk class (gone_from arena count list) is
          (All-append (λ (r : Held). r.class ≡ class) (filter (is_elsewhere arena) (take count list)) (drop count list)
          (All-filter (is_elsewhere arena) (λ (r : Held). r.class ≡ class) (take count list) (All-take (λ (r : Held). r.class ≡ class) count list (is.classed class)))
          (All-drop (λ (r : Held). r.class ≡ class) count list (is.classed class))) small;
      arena = refl;
    }

pub gave_parts : (desk : DeskFacts) (all : Bool) (arena : ℕ) (addrs : List ℕ) → Shaped desk → batch_of (going all desk) ≡ Some (record { arena = arena; addrs = addrs }) →
    Parts desk (gave arena desk) (filter (is_in_arena arena) (going all desk))
gave_parts desk all arena addrs is e = by desk.hand refl e
  where
    by : (hand : Option Held) → desk.hand ≡ hand → batch_of (going_with hand all desk) ≡ Some (record { arena = arena; addrs = addrs }) → Parts desk (gave_with hand arena desk) (filter (is_in_arena arena) (going_with hand all desk))
    by None h e =
        elim all as (λ v. batch_of (going_with None v desk) ≡ Some (record { arena = arena; addrs = addrs }) → Parts desk (gave_with None arena desk) (filter (is_in_arena arena) (going_with None v desk))) [
          | true ↦ λ k. all_part desk arena is
          | false ↦ λ k. absurd (cc)
        ] e
    by (Some r) h e =
        elim (is_cacheable r.class desk) as (λ v. is_cacheable r.class desk ≡ v → batch_of (cond v (take (older_count r.class desk) (cached_in desk.cached r.class)) (r ∷ [])) ≡ Some (record { arena = arena; addrs = addrs }) →
        Parts desk (cond v (record desk { cached = slice_set desk.cached r.class (gone_from arena (older_count r.class desk) (cached_in desk.cached r.class)) }) (record desk { hand = None }))
        (filter (is_in_arena arena) (cond v (take (older_count r.class desk) (cached_in desk.cached r.class)) (r ∷ [])))) [
          | true ↦ λ k b. older_part desk r.class (older_count r.class desk) arena is (ltb-true r.class 41 (both_true desk.caches (nat_lt r.class 41) k).1)
          | false ↦ λ k b.
              let home : r.arena ≡ arena = ap (λ (o : Option BatchFacts). arena_of o) b in
              let here : is_in_arena arena r ≡ true = eq-eqb r.arena arena home in
              subst (Parts desk (record desk { hand = None })) (ap (λ v. cond v (r ∷ []) []) (sym here)) (record {
                less = λ f. let had : of_hand f desk.hand ≡ f r = ap (of_hand f) h in omega (arith, had, sum_by-cons f r []);
                shaped = record { keyed = is.keyed; lists = is.lists; classed = is.classed; places = is.places };
                arena = refl;
              })
        ] refl e
      where
        arena_of : Option BatchFacts → ℕ
        arena_of None = r.arena
        arena_of (Some b) = b.arena

-- ---- once nothing more goes back

some_arena : (least : Option ℕ) (regions : List Held) → fold lesser least regions ≡ None → (least ≡ None) × (regions ≡ [])
some_arena least [] e = (e, refl)
some_arena least (r ∷ rs) e = let rest = some_arena (lesser least r) rs e in absurd (cc)

pub no_batch : (regions : List Held) → batch_of regions ≡ None → regions ≡ []
no_batch regions e = (some_arena None regions (grind arith)).1
