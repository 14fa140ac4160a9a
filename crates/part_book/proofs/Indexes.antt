-- What the indexes of a table say of its extents.
use Rattle.part_book.proofs.Words.{numbers_of, ◌≡◌, ℕ, ◌-◌, ◌/◌, ◌^◌, ◌<◌, ◌≤◌, Bool, true, false, cond, eqb, List, [], ◌∷◌, length, map, filter, find, get_or, slice_get, Option, Some, None, option_map, count_by, vec_len, refl, sym, ap, ◌∙◌, subst, arith, All, Contains, nat_cmp, true_from_ne_false, IsPlaced, end_of, nat_tests, All-contains, All-head, All-nil, All-tail, Contains-get_or, get_or_default_zero, find_at, position_or_len_is, sum_by-cons, IsStrictlySortedBy-filter, get_or_from_slice_get, slice_get-get_or, slice_get_within, Key, IsAscending, is_below, is_from, key_cmp, last_of, every_member, filter_from, filter_has, from_start, last_greatest, major_less, start, start_from, Part, State, is_flight, is_in_flight, Rest, AgeList, Table, IsFirstFrom, IsKeyed, IsLastBelow, Row, first_key, flights_in, is_edge, part_at, row_at, size_key, IsIndexed, IsListOf, IsSlotted, IsRowTable, KeepsExtents, rows_of, all_from, count_some, find_map, find_none, found, map_from, map_has, mapped_none, mapped_some, none_found}
use Rattle.part_book.proofs.Walks.{find_some}
use Rattle.std.specs.FinMap as map_of
use Rattle.std.specs.FinSet as set
use Rattle.space_model.specs.declared.Rest.TheVariants as rests

-- the extents of some rows
abbrev pub parts_in : List Row → List Part
parts_in rows = map (λ row. row.part) rows

-- the slots of the numbers of some rows have these
rows_read : (slots : List Part) (rows : List Row) → All (λ row. part_at slots row.number ≡ row.part) rows → map (row_at slots) (numbers_of rows) ≡ rows
rows_read slots [] all = refl
rows_read slots (r ∷ rows) all =
    let here : row_at slots r.number ≡ r = λ k. record { number = r.number; part = All-head (λ row. part_at slots row.number ≡ row.part) r rows all k } in
    let rest = rows_read slots rows (All-tail (λ row. part_at slots row.number ≡ row.part) r rows all) in
    cc

-- a table in order with some rows keeps their extents
pub keeps : (t : Table) (rows : List Row) → IsRowTable t rows → KeepsExtents t (parts_in rows)
unfolding rows_of
keeps t rows i = grind (arith, nat_tests, rows_read)

-- the first and the last page of an extent lie in chunks that have leaves
abbrev pub IsLeafed : set.FinSet nat_cmp → Row → Type 0
IsLeafed chunks row = (set.contains chunks (row.part.span.first / 512) ≡ true) × (set.contains chunks ((end_of row.part.span - 1) / 512) ≡ true)

-- a number is that of a slot
pub in_slots : (t : Table) (rows : List Row) (r : Row) → IsSlotted t rows → Contains rows r → r.number < vec_len t.slots
in_slots t rows r i m =
    let some = count_some (λ row. eqb row.number r.number) rows r m (grind (arith, nat_tests)) in
    let all = i.free r.number in
    grind (arith, nat_tests)

-- which are few
pub small_numbers : (t : Table) (rows : List Row) → IsSlotted t rows → (r : Row) → Contains rows r → r.number < 2 ^ 32
small_numbers t rows i r m = let l = in_slots t rows r i m in let all = i.small in omega arith

-- the slot of a number has the extent
pub in_slot : (t : Table) (rows : List Row) (r : Row) → IsIndexed t rows → Contains rows r → part_at t.slots.items r.number ≡ r.part
in_slot t rows r i m = All-contains (λ row. part_at t.slots.items row.number ≡ row.part) rows r i.slots m

-- where a number is that of a row, its slot has the extent
pub slot_of : (t : Table) (rows : List Row) (r : Row) {number : ℕ} → IsRowTable t rows → Contains rows r → r.number ≡ number → (number < vec_len t.slots) × (part_at t.slots.items number ≡ r.part)
slot_of t rows r i m e = (subst (λ n. n < vec_len t.slots) e (in_slots t rows r i.slots m), ap (part_at t.slots.items) (sym e) ∙ in_slot t rows r i.indexes m)

-- the row of a number that the map gives for a page
pub edge_row : (t : Table) (rows : List Row) (page number : ℕ) → IsRowTable t rows → map_of.get t.edges.numbers page ≡ Some number → (r : Row) × (find (λ row. is_edge page row.part) rows ≡ Some r) × Contains rows r × (r.number ≡ number)
edge_row t rows page number i e = grind (arith, nat_tests, found, mapped_some)

-- the slot of that number has the extent whose first or last page it is
pub edge_part : (t : Table) (rows : List Row) (page number : ℕ) → IsRowTable t rows → map_of.get t.edges.numbers page ≡ Some number → find (is_edge page) (parts_in rows) ≡ Some (part_at t.slots.items number)
edge_part t rows page number i e = grind (arith, nat_tests, edge_row, find_map, slot_of)

-- a page without a number is no first or last page
pub edge_none : (t : Table) (rows : List Row) (page : ℕ) → IsRowTable t rows → map_of.get t.edges.numbers page ≡ None → find (is_edge page) (parts_in rows) ≡ None
edge_none t rows page i e = grind (arith, nat_tests, find_map, mapped_none)

-- ---- the first pages

-- a list without a last key has none
no_last : (ks : List Key) (k : Key) → last_of ks ≡ None → Contains ks k → ⊥
no_last ks k e (i, l, is) =
    let some = slice_get-get_or ks (length ks - 1) k (omega arith) in
    let no : None ≡ Some (get_or ks (length ks - 1) k) = sym e ∙ some in cc

is_below_from : (k : Key) (page : ℕ) → k.major < page → is_below (start page) k ≡ true
is_below_from k page l = true_from_ne_false (is_below (start page) k) (λ f. let g = from_start k page (rw f refl) in omega arith)

below_from : (k : Key) (page : ℕ) → is_below (start page) k ≡ true → k.major < page
below_from k page t = grind (arith, start_from k page, t)

-- the key of an extent among the first pages
abbrev start_of : Row → Key
start_of r = record { major = r.part.span.first; minor = r.number }

first_is : (r : Row) (k : Key) → first_key r ≡ Some k → start_of r ≡ k
first_is r k e = cc

-- the row of the last key below a page
pub last_row : (rows : List Row) (keys : List Key) (page : ℕ) (key : Key) → IsKeyed first_key rows keys → IsAscending keys → last_of (filter (is_below (start page)) keys) ≡ Some key → (r : Row) × Contains rows r × (r.number ≡ key.minor) × IsLastBelow page (parts_in rows) r.part
last_row rows keys page key firsts ascending e =
    let ks = filter (is_below (start page)) keys in
    let m = filter_from (is_below (start page)) keys key (length ks - 1, slice_get_within ks (length ks - 1) key e, get_or_from_slice_get ks (length ks - 1) key key e) in
    let p = firsts.from key m.0 in
    let is = first_is p.0 key p.2 in
    let first : p.0.part.span.first ≡ key.major = ap (λ (k : Key). k.major) is in
    let below = below_from key page m.1 in
    let greatest = last_greatest ks key (IsStrictlySortedBy-filter key_cmp (is_below (start page)) keys ascending) (sym e) in (
      p.0,
      p.1,
      ap (λ (k : Key). k.minor) is,
      record {
        listed = map_has (λ row. row.part) rows p.0 p.1;
        below = omega arith;
        last = all_from (λ q. q.span.first < page → q.span.first ≤ p.0.part.span.first) (parts_in rows) (λ q n l.
            let r = map_from (λ row. row.part) rows q n in
            let same : r.0.part.span.first ≡ q.span.first = ap (λ (x : Part). x.span.first) r.2 in
            let up = every_member (λ k. k.major ≤ key.major) ks greatest (start_of r.0) (filter_has (is_below (start page)) keys (start_of r.0) (firsts.has r.0 (start_of r.0) r.1 refl) (is_below_from (start_of r.0) page (omega arith))) in
            omega arith);
      },
    )

-- where there is no last key below a page, no extent begins below it
pub no_row : (rows : List Row) (keys : List Key) (page : ℕ) → IsKeyed first_key rows keys → last_of (filter (is_below (start page)) keys) ≡ None → All (λ p. page ≤ p.span.first) (parts_in rows)
no_row rows keys page firsts e = all_from (λ p. page ≤ p.span.first) (parts_in rows) (λ q n.
    let r = map_from (λ row. row.part) rows q n in
    let same : r.0.part.span.first ≡ q.span.first = ap (λ (x : Part). x.span.first) r.2 in
    grind (arith, is_below_from (start_of r.0) page, no_last (filter (is_below (start page)) keys) (start_of r.0) e, filter_has (is_below (start page)) keys (start_of r.0) (firsts.has r.0 (start_of r.0) r.1 refl), same))

-- the row of the first key from a page on
pub row_from : (rows : List Row) (keys : List Key) (page : ℕ) (key : Key) → IsKeyed first_key rows keys → IsAscending keys → find (is_from (start page)) keys ≡ Some key → (r : Row) × Contains rows r × (r.number ≡ key.minor) × IsFirstFrom page (parts_in rows) r.part
row_from rows keys page key firsts ascending e =
    let least = find_some (is_from (start page)) keys key ascending e in
    let p = firsts.from key least.0 in
    let is = first_is p.0 key p.2 in
    let first : p.0.part.span.first ≡ key.major = ap (λ (k : Key). k.major) is in
    let from = from_start key page least.1 in (
      p.0,
      p.1,
      ap (λ (k : Key). k.minor) is,
      record {
        listed = map_has (λ row. row.part) rows p.0 p.1;
        from = omega arith;
        first = all_from (λ q. page ≤ q.span.first → p.0.part.span.first ≤ q.span.first) (parts_in rows) (λ q n le.
            let r = map_from (λ row. row.part) rows q n in
            let same : r.0.part.span.first ≡ q.span.first = ap (λ (x : Part). x.span.first) r.2 in
            let k : Key = start_of r.0 in
            grind (arith, least.2 k (firsts.has r.0 k r.1 refl), major_less k key, start_from k page, same, first, le));
      },
    )

-- where there is no key from a page on, each extent begins below it
pub no_row_from : (rows : List Row) (keys : List Key) (page : ℕ) → IsKeyed first_key rows keys → find (is_from (start page)) keys ≡ None → All (λ p. p.span.first < page) (parts_in rows)
no_row_from rows keys page firsts e = all_from (λ p. p.span.first < page) (parts_in rows) (λ q n.
    let r = map_from (λ row. row.part) rows q n in
    let same : r.0.part.span.first ≡ q.span.first = ap (λ (x : Part). x.span.first) r.2 in
    grind (arith, none_found (is_from (start page)) keys e (start_of r.0) (firsts.has r.0 (start_of r.0) r.1 refl), start_from (start_of r.0) page, same))

-- ---- the flights

-- the flights are as many as the extents in flight
pub count_flights : (rows : List Row) → length (flights_in rows) ≡ count_by (λ p. is_in_flight p.state) (parts_in rows)
count_flights [] = refl
count_flights (r ∷ rows) = grind (arith, count_flights rows, sum_by-cons (λ (p : Part). cond (is_in_flight p.state) 1 0) r.part (parts_in rows))

-- an extent that is not in flight is in flight for nobody
grounded : (client : ℕ) (state : State) → is_in_flight state ≡ false → is_flight client state ≡ false
grounded client state e = grind (arith, e)

-- whether the extent in a slot is the client's, in flight
abbrev pub is_flown : List Part → ℕ → ℕ → Bool
is_flown slots client number = is_flight client (part_at slots number).state

-- the first extent that the client has in flight has the first number of the flights that is the client's
find_flight : (slots : List Part) (client : ℕ) (rows : List Row) → All (λ row. part_at slots row.number ≡ row.part) rows →
    find (λ p. is_flight client p.state) (parts_in rows) ≡ option_map (part_at slots) (find (is_flown slots client) (flights_in rows))
find_flight slots client [] all = refl
find_flight slots client (r ∷ rows) all =
    let slot : part_at slots r.number ≡ r.part = All-head (λ row. part_at slots row.number ≡ row.part) r rows all in
    let flown = ap (λ (p : Part). is_flight client p.state) slot in
    let rest = find_flight slots client rows (All-tail (λ row. part_at slots row.number ≡ row.part) r rows all) in
    grind (arith, flown, slot, rest, grounded client r.part.state)

-- so the flights of the table tell the first one
pub flight_of : (t : Table) (client : ℕ) → IsRowTable t (rows_of t) → find (λ p. is_flight client p.state) (parts_in (rows_of t)) ≡ option_map (part_at t.slots.items) (find (is_flown t.slots.items client) t.flights.items)
flight_of t client i = find_flight t.slots.items client (rows_of t) i.indexes.slots ∙ ap (λ ns. option_map (part_at t.slots.items) (find (is_flown t.slots.items client) ns)) (sym i.indexes.lists.flights)

-- a loop over numbers finds the first one that passes
pub first_number : (p : ℕ → Bool) (ns : List ℕ) (i : ℕ) → i < length ns → ((k : ℕ) → k < i → p (get_or ns k 0) ≡ false) → p (get_or ns i 0) ≡ true → find p ns ≡ Some (get_or ns i 0)
first_number p ns i l earlier here = find_at p ns ∙ ap (slice_get ns) (position_or_len_is p ns i 0 (omega arith) earlier (λ _. here)) ∙ slice_get-get_or ns i 0 l

-- or finds that none passes
pub no_number : (p : ℕ → Bool) (ns : List ℕ) → ((k : ℕ) → k < length ns → p (get_or ns k 0) ≡ false) → find p ns ≡ None
no_number p ns none = find_none p ns (λ n (k, l, e). ap p (sym e ∙ get_or_default_zero ns k n l) ∙ none k l)

-- the flights are numbers of slots
pub flights_in_slots : (t : Table) (rows : List Row) → IsRowTable t rows → (k : ℕ) → k < length t.flights.items → get_or t.flights.items k 0 < vec_len t.slots
flights_in_slots t rows i k l =
    let m : Contains t.flights.items (get_or t.flights.items k 0) = Contains-get_or t.flights.items k 0 l in
    let n = map_from (λ row. row.number) (filter (λ row. is_in_flight row.part.state) rows) (get_or t.flights.items k 0) (subst (λ ns. Contains ns (get_or t.flights.items k 0)) i.indexes.lists.flights m) in
    let r = filter_from (λ row. is_in_flight row.part.state) rows n.0 n.1 in
    (slot_of t rows n.0 i r.0 n.2).0

-- ---- a table without extents

-- a list without extents
no_list : (rest : Rest) (list : AgeList) (slots : ℕ) → list ≡ record { ages = record { numbers = []; places = 0 }; pages = 0 } → slots ≡ 0 → IsListOf rest list slots []
no_list rest list slots e none = record { numbers = ap (λ l. l.ages.numbers) e; pages = ap (λ l. l.pages) e; places = omega arith }

-- a set without keys
no_keys : (key_of : Row → Option Key) (keys : List Key) → keys ≡ [] → IsKeyed key_of [] keys
no_keys key_of keys e = grind (arith, nat_tests)

-- a table whose indexes have nothing
pub empty_table : (t : Table) → t.order.numbers ≡ [] → (dirty : t.dirty ≡ record { ages = record { numbers = []; places = 0 }; pages = 0 }) → (muzzy : t.muzzy ≡ record { ages = record { numbers = []; places = 0 }; pages = 0 }) → (retained : t.retained ≡ record { ages = record { numbers = []; places = 0 }; pages = 0 }) →
    t.flights.items ≡ [] → t.sums ≡ record { all = 0; active = 0 } → t.firsts.keys ≡ [] → t.sizes.keys ≡ [] → t.edges.numbers ≡ map_of.empty → vec_len t.slots ≡ 0 → t.free.items ≡ [] → vec_len t.free ≡ 0 → KeepsExtents t []
empty_table t order dirty muzzy retained flights sums firsts sizes numbers slots free free_len = keeps t [] (record {
  indexes = record {
    apart = record { placed = All-nil (λ p. IsPlaced p.span); owners = λ page. omega arith };
    order = order;
    places = omega arith;
    lists = record {
      dirty = no_list rests.Dirty t.dirty (vec_len t.slots) dirty slots;
      muzzy = no_list rests.Muzzy t.muzzy (vec_len t.slots) muzzy slots;
      retained = no_list rests.Retained t.retained (vec_len t.slots) retained slots;
      flights = flights;
      sums = record { all = ap (λ s. s.all) sums; active = ap (λ s. s.active) sums };
      sizes = no_keys size_key t.sizes.keys sizes;
    };
    firsts = no_keys first_key t.firsts.keys firsts;
    edges = record { numbers = λ page. ap (λ m. map_of.get m page) numbers ∙ map_of.get-empty nat_cmp page; leaves = All-nil (IsLeafed t.edges.chunks) };
    slots = All-nil (λ (r : Row). part_at t.slots.items r.number ≡ r.part);
  };
  slots = record { free = λ number. rw (free, slots) (grind (arith, nat_tests)); places = omega arith; small = omega arith; room = omega arith };
})
