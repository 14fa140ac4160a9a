-- Which slab has an address, and the region that begins there, or none.
use Rattle.bin_book.proofs.Words.{Option, IfNone, IfSome, ◌≡◌, ℕ, ◌+◌, ◌-◌, ◌*◌, ◌/◌, ◌%◌, ◌<◌, ◌≤◌, true, false, ◌&&◌, eqb, ltb, List, length, map, filter, get_or, Some, None, ◌⊎◌, inl, inr, refl, sym, ap, ◌∙◌, subst, arith, Contains, is_lt, vec_len, find, option_map, list_any, range_with_len, div-add-mod', mul-div_cancel, mul-mod_left, cases_Bool, eqb-true, false_from_ne_true, nat_tests, IsStrictlySortedBy-filter, get_or_from_slice_get, slice_get-get_or, slice_get_within, pages_at, regions_at, size_at, pages_bounds, size_bounds, Key, IsAscending, is_below, key_cmp, last_of, filter_from, filter_has, last_greatest, less_from_parts, less_parts, start, every_member, less_from_lt, Table, BinSlab, is_among, is_out, place, slab_places, HasOut, IsLastKeyBelow, IsOutAt, IsSlabTable, bits_at, ones, slab_at, slabs_in, slab_region, regions_in, any_from, any_has, any_map, any_none, map_from, map_has, range_from, range_has, Region, starts_at, is_some, is_some_find}
use Rattle.bin_book.proofs.Places.{among_ones, place_inside}
use Rattle.bin_book.proofs.Regions.{found_out, out_from}
use Rattle.std.specs.FinMap as map_of

below_page : (k : Key) (page : ℕ) → k.major < page → is_below (start page) k ≡ true
below_page k page l = ap is_lt (less_from_parts k (start page) (inl l))

page_below : (k : Key) (page : ℕ) → is_below (start page) k ≡ true → k.major < page
page_below k page t = grind (arith, less_parts k (start page) (less_from_lt _ t))

pub last_below : (keys : List Key) (page : ℕ) (key : Key) → IsAscending keys → last_of (filter (is_below (start page)) keys) ≡ Some key → IsLastKeyBelow keys page key
last_below keys page key ascending e =
    let ks = filter (is_below (start page)) keys in
    let m = filter_from (is_below (start page)) keys key (length ks - 1, slice_get_within ks (length ks - 1) key e, get_or_from_slice_get ks (length ks - 1) key key e) in
    let greatest = last_greatest ks key (IsStrictlySortedBy-filter key_cmp (is_below (start page)) keys ascending) (sym e) in
    record {
      there = m.0;
      below = page_below key page m.1;
      last = λ k n l. every_member (λ k. k.major ≤ key.major) ks greatest k (filter_has (is_below (start page)) keys k n (below_page k page l));
    }

pub none_below : (keys : List Key) (page : ℕ) → last_of (filter (is_below (start page)) keys) ≡ None → (k : Key) → Contains keys k → page ≤ k.major
none_below keys page e k m = grind (arith, filter_has (is_below (start page)) keys k m, below_page k page, slice_get-get_or (filter (is_below (start page)) keys) (length (filter (is_below (start page)) keys) - 1) k, e)

-- what a search below a page finds
pub last_found : (keys : List Key) (page : ℕ) (found : Option Key) → IsAscending keys → found ≡ last_of (filter (is_below (start page)) keys) → IfSome found (λ key. IsLastKeyBelow keys page key)
last_found keys page None ascending e = tt
last_found keys page (Some key) ascending e = last_below keys page key ascending (sym e)

pub none_found : (keys : List Key) (page : ℕ) (found : Option Key) → found ≡ last_of (filter (is_below (start (page + 1))) keys) → IfNone found ((k : Key) → Contains keys k → page < k.major)
none_found keys page None e = λ k m. let far = none_below keys (page + 1) (sym e) k m in omega arith
none_found keys page (Some key) e = tt

module _ (t : Table) (i : IsSlabTable t) where
  pages_of : (k : Key) → Contains t.firsts.keys k → 1 ≤ pages_at (bits_at t.slots.items k.minor).class
  pages_of k m = (pages_bounds _ (let s = (i.kept.slab k m).small in omega arith)).0

  -- a slab that begins below the last one that begins below a page ends where that one begins, or before
  pub before_last : (page : ℕ) (key : Key) → IsLastKeyBelow t.firsts.keys page key → (k : Key) → Contains t.firsts.keys k → (k ≡ key) ⊎ ((k.major + pages_at (bits_at t.slots.items k.minor).class ≤ key.major) ⊎ (page ≤ k.major))
  before_last page key last k m = grind (arith, i.kept.apart k key m last.there, last.last k m)

  -- a page has a number only where a slab has the page, which is the last one that begins there or below
  pub charted_last : (page number : ℕ) → map_of.get t.chart.pages.numbers page ≡ Some number → IsLastKeyBelow t.firsts.keys (page + 1) (record { major = get_or t.chart.firsts.items number 0; minor = number })
  charted_last page number e =
      let h = i.charted.holders page number e in
      let same : h.0 ≡ record { major = get_or t.chart.firsts.items number 0; minor = number } = (λ x. record { major = (sym (i.charted.firsts h.0 h.1.there) ∙ ap (λ n. get_or t.chart.firsts.items n 0) h.1.at) x; minor = h.1.at x }) in
      subst (IsLastKeyBelow t.firsts.keys (page + 1)) same (record {
        there = h.1.there;
        below = omega (arith, h.1.has.0);
        last = λ k m l. grind (arith, i.kept.apart h.0 k h.1.there m, h.1.has.1, l);
      })

  pub charted_found : (page : ℕ) (key : Key) → option_map (λ number. record { major = get_or t.chart.firsts.items number 0; minor = number }) (map_of.get t.chart.pages.numbers page) ≡ Some key → IsLastKeyBelow t.firsts.keys (page + 1) key
  charted_found page key e = by (map_of.get t.chart.pages.numbers page) refl e
    where
      by : (o : Option ℕ) → map_of.get t.chart.pages.numbers page ≡ o → option_map (λ number. record { major = get_or t.chart.firsts.items number 0; minor = number }) o ≡ Some key → IsLastKeyBelow t.firsts.keys (page + 1) key
      by None is e = absurd (cc)
      by (Some number) is e = subst (IsLastKeyBelow t.firsts.keys (page + 1)) (cc) (charted_last page number is)

  pub charted_place : (page number : ℕ) → map_of.get t.chart.pages.numbers page ≡ Some number → number < vec_len t.chart.firsts
  charted_place page number e =
      let h = i.charted.holders page number e in
      let low = i.in_slots h.0 h.1.there in
      omega (arith, h.1.at)

  -- ---- sharing pages

  pub meets_last : (first end : ℕ) → first < end → (key : Key) → IsLastKeyBelow t.firsts.keys end key
      → ltb first (key.major + pages_at (bits_at t.slots.items key.minor).class) ≡ list_any (λ s. ltb s.first end && ltb first (s.first + pages_at s.class)) (slabs_in t)
  unfolding slabs_in
  meets_last first end some key last =
      let p = λ (s : BinSlab). ltb s.first end && ltb first (s.first + pages_at s.class) in
      sym (elim (cases_Bool (ltb first (key.major + pages_at (bits_at t.slots.items key.minor).class))) [
        | inl y ↦ any_has p (map (slab_at t.slots.items) t.firsts.keys) (slab_at t.slots.items key) (map_has (slab_at t.slots.items) t.firsts.keys key last.there) (grind (arith, nat_tests, last.below, y)) ∙ sym y
        | inr n ↦ any_map (slab_at t.slots.items) p t.firsts.keys ∙ any_none (λ k. p (slab_at t.slots.items k)) t.firsts.keys (λ k m. grind (arith, nat_tests, before_last end key last k m, last.below, n, pages_of key last.there)) ∙ sym n
      ])

  pub meets_none : (first end : ℕ) → ((k : Key) → Contains t.firsts.keys k → end ≤ k.major) → false ≡ list_any (λ s. ltb s.first end && ltb first (s.first + pages_at s.class)) (slabs_in t)
  unfolding slabs_in
  meets_none first end none =
      let p = λ (s : BinSlab). ltb s.first end && ltb first (s.first + pages_at s.class) in
      sym (any_map (slab_at t.slots.items) p t.firsts.keys ∙ any_none (λ k. p (slab_at t.slots.items k)) t.firsts.keys (λ k m. let far = none k m in grind (arith, nat_tests)))

  -- ---- having an address

  -- where a region of a slab is out
  pub out_here : (class addr : ℕ) (key : Key) (n : ℕ) → IsOutAt t class addr key n → is_out class addr (slab_at t.slots.items key) ≡ true
  out_here class addr key n o =
      let b = bits_at t.slots.items key.minor in
      let small = (i.kept.slab key o.there).small in
      let places = any_has (λ a. eqb a addr) (slab_places b.class key.major) (place b.class key.major n) (map_has (place b.class key.major) (range_with_len 0 (regions_at b.class)) n (grind (arith, range_has 0 (regions_at b.class) n, o.out.of_class, o.out.inside))) (grind (arith, nat_tests, o.at, o.out.of_class)) in
      grind (arith, nat_tests, places, among_ones b.class key.major (regions_at b.class) n b.free small, o.at, o.out.of_class, o.out.inside, o.out.out)

  pub out_somewhere : (class addr : ℕ) (key : Key) (n : ℕ) → IsOutAt t class addr key n → true ≡ list_any (is_out class addr) (slabs_in t)
  unfolding slabs_in
  out_somewhere class addr key n o = sym (any_has (is_out class addr) (map (slab_at t.slots.items) t.firsts.keys) (slab_at t.slots.items key) (map_has (slab_at t.slots.items) t.firsts.keys key o.there) (out_here class addr key n o))

  -- and where it is, a slab shows it
  pub out_shown : (class addr : ℕ) (key : Key) → Contains t.firsts.keys key → is_out class addr (slab_at t.slots.items key) ≡ true → (n : ℕ) × IsOutAt t class addr key n
  out_shown class addr key m e =
      let b = bits_at t.slots.items key.minor in
      let small = (i.kept.slab key m).small in
      let a = any_from (λ a. eqb a addr) (slab_places b.class key.major) (grind (arith, e)) in
      let p = map_from (place b.class key.major) (range_with_len 0 (regions_at b.class)) a.0 a.1 in
      let low : p.0 < regions_at b.class = omega (arith, (range_from 0 (regions_at b.class) p.0 p.1).1) in
      let at : place b.class key.major p.0 ≡ addr = p.2 ∙ eqb-true _ _ a.2 in
      let of_class : b.class ≡ class = grind (arith, nat_tests, e) in
      let shown : is_among (map (place b.class key.major) (ones (regions_at b.class) b.free)) addr ≡ false = grind (arith, e) in (
        p.0,
        record {
          there = m;
          at = ap (λ c. place c key.major p.0) (sym of_class) ∙ at;
          out = record {
            of_class = of_class;
            inside = subst (λ c. p.0 < regions_at c) of_class low;
            out = sym (among_ones b.class key.major (regions_at b.class) p.0 b.free small low) ∙ ap (is_among (map (place b.class key.major) (ones (regions_at b.class) b.free))) at ∙ shown;
          };
        },
      )

  -- the slab of an address is the last one that begins at its page or below
  pub only_holder : (class addr : ℕ) (key : Key) → IsLastKeyBelow t.firsts.keys (addr / 4096 + 1) key → (k : Key) (n : ℕ) → IsOutAt t class addr k n → k ≡ key
  only_holder class addr key last k n o =
      let b = bits_at t.slots.items k.minor in
      let small = (i.kept.slab k o.there).small in
      grind (arith, before_last (addr / 4096 + 1) key last k o.there, o.at, o.out.of_class, o.out.inside, place_inside b.class k.major n small, size_bounds b.class, last.below)

  -- where it has none out there, none is
  pub none_out : (class addr : ℕ) → ((k : Key) (n : ℕ) → IsOutAt t class addr k n → ⊥) → false ≡ list_any (is_out class addr) (slabs_in t)
  unfolding slabs_in
  none_out class addr none = sym (any_map (slab_at t.slots.items) (is_out class addr) t.firsts.keys ∙ any_none (λ k. is_out class addr (slab_at t.slots.items k)) t.firsts.keys (λ k m.
      false_from_ne_true _ (λ e. let o = out_shown class addr k m e in none k o.0 o.1)))

-- ---- the region at an address

module _ (t : Table) (i : IsSlabTable t) (class addr : ℕ) (small : class < 36) (key : Key) (last : IsLastKeyBelow t.firsts.keys (addr / 4096 + 1) key) (size : ℕ) (of_class : size ≡ size_at class) where
  abbrev offset : ℕ
  offset = addr - 4096 * key.major

  pub from_first : 4096 * key.major ≤ addr
  from_first = let below = last.below in omega arith

  pub out_at : offset % size ≡ 0 → HasOut (bits_at t.slots.items key.minor) class (offset / size) → IsOutAt t class addr key (offset / size)
  out_at whole out = record {
    there = last.there;
    at = ap (λ s. 4096 * key.major + offset / size * s) (sym of_class) ∙ (let parts = div-add-mod' offset size in let first = from_first in omega arith);
    out = out;
  }

  pub out_not : (offset % size ≡ 0 → HasOut (bits_at t.slots.items key.minor) class (offset / size) → ⊥) → false ≡ list_any (is_out class addr) (slabs_in t)
  out_not none = none_out t i class addr (λ k n o.
      let p = subst (λ z. IsOutAt t class addr z n) (only_holder t i class addr key last k n o) o in
      let at = p.at in
      let some : 0 < size = omega (arith, (size_bounds class (omega arith)).0) in
      let is : offset ≡ n * size = (let e : offset ≡ n * size_at class = omega arith in e ∙ ap (λ s. n * s) (sym of_class)) in
      none (ap (λ x. x % size) is ∙ mul-mod_left n size) (subst (HasOut (bits_at t.slots.items key.minor) class) (sym (ap (λ x. x / size) is ∙ mul-div_cancel n some)) p.out))

-- where no slab begins at the page of an address or below, no region stands there
pub pages_far : (t : Table) → IsSlabTable t → (class addr : ℕ) → ((k : Key) → Contains t.firsts.keys k → addr / 4096 + 1 ≤ k.major) → (k : Key) (n : ℕ) → IsOutAt t class addr k n → ⊥
pages_far t i class addr far k n o = let at = o.at in let above = far k o.there in omega arith

-- where a slab has no region out at an address, none begins there
pub none_starts : (t : Table) (addr : ℕ) → ((k : Key) (n : ℕ) → IsOutAt t (bits_at t.slots.items k.minor).class addr k n → ⊥) → false ≡ list_any (starts_at addr) (regions_in t)
none_starts t addr none = sym (any_none (starts_at addr) (regions_in t) (λ r m.
    let p = out_from t.slots.items t.holders t.firsts.keys r m in
    let o = p.2 in
    false_from_ne_true _ (λ e. none p.0 p.1 (record { there = o.there; at = ap (λ (x : Region). x.addr) o.is ∙ eqb-true r.addr addr e; out = record { of_class = refl; inside = o.low; out = o.out } }))))

module _ (t : Table) (i : IsSlabTable t) (addr : ℕ) (key : Key) where
  abbrev class : ℕ
  class = (bits_at t.slots.items key.minor).class

  -- none does where the last slab that begins at its page or below has none out there
  pub none_last : IsLastKeyBelow t.firsts.keys (addr / 4096 + 1) key → false ≡ list_any (is_out class addr) (slabs_in t) → false ≡ list_any (starts_at addr) (regions_in t)
  none_last last none = none_starts t addr (λ k n o.
      let is = only_holder t i (bits_at t.slots.items k.minor).class addr key last k n o in
      let yes = out_somewhere t i class addr key n (subst (λ (z : Key). IsOutAt t (bits_at t.slots.items z.minor).class addr z n) is o) in
      let no : false ≡ true = none ∙ sym yes in
      cc)

  -- a region that is out is what begins at its address
  pub found_there : (n : ℕ) → IsOutAt t class addr key n → find (starts_at addr) (regions_in t) ≡ Some (slab_region t.slots.items t.holders key n)
  found_there n o = ap (λ a. find (starts_at a) (regions_in t)) (sym o.at) ∙ found_out t.slots.items t.holders t.firsts.keys i.ascending i.kept _ key n (record { there = o.there; low = o.out.inside; out = o.out.out; is = refl })

  pub some_starts : (n : ℕ) → IsOutAt t class addr key n → true ≡ list_any (starts_at addr) (regions_in t)
  some_starts n o = sym (ap is_some (found_there n o)) ∙ is_some_find (starts_at addr) (regions_in t)
