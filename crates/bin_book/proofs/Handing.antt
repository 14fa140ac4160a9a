-- The regions that are out, as one is taken, put back or handed over.
use Rattle.bin_book.proofs.Words.{◌≡◌, ◌≢◌, ℕ, ◌+◌, ◌*◌, ◌<◌, Bool, true, false, not, eqb, List, ◌∷◌, ◌++◌, length, filter, find, map, get_or, set, Option, Some, None, refl, sym, ap, ◌∙◌, subst, arith, Contains, range_with_len, range_has, eq-eqb, get_or-set_other, get_or-set_same, length-range_with_len, length-filter, regions_at, slab_filled, Region, held_anew, inserted, region_of, starts_at, Bits, Key, key_cmp, key_tie, key_total, is_above, is_below, filter_has, others_is, parts, present, Table, addr_of, place, holder_at, AreSlabKeys, IsSlabIn, IsSlabTable, bits_at, left_of, slab_region, regions_in, out_of_slabs, regions_without, zeros, IsRising, not_found}
use Rattle.bin_book.proofs.Places.{by_key, class_stays, is_new, kept_changed, one_place, length_ones}
use Rattle.bin_book.proofs.Regions.{found_out, left_between, out_from, regions_agree_at, regions_both, regions_first, regions_rise}
use Rattle.bin_book.proofs.Taking.{in_items, with_bit}
use Rattle.list_facts.proofs.ByKey.{absent_filter, changed_is, taken_out}
use Rattle.list_facts.proofs.Members.{kept_length, only}

-- nothing begins at the address of a free place
found_free : (slots : List Bits) (codes : List ℕ) (keys : List Key) → AreSlabKeys slots keys → (key : Key) → Contains keys key → (n addr : ℕ) → n < regions_at (bits_at slots key.minor).class → place (bits_at slots key.minor).class key.major n ≡ addr → get_or (bits_at slots key.minor).free n false ≡ true → find (starts_at addr) (out_of_slabs slots codes keys) ≡ None
found_free slots codes keys kept key there n addr low at free = not_found addr_of (out_of_slabs slots codes keys) addr (λ r m e.
    let p = out_from slots codes keys r m in
    let o = p.2 in
    let same = one_place slots keys kept p.0 key o.there there p.1 n o.low low (ap (λ (x : Region). x.addr) o.is ∙ e ∙ sym at) in
    let no : false ≡ true = sym o.out ∙ (λ x. get_or (bits_at slots (same.0 x).minor).free (same.1 x) false) ∙ free in
    cc)

-- ---- a table of which one region changes

module _ (t : Table) (i : IsSlabTable t) (key : Key) (there : Contains t.firsts.keys key) (n : ℕ) (low : n < regions_at (bits_at t.slots.items key.minor).class) where
  abbrev bits : Bits
  bits = bits_at t.slots.items key.minor

  abbrev at : ℕ
  at = place bits.class key.major n

  -- it has a place among the codes
  pub code_inside : 512 * key.minor + n < length t.holders
  code_inside =
      let few = (slab_filled bits.class (i.kept.slab key there).small).2 in
      let mine = i.in_slots key there in
      omega arith

  rising : IsRising addr_of (regions_in t)
  rising = regions_rise t.slots.items t.holders t.firsts.keys i.ascending i.kept

  -- the other regions stay, where its bit and its code are written
  others_stay : (slots : List Bits) (codes : List ℕ) → ((k : Key) → Contains t.firsts.keys k → (bits_at slots k.minor).class ≡ (bits_at t.slots.items k.minor).class)
      → ((k : Key) (j : ℕ) → Contains t.firsts.keys k → place (bits_at t.slots.items k.minor).class k.major j ≢ at → get_or (bits_at slots k.minor).free j false ≡ get_or (bits_at t.slots.items k.minor).free j false)
      → ((p : ℕ) → p ≢ 512 * key.minor + n → holder_at codes p ≡ holder_at t.holders p) → filter (λ r. not (starts_at at r)) (out_of_slabs slots codes t.firsts.keys) ≡ filter (λ r. not (starts_at at r)) (regions_in t)
  others_stay slots codes class bit others = regions_agree_at (λ a. not (eqb a at)) t.slots.items slots t.holders codes t.firsts.keys class (λ k j m l passes.
      let ne : place (bits_at t.slots.items k.minor).class k.major j ≢ at = (λ e. let no : false ≡ true = sym (ap not (eq-eqb _ _ e)) ∙ passes in cc) in
      let few = (slab_filled bits.class (i.kept.slab key there).small).2 in
      let few' = (slab_filled (bits_at t.slots.items k.minor).class (i.kept.slab k m).small).2 in (
        bit k j m ne,
        others (512 * k.minor + j) (λ e.
            let is = i.kept.numbers k key m there (omega arith) in
            let equal : j ≡ n = omega arith in
            ne (λ x. place (bits_at t.slots.items (is x).minor).class (is x).major (equal x))),
      ))

  pub region_held : get_or bits.free n false ≡ false → (codes : List ℕ) (holder : Option ℕ) → holder_at codes (512 * key.minor + n) ≡ holder → ((p : ℕ) → p ≢ 512 * key.minor + n → holder_at codes p ≡ holder_at t.holders p)
      → out_of_slabs t.slots.items codes t.firsts.keys ≡ held_anew (starts_at at) holder (regions_in t)
  region_held out codes holder here others =
      let change = λ (r : Region). record r { holder = holder } in
      let r = slab_region t.slots.items t.holders key n in
      let new : slab_region t.slots.items codes key n ≡ change r = (λ x. record { addr = at; class = bits.class; holder = here x }) in
      taken_out addr_of _ at (change r) (regions_rise t.slots.items codes t.firsts.keys i.ascending i.kept) (found_out t.slots.items codes t.firsts.keys i.ascending i.kept (change r) key n (record { there = there; low = low; out = out; is = new }))
      ∙ ap (inserted (change r)) (others_stay t.slots.items codes (λ k m. refl) (λ k j m ne. refl) others)
      ∙ sym (changed_is addr_of change (λ q. refl) (regions_in t) at r rising (found_out t.slots.items t.holders t.firsts.keys i.ascending i.kept r key n (record { there = there; low = low; out = out; is = refl })))

  -- the slots with a bit of its slab written
  abbrev written : Bool → List Bits
  written v = set t.slots.items key.minor (with_bit bits n v)

  kept_written : (v : Bool) → IsSlabIn (with_bit bits n v) key.major → AreSlabKeys (written v) t.firsts.keys
  kept_written v is = kept_changed t.slots.items t.firsts.keys i.kept key there (in_items t i key there (with_bit bits n v) refl) (with_bit bits n v) refl is

  others_written : (v : Bool) (codes : List ℕ) → ((p : ℕ) → p ≢ 512 * key.minor + n → holder_at codes p ≡ holder_at t.holders p) → filter (λ r. not (starts_at at r)) (out_of_slabs (written v) codes t.firsts.keys) ≡ filter (λ r. not (starts_at at r)) (regions_in t)
  others_written v codes =
      let b = with_bit bits n v in
      let inside = in_items t i key there b refl in
      others_stay (written v) codes (class_stays t.slots.items t.firsts.keys i.kept key there inside b refl) (λ k j m. by_key t.slots.items t.firsts.keys i.kept key there inside b refl
      (λ k b. place (bits_at t.slots.items k.minor).class k.major j ≢ at → get_or b.free j false ≡ get_or (bits_at t.slots.items k.minor).free j false)
      (λ ne. get_or-set_other bits.free n j v false (λ e. ne (ap (place bits.class key.major) e))) (λ k m other ne. refl) k m)

  new_bits : (v : Bool) → bits_at (written v) key.minor ≡ with_bit bits n v
  new_bits v = is_new t.slots.items t.firsts.keys i.kept key there (in_items t i key there (with_bit bits n v) refl) (with_bit bits n v) refl

  low_written : (v : Bool) → n < regions_at (bits_at (written v) key.minor).class
  low_written v = subst (λ (b : Bits). n < regions_at b.class) (sym (new_bits v)) low

  new_bit : (v : Bool) → n < length bits.free → get_or (bits_at (written v) key.minor).free n false ≡ v
  new_bit v inside = ap (λ (b : Bits). get_or b.free n false) (new_bits v) ∙ get_or-set_same bits.free n v false inside

  pub region_taken : (client class : ℕ) → bits.class ≡ class → n < length bits.free → get_or bits.free n false ≡ true → IsSlabIn (with_bit bits n false) key.major → (codes : List ℕ) → holder_at codes (512 * key.minor + n) ≡ Some client
      → ((p : ℕ) → p ≢ 512 * key.minor + n → holder_at codes p ≡ holder_at t.holders p) → out_of_slabs (written false) codes t.firsts.keys ≡ inserted (region_of client class at) (regions_in t)
  region_taken client class of_class inside free is codes here others =
      let class' = ap (λ (b : Bits). b.class) (new_bits false) in
      let region : slab_region (written false) codes key n ≡ region_of client class at = (λ x. record { addr = place (class' x) key.major n; class = (class' ∙ of_class) x; holder = here x }) in
      taken_out addr_of _ at (region_of client class at) (regions_rise (written false) codes t.firsts.keys i.ascending (kept_written false is)) (found_out (written false) codes t.firsts.keys i.ascending (kept_written false is) _ key n (record { there = there; low = low_written false; out = new_bit false inside; is = region }))
      ∙ ap (inserted (region_of client class at)) (others_written false codes others ∙ absent_filter addr_of at (regions_in t) (found_free t.slots.items t.holders t.firsts.keys i.kept key there n at low refl free))

  pub region_put : n < length bits.free → IsSlabIn (with_bit bits n true) key.major → out_of_slabs (written true) t.holders t.firsts.keys ≡ filter (λ r. not (starts_at at r)) (regions_in t)
  region_put inside is =
      let none = found_free (written true) t.holders t.firsts.keys (kept_written true is) key there n at (low_written true) (ap (λ (b : Bits). place b.class key.major n) (new_bits true)) (new_bit true inside) in
      sym (absent_filter addr_of at (out_of_slabs (written true) t.holders t.firsts.keys) none) ∙ others_written true t.holders (λ p ne. refl)

  -- the last one goes with its slab
  pub region_gone : get_or bits.free n false ≡ false → left_of bits + 1 ≡ regions_at bits.class → regions_without t key ≡ filter (λ r. not (starts_at at r)) (regions_in t)
  region_gone out last =
      let regions = regions_at bits.class in
      let all = out_of_slabs t.slots.items t.holders in
      let both = regions_both t.slots.items t.holders in
      let lower = filter (is_below key) t.firsts.keys in
      let higher = filter (is_above key) t.firsts.keys in
      let r = slab_region t.slots.items t.holders key n in
      let few = kept_length (λ j. get_or bits.free j false) (range_with_len 0 regions) in
      let free = sym (length-filter (λ j. get_or bits.free j false) (range_with_len 0 regions)) ∙ length_ones bits.free regions (i.kept.slab key there).behind in
      let one = only (zeros regions bits.free) n (omega (arith, length-range_with_len 0 regions)) (filter_has _ (range_with_len 0 regions) n (range_has 0 regions n (omega arith) (omega arith)) (ap not out)) in
      let whole = ap all (parts key_cmp key_total key t.firsts.keys i.ascending ∙ ap (λ ks. lower ++ ks) (present key_cmp key_total key key_tie t.firsts.keys i.ascending there)) ∙ both lower (key ∷ higher)
      ∙ ap (λ rs. all lower ++ rs) (regions_first t.slots.items t.holders key higher ∙ ap (λ ns. map (slab_region t.slots.items t.holders key) ns ++ all higher) one) in
      ap all (others_is key_cmp key_total key t.firsts.keys i.ascending) ∙ both lower higher ∙ sym (ap (filter (λ r. not (starts_at at r))) whole ∙ left_between (all lower) (all higher) r (subst (IsRising addr_of) whole rising))
