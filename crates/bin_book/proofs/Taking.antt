-- The lowest slab with a free region, a region that is taken out of it or put back, and a slab that leaves.
use Rattle.bin_book.proofs.Words.{◌≡◌, ◌≢◌, ℕ, ◌+◌, ◌*◌, ◌^◌, ◌<◌, Bool, true, false, eqb, List, [], ◌∷◌, length, length-append, map, get_or, Option, Some, None, inl, inr, refl, sym, ap, ◌∙◌, subst, arith, Contains, Less, Equal, vec_len, is_some, IfNone, IfSome, ◌≤◌, ltb, length-set, set, count_by, position, IsSome, not, filter, is_eq, IsStrictlySortedBy, cases_eq, cases_lt, eqb-true, false_from_ne_true, get_or-set_at, nat_tests, tied_itself, get_or_read_under, length-map, get_or-set_other, Key, IsAscending, key_cmp, KeySet, is_other, without_key, length_without, count_by-le-length, key_total, contains_cases, contains_later, other_from, without_from, less_major, every_member, Bits, regions_at, Table, free_of, place, BinSlab, with_free, with_regions_out, is_all_free, IsLeast, IsLowestOpen, IsSlabTable, AreCounts, bin_of, bits_at, is_open, open_in, left_of, no_bits, ones, slab_at, slabs_in, IsMoved, IsOutAt, IsSlabIn, bin_key, slab_of, slabs_without, head, bit, map_both, map_same, any_has, any_map, any_none, filter_all_of, filter_map_is, filter_same, map_from, map_has, position_or_len, list_any, position-Some, pages_bounds, slab_filled, fails_before_first, count_none, sum_by-set}
use Rattle.std.proofs.Common.{rules}
use Rattle.bin_book.proofs.Places.{length_ones, freed_slab, lowest_one, same_place, taken_slab, binned_changed, charted_changed, by_key, counts_stay, is_new, kept_changed, open_changed, count_without, same_slab, one_place, others_stay, key_cases}

-- a key below another one is another one
pub less_ne : (a b : Key) → key_cmp a b ≡ Less → a ≢ b
less_ne a b l e = let same : key_cmp a b ≡ Equal = subst (λ z. key_cmp a z ≡ Equal) e (tied_itself key_total a) in cc

-- slots that have no free places have no free regions
pub no_ones : {X : Type 0} (xs : List X) → length xs ≡ 0 → xs ≡ []
no_ones [] e = refl
no_ones (x ∷ xs) e = absurd (omega arith)

pub free_none : (slots : List Bits) (class : ℕ) (keys : List Key) → ((k : Key) → Contains keys k → (bits_at slots k.minor).class ≡ class → (slab_at slots k).free ≡ []) → free_of class (map (slab_at slots) keys) ≡ []
free_none slots class [] none = refl
free_none slots class (k ∷ ks) none = grind (arith, nat_tests, free_none slots class ks (λ l m. none l (contains_later k ks l m)), none k (head k ks))

-- the free places of a slab are as many as its bits say
pub length_free : (t : Table) → IsSlabTable t → (k : Key) → Contains t.firsts.keys k → length (ones (regions_at (bits_at t.slots.items k.minor).class) (bits_at t.slots.items k.minor).free) ≡ left_of (bits_at t.slots.items k.minor)
length_free t i k m = length_ones (bits_at t.slots.items k.minor).free (regions_at (bits_at t.slots.items k.minor).class) (i.kept.slab k m).behind

pub small_numbers : (t : Table) → IsSlabTable t → (k : Key) → Contains t.firsts.keys k → k.minor < 2 ^ 32
small_numbers t i k m = let low = i.in_slots k m in let small = i.small in omega arith

-- what is read of the slot of a slab
pub read_bits : (t : Table) → IsSlabTable t → (k : Key) → Contains t.firsts.keys k → (x : Bits) → x ≡ get_or t.slots.items k.minor x → x ≡ bits_at t.slots.items k.minor
read_bits t i k m x e = get_or_read_under t.slots.items k.minor (vec_len t.slots) x no_bits e (i.in_slots k m) t.slots.ok.0

-- a full slab has no free regions
pub full_free : (t : Table) → IsSlabTable t → (k : Key) → Contains t.firsts.keys k → left_of (bits_at t.slots.items k.minor) ≡ 0 → (slab_at t.slots.items k).free ≡ []
full_free t i k m e = ap (map (place (bits_at t.slots.items k.minor).class k.major)) (no_ones _ (length_free t i k m ∙ e))

-- a slab has a free region, or none
pub is_open_from : (bits : Bits) → 0 < left_of bits → is_open bits ≡ true
is_open_from bits some = grind (arith, nat_tests)

open_from : (bits : Bits) → is_open bits ≡ true → 0 < left_of bits
open_from bits some = grind (arith, nat_tests)

-- the key of a slab stands in the bins just while it has one
pub open_there : (t : Table) → IsSlabTable t → (key : Key) → Contains t.firsts.keys key → (is_open (bits_at t.slots.items key.minor) ≡ true → Contains t.bins.keys (bin_of t.slots.items key)) × (Contains t.bins.keys (bin_of t.slots.items key) → is_open (bits_at t.slots.items key.minor) ≡ true)
open_there t i key there = (
  i.binned.has key there,
  λ m.
      let p = i.binned.from _ m in
      subst (λ (k : Key). is_open (bits_at t.slots.items k.minor) ≡ true) (same_slab _ _ p.0 key (small_numbers t i p.0 p.1) (small_numbers t i key there) p.3) p.2,
)

-- and there is room for it while it has none
pub open_room : (t : Table) → IsSlabTable t → (key : Key) → Contains t.firsts.keys key → 1 ≤ t.bins.spare + bit (is_open (bits_at t.slots.items key.minor))
unfolding open_in
open_room t i key there =
    let stands = λ (k : Key). is_open (bits_at t.slots.items k.minor) in
    omega (arith, i.bins_room, i.places, count_without stands t.firsts.keys key i.ascending there, count_by-le-length stands (without_key t.firsts.keys key), length_without t.firsts.keys key i.ascending there)

-- where no key has the class, no region of it is free
pub none_open : (t : Table) → IsSlabTable t → (class : ℕ) → ((b : Key) → Contains t.bins.keys b → b.major ≢ class) → free_of class (slabs_in t) ≡ []
unfolding slabs_in
none_open t i class none = free_none t.slots.items class t.firsts.keys (λ k m e. full_free t i k m (grind (arith, nat_tests, none (bin_of t.slots.items k), i.binned.has k m, e)))

-- the lowest key of the class is that of the lowest slab
pub found_open : (t : Table) → IsSlabTable t → (class : ℕ) (bin key : Key) → IsLeast t.bins.keys class bin → key.major * 2 ^ 32 + key.minor ≡ bin.minor → key.minor < 2 ^ 32 → IsLowestOpen t class key
found_open t i class bin key b minor low =
    let p = i.binned.from bin b.there in
    let small = small_numbers t i p.0 p.1 in
    let minors : p.0.major * 2 ^ 32 + p.0.minor ≡ bin.minor = ap (λ (k : Key). k.minor) p.3 in
    let first : p.0.major ≡ key.major = omega arith in
    let second : p.0.minor ≡ key.minor = omega arith in
    subst (IsLowestOpen t class) (λ k. record { major = first k; minor = second k }) (record {
      there = p.1;
      of_class = ap (λ (k : Key). k.major) p.3 ∙ b.at;
      some_free = open_from (bits_at t.slots.items p.0.minor) p.2;
      lowest = λ k m c free. omega (arith, b.least (bin_of t.slots.items k) (i.binned.has k m (is_open_from (bits_at t.slots.items k.minor) free)) c, small_numbers t i k m);
    })

-- the free regions of a slab are among those of its class
free_has : (slots : List Bits) (class : ℕ) (keys : List Key) (key : Key) → Contains keys key → (bits_at slots key.minor).class ≡ class → length (slab_at slots key).free ≤ length (free_of class (map (slab_at slots) keys))
free_has slots class [] key m e = absurd (omega arith)
free_has slots class (k ∷ ks) key m e = grind (arith, nat_tests, contains_cases k ks key m, free_has slots class ks key, e, length-append (slab_at slots k).free (free_of class (map (slab_at slots) ks)))

-- and its class has a free region
pub some_open : (t : Table) → IsSlabTable t → (class : ℕ) (key : Key) → IsLowestOpen t class key → free_of class (slabs_in t) ≡ [] → ⊥
unfolding slabs_in
some_open t i class key o none =
    let bits = bits_at t.slots.items key.minor in
    omega (arith, free_has t.slots.items class t.firsts.keys key o.there o.of_class, ap length none, length-map (ones (regions_at bits.class) bits.free) (place bits.class key.major), length_free t i key o.there, o.some_free)

-- so what is found tells whether a region is free
pub free_told : (t : Table) → IsSlabTable t → (class : ℕ) (r : Option Key) (told : Bool) (free : List ℕ) → free_of class (slabs_in t) ≡ free → told ≡ is_some r → IfNone r (free_of class (slabs_in t) ≡ []) → IfSome r (λ key. IsLowestOpen t class key)
    → (told ≡ true → free ≡ [] → ⊥) × ((free ≡ [] → ⊥) → told ≡ true)
free_told t i class None told free e is none some = (grind arith, grind (arith, e, none, is))
free_told t i class (Some key) told free e is none some = (grind (arith, some_open t i class key some, e), grind (arith, is))

-- the bits with one written
abbrev pub with_bit : Bits → ℕ → Bool → Bits
with_bit b i v = record { class = b.class; free = set b.free i v }

-- where some bit is set, there is a first one
pub some_position : (bits : List Bool) → 0 < count_by (λ b. b) bits → IsSome (position (λ b. b) bits)
some_position bits some = elim (cases_lt (position_or_len (λ b. b) bits) (length bits)) [
  | inl lt ↦ let t : ltb (position_or_len (λ b. b) bits) (length bits) ≡ true = grind (arith, nat_tests) in rw t refl
  | inr ge ↦ absurd (let none = count_none (λ b. b) bits (λ b (k, l, e). let no = fails_before_first (λ b. b) bits k b (omega arith) in cc) in omega arith)
]

-- the bits that were read and those after the lowest free region was taken
pub taken_bits : (bits read new : Bits) (r : Option ℕ) (n : ℕ) → read ≡ bits → r ≡ Some n → r ≡ position (λ b. b) read.free → IfSome r (λ i. i < regions_at read.class) → IfSome r (λ i. new ≡ record { class = read.class; free = set read.free i false })
    → (position (λ b. b) bits.free ≡ Some n) × (n < regions_at bits.class) × (new ≡ with_bit bits n false)
taken_bits bits read new r n e some is inside taken = grind (arith, e, some, is, inside, taken)

-- a slab of which one bit is written, as long as a region of it is out
pub bit_written : (bits : Bits) (first i : ℕ) (v : Bool) → IsSlabIn bits first → i < regions_at bits.class → count_by (λ b. b) (set bits.free i v) < regions_at bits.class → IsSlabIn (with_bit bits i v) first
bit_written bits first i v is low few =
    let long = length-set bits.free i v ∙ is.long in
    let behind : (j : ℕ) → regions_at bits.class ≤ j → get_or (set bits.free i v) j false ≡ false = λ j far. get_or-set_other bits.free i j v false (λ e. omega arith) ∙ is.behind j far in
    search (rules, arith, behind)

-- how many are free after one was taken
pub fewer_left : (bits : List Bool) (i : ℕ) → i < length bits → get_or bits i false ≡ true → count_by (λ b. b) (set bits i false) + 1 ≡ count_by (λ b. b) bits
fewer_left bits i l t = let one : bit (get_or bits i false) ≡ 1 = ap bit t in omega (arith, sum_by-set (λ b. bit b) bits i false false l)

pub more_left : (bits : List Bool) (i : ℕ) → i < length bits → get_or bits i false ≡ false → count_by (λ b. b) (set bits i true) ≡ count_by (λ b. b) bits + 1
more_left bits i l f = let none : bit (get_or bits i false) ≡ 0 = ap bit f in omega (arith, sum_by-set (λ b. bit b) bits i true false l)

-- ---- a table of which one slot is written

module _ (t : Table) (i : IsSlabTable t) (key : Key) (there : Contains t.firsts.keys key) (new : Bits) (class : new.class ≡ (bits_at t.slots.items key.minor).class) where
  abbrev after : List Bits
  after = set t.slots.items key.minor new

  pub in_items : key.minor < length t.slots.items
  in_items = let l = i.in_slots key there in let same = t.slots.ok.0 in omega arith

  pub table_changed : IsSlabIn new key.major → (u : Table) → u.firsts ≡ t.firsts → u.slots.items ≡ after → vec_len u.slots ≡ vec_len t.slots → u.free ≡ t.free → u.counts ≡ t.counts → u.chart ≡ t.chart → IsMoved t.bins.keys u.bins.keys (bin_key new.class key) (is_open new) → u.bins.spare + bit (is_open new) ≡ t.bins.spare + bit (is_open (bits_at t.slots.items key.minor)) → length u.holders ≡ length t.holders → IsSlabTable u
  unfolding slabs_in
  table_changed is u firsts items len free counts chart moved spare codes =
      let keys = ap (λ (s : KeySet). s.keys) firsts in
      let in_slots : (k : Key) → Contains u.firsts.keys k → k.minor < vec_len u.slots = rw (keys, len) i.in_slots in
      let same_open : open_in u.slots.items u.firsts.keys ≡ open_in after t.firsts.keys = (λ x. open_in (items x) (keys x)) in
      let room : vec_len u.slots ≤ open_in u.slots.items u.firsts.keys + u.bins.spare = omega (arith, i.bins_room, open_changed t.slots.items t.firsts.keys i.kept key there in_items new class i.ascending) in
      let same : AreCounts u.counts (slabs_in u) = rw (counts, items, keys) (λ c small. i.counts c small ∙ sym (counts_stay t.slots.items t.firsts.keys i.kept key there in_items new class c)) in
      search (
        rules,
        arith,
        firsts,
        items,
        len,
        free,
        counts,
        chart,
        codes,
        i.ascending,
        kept_changed t.slots.items t.firsts.keys i.kept key there in_items new class is,
        i.free,
        i.classes,
        binned_changed t.slots.items t.firsts.keys i.kept key there in_items new class (small_numbers t i) t.bins.keys u.bins.keys i.binned moved,
        charted_changed t.slots.items t.firsts.keys i.kept key there in_items new class t.chart i.charted,
      )

  -- its slabs, where each is changed so
  pub slabs_changed : (f : BinSlab → BinSlab) → slab_of new key.major ≡ f (slab_at t.slots.items key) → ((k : Key) → Contains t.firsts.keys k → k ≢ key → slab_at t.slots.items k ≡ f (slab_at t.slots.items k))
      → (u : Table) → u.firsts ≡ t.firsts → u.slots.items ≡ after → slabs_in u ≡ map f (slabs_in t)
  unfolding slabs_in
  slabs_changed f here others u firsts items =
      let keys = ap (λ (s : KeySet). s.keys) firsts in
      rw (items, keys) (map_both (slab_at t.slots.items) f (slab_at after) t.firsts.keys
      (by_key t.slots.items t.firsts.keys i.kept key there in_items new class (λ k b. slab_of b k.major ≡ f (slab_at t.slots.items k)) here others))

-- ---- a region is taken

-- the free regions of a class, as the first one of the first slab that has one is taken
taken_first : (old new : List Bits) (class a : ℕ) (key : Key) (ks : List Key) → IsAscending ks → Contains ks key
    → ((k : Key) → Contains ks k → key_cmp k key ≡ Less → (bits_at old k.minor).class ≡ class → (slab_at old k).free ≡ [])
    → ((k : Key) → Contains ks k → k ≢ key → bits_at new k.minor ≡ bits_at old k.minor)
    → (bits_at old key.minor).class ≡ class → (bits_at new key.minor).class ≡ class → (slab_at old key).free ≡ a ∷ (slab_at new key).free
    → free_of class (map (slab_at old) ks) ≡ a ∷ free_of class (map (slab_at new) ks)
unfolding IsStrictlySortedBy
taken_first old new class a key [] s m before stay c d first = absurd (omega arith)
taken_first old new class a key (k ∷ ks) s m before stay c d first = elim (contains_cases k ks key m) [
  | inl is ↦
      let rest = map_same (slab_at old) (slab_at new) ks (λ l n.
      let other : l ≢ key = (λ e. less_ne k l (every_member _ ks s.0 l n) (is ∙ sym e)) in
      ap (λ (b : Bits). slab_of b l.major) (sym (stay l (contains_later k ks l n) other))) in
      grind (arith, nat_tests, is, c, d, first, ap (free_of class) rest)
  | inr n ↦
      let below : key_cmp k key ≡ Less = every_member _ ks s.0 key n in
      let deep = taken_first old new class a key ks s.1 n (λ l o. before l (contains_later k ks l o)) (λ l o. stay l (contains_later k ks l o)) c d first in
      grind (arith, nat_tests, before k (head k ks) below, stay k (head k ks) (less_ne k key below), deep)
]

module _ (t : Table) (i : IsSlabTable t) (class : ℕ) (key : Key) (o : IsLowestOpen t class key) (n : ℕ) (found : position (λ b. b) (bits_at t.slots.items key.minor).free ≡ Some n) (low : n < regions_at (bits_at t.slots.items key.minor).class) where
  abbrev bits : Bits
  bits = bits_at t.slots.items key.minor

  abbrev addr : ℕ
  addr = place bits.class key.major n

  -- the other slabs don't have the address
  others_lack : (k : Key) → Contains t.firsts.keys k → k ≢ key → (j : ℕ) → j < regions_at (bits_at t.slots.items k.minor).class → place (bits_at t.slots.items k.minor).class k.major j ≢ addr
  others_lack k m ne j l e = ne (one_place t.slots.items t.firsts.keys i.kept k key m o.there j n l low e).0

  pub within : n < length bits.free
  within = (position-Some (λ b. b) bits.free n false found).0

  pub is_free : get_or bits.free n false ≡ true
  is_free = (position-Some (λ b. b) bits.free n false found).1

  pub taken_in : IsSlabIn (with_bit bits n false) key.major
  taken_in = bit_written bits key.major n false (i.kept.slab key o.there) low (omega (arith, fewer_left bits.free n within is_free, (i.kept.slab key o.there).some_out))

  -- each slab is without the address
  taken_here : slab_of (with_bit bits n false) key.major ≡ with_regions_out (addr ∷ []) (slab_at t.slots.items key)
  taken_here = taken_slab bits.class key.major (addr ∷ []) bits.free (set bits.free n false) (λ j l.
      grind (arith, nat_tests, get_or-set_at, get_or-set_other, cases_eq j n, within, same_place bits.class key.major n j (i.kept.slab key o.there).small))

  pub taken_slabs : (u : Table) → u.firsts ≡ t.firsts → u.slots.items ≡ set t.slots.items key.minor (with_bit bits n false) → slabs_in u ≡ map (with_regions_out (addr ∷ [])) (slabs_in t)
  taken_slabs = slabs_changed t i key o.there (with_bit bits n false) refl (with_regions_out (addr ∷ [])) taken_here (λ k m ne.
      let b = bits_at t.slots.items k.minor in
      taken_slab b.class k.major (addr ∷ []) b.free b.free (λ j l. grind (arith, nat_tests, others_lack k m ne j l)))

  -- the address comes first among the free ones of the class
  pub taken_lowest : (u : Table) → u.firsts ≡ t.firsts → u.slots.items ≡ set t.slots.items key.minor (with_bit bits n false) → free_of class (slabs_in t) ≡ addr ∷ free_of class (slabs_in u)
  unfolding slabs_in
  taken_lowest u firsts items =
      let keys = ap (λ (s : KeySet). s.keys) firsts in
      let new = is_new t.slots.items t.firsts.keys i.kept key o.there (in_items t i key o.there (with_bit bits n false) refl) (with_bit bits n false) refl in
      rw (items, keys) (taken_first t.slots.items (set t.slots.items key.minor (with_bit bits n false)) class addr key t.firsts.keys i.ascending o.there
      (λ k m less c.
      let pages = (pages_bounds (bits_at t.slots.items k.minor).class (let s = (i.kept.slab k m).small in omega arith)).0 in
      full_free t i k m (grind (arith, o.lowest k m c, less_major k key less, i.kept.apart k key m o.there, less_ne k key less, pages)))
      (others_stay t.slots.items t.firsts.keys i.kept key o.there (in_items t i key o.there (with_bit bits n false) refl) (with_bit bits n false) refl)
      o.of_class (ap (λ (b : Bits). b.class) new ∙ o.of_class)
      (ap (map (place bits.class key.major)) (lowest_one bits.free n (regions_at bits.class) found low) ∙ ap (λ (b : Bits). addr ∷ (slab_of b key.major).free) (sym new)))

-- ---- a region is put back

module _ (t : Table) (i : IsSlabTable t) (class addr : ℕ) (key : Key) (n : ℕ) (o : IsOutAt t class addr key n) where
  abbrev old : Bits
  old = bits_at t.slots.items key.minor

  pub inside_regions : n < regions_at old.class
  inside_regions = subst (λ c. n < regions_at c) (sym o.out.of_class) o.out.inside

  pub within_bits : n < length old.free
  within_bits = omega (arith, (slab_filled old.class (i.kept.slab key o.there).small).2, (i.kept.slab key o.there).long, inside_regions)

  pub at_old : place old.class key.major n ≡ addr
  at_old = ap (λ c. place c key.major n) o.out.of_class ∙ o.at

  pub put_behind : (j : ℕ) → regions_at old.class ≤ j → get_or (set old.free n true) j false ≡ false
  put_behind j far = let low = inside_regions in get_or-set_other old.free n j true false (λ e. omega arith) ∙ (i.kept.slab key o.there).behind j far

  pub left_put : count_by (λ b. b) (set old.free n true) ≡ left_of old + 1
  left_put = more_left old.free n within_bits o.out.out

  pub put_in : left_of old + 1 < regions_at class → IsSlabIn (with_bit old n true) key.major
  put_in others = bit_written old key.major n true (i.kept.slab key o.there) inside_regions (grind (arith, left_put, o.out.of_class, others))

  pub put_here : slab_of (with_bit old n true) key.major ≡ with_free addr (slab_at t.slots.items key)
  put_here = freed_slab old.class key.major addr old.free (set old.free n true) (i.kept.slab key o.there).small (λ j l.
      grind (arith, nat_tests, get_or-set_at, get_or-set_other, cases_eq j n, within_bits, at_old, same_place old.class key.major j n (i.kept.slab key o.there).small))

  -- another slab lacks the address
  pub elsewhere : (k : Key) → Contains t.firsts.keys k → k ≢ key → (j : ℕ) → j < regions_at (bits_at t.slots.items k.minor).class → eqb (place (bits_at t.slots.items k.minor).class k.major j) addr ≡ false
  elsewhere k m ne j l = false_from_ne_true _ (λ e. ne (one_place t.slots.items t.firsts.keys i.kept k key m o.there j n l inside_regions (eqb-true _ _ e ∙ sym at_old)).0)

  pub put_others : (k : Key) → Contains t.firsts.keys k → k ≢ key → slab_at t.slots.items k ≡ with_free addr (slab_at t.slots.items k)
  put_others k m ne =
      let b = bits_at t.slots.items k.minor in
      freed_slab b.class k.major addr b.free b.free (i.kept.slab k m).small (λ j l. rw (elsewhere k m ne j l) refl)

  pub put_slabs : (u : Table) → u.firsts ≡ t.firsts → u.slots.items ≡ set t.slots.items key.minor (with_bit old n true) → slabs_in u ≡ map (with_free addr) (slabs_in t)
  put_slabs = slabs_changed t i key o.there (with_bit old n true) refl (with_free addr) put_here put_others

-- a slab of a table has a region that is out
slab_used : (t : Table) → IsSlabTable t → (k : Key) → Contains t.firsts.keys k → is_all_free (slab_at t.slots.items k) ≡ false
slab_used t i k m =
    let b = bits_at t.slots.items k.minor in
    grind (arith, nat_tests, length-map (ones (regions_at b.class) b.free) (place b.class k.major), length_free t i k m, (i.kept.slab k m).some_out)

pub none_unused : (t : Table) → IsSlabTable t → list_any is_all_free (slabs_in t) ≡ false
unfolding slabs_in
none_unused t i = any_map (slab_at t.slots.items) is_all_free t.firsts.keys ∙ any_none (λ k. is_all_free (slab_at t.slots.items k)) t.firsts.keys (slab_used t i)

pub all_used : (t : Table) → IsSlabTable t → filter (λ s. not (is_all_free s)) (slabs_in t) ≡ slabs_in t
unfolding slabs_in
all_used t i = filter_all_of (λ s. not (is_all_free s)) (map (slab_at t.slots.items) t.firsts.keys) (λ s m. grind (arith, map_from (slab_at t.slots.items) t.firsts.keys s m, slab_used t i))

module _ (t : Table) (i : IsSlabTable t) (class addr : ℕ) (key : Key) (n : ℕ) (o : IsOutAt t class addr key n) (last : left_of (bits_at t.slots.items key.minor) + 1 ≡ regions_at class) where
  -- the slab would be unused
  emptied : is_all_free (with_free addr (slab_at t.slots.items key)) ≡ true
  emptied =
      let b = bits_at t.slots.items key.minor in
      let count = length-map (ones (regions_at b.class) (set b.free n true)) (place b.class key.major) ∙ length_ones (set b.free n true) (regions_at b.class) (put_behind t i class addr key n o) ∙ left_put t i class addr key n o ∙ last ∙ ap regions_at (sym o.out.of_class) in
      ap is_all_free (sym (put_here t i class addr key n o)) ∙ grind (arith, nat_tests)

  pub one_unused : list_any is_all_free (map (with_free addr) (slabs_in t)) ≡ true
  unfolding slabs_in
  one_unused = any_has is_all_free (map (with_free addr) (map (slab_at t.slots.items) t.firsts.keys)) (with_free addr (slab_at t.slots.items key))
      (map_has (with_free addr) (map (slab_at t.slots.items) t.firsts.keys) (slab_at t.slots.items key) (map_has (slab_at t.slots.items) t.firsts.keys key o.there)) emptied

  used_is_other : (k : Key) → Contains t.firsts.keys k → not (is_all_free (with_free addr (slab_at t.slots.items k))) ≡ is_other key k
  used_is_other k m = elim (key_cases k key) [
    | inl e ↦
        let same : key_cmp key key ≡ Equal = tied_itself key_total key in
        let other : is_other key key ≡ false = ap (λ r. not (is_eq r)) same in
        ap (λ (z : Key). not (is_all_free (with_free addr (slab_at t.slots.items z)))) e ∙ ap not emptied ∙ sym (ap (is_other key) e ∙ other)
    | inr ne ↦ ap (λ (s : BinSlab). not (is_all_free s)) (sym (put_others t i class addr key n o k m ne)) ∙ ap not (slab_used t i k m) ∙ sym (other_from key k ne)
  ]

  pub others_used : slabs_without t key ≡ filter (λ s. not (is_all_free s)) (map (with_free addr) (slabs_in t))
  unfolding slabs_in
  others_used =
      let f = with_free addr in
      let p = λ (s : BinSlab). not (is_all_free s) in
      let slab = slab_at t.slots.items in
      let first = filter_map_is f p (map slab t.firsts.keys) ∙ ap (map f) (filter_map_is slab (λ s. p (f s)) t.firsts.keys) in
      let kept = filter_same (λ k. p (f (slab k))) (is_other key) t.firsts.keys used_is_other in
      let same = map_same slab (λ k. f (slab k)) (without_key t.firsts.keys key) (λ k m. let q = without_from t.firsts.keys key k m in put_others t i class addr key n o k q.0 q.1) in
      same ∙ sym (first ∙ ap (λ ks. map f (map slab ks)) kept ∙ sym (map_both slab f (λ k. f (slab k)) (without_key t.firsts.keys key) (λ k m. refl)))
