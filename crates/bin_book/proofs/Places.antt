-- The places of a slab with their addresses, and slabs under their keys, as bits are written.
use Rattle.bin_book.proofs.Words.{nat_tests, any_map, ◌≡◌, ℕ, ◌+◌, ◌-◌, ◌*◌, ◌++◌, ◌<◌, ◌≤◌, zero, suc, Bool, true, false, not, ◌&&◌, ◌||◌, eqb, List, [], ◌∷◌, length, map, filter, get_or, set, count_by, position, Some, inl, inr, refl, sym, ap, ◌∙◌, arith, ◌≢◌, ◌^◌, ◌⊎◌, subst, Contains, range_with_len, mul-le-mul_right, cases_Bool, cases_eq, eq-eqb, get_or-set_at, get_or-set_other, get_or-set_same, position-Some, length-filter, sum_by-cons, size_at, pages_at, regions_at, size_bounds, slab_filled, filter_from, filter_has, with_from, with_keeps, with_self, without_from, without_keeps, is_among, place, with_free, with_regions_out, ones, slab_of, IsBinned, IsCharted, AreSlabKeys, IsMoved, IsSlabIn, bin_key, bin_of, bits_at, is_open, open_in, no_bits, slab_at, any_has, any_none, bit, filter_both, filter_map_is, filter_same, map_has, range_from, range_has, count_map, count_same, tied_itself, is_eq, Bits, Key, IsAscending, key_cmp, length_without, with_key, without_key, key_tie, key_total, Chart, HasPage}
use Rattle.std.proofs.lemmas.List.Elements.{filter-append}
use Rattle.list_facts.proofs.Members.{count_less_one, kept_length}

-- ---- free places, by their numbers

-- the lowest one comes first, and the others stay where it is taken
first_one : (bits : List Bool) (i start n : ℕ) → start ≤ i → i < start + n → i < length bits → get_or bits i false ≡ true → ((k : ℕ) → k < i → get_or bits k false ≡ false)
    → filter (λ j. get_or bits j false) (range_with_len start n) ≡ i ∷ filter (λ j. get_or (set bits i false) j false) (range_with_len start n)
first_one bits i start zero low high inside here before = absurd (omega arith)
first_one bits i start (suc n) low high inside here before =
    let rest = λ (is : start ≡ i). filter_same (λ j. get_or bits j false) (λ j. get_or (set bits i false) j false) (range_with_len (start + 1) n)
    (λ j m. let r = range_from (start + 1) n j m in sym (get_or-set_other bits i j false false (λ e. let a = r.0 in omega arith))) in
    grind (arith, get_or-set_at, get_or-set_other, cases_eq start i, here, before start, rest, first_one bits i (start + 1) n)

pub lowest_one : (bits : List Bool) (i n : ℕ) → position (λ b. b) bits ≡ Some i → i < n → ones n bits ≡ i ∷ ones n (set bits i false)
lowest_one bits i n e low = let p = position-Some (λ b. b) bits i false e in first_one bits i 0 n (omega arith) (omega arith) p.0 p.1 p.2

-- as many as are counted
count_range : (bits : List Bool) (f : ℕ → Bool) (start n : ℕ) → ((i : ℕ) → f (start + i) ≡ get_or bits i false) → ((i : ℕ) → n ≤ i → get_or bits i false ≡ false) → count_by f (range_with_len start n) ≡ count_by (λ b. b) bits
count_range [] f start zero same behind = refl
count_range [] f start (suc n) same behind =
    grind (arith, sum_by-cons (λ j. bit (f j)) start (range_with_len (start + 1) n), count_range [] f (start + 1) n (λ i. ap f (omega arith) ∙ same (i + 1)) (λ i l. refl), same 0)
count_range (b ∷ bits) f start zero same behind =
    grind (arith, behind 0 (omega arith), sum_by-cons (λ b. bit b) b bits, count_range bits (λ i. get_or bits (i - (start + 1)) false) (start + 1) zero (λ i. ap (λ j. get_or bits j false) (omega arith)) (λ i l. behind (suc i) (omega arith)))
count_range (b ∷ bits) f start (suc n) same behind =
    grind (arith, sum_by-cons (λ j. bit (f j)) start (range_with_len (start + 1) n), sum_by-cons (λ b. bit b) b bits, count_range bits f (start + 1) n (λ i. ap f (omega arith) ∙ same (suc i)) (λ i l. behind (suc i) (omega arith)), same 0)

pub length_ones : (bits : List Bool) (n : ℕ) → ((i : ℕ) → n ≤ i → get_or bits i false ≡ false) → length (ones n bits) ≡ count_by (λ b. b) bits
length_ones bits n behind = length-filter (λ i. get_or bits i false) (range_with_len 0 n) ∙ count_range bits (λ i. get_or bits i false) 0 n (λ i. ap (λ j. get_or bits j false) (omega arith)) behind

-- ---- addresses

-- two places of a slab have two addresses
pub same_place : (class first i j : ℕ) → class < 36 → place class first i ≡ place class first j → i ≡ j
same_place class first i j small e = grind (arith, mul-le-mul_right, size_bounds class (omega arith), e)

-- a region lies in the pages of its slab
pub place_inside : (class first i : ℕ) → class < 36 → i < regions_at class → place class first i + size_at class ≤ 4096 * (first + pages_at class)
place_inside class first i small low =
    let filled = (slab_filled class small).0 in
    let more : (i + 1) * size_at class ≤ regions_at class * size_at class = mul-le-mul_right (size_at class) (omega arith) in
    omega arith

-- whether the address of a place is among those of the free ones
pub among_ones : (class first n j : ℕ) (bits : List Bool) → class < 36 → j < n → is_among (map (place class first) (ones n bits)) (place class first j) ≡ get_or bits j false
among_ones class first n j bits small low = elim (cases_Bool (get_or bits j false)) [
  | inl t ↦
      any_has (λ a. eqb a (place class first j)) (map (place class first) (ones n bits)) (place class first j)
      (map_has (place class first) (ones n bits) j (filter_has (λ i. get_or bits i false) (range_with_len 0 n) j (range_has 0 n j (omega arith) (omega arith)) t)) (eq-eqb _ _ refl) ∙ sym t
  | inr f ↦ any_map (place class first) (λ a. eqb a (place class first j)) (ones n bits) ∙ any_none _ (ones n bits) (λ i m. grind (arith, nat_tests, filter_from (λ i. get_or bits i false) (range_with_len 0 n) i m, same_place class first i j small, f)) ∙ sym f
]

-- a slab some of whose places become free
pub freed_slab : (class first addr : ℕ) (old new : List Bool) → class < 36 → ((j : ℕ) → j < regions_at class → get_or new j false ≡ (eqb (place class first j) addr || get_or old j false))
    → slab_of (record { class = class; free = new }) first ≡ with_free addr (slab_of (record { class = class; free = old }) first)
freed_slab class first addr old new small freed =
    let n = regions_at class in
    let olds = map (place class first) (ones n old) in
    let kept = filter_map_is (place class first) (λ a. eqb a addr || is_among olds a) (range_with_len 0 n) in
    let same = filter_same (λ j. eqb (place class first j) addr || is_among olds (place class first j)) (λ j. get_or new j false) (range_with_len 0 n)
    (λ j m. let r = range_from 0 n j m in ap (λ b. eqb (place class first j) addr || b) (among_ones class first n j old small (omega (arith, r.1))) ∙ sym (freed j (omega (arith, r.1)))) in
    λ k. record { class = class; first = first; free = sym (kept ∙ ap (map (place class first)) same) k }

-- a slab some of whose places are taken
pub taken_slab : (class first : ℕ) (addrs : List ℕ) (old new : List Bool) → ((j : ℕ) → j < regions_at class → get_or new j false ≡ (get_or old j false && not (is_among addrs (place class first j))))
    → slab_of (record { class = class; free = new }) first ≡ with_regions_out addrs (slab_of (record { class = class; free = old }) first)
taken_slab class first addrs old new taken =
    let n = regions_at class in
    let kept = filter_map_is (place class first) (λ a. not (is_among addrs a)) (ones n old) in
    let both = filter_both (λ j. get_or old j false) (λ j. not (is_among addrs (place class first j))) (range_with_len 0 n) in
    let same = filter_same (λ j. get_or old j false && not (is_among addrs (place class first j))) (λ j. get_or new j false) (range_with_len 0 n)
    (λ j m. let r = range_from 0 n j m in sym (taken j (omega (arith, r.1)))) in
    λ k. record { class = class; first = first; free = sym (kept ∙ ap (map (place class first)) (both ∙ same)) k }

-- a range in two parts
range_split : (a m n b : ℕ) → b ≡ a + m → range_with_len a (m + n) ≡ range_with_len a m ++ range_with_len b n
range_split a zero n b e = grind arith
range_split a (suc m) n b e = let more : suc m + n ≡ suc (m + n) = omega arith in rw more (grind (arith, range_split (a + 1) m n b))

pub filter_split : (p : ℕ → Bool) (m n : ℕ) → m ≤ n → filter p (range_with_len 0 n) ≡ filter p (range_with_len 0 m) ++ filter p (range_with_len m (n - m))
filter_split p m n le = let whole : n ≡ m + (n - m) = omega arith in ap (λ k. filter p (range_with_len 0 k)) whole ∙ ap (filter p) (range_split 0 m (n - m) m (omega arith)) ∙ filter-append p (range_with_len 0 m) (range_with_len m (n - m))

-- ---- keys

-- whether two keys are the same
pub key_cases : (a b : Key) → (a ≡ b) ⊎ (a ≢ b)
key_cases a b = grind (arith, key_tie a b, tied_itself key_total a)

-- a key comes, goes, or stands there as it is to
pub came : (old new : List Key) (key : Key) → new ≡ with_key old key → IsMoved old new key true
came old new key is = record {
  keeps = λ k ne m. rw is (with_keeps old key k m);
  only = λ k ne m. elim (with_from old key k (rw is at m)) [ inl e ↦ absurd (ne e) | inr d ↦ d ];
  there = λ t. rw is (with_self old key);
  gone = λ m. refl;
}

pub went : (old new : List Key) (key : Key) → new ≡ without_key old key → IsMoved old new key false
went old new key is = record {
  keeps = λ k ne m. rw is (without_keeps old key k m ne);
  only = λ k ne m. (without_from old key k (rw is at m)).0;
  there = λ t. absurd (cc);
  gone = λ m. absurd ((without_from old key key (rw is at m)).1 refl);
}

pub unmoved : (keys : List Key) (key : Key) (was is : Bool) → was ≡ is → (was ≡ true → Contains keys key) × (Contains keys key → was ≡ true) → IsMoved keys keys key is
unmoved keys key was is e stood = record { keeps = λ k ne m. m; only = λ k ne m. m; there = λ t. stood.0 (e ∙ t); gone = λ m. sym e ∙ stood.1 m }

-- the key of a slab among those of its class tells its key
pub same_slab : (class d : ℕ) (k l : Key) → k.minor < 2 ^ 32 → l.minor < 2 ^ 32 → bin_key class k ≡ bin_key d l → k ≡ l
same_slab class d k l low high e =
    let minor : k.major * 2 ^ 32 + k.minor ≡ l.major * 2 ^ 32 + l.minor = ap (λ (x : Key). x.minor) e in
    let first : k.major ≡ l.major = omega arith in
    let second : k.minor ≡ l.minor = omega arith in
    λ i. record { major = first i; minor = second i }

-- as many of the other keys are counted
pub count_without : (p : Key → Bool) (ks : List Key) (key : Key) → IsAscending ks → Contains ks key → count_by p (without_key ks key) + bit (p key) ≡ count_by p ks
count_without p ks key s m = count_less_one (λ k. is_eq (key_cmp k key)) p ks key m (ap is_eq (tied_itself key_total key)) (omega (arith, kept_length (λ k. is_eq (key_cmp k key)) ks, length_without ks key s m))

-- ---- slots

-- the bits of a slot that was written, and of the others
pub bits_here : (slots : List Bits) (n m : ℕ) (b : Bits) → n < length slots → m ≡ n → bits_at (set slots n b) m ≡ b
bits_here slots n m b l e = ap (bits_at (set slots n b)) e ∙ get_or-set_same slots n b no_bits l

pub bits_there : (slots : List Bits) (n m : ℕ) (b : Bits) → m ≢ n → bits_at (set slots n b) m ≡ bits_at slots m
bits_there slots n m b ne = get_or-set_other slots n m b no_bits ne

-- regions of two slabs, or two regions of a slab, have two addresses
pub one_place : (slots : List Bits) (keys : List Key) → AreSlabKeys slots keys → (k l : Key) → Contains keys k → Contains keys l → (i j : ℕ) → i < regions_at (bits_at slots k.minor).class → j < regions_at (bits_at slots l.minor).class
    → place (bits_at slots k.minor).class k.major i ≡ place (bits_at slots l.minor).class l.major j → (k ≡ l) × (i ≡ j)
one_place slots keys kept k l m n i j inside within e =
    let small = (kept.slab k m).small in
    let small' = (kept.slab l n).small in
    let low = place_inside (bits_at slots l.minor).class l.major j small' within in
    let high = place_inside (bits_at slots k.minor).class k.major i small inside in
    let same : k ≡ l = grind (arith, kept.apart l k n m, kept.apart k l m n, low, high, size_bounds (bits_at slots k.minor).class, size_bounds (bits_at slots l.minor).class, e) in
    (same, same_place (bits_at slots k.minor).class k.major i j small (e ∙ sym (ap (λ (z : Key). place (bits_at slots z.minor).class z.major j) same)))

-- ---- a slab whose bits change

module _ (slots : List Bits) (keys : List Key) (kept : AreSlabKeys slots keys) (key : Key) (there : Contains keys key) (low : key.minor < length slots) (new : Bits) (class : new.class ≡ (bits_at slots key.minor).class) where
  -- the bits of a slab of another key are as they were
  pub others_stay : (k : Key) → Contains keys k → k ≢ key → bits_at (set slots key.minor new) k.minor ≡ bits_at slots k.minor
  others_stay k m ne = bits_there slots key.minor k.minor new (λ e. ne (kept.numbers k key m there e))

  pub is_new : bits_at (set slots key.minor new) key.minor ≡ new
  is_new = bits_here slots key.minor key.minor new low refl

  -- what is known of the new bits and of the old ones of each other key
  pub by_key : (P : Key → Bits → Type 0) → P key new → ((k : Key) → Contains keys k → k ≢ key → P k (bits_at slots k.minor)) → (k : Key) → Contains keys k → P k (bits_at (set slots key.minor new) k.minor)
  by_key P here others k m = elim (key_cases k key) [
    | inl e ↦ subst (λ z. P z (bits_at (set slots key.minor new) z.minor)) (sym e) (subst (P key) (sym is_new) here)
    | inr ne ↦ subst (P k) (sym (others_stay k m ne)) (others k m ne)
  ]

  pub class_stays : (k : Key) → Contains keys k → (bits_at (set slots key.minor new) k.minor).class ≡ (bits_at slots k.minor).class
  class_stays = by_key (λ k b. b.class ≡ (bits_at slots k.minor).class) class (λ k m ne. refl)

  pub kept_changed : IsSlabIn new key.major → AreSlabKeys (set slots key.minor new) keys
  kept_changed is = record {
    slab = by_key (λ k b. IsSlabIn b k.major) is (λ k m ne. kept.slab k m);
    apart = λ k l m n le. let same = class_stays k m in rw same (kept.apart k l m n le);
    numbers = kept.numbers;
  }

  pub charted_changed : (chart : Chart) → IsCharted slots keys chart → IsCharted (set slots key.minor new) keys chart
  charted_changed chart charted = record {
    firsts = charted.firsts;
    holders = λ page n e.
        let h = charted.holders page n e in
        (h.0, record { there = h.1.there; at = h.1.at; has = subst (λ c. HasPage h.0.major (pages_at c) page) (sym (class_stays h.0 h.1.there)) h.1.has });
  }

  pub counts_stay : (c : ℕ) → count_by (λ s. eqb s.class c) (map (slab_at (set slots key.minor new)) keys) ≡ count_by (λ s. eqb s.class c) (map (slab_at slots) keys)
  counts_stay c =
      count_map (slab_at (set slots key.minor new)) (λ s. eqb s.class c) keys ∙ count_same (λ k. eqb (bits_at (set slots key.minor new) k.minor).class c) (λ k. eqb (bits_at slots k.minor).class c) keys (λ k m. ap (λ d. eqb d c) (class_stays k m))
      ∙ sym (count_map (slab_at slots) (λ s. eqb s.class c) keys)

  -- its key among those of its class stands there where it has a free region
  pub binned_changed : (small : (k : Key) → Contains keys k → k.minor < 2 ^ 32) (bins after : List Key) → IsBinned slots keys bins → IsMoved bins after (bin_key new.class key) (is_open new) → IsBinned (set slots key.minor new) keys after
  binned_changed small bins after binned moved = record {
    has = by_key (λ k b. is_open b ≡ true → Contains after (bin_key b.class k)) moved.there
        (λ k m ne some. moved.keeps (bin_of slots k) (λ e. ne (same_slab _ _ k key (small k m) (small key there) e)) (binned.has k m some));
    from = λ b m. elim (key_cases b (bin_key new.class key)) [
      | inl e ↦ (key, there, ap is_open is_new ∙ moved.gone (subst (Contains after) e m), ap (λ (x : Bits). bin_key x.class key) is_new ∙ sym e)
      | inr ne ↦
          let p = binned.from b (moved.only b ne m) in
          let other : p.0 ≢ key = (λ e. ne (sym p.3 ∙ ap (bin_of slots) e ∙ ap (λ c. bin_key c key) (sym class))) in
          let same = others_stay p.0 p.1 other in
          (p.0, p.1, ap is_open same ∙ p.2, ap (λ (x : Bits). bin_key x.class p.0) same ∙ p.3)
    ];
  }

  -- and it is counted there
  pub open_changed : IsAscending keys → open_in (set slots key.minor new) keys + bit (is_open (bits_at slots key.minor)) ≡ open_in slots keys + bit (is_open new)
  unfolding open_in
  open_changed ascending =
      let before = λ (k : Key). is_open (bits_at slots k.minor) in
      let after = λ (k : Key). is_open (bits_at (set slots key.minor new) k.minor) in
      let others = count_same after before (without_key keys key) (λ k m. let p = without_from keys key k m in ap is_open (others_stay k p.0 p.1)) in
      let here = ap (λ (b : Bits). bit (is_open b)) is_new in
      omega (arith, count_without after keys key ascending there, count_without before keys key ascending there)
