-- A slab comes, or goes.
use Rattle.bin_book.proofs.Words.{Some, None, ◌≡◌, ◌≢◌, ℕ, ◌+◌, ◌-◌, ◌*◌, ◌^◌, ◌<◌, ◌≤◌, Bool, true, false, eqb, ltb, List, [], ◌∷◌, ◌++◌, length, length-set, map, filter, get_or, set, count_by, ◌⊎◌, inl, inr, refl, sym, ap, ◌∙◌, subst, arith, Contains, vec_len, vec_capacity, zero, slice_get, list_any, range_with_len, cases_eq, cases_lt, eq-eqb, get_or-set_at, nat_tests, get_or-set_other, get_or-set_same, length-map, map-append, Contains-append_left, Contains-push, Contains-push_cases, length-range_with_len, count_by-le-length, sum_by-append, sum_by-cons, pages_at, regions_at, pages_bounds, slab_filled, Region, landing, regions_from, AreFreeFrom, Bits, Key, IsAscending, is_above, is_below, key_cmp, with_key, without_key, length_with, length_without, key_tie, key_total, filter_from, with_from, with_keeps, with_self, without_from, without_keeps, absent, parts, Chart, Table, addr_of, meets_slab, place, slab_with_out, with_slab, HasPage, holder_at, AreCounts, AreFreeSlots, IsBinned, IsCharted, AreSlabKeys, IsSlabIn, IsSlabTable, IsMoved, bin_key, bin_of, bits_at, is_open, open_in, ones, regions_in, out_of_slabs, slab_at, slab_of, slabs_in, slabs_without, count_none, any_false, bit, count_map, count_same, count_some, filter_map_is, filter_same, map_has, map_same, range_from, get_or_from_slice_get, slice_get_within, append-nil, filter_all_of, not, out_of, zeros, IsRising}
use Rattle.bin_book.proofs.Places.{filter_split, length_ones, bits_here, bits_there, count_without, key_cases, same_slab}
use Rattle.bin_book.proofs.Taking.{small_numbers}
use Rattle.bin_book.proofs.Regions.{landing_between, regions_agree, regions_both, regions_first, regions_rise}
use Rattle.std.proofs.Common.{rules}
use Rattle.list_facts.proofs.Members.{filter_none_of}
use Rattle.std.specs.FinMap as map_of

-- ---- a new slab

pub new_ones : (bits : Bits) (out : ℕ) → out ≤ regions_at bits.class → AreFreeFrom out bits → ones (regions_at bits.class) bits.free ≡ range_with_len out (regions_at bits.class - out)
new_ones bits out most run = filter_split (λ i. get_or bits.free i false) out (regions_at bits.class) most
    ∙ (λ x. filter_none_of (λ i. get_or bits.free i false) (range_with_len 0 out) (λ i m. run i ∙ grind (arith, nat_tests, range_from 0 out i m)) x ++ filter_all_of (λ i. get_or bits.free i false) (range_with_len out (regions_at bits.class - out)) (λ i m. run i ∙ grind (arith, nat_tests, range_from out (regions_at bits.class - out) i m)) x)

new_zeros : (bits : Bits) (out : ℕ) → out ≤ regions_at bits.class → AreFreeFrom out bits → zeros (regions_at bits.class) bits.free ≡ range_with_len 0 out
new_zeros bits out most run = filter_split (λ i. not (get_or bits.free i false)) out (regions_at bits.class) most
    ∙ (λ x. filter_all_of (λ i. not (get_or bits.free i false)) (range_with_len 0 out) (λ i m. ap not (run i) ∙ grind (arith, nat_tests, range_from 0 out i m)) x ++ filter_none_of (λ i. not (get_or bits.free i false)) (range_with_len out (regions_at bits.class - out)) (λ i m. ap not (run i) ∙ grind (arith, nat_tests, range_from out (regions_at bits.class - out) i m)) x)
    ∙ append-nil (range_with_len 0 out)

pub new_slab : (bits : Bits) (first out : ℕ) → out ≤ regions_at bits.class → AreFreeFrom out bits → slab_of bits first ≡ slab_with_out bits.class first out
new_slab bits first out most run = λ k. record { class = bits.class; first = first; free = map (place bits.class first) (new_ones bits out most run k) }

pub new_in : (bits : Bits) (first out : ℕ) → bits.class < 36 → 0 < out → out ≤ regions_at bits.class → length bits.free ≡ 512 → AreFreeFrom out bits → first + pages_at bits.class ≤ 2 ^ 32 → IsSlabIn bits first
new_in bits first out small some most long run inside =
    let behind : (i : ℕ) → regions_at bits.class ≤ i → get_or bits.free i false ≡ false = (λ i far. run i ∙ grind (arith, nat_tests)) in
    let left = sym (length_ones bits.free (regions_at bits.class) behind) ∙ ap length (new_ones bits out most run) ∙ length-range_with_len out (regions_at bits.class - out) in
    search (rules, arith, behind)

-- ---- counts over keys

pub count_with : (p : Key → Bool) (ks : List Key) (key : Key) → IsAscending ks → (Contains ks key → ⊥) → count_by p (with_key ks key) ≡ count_by p ks + bit (p key)
count_with p ks key s none = omega (arith, ap (count_by p) (parts key_cmp key_total key ks s ∙ ap (λ ls. filter (is_below key) ks ++ ls) (absent key_cmp key_total key key_tie ks none)), sum_by-append (λ k. bit (p k)) (filter (is_below key) ks), sum_by-cons (λ k. bit (p k)) key (filter (is_above key) ks))

-- a key by the first pages, where these differ
below_first : (key k : Key) → k.major ≢ key.major → is_below key k ≡ ltb k.major key.major
unfolding key_cmp
below_first key k ne = grind (arith, nat_tests, ne)

above_first : (key k : Key) → k.major ≢ key.major → is_above key k ≡ ltb key.major k.major
unfolding key_cmp
above_first key k ne = grind (arith, nat_tests, ne)

-- one more is counted, or one fewer
counted_more : (ns : List ℕ) (class c : ℕ) → class < length ns → get_or (set ns class (get_or ns class 0 + 1)) c 0 ≡ get_or ns c 0 + bit (eqb class c)
counted_more ns class c low = grind (arith, nat_tests, get_or-set_at, get_or-set_other, cases_eq c class)

counted_less : (ns : List ℕ) (class c : ℕ) → class < length ns → get_or (set ns class (get_or ns class 0 - 1)) c 0 ≡ get_or ns c 0 - bit (eqb class c)
counted_less ns class c low = grind (arith, nat_tests, get_or-set_at, get_or-set_other, cases_eq c class)

-- ---- a table with one more slab

module _ (t : Table) (i : IsSlabTable t) (class first number : ℕ) (bits : Bits) (is : bits.class ≡ class) (new : IsSlabIn bits first) (rest : List ℕ) (free : t.free.items ≡ rest ++ number ∷ []) (apart : list_any (meets_slab class first) (slabs_in t) ≡ false) where
  abbrev slab : Key
  slab = record { major = first; minor = number }

  abbrev keys : List Key
  keys = with_key t.firsts.keys slab

  abbrev slots : List Bits
  slots = set t.slots.items number bits

  pub was_free : Contains t.free.items number
  was_free = subst (λ ns. Contains ns number) (sym free) (Contains-push rest number)

  pub in_items : number < length t.slots.items
  in_items = omega (arith, i.free.in_slots number was_free, t.slots.ok.0)

  pub low_number : number < 2 ^ 32
  low_number = omega (arith, i.free.in_slots number was_free, i.small)

  pub other_number : (k : Key) → Contains t.firsts.keys k → k.minor ≢ number
  other_number k m = i.free.unused number k was_free m

  pub new_key : Contains t.firsts.keys slab → ⊥
  new_key m = other_number slab m refl

  pub new_bin : Contains t.bins.keys (bin_key class slab) → ⊥
  new_bin m =
      let p = i.binned.from _ m in
      other_number p.0 p.1 (ap (λ (z : Key). z.minor) (same_slab _ _ p.0 slab (small_numbers t i p.0 p.1) low_number p.3))

  -- there is room for its key
  pub new_room : 0 < vec_len t.free → 1 ≤ t.bins.spare
  unfolding open_in
  new_room some = omega (arith, i.bins_room, i.places, count_by-le-length (λ (k : Key). is_open (bits_at t.slots.items k.minor)) t.firsts.keys)

  -- no page is in another slab
  beside : (k : Key) → Contains t.firsts.keys k → (first + pages_at class ≤ k.major) ⊎ (k.major + pages_at (bits_at t.slots.items k.minor).class ≤ first)
  unfolding slabs_in
  beside k m = grind (arith, nat_tests, any_false (meets_slab class first) (map (slab_at t.slots.items) t.firsts.keys) (slab_at t.slots.items k) apart (map_has (slab_at t.slots.items) t.firsts.keys k m))

  some_pages : 1 ≤ pages_at class
  some_pages = (pages_bounds class (let s = new.small in omega arith)).0

  pages_of : (k : Key) → Contains t.firsts.keys k → 1 ≤ pages_at (bits_at t.slots.items k.minor).class
  pages_of k m = (pages_bounds _ (let s = (i.kept.slab k m).small in omega arith)).0

  other_first : (k : Key) → Contains t.firsts.keys k → k.major ≢ first
  other_first k m e = grind (arith, beside k m, some_pages, pages_of k m, e)

  -- what is known of the new bits and of the old ones
  by_new : (P : Key → Bits → Type 0) → P slab bits → ((k : Key) → Contains t.firsts.keys k → P k (bits_at t.slots.items k.minor)) → (k : Key) → Contains keys k → P k (bits_at slots k.minor)
  by_new P here others k m = elim (with_from t.firsts.keys slab k m) [
    | inl e ↦ subst (λ z. P z (bits_at slots z.minor)) (sym e) (subst (P slab) (sym (bits_here t.slots.items number number bits in_items refl)) here)
    | inr d ↦ subst (P k) (sym (bits_there t.slots.items number k.minor bits (other_number k d))) (others k d)
  ]

  pub kept_added : AreSlabKeys slots keys
  kept_added = record {
    slab = by_new (λ k b. IsSlabIn b k.major) new i.kept.slab;
    apart = λ k l m n. by_new (λ k b. k.major ≤ l.major → (k ≡ l) ⊎ (k.major + pages_at b.class ≤ l.major))
        (λ le. grind (arith, with_from t.firsts.keys slab l n, beside l, pages_of l, is, le))
        (λ k d le. grind (arith, with_from t.firsts.keys slab l n, beside k d, some_pages, i.kept.apart k l d, le)) k m;
    numbers = λ k l m n e. grind (arith, with_from t.firsts.keys slab k m, with_from t.firsts.keys slab l n, other_number k, other_number l, i.kept.numbers k l, e);
  }

  binned_added : (bins : List Key) → IsMoved t.bins.keys bins (bin_key bits.class slab) (is_open bits) → IsBinned slots keys bins
  binned_added bins moved =
      let here = bits_here t.slots.items number number bits in_items refl in
      record {
        has = by_new (λ k b. is_open b ≡ true → Contains bins (bin_key b.class k)) moved.there
            (λ k m some. moved.keeps (bin_of t.slots.items k) (λ e. other_number k m (ap (λ (z : Key). z.minor) (same_slab _ _ k slab (small_numbers t i k m) low_number e))) (i.binned.has k m some));
        from = λ b m. elim (key_cases b (bin_key bits.class slab)) [
          | inl e ↦ (slab, with_self t.firsts.keys slab, ap is_open here ∙ moved.gone (subst (Contains bins) e m), ap (λ (x : Bits). bin_key x.class slab) here ∙ sym e)
          | inr ne ↦
              let p = i.binned.from b (moved.only b ne m) in
              let same = bits_there t.slots.items number p.0.minor bits (other_number p.0 p.1) in
              (p.0, with_keeps t.firsts.keys slab p.0 p.1, ap is_open same ∙ p.2, ap (λ (x : Bits). bin_key x.class p.0) same ∙ p.3)
        ];
      }

  open_added : open_in slots keys ≡ open_in t.slots.items t.firsts.keys + bit (is_open bits)
  unfolding open_in
  open_added =
      let before = λ (k : Key). is_open (bits_at t.slots.items k.minor) in
      let after = λ (k : Key). is_open (bits_at slots k.minor) in
      let others = count_same after before t.firsts.keys (λ k m. ap is_open (bits_there t.slots.items number k.minor bits (other_number k m))) in
      let here = ap (λ (b : Bits). bit (is_open b)) (bits_here t.slots.items number number bits in_items refl) in
      omega (arith, count_with after t.firsts.keys slab i.ascending new_key)

  pub chart_place : number < vec_len t.chart.firsts
  chart_place = omega (arith, i.free.in_slots number was_free, i.chart_room)

  -- its first page stands at its number, and its pages have no other number
  pub charted_added : (chart : Chart) → chart.firsts.items ≡ set t.chart.firsts.items number first → ((page n : ℕ) → map_of.get chart.pages.numbers page ≡ Some n → (HasPage first (pages_at class) page × (number ≡ n)) ⊎ (map_of.get t.chart.pages.numbers page ≡ Some n)) → IsCharted slots keys chart
  charted_added chart firsts only = record {
    firsts = λ k m. grind (arith, ap (λ ns. get_or ns k.minor 0) firsts, with_from t.firsts.keys slab k m, get_or-set_same t.chart.firsts.items number first 0 (omega (arith, chart_place, t.chart.firsts.ok.0)), get_or-set_other t.chart.firsts.items number k.minor first 0, other_number k, i.charted.firsts k);
    holders = λ page n e. elim (only page n e) [
      | inl p ↦ (slab, record { there = with_self t.firsts.keys slab; at = p.1; has = subst (λ c. HasPage first (pages_at c) page) (sym (ap (λ (b : Bits). b.class) (bits_here t.slots.items number number bits in_items refl) ∙ is)) p.0 })
      | inr old ↦
          let h = i.charted.holders page n old in
          (h.0, record { there = with_keeps t.firsts.keys slab h.0 h.1.there; at = h.1.at; has = subst (λ (b : Bits). HasPage h.0.major (pages_at b.class) page) (sym (bits_there t.slots.items number h.0.minor bits (other_number h.0 h.1.there))) h.1.has })
    ];
  }

  count_rest : (n : ℕ) → count_by (λ m. eqb m n) rest + bit (eqb number n) ≤ 1
  count_rest n = grind (arith, ap (count_by (λ m. eqb m n)) free, sum_by-append (λ m. bit (eqb m n)) rest (number ∷ []), sum_by-cons (λ m. bit (eqb m n)) number [], i.free.once n)

  free_added : AreFreeSlots rest keys (vec_len t.slots)
  free_added = record {
    in_slots = λ n m. i.free.in_slots n (subst (λ ns. Contains ns n) (sym free) (Contains-append_left rest (number ∷ []) n m));
    unused = λ n k m o f. grind (arith, nat_tests, with_from t.firsts.keys slab k o, count_some (λ x. eqb x n) rest n m (eq-eqb n n refl), count_rest n, i.free.unused n k (subst (λ ns. Contains ns n) (sym free) (Contains-append_left rest (number ∷ []) n m)), f);
    once = λ n. let most = count_rest n in omega arith;
  }

  class_count : (c : ℕ) → count_by (λ s. eqb s.class c) (map (slab_at slots) keys) ≡ count_by (λ s. eqb s.class c) (map (slab_at t.slots.items) t.firsts.keys) + bit (eqb class c)
  class_count c = grind (
    arith,
    count_map (slab_at slots) (λ s. eqb s.class c) keys,
    count_with (λ k. eqb (bits_at slots k.minor).class c) t.firsts.keys slab i.ascending new_key,
    count_map (slab_at t.slots.items) (λ s. eqb s.class c) t.firsts.keys,
    is,
    bits_here t.slots.items number number bits in_items,
    count_same (λ k. eqb (bits_at slots k.minor).class c) (λ k. eqb (bits_at t.slots.items k.minor).class c) t.firsts.keys (λ k m. ap (λ (b : Bits). eqb b.class c) (bits_there t.slots.items number k.minor bits (other_number k m))),
  )

  counts_added : (small : class < 36) → AreCounts (set t.counts class (get_or t.counts class 0 + 1)) (map (slab_at slots) keys)
  unfolding slabs_in
  counts_added small c low = omega (arith, i.counts c low, class_count c, counted_more t.counts class c (omega arith))

  pub table_added : (small : class < 36) → (u : Table) → u.firsts.keys ≡ keys → u.firsts.spare + 1 ≡ t.firsts.spare → IsAscending u.firsts.keys → u.slots.items ≡ slots → vec_len u.slots ≡ vec_len t.slots → u.free.items ≡ rest → vec_len u.free + 1 ≡ vec_len t.free → vec_capacity u.free ≡ vec_capacity t.free
      → u.counts ≡ set t.counts class (get_or t.counts class 0 + 1) → IsCharted slots keys u.chart → vec_len u.chart.firsts ≡ vec_len t.chart.firsts → IsMoved t.bins.keys u.bins.keys (bin_key bits.class slab) (is_open bits) → u.bins.spare + bit (is_open bits) ≡ t.bins.spare → length u.holders ≡ length t.holders → IsSlabTable u
  unfolding slabs_in
  table_added small u firsts spare ascending items len free_items free_len cap counts charted chart_len bins bins_spare codes =
      let more = ap length firsts ∙ length_with t.firsts.keys slab i.ascending new_key in
      let classes = ap length counts ∙ length-set t.counts class (get_or t.counts class 0 + 1) ∙ i.classes in
      let same_open : open_in u.slots.items u.firsts.keys ≡ open_in slots keys = (λ x. open_in (items x) (firsts x)) in
      let room : vec_len u.slots ≤ open_in u.slots.items u.firsts.keys + u.bins.spare = omega (arith, i.bins_room, open_added, same_open) in
      let in_slots : (k : Key) → Contains u.firsts.keys k → k.minor < vec_len u.slots = λ k m. grind (arith, with_from t.firsts.keys slab k (subst (λ ks. Contains ks k) firsts m), i.free.in_slots number was_free, i.in_slots k, len) in
      search (rules, arith, items, firsts, free_items, len, counts, codes, ascending, kept_added, binned_added u.bins.keys bins, charted, free_added, counts_added small, i.held)

  pub slabs_added : (u : Table) → u.firsts.keys ≡ keys → u.slots.items ≡ slots → slabs_in u ≡ with_slab (slabs_in t) (slab_of bits first)
  unfolding slabs_in
  slabs_added u firsts items =
      let old = slab_at t.slots.items in
      let lower = filter_map_is old (λ s. ltb s.first first) t.firsts.keys ∙ ap (map old) (filter_same (λ k. ltb k.major first) (is_below slab) t.firsts.keys (λ k m. sym (below_first slab k (other_first k m)))) in
      let upper = filter_map_is old (λ s. ltb first s.first) t.firsts.keys ∙ ap (map old) (filter_same (λ k. ltb first k.major) (is_above slab) t.firsts.keys (λ k m. sym (above_first slab k (other_first k m)))) in
      let same = λ (p : Key → Bool). map_same (slab_at slots) old (filter p t.firsts.keys) (λ k m. ap (λ (b : Bits). slab_of b k.major) (bits_there t.slots.items number k.minor bits (other_number k (filter_from p t.firsts.keys k m).0))) in
      let here = ap (λ (b : Bits). slab_of b first) (bits_here t.slots.items number number bits in_items refl) in
      rw (items, firsts) (map-append (slab_at slots) (filter (is_below slab) t.firsts.keys) (slab ∷ filter (is_above slab) t.firsts.keys)
      ∙ (λ x. (same (is_below slab) ∙ sym lower) x ++ here x ∷ (same (is_above slab) ∙ sym upper) x))

  -- the slot has codes
  pub codes_room : (count : ℕ) → count ≤ regions_at class → 512 * number + count ≤ length t.holders
  codes_room count most = omega (arith, (slab_filled bits.class new.small).2, ap regions_at is, i.free.in_slots number was_free)

  -- the regions of the slab land among the others
  pub regions_added : (client count : ℕ) → count ≤ regions_at class → AreFreeFrom count bits → IsAscending keys → (codes : List ℕ) → ((n : ℕ) → n < count → holder_at codes (512 * number + n) ≡ Some client)
      → ((p : ℕ) → (p < 512 * number) ⊎ (512 * number + count ≤ p) → holder_at codes p ≡ holder_at t.holders p) → out_of_slabs slots codes keys ≡ landing (regions_from client class (4096 * first) count) (regions_in t)
  regions_added client count most run ascending codes here others =
      let come = regions_from client class (4096 * first) count in
      let were = out_of_slabs t.slots.items t.holders in
      let lower = filter (is_below slab) t.firsts.keys in
      let higher = filter (is_above slab) t.firsts.keys in
      let made : Bits → ℕ → Region = λ b n. record { addr = place b.class first n; class = b.class; holder = holder_at codes (512 * number + n) } in
      let mine : out_of slots codes slab ≡ come = ap (λ (b : Bits). map (made b) (zeros (regions_at b.class) b.free)) (bits_here t.slots.items number number bits in_items refl)
      ∙ ap (map (made bits)) (new_zeros bits count (subst (λ c. count ≤ regions_at c) (sym is) most) run)
      ∙ map_same (made bits) _ (range_with_len 0 count) (λ n m x. record { addr = place (is x) first n; class = is x; holder = here n (omega (arith, (range_from 0 count n m).1)) x }) in
      let theirs = λ (p : Key → Bool). regions_agree t.slots.items slots t.holders codes (filter p t.firsts.keys) (λ k m. bits_there t.slots.items number k.minor bits (other_number k (filter_from p t.firsts.keys k m).0)) (λ k n m low.
      let there = (filter_from p t.firsts.keys k m).0 in
      let few = (slab_filled (bits_at t.slots.items k.minor).class (i.kept.slab k there).small).2 in
      let few' = (slab_filled class (subst (λ n. n < 36) is new.small)).2 in
      let other = other_number k there in
      others (512 * k.minor + n) (elim (cases_lt k.minor number) [ inl l ↦ inl (omega arith) | inr g ↦ inr (omega arith) ])) in
      let before : regions_in t ≡ were lower ++ were higher = ap were (parts key_cmp key_total slab t.firsts.keys i.ascending ∙ ap (λ ks. lower ++ ks) (absent key_cmp key_total slab key_tie t.firsts.keys new_key)) ∙ regions_both t.slots.items t.holders lower higher in
      let after : out_of_slabs slots codes keys ≡ were lower ++ (come ++ were higher) = regions_both slots codes lower (slab ∷ higher) ∙ ap (λ rs. out_of_slabs slots codes lower ++ rs) (regions_first slots codes slab higher)
      ∙ (λ x. theirs (is_below slab) x ++ (mine x ++ theirs (is_above slab) x)) in
      after ∙ sym (ap (landing come) before ∙ landing_between (were lower) come (were higher) (subst (IsRising addr_of) after (regions_rise slots codes keys ascending kept_added)))

-- how many slabs there are
pub few_slabs : (t : Table) → IsSlabTable t → (class : ℕ) → class < 36 → get_or t.counts class 0 < 2 ^ 32
unfolding slabs_in
few_slabs t i class small = omega (arith, count_by-le-length (λ s. eqb s.class class) (map (slab_at t.slots.items) t.firsts.keys), length-map t.firsts.keys (slab_at t.slots.items), i.counts class small)

-- a list without a number has it nowhere
pub count_zero : (ns : List ℕ) (n : ℕ) → (Contains ns n → ⊥) → count_by (λ m. eqb m n) ns ≡ 0
count_zero ns n none = count_none (λ m. eqb m n) ns (λ x m. grind (arith, nat_tests, none, m))

module _ (t : Table) (i : IsSlabTable t) (slab : Key) (there : Contains t.firsts.keys slab) where
  abbrev rest_keys : List Key
  rest_keys = without_key t.firsts.keys slab

  -- each other slab is as it was
  pub kept_less : AreSlabKeys t.slots.items rest_keys
  kept_less =
      let old = without_from t.firsts.keys slab in
      record { slab = λ k m. i.kept.slab k (old k m).0; apart = λ k l m n. i.kept.apart k l (old k m).0 (old l n).0; numbers = λ k l m n. i.kept.numbers k l (old k m).0 (old l n).0 }

  binned_less : (bins : List Key) → IsMoved t.bins.keys bins (bin_of t.slots.items slab) false → IsBinned t.slots.items rest_keys bins
  binned_less bins moved = record {
    has = λ k m some.
        let p = without_from t.firsts.keys slab k m in
        moved.keeps (bin_of t.slots.items k) (λ e. p.1 (same_slab _ _ k slab (small_numbers t i k p.0) (small_numbers t i slab there) e)) (i.binned.has k p.0 some);
    from = λ b m.
        let ne : b ≢ bin_of t.slots.items slab = (λ e. let no : false ≡ true = moved.gone (subst (Contains bins) e m) in cc) in
        let p = i.binned.from b (moved.only b ne m) in
        (p.0, without_keeps t.firsts.keys slab p.0 p.1 (λ e. ne (sym p.3 ∙ ap (bin_of t.slots.items) e)), p.2, p.3);
  }

  open_fewer : open_in t.slots.items rest_keys + bit (is_open (bits_at t.slots.items slab.minor)) ≡ open_in t.slots.items t.firsts.keys
  unfolding open_in
  open_fewer = count_without (λ k. is_open (bits_at t.slots.items k.minor)) t.firsts.keys slab i.ascending there

  -- no page has its number any more
  pub charted_less : (chart : Chart) → chart.firsts ≡ t.chart.firsts → ((page : ℕ) → HasPage slab.major (pages_at (bits_at t.slots.items slab.minor).class) page → map_of.get chart.pages.numbers page ≡ None)
      → ((page n : ℕ) → map_of.get chart.pages.numbers page ≡ Some n → map_of.get t.chart.pages.numbers page ≡ Some n) → IsCharted t.slots.items rest_keys chart
  charted_less chart firsts none only = record {
    firsts = λ k m. ap (λ v. get_or v.items k.minor 0) firsts ∙ i.charted.firsts k (without_from t.firsts.keys slab k m).0;
    holders = λ page n e.
        let h = i.charted.holders page n (only page n e) in
        let gone : h.0 ≢ slab = (λ same. let far = none page (subst (λ (z : Key). HasPage z.major (pages_at (bits_at t.slots.items z.minor).class) page) same h.1.has) in cc) in
        (h.0, record { there = without_keeps t.firsts.keys slab h.0 h.1.there gone; at = h.1.at; has = h.1.has });
  }

  free_more : AreFreeSlots (t.free.items ++ slab.minor ∷ []) rest_keys (vec_len t.slots)
  free_more = record {
    in_slots = λ n m. grind (arith, Contains-push_cases t.free.items slab.minor n m, i.free.in_slots n, i.in_slots slab there);
    unused = λ n k m o f. let p = without_from t.firsts.keys slab k o in grind (arith, Contains-push_cases t.free.items slab.minor n m, i.free.unused n k, i.kept.numbers k slab p.0 there, p.0, p.1, f);
    once = λ n. grind (arith, nat_tests, sum_by-append (λ m. bit (eqb m n)) t.free.items (slab.minor ∷ []), sum_by-cons (λ m. bit (eqb m n)) slab.minor [], i.free.once n, (λ (is : slab.minor ≡ n). count_zero t.free.items n (λ m. i.free.unused n slab m there is)));
  }

  abbrev class_of_slab : ℕ
  class_of_slab = (bits_at t.slots.items slab.minor).class

  class_fewer : (c : ℕ) → count_by (λ s. eqb s.class c) (map (slab_at t.slots.items) rest_keys) + bit (eqb class_of_slab c) ≡ count_by (λ s. eqb s.class c) (map (slab_at t.slots.items) t.firsts.keys)
  class_fewer c = omega (arith, count_map (slab_at t.slots.items) (λ s. eqb s.class c), count_without (λ k. eqb (bits_at t.slots.items k.minor).class c) t.firsts.keys slab i.ascending there)

  pub some_count : 1 ≤ get_or t.counts class_of_slab 0
  unfolding slabs_in
  some_count = grind (arith, nat_tests, i.counts class_of_slab (i.kept.slab slab there).small, class_fewer class_of_slab)

  counts_less : AreCounts (set t.counts class_of_slab (get_or t.counts class_of_slab 0 - 1)) (map (slab_at t.slots.items) rest_keys)
  unfolding slabs_in
  counts_less c low = omega (arith, i.counts c low, class_fewer c, (i.kept.slab slab there).small, some_count, counted_less t.counts class_of_slab c (omega (arith, (i.kept.slab slab there).small)))

  pub fewer_keys : length rest_keys + 1 ≡ length t.firsts.keys
  fewer_keys = length_without t.firsts.keys slab i.ascending there

  pub table_less : (u : Table) → u.firsts.keys ≡ rest_keys → u.firsts.spare ≡ t.firsts.spare + 1 → IsAscending u.firsts.keys → u.slots ≡ t.slots → u.free.items ≡ t.free.items ++ slab.minor ∷ [] → vec_len u.free ≡ vec_len t.free + 1 → vec_capacity t.free ≤ vec_capacity u.free
      → u.counts ≡ set t.counts class_of_slab (get_or t.counts class_of_slab 0 - 1) → IsCharted t.slots.items rest_keys u.chart → vec_len u.chart.firsts ≡ vec_len t.chart.firsts → IsMoved t.bins.keys u.bins.keys (bin_of t.slots.items slab) false → u.bins.spare ≡ t.bins.spare + bit (is_open (bits_at t.slots.items slab.minor)) → length u.holders ≡ length t.holders → IsSlabTable u
  unfolding slabs_in
  table_less u firsts spare ascending slots free_items free_len cap counts charted chart_len bins bins_spare codes =
      let items = ap (λ v. v.items) slots in
      let len = ap (λ v. vec_len v) slots in
      let fewer = ap length firsts in
      let one = fewer_keys in
      let classes = ap length counts ∙ length-set t.counts class_of_slab (get_or t.counts class_of_slab 0 - 1) ∙ i.classes in
      let same_open : open_in u.slots.items u.firsts.keys ≡ open_in t.slots.items rest_keys = (λ x. open_in (items x) (firsts x)) in
      let room : vec_len u.slots ≤ open_in u.slots.items u.firsts.keys + u.bins.spare = omega (arith, i.bins_room, open_fewer, same_open) in
      let in_slots : (k : Key) → Contains u.firsts.keys k → k.minor < vec_len u.slots = λ k m. omega (arith, i.in_slots k (without_from t.firsts.keys slab k (subst (λ ks. Contains ks k) firsts m)).0) in
      search (rules, arith, items, firsts, free_items, len, counts, codes, ascending, kept_less, binned_less u.bins.keys bins, charted, free_more, counts_less, i.held)

  pub slabs_less : (u : Table) → u.firsts.keys ≡ rest_keys → u.slots ≡ t.slots → slabs_in u ≡ slabs_without t slab
  unfolding slabs_in
  slabs_less u firsts slots = let items = ap (λ v. v.items) slots in rw (items, firsts) refl

-- ---- all slabs go

pub length_slabs : (t : Table) → length (slabs_in t) ≡ length t.firsts.keys
unfolding slabs_in
length_slabs t = length-map t.firsts.keys (slab_at t.slots.items)

pub first_there : (keys : List Key) (k : Key) → slice_get keys 0 ≡ Some k → Contains keys k
first_there keys k e = (zero, slice_get_within keys 0 k e, get_or_from_slice_get keys 0 k k e)

pub none_there : (keys : List Key) → slice_get keys 0 ≡ None → keys ≡ []
none_there [] e = refl
none_there (k ∷ keys) e = absurd (cc)
