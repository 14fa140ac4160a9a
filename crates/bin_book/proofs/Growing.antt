-- More slots.
use Rattle.bin_book.proofs.Words.{nat_cmp, append-nil, append_assoc, ◌≡◌, ℕ, ◌+◌, ◌-◌, ◌*◌, ◌^◌, ◌<◌, ◌≤◌, zero, suc, eqb, List, [], ◌∷◌, ◌++◌, length, map, get_or, count_by, sym, ap, ◌∙◌, subst, arith, Contains, Some, None, vec_len, vec_capacity, range_with_len, IsStrictlySortedBy, IsStrictlySortedBy-filter, true, Bool, count_by-le-length, cases_lt, nat_tests, get_or_append_left, Contains-append_cases, sum_by-append, sum_by-cons, pages_at, slab_filled, Key, key_cmp, is_other, head, contains_later, every_member, without_key, without_keeps, count_same, IsAscending, Bits, Chart, Table, BinSlab, Grows, HasPage, holder_at, AreFreeSlots, IsBinned, IsCharted, AreSlabKeys, IsSlabIn, IsSlabTable, AreCounts, bin_key, bin_of, bits_at, is_open, open_in, no_bits, regions_in, out_of_slabs, slab_at, slab_of, slabs_in, bit, map_same, range_from}
use Rattle.bin_book.proofs.Regions.{regions_agree}
use Rattle.bin_book.proofs.Adding.{count_zero}
use Rattle.bin_book.proofs.Places.{count_without}
use Rattle.bin_book.proofs.Taking.{less_ne}
use Rattle.std.proofs.Common.{rules}
use Rattle.std.specs.FinMap as map_of

-- one more number of a range
pub range_more : (a n : ℕ) → range_with_len a (suc n) ≡ range_with_len a n ++ (a + n) ∷ []
range_more a zero = grind arith
range_more a (suc n) = grind (arith, range_more (a + 1) n)

pub numbers_more : (old free new : List ℕ) (a number m : ℕ) → a ≤ number → m ≡ number → free ≡ old ++ range_with_len a (number - a) → new ≡ free ++ m ∷ [] → new ≡ old ++ range_with_len a (number + 1 - a)
numbers_more old free new a number m le is e f = grind (arith, range_more a (number - a), append_assoc {A = ℕ}, le, is, e, f)

pub bits_more : (old slots new : List Bits) (b : Bits) (n len : ℕ) → n < len → len ≤ length slots → new ≡ slots ++ b ∷ [] → bits_at slots n ≡ bits_at old n → bits_at new n ≡ bits_at old n
bits_more old slots new b n len l few e same = ap (λ xs. bits_at xs n) e ∙ get_or_append_left slots (b ∷ []) no_bits n (omega arith) ∙ same

-- a range has each number once
count_low : (a n m : ℕ) → m < a → count_by (λ x. eqb x m) (range_with_len a n) ≡ 0
count_low a n m l = count_zero (range_with_len a n) m (λ k. let r = range_from a n m k in let low = r.0 in omega arith)

count_range : (a n m : ℕ) → count_by (λ x. eqb x m) (range_with_len a n) ≤ 1
count_range a zero m = omega arith
count_range a (suc n) m = grind (arith, nat_tests, sum_by-cons (λ x. bit (eqb x m)) a (range_with_len (a + 1) n), count_range (a + 1) n m, count_low (a + 1) n m)

-- the regions of a table with more slots and codes
pub regions_grown : (t : Table) → IsSlabTable t → (slots : List Bits) (codes : List ℕ) (keys : List Key) → keys ≡ t.firsts.keys → ((n : ℕ) → n < vec_len t.slots → bits_at slots n ≡ bits_at t.slots.items n)
    → ((p : ℕ) → p < length t.holders → holder_at codes p ≡ holder_at t.holders p) → out_of_slabs slots codes keys ≡ regions_in t
regions_grown t i slots codes keys same agree holders = rw same (regions_agree t.slots.items slots t.holders codes t.firsts.keys (λ k m. agree k.minor (i.in_slots k m)) (λ k n m low.
    let few = (slab_filled (bits_at t.slots.items k.minor).class (i.kept.slab k m).small).2 in
    let mine = i.in_slots k m in
    holders (512 * k.minor + n) (omega arith)))

-- ---- how many slabs have a free region

-- as many keys at most as there are others from which each comes
few_from : (bins keys : List Key) (f : Key → Key) (p : Key → Bool) → IsAscending bins → IsAscending keys → ((b : Key) → Contains bins b → (k : Key) × Contains keys k × (p k ≡ true) × (f k ≡ b)) → length bins ≤ count_by p keys
unfolding IsStrictlySortedBy
few_from [] keys f p s o from = omega arith
few_from (b ∷ bins) keys f p s o from =
    let q = from b (head b bins) in
    let one : bit (p q.0) ≡ 1 = ap bit q.2 in
    let rest = few_from bins (without_key keys q.0) f p s.1 (IsStrictlySortedBy-filter key_cmp (is_other q.0) keys o) (λ c m.
    let r = from c (contains_later b bins c m) in
    (r.0, without_keeps keys q.0 r.0 r.1 (λ e. less_ne b c (every_member _ bins s.0 c m) (sym q.3 ∙ ap f (sym e) ∙ r.3)), r.2, r.3)) in
    omega (arith, count_without p keys q.0 o q.1)

pub few_open : (t : Table) → IsSlabTable t → IsAscending t.bins.keys → length t.bins.keys ≤ open_in t.slots.items t.firsts.keys
unfolding open_in
few_open t i ascending = few_from t.bins.keys t.firsts.keys (bin_of t.slots.items) (λ k. is_open (bits_at t.slots.items k.minor)) ascending i.ascending i.binned.from

pub few_slabs_open : (t : Table) → open_in t.slots.items t.firsts.keys ≤ length t.firsts.keys
unfolding open_in
few_slabs_open t = count_by-le-length (λ (k : Key). is_open (bits_at t.slots.items k.minor)) t.firsts.keys

-- a table with more slots, and more room
module _ (t u : Table) (i : IsSlabTable t) (firsts : u.firsts.keys ≡ t.firsts.keys) (bins : u.bins.keys ≡ t.bins.keys) (counts : u.counts ≡ t.counts) (agree : (n : ℕ) → n < vec_len t.slots → bits_at u.slots.items n ≡ bits_at t.slots.items n) (chart : Grows t.chart u.chart) where
  same_bits : (k : Key) → Contains t.firsts.keys k → bits_at u.slots.items k.minor ≡ bits_at t.slots.items k.minor
  same_bits k m = agree k.minor (i.in_slots k m)

  kept_grown : AreSlabKeys u.slots.items t.firsts.keys
  kept_grown = record {
    slab = λ k m. subst (λ (b : Bits). IsSlabIn b k.major) (sym (same_bits k m)) (i.kept.slab k m);
    apart = λ k l m n le. let same = same_bits k m in rw same (i.kept.apart k l m n le);
    numbers = i.kept.numbers;
  }

  binned_grown : IsBinned u.slots.items t.firsts.keys t.bins.keys
  binned_grown = record {
    has = λ k m some. subst (λ (b : Bits). Contains t.bins.keys (bin_key b.class k)) (sym (same_bits k m)) (i.binned.has k m (ap is_open (sym (same_bits k m)) ∙ some));
    from = λ b m.
        let p = i.binned.from b m in
        let same = same_bits p.0 p.1 in
        (p.0, p.1, ap is_open same ∙ p.2, ap (λ (x : Bits). bin_key x.class p.0) same ∙ p.3);
  }

  open_grown : open_in u.slots.items t.firsts.keys ≡ open_in t.slots.items t.firsts.keys
  unfolding open_in
  open_grown = count_same (λ k. is_open (bits_at u.slots.items k.minor)) (λ k. is_open (bits_at t.slots.items k.minor)) t.firsts.keys (λ k m. ap is_open (same_bits k m))

  charted_grown : IsCharted u.slots.items t.firsts.keys u.chart
  charted_grown = record {
    firsts = λ k m. chart.firsts k.minor (let low = i.in_slots k m in let room = i.chart_room in omega arith) ∙ i.charted.firsts k m;
    holders = λ page n e.
        let h = i.charted.holders page n (ap (λ ns. map_of.get ns page) (sym chart.numbers) ∙ e) in
        (h.0, record { there = h.1.there; at = h.1.at; has = subst (λ (b : Bits). HasPage h.0.major (pages_at b.class) page) (sym (same_bits h.0 h.1.there)) h.1.has });
  }

  pub slabs_grown : slabs_in u ≡ slabs_in t
  unfolding slabs_in
  slabs_grown = rw firsts (map_same (slab_at u.slots.items) (slab_at t.slots.items) t.firsts.keys (λ k m. ap (λ (b : Bits). slab_of b k.major) (same_bits k m)))

  free_grown : (le : vec_len t.slots ≤ vec_len u.slots) → AreFreeSlots (t.free.items ++ range_with_len (vec_len t.slots) (vec_len u.slots - vec_len t.slots)) t.firsts.keys (vec_len u.slots)
  free_grown le =
      let range = range_with_len (vec_len t.slots) (vec_len u.slots - vec_len t.slots) in
      let new = range_from (vec_len t.slots) (vec_len u.slots - vec_len t.slots) in
      record {
        in_slots = λ n m. grind (arith, Contains-append_cases t.free.items range n m, i.free.in_slots n, new n);
        unused = λ n k m o. grind (arith, Contains-append_cases t.free.items range n m, i.free.unused n k, new n, i.in_slots k o);
        once = λ n. grind (arith, sum_by-append (λ m. bit (eqb m n)) t.free.items range, i.free.once n, cases_lt n (vec_len t.slots), count_low (vec_len t.slots) (vec_len u.slots - vec_len t.slots) n, count_range (vec_len t.slots) (vec_len u.slots - vec_len t.slots) n, (λ (g : vec_len t.slots ≤ n). count_zero t.free.items n (λ m. omega (arith, i.free.in_slots n m))));
      }

  pub table_grown : vec_len t.slots ≤ vec_len u.slots → u.free.items ≡ t.free.items ++ range_with_len (vec_len t.slots) (vec_len u.slots - vec_len t.slots) → vec_len u.free + vec_len t.slots ≡ vec_len t.free + vec_len u.slots
      → vec_len u.slots < 2 ^ 32 → vec_len u.slots ≤ vec_capacity u.free → vec_len u.slots ≤ vec_len u.chart.firsts → vec_len u.free ≤ u.firsts.spare → vec_len u.slots ≤ open_in t.slots.items t.firsts.keys + u.bins.spare → 512 * vec_len u.slots ≤ length u.holders → IsSlabTable u
  table_grown le free places small room chart_room firsts_room bins_room held =
      let len = ap length firsts in
      let classes = ap length counts ∙ i.classes in
      let same_open : open_in u.slots.items u.firsts.keys ≡ open_in u.slots.items t.firsts.keys = ap (open_in u.slots.items) firsts in
      let binned_room : vec_len u.slots ≤ open_in u.slots.items u.firsts.keys + u.bins.spare = omega (arith, bins_room, open_grown) in
      let in_slots : (k : Key) → Contains u.firsts.keys k → k.minor < vec_len u.slots = λ k m. omega (arith, i.in_slots k (subst (λ ks. Contains ks k) firsts m)) in
      search (rules, arith, firsts, bins, counts, free, slabs_grown, i.ascending, kept_grown, binned_grown, charted_grown, free_grown le, i.counts)

-- a table whose sets and chart have more room, and that is as it was otherwise
pub table_roomy : (t u : Table) → IsSlabTable t → u.firsts.keys ≡ t.firsts.keys → t.firsts.spare ≤ u.firsts.spare → u.bins.keys ≡ t.bins.keys → t.bins.spare ≤ u.bins.spare → u.slots ≡ t.slots → u.free ≡ t.free → u.counts ≡ t.counts → length t.holders ≤ length u.holders → Grows t.chart u.chart → IsSlabTable u × (slabs_in u ≡ slabs_in t)
table_roomy t u i firsts more bins wider slots free counts codes chart =
    let len = ap (λ v. vec_len v) slots in
    let free_len = ap (λ v. vec_len v) free in
    let cap = ap (λ v. vec_capacity v) free in
    let agree = (λ (n : ℕ) (l : n < vec_len t.slots). ap (λ v. bits_at v.items n) slots) in
    let places = chart.places in
    let none : vec_len u.slots - vec_len t.slots ≡ 0 = omega arith in (
      table_grown t u i firsts bins counts agree chart (omega arith) (ap (λ v. v.items) free ∙ rw none (sym (append-nil t.free.items))) (omega arith) (omega arith) (omega arith) (omega arith) (omega arith) (omega arith) (omega arith),
      slabs_grown t u i firsts bins counts agree chart,
    )

pub same_chart : (chart : Chart) → Grows chart chart
same_chart chart = search rules

-- ---- a table without slabs

pub empty_slabs : (t : Table) → t.firsts.keys ≡ [] → slabs_in t ≡ []
unfolding slabs_in
empty_slabs t e = ap (map (slab_at t.slots.items)) e

none_ascending : IsAscending []
unfolding IsStrictlySortedBy
none_ascending = tt

pub empty_table : (t : Table) → t.firsts.keys ≡ [] → t.bins.keys ≡ [] → vec_len t.slots ≡ 0 → t.free.items ≡ [] → vec_len t.free ≡ 0 → length t.counts ≡ 36 → ((class : ℕ) → class < 36 → get_or t.counts class 0 ≡ 0) → t.chart.pages.numbers ≡ map_of.empty → IsSlabTable t
empty_table t firsts bins slots free free_len classes zeros chart =
    let len = ap length firsts in
    let numbers : (page n : ℕ) → map_of.get t.chart.pages.numbers page ≡ Some n → ⊥ = λ page n e. let no : None ≡ Some n = sym (ap (λ ns. map_of.get ns page) chart ∙ map_of.get-empty nat_cmp page) ∙ e in cc in
    let counts : AreCounts t.counts (slabs_in t) = λ class small. zeros class small ∙ sym (ap (count_by (λ (s : BinSlab). eqb s.class class)) (empty_slabs t firsts)) in
    search (rules, arith, firsts, bins, slots, free, none_ascending, counts, numbers)
