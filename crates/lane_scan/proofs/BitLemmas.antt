-- Lemmas on the bits of words.
use Rattle.std.proofs.Common.{◌≡◌, ℕ, ◌+◌, ◌-◌, ◌*◌, ◌/◌, ◌%◌, ◌^◌, ◌<◌, ◌≤◌, ◌≢◌, inl, inr, Bool, true, false, cond, eqb, List, [], ◌∷◌, length, length-set, get_or, set, map, take, drop, refl, sym, ap, ◌∙◌, arith, take-add, count_by, position, Some, None, Fits, w64}
use mathlib.Core.Logic.{dite}
use native.Mathlib.Decide.{ℕ_discrete}
use Rattle.std.specs.Int.{bit_at}
use Rattle.std.specs.Prelude.{bit_and, bit_or}
use Rattle.std.specs.Int.RustNames.{count_ones}
use Rattle.std.specs.List.{position_or_len}
use Rattle.std.proofs.lemmas.Grind.{get_or_head, get_or_tail}
use Rattle.std.proofs.lemmas.List.{append-nil, length-take, length-append, get_or-append_right, get_or_append_left, get_or-set_same, get_or-set_other, ext_get_or, map-id, drop_more}
use Rattle.std.proofs.lemmas.List.FromFn.{length-map-range_with_len, get_or-map-range_with_len}
use Rattle.std.proofs.lemmas.List.Concat.{flat_map-append}
use Rattle.std.proofs.lemmas.Nat.Bits.{same_from_bits_below, bit_at-lt, bit_at-zero, bit_at-trailing_zeros, bit_at_set_same, bit_at_set_other, bit_at_clear_same, bit_at_clear_other}
use Rattle.std.proofs.lemmas.Simd.{mask_l-lt, bit_mask_l, ones-mask_l}
use Rattle.std.proofs.lemmas.Bool.Decides.{nat_tests}
use Rattle.std.proofs.lemmas.List.Sums.{sum_by-append, passes_at_first, position_or_len_is, count_by-le-length}
use Rattle.std.proofs.lemmas.Bool.{cases_lt}
use lib.Count.{count_trailing_zeros}
use lib.Lanes.{mask_l, Each1, fold_l}
use Rattle.lane_scan.specs.Bits.{word_bits, bits_of}

-- a word has 64 bits
length-word_bits : (w : ℕ) → length (word_bits w) ≡ 64
unfolding word_bits
length-word_bits w = length-map-range_with_len (λ k. eqb (bit_at w k) 1) 0 64

-- bit k of a word
get_or-word_bits : (w k : ℕ) → k < 64 → get_or (word_bits w) k false ≡ eqb (bit_at w k) 1
unfolding word_bits
get_or-word_bits w k lt = get_or-map-range_with_len (λ k. eqb (bit_at w k) 1) 0 64 k k false lt (omega arith)

-- a word that is made of bits has these bits
pub bit_of_mask : (ms : List Bool) (k : ℕ) → eqb (bit_at (mask_l ms) k) 1 ≡ get_or ms k false
bit_of_mask ms k = grind (arith, nat_tests, bit_mask_l ms k)

-- the word that is made of a word's bits is that word
mask_l-word_bits : (w : ℕ) → w < 2 ^ 64 → mask_l (word_bits w) ≡ w
mask_l-word_bits w fits =
    same_from_bits_below 64 (mask_l (word_bits w)) w (rw length-word_bits at (mask_l-lt (word_bits w))) fits
    (λ i lt. grind (arith, nat_tests, bit_mask_l (word_bits w) i, get_or-word_bits w i lt, bit_at-lt w i))

-- how many bits of a word are set
count-word_bits : (w : ℕ) → w < 2 ^ 64 → count_by (λ bit. bit) (word_bits w) ≡ count_ones w
count-word_bits w fits = cc (ones-mask_l (λ bit. bit) (word_bits w), map-id (word_bits w), mask_l-word_bits w fits)

-- how many bits there are
pub length-bits_of : (ws : List ℕ) → length (bits_of ws) ≡ 64 * length ws
unfolding bits_of
length-bits_of [] = refl
length-bits_of (w ∷ ws) = omega (arith, length-append (word_bits w) (bits_of ws), length-word_bits w, length-bits_of ws)

-- each bit by its place
pub get_or-bits_of : (ws : List ℕ) (i : ℕ) → get_or (bits_of ws) i false ≡ eqb (bit_at (get_or ws (i / 64) 0) (i % 64)) 1
unfolding bits_of
get_or-bits_of [] i = grind (arith, nat_tests, bit_at-zero (i % 64))
get_or-bits_of (w ∷ ws) i = elim (cases_lt i 64) [
  | inl lt ↦ get_or_append_left (word_bits w) (bits_of ws) false i (omega (arith, length-word_bits w)) ∙ grind (arith, get_or_head, get_or-word_bits w i lt)
  | inr ge ↦ get_or-append_right (word_bits w) (bits_of ws) 64 i false (length-word_bits w) ge ∙ grind (arith, get_or_tail, get_or-bits_of ws (i - 64))
]

-- how many bits of words are set
abbrev pub ones : List ℕ → ℕ
ones ws = count_by (λ bit. bit) (bits_of ws)

-- the lanes' counts add up to the number of set bits
pub lane_sum : (a : ℕ) (ws : List ℕ) → Each1 (Fits w64) ws → fold_l (λ s x. s + x) a (map (λ x. x) (map count_ones ws)) ≡ a + ones ws
unfolding bits_of
lane_sum a [] h = omega arith
lane_sum a (w ∷ ws) h =
    omega (arith, lane_sum (a + count_ones w) ws h.1, count-word_bits w h.0.fits, sum_by-append (λ bit. cond bit 1 0) (word_bits w) (bits_of ws))

-- the lowest set bit stands in the first word that is not zero
pub lowest_at : (ws : List ℕ) (i : ℕ) → i < length ws → ((k : ℕ) → k < i → get_or ws k 0 ≡ 0)
    → 0 < get_or ws i 0 → get_or ws i 0 < 2 ^ 64 → position (λ bit. bit) (bits_of ws) ≡ Some (64 * i + count_trailing_zeros 64 (get_or ws i 0))
lowest_at ws i lt zero_before nonzero fits =
    let t = count_trailing_zeros 64 (get_or ws i 0) in
    let at = bit_at-trailing_zeros w64 (get_or ws i 0) nonzero fits in
    let long = length-bits_of ws in
    let found = position_or_len_is (λ bit. bit) (bits_of ws) (64 * i + t) false (omega (arith, at.0))
    (λ k before. grind (arith, nat_tests, get_or-bits_of ws k, zero_before (k / 64), bit_at-zero (k % 64), at.2 (k % 64)))
    (λ within. grind (arith, nat_tests, get_or-bits_of ws (64 * i + t))) in
    grind (arith, nat_tests)

-- where every word is zero no bit is set
pub lowest_none : (ws : List ℕ) → ((k : ℕ) → k < length ws → get_or ws k 0 ≡ 0) → position (λ bit. bit) (bits_of ws) ≡ None
lowest_none ws zeros =
    let first = position_or_len (λ bit. bit) (bits_of ws) in
    let passes = passes_at_first (λ bit. bit) (bits_of ws) false in
    grind (arith, nat_tests, passes, length-bits_of ws, get_or-bits_of ws first, zeros (first / 64), bit_at-zero (first % 64))

-- words have at most as many set bits as they have bits
pub ones-le : (ws : List ℕ) → ones ws ≤ 64 * length ws
ones-le ws = omega (arith, count_by-le-length (λ bit. bit) (bits_of ws), length-bits_of ws)

-- what a count over words becomes n words further on, and a bound
pub ones_more : (ws : List ℕ) (at n : ℕ)
    → (ones (take (at + n) ws) ≡ ones (take at ws) + ones (take n (drop at ws))) × (ones (take (at + n) ws) ≤ 64 * length ws)
unfolding bits_of
ones_more ws at n = (simp (take-add, flat_map-append, sum_by-append), omega (arith, ones-le (take (at + n) ws), length-take (at + n) ws))

-- the bits that one word counts
pub ones_word : (ws : List ℕ) (at : ℕ) → at < length ws → get_or ws at 0 < 2 ^ 64 → count_ones (get_or ws at 0) ≡ ones (take 1 (drop at ws))
unfolding bits_of
ones_word ws at lt fits = rw (drop_more ws at 0 lt, append-nil) (sym (count-word_bits (get_or ws at 0) fits))

-- a bit at another place reads as before
elsewhere : (ws : List ℕ) (i new : ℕ) → i < 64 * length ws → ((k : ℕ) → k < 64 → k ≢ i % 64 → bit_at new k ≡ bit_at (get_or ws (i / 64) 0) k)
    → (m : ℕ) → m ≢ i → eqb (bit_at (get_or (set ws (i / 64) new) (m / 64) 0) (m % 64)) 1 ≡ eqb (bit_at (get_or ws (m / 64) 0) (m % 64)) 1
elsewhere ws i new inside others m other = dite (ℕ_discrete (m / 64) (i / 64))
    (λ same. let there : get_or (set ws (i / 64) new) (m / 64) 0 ≡ new = ap (λ j. get_or (set ws (i / 64) new) j 0) same ∙ get_or-set_same ws (i / 64) new 0 (omega arith) in
    let bit = others (m % 64) (omega arith) (λ e. other (omega arith)) in
    ap (λ x. eqb (bit_at x (m % 64)) 1) there ∙ (ap (λ x. eqb x 1) bit ∙ ap (λ j. eqb (bit_at (get_or ws j 0) (m % 64)) 1) (sym same)))
    (λ apart. ap (λ x. eqb (bit_at x (m % 64)) 1) (get_or-set_other ws (i / 64) (m / 64) new 0 apart))

-- one bit of one word is written, and each other bit stays
pub bit_written : (ws : List ℕ) (i new : ℕ) (b : Bool) → i < 64 * length ws → eqb (bit_at new (i % 64)) 1 ≡ b
    → ((k : ℕ) → k < 64 → k ≢ i % 64 → bit_at new k ≡ bit_at (get_or ws (i / 64) 0) k) → bits_of (set ws (i / 64) new) ≡ set (bits_of ws) i b
bit_written ws i new b inside here others =
    ext_get_or false (bits_of (set ws (i / 64) new)) (set (bits_of ws) i b) (omega (arith, length-bits_of (set ws (i / 64) new), length-bits_of ws, length-set ws (i / 64) new, length-set (bits_of ws) i b))
    (λ m lt. dite (ℕ_discrete m i)
    (λ is. get_or-bits_of (set ws (i / 64) new) m ∙ (ap (λ k. eqb (bit_at (get_or (set ws (i / 64) new) (k / 64) 0) (k % 64)) 1) is ∙ (ap (λ x. eqb (bit_at x (i % 64)) 1) (get_or-set_same ws (i / 64) new 0 (omega arith)) ∙ (here ∙ sym (ap (λ k. get_or (set (bits_of ws) i b) k false) is ∙ get_or-set_same (bits_of ws) i b false (omega (arith, length-bits_of ws)))))))
    (λ other. get_or-bits_of (set ws (i / 64) new) m ∙ (elsewhere ws i new inside others m other ∙ sym (get_or-set_other (bits_of ws) i m b false other ∙ get_or-bits_of ws m))))

-- a bit is cleared
pub cleared : (ws : List ℕ) (i : ℕ) → i < 64 * length ws
    → bits_of (set ws (i / 64) (bit_and (get_or ws (i / 64) 0) (18446744073709551615 - 1 * 2 ^ (i % 64) % 18446744073709551616))) ≡ set (bits_of ws) i false
cleared ws i inside =
    let x = get_or ws (i / 64) 0 in let low : i % 64 < 64 = omega arith in
    bit_written ws i _ false inside (ap (λ n. eqb n 1) (bit_at_clear_same w64 x (i % 64) low)) (λ k lt other. bit_at_clear_other w64 x (i % 64) low k lt other)

-- a bit is set
pub raised : (ws : List ℕ) (i : ℕ) → i < 64 * length ws → bits_of (set ws (i / 64) (bit_or (get_or ws (i / 64) 0) (1 * 2 ^ (i % 64) % 18446744073709551616))) ≡ set (bits_of ws) i true
raised ws i inside =
    let x = get_or ws (i / 64) 0 in let low : i % 64 < 64 = omega arith in
    bit_written ws i _ true inside (ap (λ n. eqb n 1) (bit_at_set_same w64 x (i % 64) low)) (λ k lt other. bit_at_set_other w64 x (i % 64) low k other)
