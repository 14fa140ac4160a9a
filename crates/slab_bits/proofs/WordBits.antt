-- Single bits of words.
use Rattle.std.proofs.Common.{◌≡◌, ℕ, ◌+◌, ◌-◌, ◌*◌, ◌/◌, ◌%◌, ◌^◌, ◌<◌, ◌≤◌, inl, inr, ◌&&◌, false, eqb, ltb, leb, List, length, get_or, set, sym, ap, ◌∙◌, arith, w64}
use mathlib.Core.Logic.{dite}
use native.Mathlib.Decide.{ℕ_discrete}
use Rattle.std.specs.Int.{bit_at}
use Rattle.std.specs.Prelude.{bit_and}
use Rattle.std.proofs.lemmas.List.{get_or-set_same, get_or-set_other, get_or_past}
use Rattle.std.proofs.lemmas.Bool.{cases_lt}
use Rattle.std.proofs.lemmas.Bool.Decides.{nat_tests}
use Rattle.std.proofs.lemmas.Nat.{one_shl}
use Rattle.std.proofs.lemmas.Nat.Bits.{bit_at_and, bit_at_not, bit_at_ones, bit_at_ones_above}
use Rattle.lane_scan.specs.Bits.{bits_of}
use Rattle.lane_scan.proofs.BitLemmas.{length-bits_of, get_or-bits_of}
use Rattle.slab_bits.specs.Words.{OnesBelow}

-- the greatest word has all ones
pub all_ones : (count : ℕ) → 64 ≤ count → OnesBelow count 18446744073709551615
all_ones count many i low = bit_at_ones 64 i low ∙ sym (grind (arith, nat_tests))

-- and a power of two less one has as many as its exponent
pub some_ones : (count : ℕ) → count < 64 → OnesBelow count (1 * 2 ^ count % 18446744073709551616 - 1)
some_ones count few i low =
    let power : 1 * 2 ^ count % 18446744073709551616 ≡ 2 ^ count = one_shl count 64 few in
    ap (λ n. bit_at (n - 1) i) power ∙ elim (cases_lt i count) [
      | inl lt ↦ bit_at_ones count i lt ∙ sym (grind (arith, nat_tests))
      | inr ge ↦ bit_at_ones_above count i ge ∙ sym (grind (arith, nat_tests))
    ]

-- the bits of a word that lie from one place up to another
pub between_bit : (from to at a b k : ℕ) → k < 64 → b < 18446744073709551616 → OnesBelow (to - at) a → OnesBelow (from - at) b
    → eqb (bit_at (bit_and a (18446744073709551615 - b)) k) 1 ≡ (leb from (at + k) && ltb (at + k) to)
between_bit from to at a b k low fits high_ones low_ones =
    let one = high_ones k low in let other = low_ones k low in let both = bit_at_and a (18446744073709551615 - b) k in let none_of = bit_at_not w64 b k fits low in grind (arith, nat_tests)

-- the bits of one more word lie right
pub filled : (ws : List ℕ) (i v from to : ℕ) → i < length ws → ((m : ℕ) → m < 64 * i → get_or (bits_of ws) m false ≡ (leb from m && ltb m to))
    → ((k : ℕ) → k < 64 → eqb (bit_at v k) 1 ≡ (leb from (64 * i + k) && ltb (64 * i + k) to)) → (m : ℕ) → m < 64 * (i + 1) → get_or (bits_of (set ws i v)) m false ≡ (leb from m && ltb m to)
filled ws i v from to inside before here m lt = get_or-bits_of (set ws i v) m ∙ dite (ℕ_discrete (m / 64) i)
    (λ is. let there : get_or (set ws i v) (m / 64) 0 ≡ v = ap (λ j. get_or (set ws i v) j 0) is ∙ get_or-set_same ws i v 0 inside in let place : 64 * i + m % 64 ≡ m = omega arith in
    ap (λ x. eqb (bit_at x (m % 64)) 1) there ∙ (here (m % 64) (omega arith) ∙ ap (λ n. leb from n && ltb n to) place))
    (λ other. ap (λ x. eqb (bit_at x (m % 64)) 1) (get_or-set_other ws i (m / 64) v 0 other) ∙ (sym (get_or-bits_of ws m) ∙ before m (omega arith)))

-- no bit stands behind the last word
pub behind_all : (ws : List ℕ) (m : ℕ) → 64 * length ws ≤ m → get_or (bits_of ws) m false ≡ false
behind_all ws m far = get_or_past (bits_of ws) m false (omega (arith, length-bits_of ws))
