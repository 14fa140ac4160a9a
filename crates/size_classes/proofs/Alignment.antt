-- The test of an alignment, and the class at one.
use Rattle.std.proofs.Common.{◌≡◌, ℕ, ◌+◌, ◌*◌, ◌/◌, ◌%◌, ◌^◌, ◌<◌, ◌≤◌, ◌⊎◌, inl, inr, max, true, nat_eq, leb, ltb, ◌&&◌, ◌||◌, Bool, ℕ, zero, suc, refl, cond, IsTrue, ◌∙◌, arith, add-one}
use Rattle.std.proofs.Math.Nat.{pow-le-pow_right, pow-suc, mul-le-mul_right}
use Rattle.std.proofs.lemmas.Nat.{one_shl, pow_below, pow_pos, le-div, shr_split}
use Rattle.std.proofs.lemmas.Bool.{or_cases, cases_lt, eqb-true, eq-eqb}
use Rattle.std.proofs.lemmas.Bool.Decides.{nat_tests}
use Rattle.std.specs.Int.{next_multiple_of}
use Rattle.size_classes.specs.Classes.{class_sizes, largest_align, size_at, align_at, class_for, IsAlignment, aligned_for}
use Rattle.size_classes.proofs.Least.{class_for-mono, class_for-least, class_for-fits}
use Rattle.size_classes.proofs.Table.{passes_below, at}

-- two powers of two that lie in one doubling are one
same_power : (k l : ℕ) → 2 ^ l ≤ 2 ^ k → 2 ^ k < 2 * 2 ^ l → k ≡ l
same_power k l low high =
    elim (cases_lt k l) [
      | inl less ↦ let below = pow_below k l less in absurd (omega arith)
      | inr more ↦ elim (cases_lt l k) [
        | inl greater ↦
            let twice : 2 ^ (l + 1) ≡ 2 ^ l * 2 = rw add-one (pow-suc 2 l) in
            let above : 2 ^ (l + 1) ≤ 2 ^ k = pow-le-pow_right (omega arith) {i = l + 1} {j = k} (omega arith) in
            absurd (omega arith)
        | inr done ↦ omega arith
      ]
    ]

-- an alignment is the power of two in its doubling
pub alignment_test : (align l : ℕ) → align ≤ 2 ^ 30 → 2 ^ l ≤ align → align < 2 * 2 ^ l → l < 64 →
    (IsTrue (nat_eq align (1 * 2 ^ l % 2 ^ 64)) → IsAlignment align)
    × (IsAlignment align → IsTrue (nat_eq align (1 * 2 ^ l % 2 ^ 64)))
alignment_test align l fits low high within =
    let shifted : 1 * 2 ^ l % 2 ^ 64 ≡ 2 ^ l = one_shl l 64 within in (
      (λ same. ((l, eqb-true _ _ same ∙ shifted), fits)),
      (λ is.
          let k : ℕ = is.0.0 in
          let power : align ≡ 2 ^ k = is.0.1 in
          let one : k ≡ l = same_power k l (rw (← power) low) (rw (← power) high) in
          eq-eqb _ _ (power ∙ rw (one, shifted))),
    )

-- of two classes, that of the rounded size where it is small and the alignment within a page, else the other
chosen_large : (align r c : ℕ) → (4096 < align) ⊎ (36 ≤ c) → c ≤ r →
    max c 36 ≡ cond (leb align 4096 && ltb r 36) r (max 36 c)
chosen_large align r c either le = grind (arith, nat_tests)

-- an alignment above a page, or a size with a large class
pub aligned_large : (n align : ℕ) → (4096 < align) ⊎ (36 ≤ class_for n) → max (class_for n) 36 ≡ aligned_for n align
aligned_large n align either =
    chosen_large align (class_for (next_multiple_of (max n 1) align)) (class_for n) either
    (class_for-mono n (next_multiple_of (max n 1) align) (omega arith))

-- the size before a class's, or 0
abbrev size_before : ℕ → ℕ
size_before zero = 0
size_before (suc c) = size_at c

-- the power of two divides the class's alignment, or none of its multiples has the class
abbrev divides : ℕ → ℕ → Bool
divides c k = nat_eq (align_at c % 2 ^ k) 0 || nat_eq (size_before c / 2 ^ k) (size_at c / 2 ^ k)

divides_below : passes_below (λ c. passes_below (divides c) 13) 36 ≡ true
unfolding class_sizes largest_align
divides_below = refl

-- the size before the class for n is below n
before_class : (n c : ℕ) → 1 ≤ n → class_for n ≡ c → size_before c < n
before_class n zero some is = some
before_class n (suc c) some is = omega (arith, class_for-least n c (omega arith))

-- a small class that serves a multiple of a power of two, at most a page, has addresses that are multiples of it
pub small_aligned : (n k c : ℕ) → k ≤ 12 → 1 ≤ n → n % 2 ^ k ≡ 0 → class_for n ≡ c → c < 36 → align_at c % 2 ^ k ≡ 0
small_aligned n k c page some multiple is small =
    elim (or_cases _ _ (at (divides c) 13 k (at (λ c. passes_below (divides c) 13) 36 c divides_below small) (omega arith))) [
      | inl divided ↦ eqb-true _ _ divided
      | inr none ↦
          let same : size_before c / 2 ^ k ≡ size_at c / 2 ^ k = eqb-true _ _ none in
          let m : ℕ = n / 2 ^ k in
          let whole : m * 2 ^ k ≡ n = omega (arith, shr_split n k) in
          let fits : n ≤ size_at c = omega (arith, rw is at (class_for-fits n (omega arith))) in
          let above = le-div m (size_at c) (2 ^ k) (pow_pos k) (rw whole fits) in
          let split = shr_split (size_before c) k in
          let product = mul-le-mul_right (2 ^ k) (rw (← same) at above) in
          absurd (omega (arith, before_class n c some is))
    ]

-- the same of an alignment that may be asked
pub aligned_divides : (n align c : ℕ) → IsAlignment align → align ≤ 4096 → 1 ≤ n → n % align ≡ 0 → class_for n ≡ c →
    c < 36 → align_at c % align ≡ 0
aligned_divides n align c is page some multiple class small =
    let k : ℕ = is.0.0 in
    let power : align ≡ 2 ^ k = is.0.1 in
    let within : k ≤ 12 =
    elim (cases_lt 12 k) [
      | inl above ↦ let more = pow_below 12 k above in absurd (omega arith)
      | inr done ↦ done
    ] in
    rw power (small_aligned n k c within some (rw power at multiple) class small)
