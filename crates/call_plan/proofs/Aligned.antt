-- The alignments that may be asked for, and the classes at them.
use Rattle.call_plan.proofs.Words.{◌≡◌, ℕ, ◌+◌, ◌^◌, ◌<◌, ◌≤◌, ◌==◌, inl, inr, max, true, false, get_or, sym, zero-add, refl, ◌∙◌, ap, arith, pow-le-pow_right, range_with_len, is_power_of_two, nat_tests, cases_lt, eqb-true, eq-eqb, Any-from_list_any, list_any_at, get_or-range_with_len, length-range_with_len, ones, class_for_exists, passes_below, at, IsAlignment, aligned_for, is_alignment, page_align}

-- an alignment passes the test
pub alignment_passes : (align : ℕ) → IsAlignment align → is_alignment align ≡ true
unfolding is_alignment
alignment_passes align ((k, power), most) =
    elim (cases_lt k 31) [
      | inl few ↦
          let here : get_or (range_with_len 0 31) k 0 ≡ k = get_or-range_with_len 0 31 k 0 few ∙ zero-add k in
          let at : (align == 2 ^ get_or (range_with_len 0 31) k 0) ≡ true = ap (λ n. align == 2 ^ n) here ∙ eq-eqb _ _ power in
          list_any_at (λ n. align == 2 ^ n) (range_with_len 0 31) k 0 (omega (arith, few, length-range_with_len 0 31)) at
      | inr many ↦ let above : 2 ^ 31 ≤ 2 ^ k = pow-le-pow_right (omega arith) {i = 31} {j = k} (omega (arith, many)) in absurd (omega (arith, above, power, most))
    ]

-- what passes the test is one of the powers
pub power_of : (align : ℕ) → is_alignment align ≡ true → (k : ℕ) × (k < 31) × (align ≡ 2 ^ k)
unfolding is_alignment
power_of align passes =
    let (i, k, inside, is, same) = Any-from_list_any (λ k. align == 2 ^ k) (range_with_len 0 31) passes in
    let few : i < 31 = omega (arith, inside, length-range_with_len 0 31) in
    let here : k ≡ 0 + i = sym is ∙ get_or-range_with_len 0 31 i k few in
    (k, omega (arith, here, few), eqb-true _ _ same)

page_powers : passes_below (λ k. is_power_of_two (page_align (2 ^ k))) 31 ≡ true
unfolding ones
page_powers = refl

-- so what passes it is one, and what fails it isn't
pub passing_is : (align : ℕ) → is_alignment align ≡ true → IsAlignment align
passing_is align passes =
    let power = power_of align passes in
    let within : 2 ^ power.0 ≤ 2 ^ 30 = pow-le-pow_right (omega arith) {i = power.0} {j = 30} (omega (arith, power.1)) in
    ((power.0, power.2), omega (arith, power.2, within))

pub failing_is_none : (align : ℕ) → ¬ IsAlignment align → is_alignment align ≡ false
failing_is_none align none = grind (arith, passing_is)

pub failing_is_not : (align : ℕ) → is_alignment align ≡ false → ¬ IsAlignment align
failing_is_not align fails good = let passes = alignment_passes align good in absurd (cc)

-- the alignment in pages is a power of two
pub page_power : (align : ℕ) → is_alignment align ≡ true → is_power_of_two (page_align align) ≡ true
page_power align passes =
    let power = power_of align passes in
    ap (λ n. is_power_of_two (page_align n)) power.2 ∙ at (λ k. is_power_of_two (page_align (2 ^ k))) 31 power.0 page_powers power.1

-- 1 and 512 are powers of two
pub powers : (is_power_of_two 1 ≡ true) × (is_power_of_two 512 ≡ true)
unfolding ones
powers = (refl, refl)

-- the larger of 512 and another one is one
pub power_max : (align : ℕ) → is_power_of_two align ≡ true → is_power_of_two (max 512 align) ≡ true
power_max align h = grind (arith, powers.1)

-- the class for an aligned size is one of those that there are
pub aligned_below : (size align : ℕ) → size ≤ 2 ^ 35 → aligned_for size align < 121
aligned_below size align most = grind (arith, nat_tests, class_for_exists)

-- what tells where an aligned malloc begins
pub ruleset alignments = (alignment_passes, failing_is_none, nat_tests)

-- a chunk's pages are a power of two
pub chunk_power : is_power_of_two 512 ≡ true
unfolding ones
chunk_power = refl
