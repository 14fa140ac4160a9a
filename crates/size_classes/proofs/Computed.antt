-- What the code computes of a class, against the table.
use Rattle.std.proofs.Common.{◌≡◌, ℕ, ◌+◌, ◌-◌, ◌*◌, ◌/◌, ◌%◌, ◌^◌, ◌<◌, ◌≤◌, inl, inr, sym, ◌∙◌, arith}
use Rattle.std.proofs.Math.Nat.{mod-eq_of_lt, pow-le-pow_right, lt-div-mul-add, div-mul-le_self}
use Rattle.std.proofs.lemmas.Nat.{pow_pos, pow-add, div-mul-add, mod-mul-add}
use Rattle.std.proofs.lemmas.Bool.{cases_lt}
use Rattle.std.specs.Int.{div_ceil}
use Rattle.size_classes.specs.Classes.{size_at, class_for}
use Rattle.size_classes.proofs.Table.{first_size, size_by_16, size_by_quarter, size_bounds}
use Rattle.size_classes.proofs.Least.{class_for-is}

-- classes 1 to 8
pub size_up_to_128 : (class : ℕ) → 1 ≤ class → class ≤ 8 → 16 * class ≡ size_at class
size_up_to_128 class low high =
    let e : class - 1 + 1 ≡ class = omega arith in
    sym (rw e at (size_by_16 (class - 1) (omega arith)))

-- the classes above, four to a doubling
pub size_above_128 : (class : ℕ) → 9 ≤ class → class < 121 →
    ((class - 9) % 4 + 5) * 2 ^ ((class - 9) / 4 + 5) % 2 ^ 64 ≡ size_at class
size_above_128 class low within =
    let e : class - 9 + 9 ≡ class = omega arith in
    let quarter = rw e at ((size_by_quarter (class - 9) (omega arith)).0) in
    rw (← quarter) (mod-eq_of_lt (omega (arith, size_bounds class within)))

-- the class for a size of at most 8
pub class_of_least : (n : ℕ) → n ≤ 8 → 0 ≡ class_for n
class_of_least n low = sym (class_for-is n 0 (omega arith) (rw first_size (omega arith)) (λ pos. absurd (omega arith)))

-- the class for a size above that and of at most 128
pub class_up_to_128 : (n : ℕ) → 8 < n → n ≤ 128 → div_ceil n 16 ≡ class_for n
class_up_to_128 n low high =
    let c : ℕ = div_ceil n 16 in
    let bounds : (1 ≤ c) × (c ≤ 8) = (omega arith, omega arith) in
    sym (class_for-is n c (omega arith) (rw (← size_up_to_128 c bounds.0 bounds.1) (omega arith))
    (λ pos. elim (cases_lt c 2) [
      | inl one ↦ let e : c - 1 ≡ 0 = omega arith in rw (e, first_size) low
      | inr more ↦ rw (← size_up_to_128 (c - 1) (omega arith) (omega arith)) (omega arith)
    ]))

-- a number from 2 ^ d up to twice that, at the bounds of the table
doubling_bounds : (last d : ℕ) → 128 ≤ last → last < 2 ^ 35 → 2 ^ d ≤ last → last < 2 * 2 ^ d → (7 ≤ d) × (d ≤ 34)
doubling_bounds last d low high above below = (
  elim (cases_lt d 7) [
    | inl small ↦
        let power : 2 ^ d ≤ 2 ^ 6 = pow-le-pow_right (omega arith) {i = d} {j = 6} (omega arith) in
        absurd (omega arith)
    | inr done ↦ done
  ],
  elim (cases_lt 34 d) [
    | inl large ↦
        let power : 2 ^ 35 ≤ 2 ^ d = pow-le-pow_right (omega arith) {i = 35} {j = d} (omega arith) in
        absurd (omega arith)
    | inr done ↦ done
  ],
)

-- its quarter of the doubling: q parts of 2 ^ (d - 2) are within it, and one more part isn't
pub record IsQuarter (last d q : ℕ) : Type 0 where
  pub doubling : (7 ≤ d) × (d ≤ 34)
  pub quarter : (4 ≤ q) × (q ≤ 7)
  pub within : q * 2 ^ (d - 2) ≤ last
  pub beyond : last < q * 2 ^ (d - 2) + 2 ^ (d - 2)

pub quarter_of : (last d : ℕ) → 128 ≤ last → last < 2 ^ 35 → 2 ^ d ≤ last → last < 2 * 2 ^ d →
    IsQuarter last d (last / 2 ^ (d - 2))
quarter_of last d low high above below =
    let doubling = doubling_bounds last d low high above below in
    let e : d - 2 + 2 ≡ d = omega arith in
    let four : 2 ^ d ≡ 2 ^ (d - 2) * 4 = rw e at (pow-add 2 (d - 2) 2) in
    let positive = pow_pos (d - 2) in
    let inside = div-mul-le_self last (2 ^ (d - 2)) in
    let next = lt-div-mul-add {a = last} positive in
    let q : ℕ = last / 2 ^ (d - 2) in
    record {
      doubling = doubling;
      quarter = (grind arith, grind arith);
      within = inside;
      beyond = next;
    }

-- the class for a size above 128, from its quarter
pub class_above_128 : (n d q : ℕ) → 128 < n → IsQuarter (n - 1) d q →
    (23 ≤ 4 * d + q) × (4 * d + q - 23 < 121) × (4 * d + q - 23 ≡ class_for n)
class_above_128 n d q low is =
    let k : ℕ = (d - 7) * 4 + (q - 4) in
    let d_low = is.doubling.0 in
    let d_high = is.doubling.1 in
    let q_low = is.quarter.0 in
    let q_high = is.quarter.1 in
    let by_quarter = size_by_quarter k (omega arith) in
    let remainder : k % 4 ≡ q - 4 = mod-mul-add (d - 7) 4 (q - 4) (omega arith) in
    let quotient : k / 4 ≡ d - 7 = div-mul-add (d - 7) 4 (q - 4) (omega arith) in
    let doubling : d - 7 + 5 ≡ d - 2 = omega arith in
    let this : q - 4 + 5 ≡ q + 1 = omega arith in
    let last : q - 4 + 4 ≡ q = omega arith in
    let class : k + 9 ≡ 4 * d + q - 23 = omega arith in
    let before : k + 8 ≡ 4 * d + q - 23 - 1 = omega arith in
    let top : size_at (4 * d + q - 23) ≡ (q + 1) * 2 ^ (d - 2) =
    rw (← class) (by_quarter.0 ∙ rw (remainder, quotient, doubling, this)) in
    let bottom : size_at (4 * d + q - 23 - 1) ≡ q * 2 ^ (d - 2) =
    rw (← before) (by_quarter.1 ∙ rw (remainder, quotient, doubling, last)) in (
      omega arith,
      omega arith,
      sym (class_for-is n (4 * d + q - 23) (omega arith) (grind (arith, top, is.beyond)) (λ _. rw bottom (omega (arith, is.within)))),
    )
