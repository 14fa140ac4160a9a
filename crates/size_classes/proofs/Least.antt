-- The class for a size is the least, told by the sizes beside it; and sizes rise with the class.
use Rattle.std.proofs.Common.{◌≡◌, ℕ, ◌-◌, ◌^◌, ◌<◌, ◌≤◌, max, not, leb, arith, inl, inr, suc, zero, add-one}
use Rattle.std.proofs.lemmas.Bool.{le-leb, lt-leb, leb-true, leb-false, cases_lt}
use Rattle.std.proofs.lemmas.List.Sums.{position_or_len_is, fails_before_first, passes_at_first, prefix_len-le-length}
use Rattle.size_classes.specs.Classes.{class_sizes, size_at, class_for}
use Rattle.size_classes.proofs.Table.{length-class_sizes, size_next, last_small_size, last_size}

-- sizes rise with the class
pub size_rises : (c d : ℕ) → c < d → d < 121 → size_at c < size_at d
size_rises c zero below within = absurd (omega arith)
size_rises c (suc d) below within =
    let next : size_at d < size_at (suc d) = rw add-one at (size_next d (omega arith)) in
    elim (cases_lt c d) [
      | inl less ↦ omega (arith, size_rises c d less (omega arith))
      | inr more ↦ let e : c ≡ d = omega arith in rw e next
    ]

-- a class whose size isn't below n, where the one before it is, is the class for n
pub class_for-is : (n c : ℕ) → c < 121 → max n 1 ≤ size_at c → (0 < c → size_at (c - 1) < n) → class_for n ≡ c
class_for-is n c within fits less =
    position_or_len_is (λ size. leb (max n 1) size) class_sizes c 0
    (omega (arith, length-class_sizes))
    (λ k below. lt-leb (max n 1) (size_at k)
    (elim (cases_lt k (c - 1)) [
      | inl before ↦ omega (arith, less (omega arith), size_rises k (c - 1) before (omega arith))
      | inr last ↦ let e : k ≡ c - 1 = omega arith in rw e (omega (arith, less (omega arith)))
    ]))
    (λ _. le-leb (max n 1) (size_at c) fits)

-- the class for n holds n
pub class_for-fits : (n : ℕ) → class_for n < 121 → max n 1 ≤ size_at (class_for n)
class_for-fits n within =
    leb-true _ _ (passes_at_first (λ size. leb (max n 1) size) class_sizes 0 (omega (arith, length-class_sizes)))

-- no class before it does
pub class_for-least : (n k : ℕ) → k < class_for n → size_at k < max n 1
class_for-least n k below = leb-false _ _ (fails_before_first (λ size. leb (max n 1) size) class_sizes k 0 below)

-- a size of at most 2 ^ 35 has a class
pub class_for_exists : (n : ℕ) → n ≤ 2 ^ 35 → class_for n < 121
class_for_exists n fits =
    elim (cases_lt (class_for n) 121) [
      | inl within ↦ within
      | inr beyond ↦ absurd (omega (arith, last_size, class_for-least n 120 (omega arith)))
    ]

-- the class for a size that some class serves, and 121 for one that none does
pub class_for_le : (n : ℕ) → class_for n ≤ 121
class_for_le n = omega (arith, length-class_sizes, prefix_len-le-length (λ size. not (leb (max n 1) size)) class_sizes)

-- a larger size has no smaller class
pub class_for-mono : (n m : ℕ) → n ≤ m → class_for n ≤ class_for m
class_for-mono n m le =
    elim (cases_lt (class_for m) (class_for n)) [
      | inl less ↦
          let found : class_for m < 121 = omega (arith, class_for_le n) in
          absurd (omega (arith, class_for-least n (class_for m) less, class_for-fits m found))
      | inr done ↦ done
    ]

-- a size with a small class is at most 14336
pub small_size : (n : ℕ) → class_for n < 36 → n ≤ 14336
small_size n small =
    let fits = class_for-fits n (omega arith) in
    elim (cases_lt (class_for n) 35) [
      | inl less ↦ omega (arith, last_small_size, size_rises (class_for n) 35 less (omega arith))
      | inr last ↦ let e : class_for n ≡ 35 = omega arith in omega (arith, last_small_size, rw e at fits)
    ]
