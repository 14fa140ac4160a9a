-- Hexadecimal digits that are laid into a buffer from the last one on.
use Rattle.std.proofs.Common.{◌≡◌, ℕ, zero, suc, ◌+◌, ◌-◌, ◌/◌, ◌%◌, ◌^◌, ◌≤◌, ◌<◌, Bool, true, false, List, [], ◌∷◌, ◌++◌, length, drop, set, if◌then◌else◌, ◌==◌, refl, sym, ap, ◌∙◌, arith}
use Rattle.std.proofs.Math.Nat.{pow-suc}
use Rattle.std.proofs.lemmas.List.{drop-set}
use Rattle.std.specs.Fmt.{digit_glyph, digits, digits_onto}
use Rattle.std.proofs.DigitsParse.{digits_onto-nil, digits_onto_last, digits_onto_step}

-- a number of two digits or more needs two places, and without its last digit one place less
pub one_less : (k n : ℕ) → 16 ≤ n → n < 16 ^ suc k → (1 ≤ k) × (n / 16 < 16 ^ suc (k - 1))
one_less zero n more short = absurd (omega arith)
one_less (suc k) n more short = let same : suc k - 1 ≡ k = omega arith in (omega arith, rw same (omega (arith, pow-suc 16 (suc k))))

-- the last digit of a number that has more
pub next_digit : (fuel first rest d : ℕ) (buffer : List ℕ) → 16 ≤ rest → 1 ≤ fuel → 1 ≤ first → first < length buffer → d ≡ digit_glyph false (rest % 16)
    → digits_onto (fuel - 1) 16 false (rest / 16) (drop (first - 1 + 1) (set buffer first d)) ≡ digits_onto fuel 16 false rest (drop (first + 1) buffer)
next_digit fuel first rest d buffer more fueled some within is =
    let place : first - 1 + 1 ≡ first = omega arith in
    rw (place, drop-set buffer first d within, is) (sym (digits_onto_step 16 false rest (drop (first + 1) buffer) fuel (omega arith) (λ none. omega arith)))

-- the first digit
pub first_digit : (fuel first rest d : ℕ) (buffer : List ℕ) → rest < 16 → 1 ≤ fuel → first < length buffer → d ≡ digit_glyph false rest
    → drop first (set buffer first d) ≡ digits_onto fuel 16 false rest (drop (first + 1) buffer)
first_digit fuel first rest d buffer small fueled within is =
    let same : rest % 16 ≡ rest = omega arith in
    rw (drop-set buffer first d within, is) (sym (rw same at (digits_onto_last 16 false rest (drop (first + 1) buffer) fuel (omega arith) (omega arith))))

-- digits before other bytes are the digits alone, and then these
onto : (k n : ℕ) (xs ys : List ℕ) → digits_onto k 16 false n (xs ++ ys) ≡ digits_onto k 16 false n xs ++ ys
onto zero n xs ys = refl
onto (suc k) n xs ys = either (n / 16 == 0) _ _ (onto k (n / 16) (digit_glyph false (n % 16) ∷ xs) ys)
  where
    either : (b : Bool) (fs gs : List ℕ) → fs ≡ gs ++ ys
        → (if b then digit_glyph false (n % 16) ∷ (xs ++ ys) else fs) ≡ (if b then digit_glyph false (n % 16) ∷ xs else gs) ++ ys
    either true fs gs e = refl
    either false fs gs e = e

pub digits_before : (n : ℕ) (ys : List ℕ) → digits_onto 64 16 false n ys ≡ digits 16 false n ++ ys
digits_before n ys = onto 64 n [] ys ∙ ap (λ xs. xs ++ ys) (digits_onto-nil 16 false n)
