-- Lemmas on lanes: the comparison by the top bit.
use Rattle.std.proofs.Common.{◌≡◌, ℕ, zero, suc, ◌+◌, ◌-◌, ◌%◌, ◌^◌, ◌<◌, ◌≤◌, Bool, false, ◌&&◌, leb, ltb, List, [], ◌∷◌, length, get_or, map, max, replicate, refl, ap, arith, Fits, w64, bit_and, bit_or}
use Rattle.std.proofs.lemmas.Bool.Decides.{nat_tests}
use Rattle.std.proofs.lemmas.List.{length-map, get_or-map}
use Rattle.std.proofs.lemmas.Nat.{le_or_l, le_or_r}
use Rattle.std.proofs.lemmas.Nat.Bits.{bit_at_and}
use Rattle.std.proofs.lemmas.Simd.{Each1-get_or, get_or-zip2}
use lib.Bits.{and_le_r}
use lib.Lanes.{zip2, Each1, fold_l}
use Rattle.lane_scan.specs.Ranges.{is_inside, meets}

-- what a lane is further than another, as words wrap
abbrev difference : ℕ → ℕ → ℕ
difference x y = (x + (2 ^ 64 - y)) % 2 ^ 64

-- the word with the other bits
abbrev complement : ℕ → ℕ
complement x = 2 ^ 64 - 1 - x

-- both words have the top bit exactly where their conjunction has it
top-bit_and : (a b : ℕ) → a < 2 ^ 64 → b < 2 ^ 64 → leb (2 ^ 63) (bit_and a b) ≡ (leb (2 ^ 63) a && leb (2 ^ 63) b)
top-bit_and a b ha hb = grind (arith, nat_tests, bit_at_and a b 63, and_le_r a b)

-- where the top bit of the difference and of the complement are set, a lane is below the bound
top_below : (x b : ℕ) → x < 2 ^ 64 → b ≤ 2 ^ 63 → leb (2 ^ 63) (bit_and (difference x b) (complement x)) ≡ ltb x b
top_below x b hx hb = grind (arith, nat_tests, top-bit_and (difference x b) (complement x))

-- the top bits that the comparison computes
pub tops_below : (b n : ℕ) (xs : List ℕ) → b ≤ 2 ^ 63 → length xs ≡ n → Each1 (Fits w64) xs
    → map (leb (2 ^ 63)) (zip2 bit_and (zip2 difference xs (replicate n b)) (map complement xs)) ≡ map (λ x. ltb x b) xs
tops_below b n [] hb long fits = refl
tops_below b zero (x ∷ xs) hb long fits = absurd (omega arith)
tops_below b (suc n) (x ∷ xs) hb long fits = cc (top_below x b fits.0.fits hb, tops_below b n xs hb (omega arith) fits.1)

-- a conjunction with complements has words for lanes
pub Each1-and_complements : (xs ys : List ℕ) → Each1 (λ lane. lane < 2 ^ 64) (zip2 bit_and xs (map complement ys))
Each1-and_complements [] ys = tt
Each1-and_complements (x ∷ xs) [] = tt
Each1-and_complements (x ∷ xs) (y ∷ ys) = (omega (arith, and_le_r x (complement y)), Each1-and_complements xs ys)

-- a disjunction is at least what it begins with, and at least each of its lanes
le-fold_or : (a : ℕ) (xs : List ℕ) (i : ℕ) → max a (get_or xs i 0) ≤ fold_l bit_or a xs
le-fold_or a [] i = omega arith
le-fold_or a (x ∷ xs) zero = omega (arith, le_or_l a x, le_or_r a x, le-fold_or (bit_or a x) xs zero)
le-fold_or a (x ∷ xs) (suc i) = omega (arith, le_or_l a x, le-fold_or (bit_or a x) xs i)

-- how far a value lies above the first one inside tells whether it is inside
offset_inside : (x lo hi width : ℕ) → x < 2 ^ 64 → lo < 2 ^ 64 → hi < 2 ^ 64 → width ≡ hi - lo
    → ltb (difference x lo) width ≡ (leb lo x && ltb x hi)
offset_inside x lo hi width hx hlo hhi wide = grind (arith, nat_tests)

-- the values whose offset is below the width of the range are those inside
pub offsets_below : (lo hi width n : ℕ) (xs : List ℕ) → Each1 (Fits w64) xs → lo < 2 ^ 64 → hi < 2 ^ 64 → width ≡ hi - lo → length xs ≡ n
    → map (λ x. ltb x width) (zip2 difference xs (replicate n lo)) ≡ map (is_inside lo hi) xs
offsets_below lo hi width n [] fits hlo hhi wide long = refl
offsets_below lo hi width zero (x ∷ xs) fits hlo hhi wide long = absurd (omega arith)
offsets_below lo hi width (suc n) (x ∷ xs) fits hlo hhi wide long =
    cc (offset_inside x lo hi width fits.0.fits hlo hhi wide, offsets_below lo hi width n xs fits.1 hlo hhi wide (omega arith))

-- a lane's top bit, where the top bits of all lanes are the answers of a test
lane_top : (f : ℕ → Bool) (fs xs : List ℕ) (i : ℕ) → map (leb (2 ^ 63)) xs ≡ map f fs → i < length fs
    → (i < length xs) × (leb (2 ^ 63) (get_or xs i 0) ≡ f (get_or fs i 0))
lane_top f fs xs i tops lt =
    let long : length xs ≡ length fs = omega (arith, length-map xs (leb (2 ^ 63)), length-map fs f, ap length tops) in
    (omega arith, grind (arith, get_or-map (leb (2 ^ 63)) xs i 0 false, get_or-map f fs i 0 false))

-- where no lane of the conjunction has its top bit, no pair meets
pub none_meets : (fs es : List ℕ) (lo hi : ℕ) (xs ys : List ℕ) → length fs ≡ length es → Each1 (λ lane. lane < 2 ^ 64) xs
    → map (leb (2 ^ 63)) xs ≡ map (λ x. ltb x hi) fs → map (leb (2 ^ 63)) ys ≡ map (λ y. ltb y (lo + 1)) es
    → leb (2 ^ 63) (fold_l bit_or 0 (zip2 bit_and xs (map complement ys))) ≡ false
    → (i : ℕ) → i < length fs → meets lo hi (get_or fs i 0, get_or es i 0) ≡ false
none_meets fs es lo hi xs ys paired words begins ended none i lt =
    let begin = lane_top (λ x. ltb x hi) fs xs i begins lt in
    let end = lane_top (λ y. ltb y (lo + 1)) es ys i ended (omega arith) in
    let other = get_or-map complement ys i 0 0 end.0 in
    let lane = get_or-zip2 bit_and xs (map complement ys) i 0 0 0 begin.0 (omega (arith, length-map ys complement)) in
    let below = le-fold_or 0 (zip2 bit_and xs (map complement ys)) i in
    let top = top-bit_and (get_or xs i 0) (complement (get_or ys i 0)) (Each1-get_or (λ x. x < 2 ^ 64) xs i 0 begin.0 words) (omega arith) in
    grind (arith, nat_tests)
