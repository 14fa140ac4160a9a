-- Lemmas on ranges, over lists.
use Rattle.std.proofs.Common.{◌≡◌, ℕ, zero, suc, ◌+◌, ◌-◌, ◌*◌, ◌/◌, ◌%◌, ◌^◌, ◌<◌, ◌≤◌, Bool, false, List, [], ◌∷◌, ◌++◌, length, get_or, map, take, take-add, drop, replicate, refl, sym, ap, ◌∙◌, arith, bit_or}
use Rattle.std.specs.List.{list_any, zip}
use Rattle.std.proofs.lemmas.Bool.Decides.{nat_tests}
use Rattle.std.proofs.lemmas.List.{length-map, map-append, drop_more, length-take-le, get_or_append_left, get_or_past, take-map, drop-map, get_or-append_right, get_or-replicate, ext_get_or, length-append, length-replicate}
use Rattle.std.proofs.lemmas.Simd.{mask_l-lt, mask_l-mod, get_or-chunk}
use native.Mathlib.Nat.{pow-suc}
use lib.Bits.{or_shifted_r}
use mir.Val.{bool_byte}
use lib.Lanes.{mask_l}
use Rattle.lane_scan.specs.Bits.{bits_of}
use Rattle.lane_scan.proofs.BitLemmas.{bit_of_mask, length-bits_of, get_or-bits_of}

-- the mask of two lists, one after the other
mask_l-append : (ms ns : List Bool) → mask_l (ms ++ ns) ≡ mask_l ns * 2 ^ length ms + mask_l ms
mask_l-append [] ns = omega arith
mask_l-append (m ∷ ms) ns = rw pow-suc (omega (arith, mask_l-append ms ns))

-- the mask of the values up to the end of one more block
pub mask_more : (f : ℕ → Bool) (xs : List ℕ) (at n word block : ℕ) → at + n ≤ length xs → at + n ≤ 64
    → word ≡ mask_l (map f (take at xs)) → block ≡ mask_l (map f (take n (drop at xs)))
    → bit_or word (block * 2 ^ at % 2 ^ 64) ≡ mask_l (map f (take (at + n) xs))
mask_more f xs at n word block room small before here =
    let front = map f (take at xs) in
    let long : length front ≡ at = length-map (take at xs) f ∙ length-take-le at xs (omega arith) in
    let whole : mask_l (map f (take (at + n) xs)) ≡ block * 2 ^ at + word = simp (take-add, map-append, mask_l-append, long, before, here) in
    let below = mask_l-mod (map f (take (at + n) xs)) 64 (omega (arith, length-map (take (at + n) xs) f, length-take-le (at + n) xs room)) in
    let short = rw long at (mask_l-lt front) in
    ap (bit_or word) (omega arith) ∙ or_shifted_r block at word (omega arith) ∙ sym whole

-- where the first pairs don't meet, the search may begin after them
pub list_any-zip-drop : (p : ℕ × ℕ → Bool) (fs es : List ℕ) (at : ℕ) → ((k : ℕ) → k < at → p (get_or fs k 0, get_or es k 0) ≡ false)
    → at ≤ length fs → length fs ≡ length es
    → list_any p (zip (drop at fs) (drop at es)) ≡ list_any p (zip fs es)
list_any-zip-drop p fs es zero none le paired = refl
list_any-zip-drop p (f ∷ fs) (e ∷ es) (suc at) none le paired =
    rw (none zero (omega arith)) (list_any-zip-drop p fs es at (λ k lt. none (suc k) (omega arith)) (omega arith) (omega arith))
list_any-zip-drop p fs es (suc at) none le paired = absurd (omega arith)

-- the mask of one value
pub mask_one : (f : ℕ → Bool) (xs : List ℕ) (at : ℕ) → at < length xs → bool_byte (f (get_or xs at 0)) ≡ mask_l (map f (take 1 (drop at xs)))
mask_one f xs at lt = rw (drop_more xs at 0 lt) (grind (arith, nat_tests))

-- the answers for the values of one word
map_word : (f : ℕ → Bool) (xs : List ℕ) (j k : ℕ) → k < 64 → get_or (map f (take 64 (drop (64 * j) xs))) k false ≡ get_or (map f xs) (64 * j + k) false
map_word f xs j k lt = simp (← take-map, ← drop-map) (get_or-chunk (64 * j) 64 (map f xs) k false lt)

-- falses at the end change no place
get_or-padded : (xs : List Bool) (n i : ℕ) → get_or (xs ++ replicate n false) i false ≡ get_or xs i false
get_or-padded xs n i = grind (arith, get_or_append_left, get_or-append_right, get_or_past, get_or-replicate, length-replicate)

-- words that mask the values, 64 at a time, have the answers for bits and then no others
pub bits_of_marked : (f : ℕ → Bool) (xs out : List ℕ) → length xs ≤ 64 * length out
    → ((j : ℕ) → j < length out → get_or out j 0 ≡ mask_l (map f (take 64 (drop (64 * j) xs))))
    → bits_of out ≡ map f xs ++ replicate (64 * length out - length xs) false
bits_of_marked f xs out room marked =
    let pad = replicate (64 * length out - length xs) false in
    ext_get_or false (bits_of out) (map f xs ++ pad)
    (omega (arith, length-bits_of out, length-append (map f xs) pad, length-map xs f, length-replicate (64 * length out - length xs) false))
    (λ i lt.
    let word = marked (i / 64) (omega (arith, length-bits_of out)) in
    let bit = bit_of_mask (map f (take 64 (drop (64 * (i / 64)) xs))) (i % 64) in
    let answer = map_word f xs (i / 64) (i % 64) (omega arith) in
    grind (arith, get_or-bits_of out i, get_or-padded (map f xs) (64 * length out - length xs) i))
