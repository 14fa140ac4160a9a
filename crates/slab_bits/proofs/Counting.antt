-- How many bits are set, as one is set or cleared.
use Rattle.std.proofs.Common.{◌≡◌, ℕ, ◌+◌, ◌-◌, ◌<◌, ◌≤◌, ◌&&◌, suc, max, Bool, true, false, cond, leb, ltb, List, [], ◌∷◌, length, get_or, set, ap, ◌∙◌, arith}
use Rattle.std.proofs.Common.{rules}
use Rattle.std.proofs.lemmas.Bool.{cases_eq}
use Rattle.std.specs.List.{count_by}
use Rattle.std.proofs.lemmas.List.{get_or-set_same, get_or-set_other}
use Rattle.std.proofs.lemmas.List.Sums.{sum_by-cons, sum_by-set}
use Rattle.std.proofs.lemmas.Bool.Decides.{nat_tests}
use Rattle.size_classes.specs.Classes.{regions_at}
use Rattle.lane_scan.specs.Bits.{bits_of}
use Rattle.lane_scan.proofs.BitLemmas.{length-bits_of}
use Rattle.slab_bits.specs.Slabs.{IsSlab}

-- how many bits are set
abbrev count : List Bool → ℕ
count bits = count_by (λ bit. bit) bits

-- a run of ones has as many as it is long
count_run : (bits : List Bool) (start from to : ℕ) → ((i : ℕ) → i < length bits → get_or bits i false ≡ (leb from (start + i) && ltb (start + i) to)) → from ≤ to → to ≤ start + length bits → count bits ≡ to - max from start
count_run [] start from to run order within = omega arith
count_run (b ∷ bits) start from to run order within =
    let place : (i : ℕ) → start + suc i ≡ start + 1 + i = (λ i. omega arith) in
    let rest = count_run bits (start + 1) from to (λ i lt. run (suc i) (omega arith) ∙ ap (λ n. leb from n && ltb n to) (place i)) order (omega arith) in
    let first : b ≡ (leb from start && ltb start to) = run 0 (omega arith) ∙ ap (λ n. leb from n && ltb n to) (omega arith) in
    let more = sum_by-cons (λ (bit : Bool). cond {A = ℕ} bit 1 0) b bits in let here : cond {A = ℕ} b 1 0 ≡ cond {A = ℕ} (leb from start && ltb start to) 1 0 = ap (λ (bit : Bool). cond {A = ℕ} bit 1 0) first in
    grind (arith, nat_tests)

-- a bit that is written counts in place of the one that was there
count_set : (bits : List Bool) (i : ℕ) (b : Bool) → i < length bits → count (set bits i b) + cond (get_or bits i false) 1 0 ≡ count bits + cond b 1 0
count_set bits i b inside = sum_by-set (λ (bit : Bool). cond bit 1 0) bits i b false inside

-- a slab whose free region was taken
pub taken : (class left i : ℕ) (before after : List ℕ) → IsSlab class left before → i < length (bits_of before) → get_or (bits_of before) i false ≡ true → length after ≡ 8 → bits_of after ≡ set (bits_of before) i false
    → (1 ≤ left) × IsSlab class (left - 1) after
taken class left i before after slab inside free long is =
    let written = count_set (bits_of before) i false inside in
    let one : cond {A = ℕ} (get_or (bits_of before) i false) 1 0 ≡ 1 = ap (λ (b : Bool). cond {A = ℕ} b 1 0) free in
    let same = ap count is in
    let behind : (k : ℕ) → regions_at class ≤ k → get_or (bits_of after) k false ≡ false = λ k far. grind (arith, ap (λ l. get_or l k false) is, cases_eq k i, get_or-set_same (bits_of before) i false false inside, get_or-set_other (bits_of before) i k false false, slab.behind k far) in
    (omega (arith, slab.counted), search (rules, arith, behind))

-- a slab to which a region was put back
pub put : (class left i : ℕ) (before after : List ℕ) → IsSlab class left before → i < length (bits_of before) → i < regions_at class → get_or (bits_of before) i false ≡ false → length after ≡ 8 → bits_of after ≡ set (bits_of before) i true
    → IsSlab class (left + 1) after
put class left i before after slab inside low out long is =
    let written = count_set (bits_of before) i true inside in
    let none_of : cond {A = ℕ} (get_or (bits_of before) i false) 1 0 ≡ 0 = ap (λ (b : Bool). cond {A = ℕ} b 1 0) out in
    let same = ap count is in
    let behind : (k : ℕ) → regions_at class ≤ k → get_or (bits_of after) k false ≡ false = λ k far. ap (λ l. get_or l k false) is ∙ (get_or-set_other (bits_of before) i k true false (λ e. omega arith) ∙ slab.behind k far) in
    search (rules, arith, behind)

-- a slab of which the regions from one number on are free
pub made : (class out : ℕ) (words : List ℕ) → class < 36 → out ≤ regions_at class → regions_at class ≤ 512 → length words ≡ 8 → ((i : ℕ) → get_or (bits_of words) i false ≡ (leb out i && ltb i (regions_at class)))
    → IsSlab class (regions_at class - out) words
made class out words small few most long run =
    let behind : (i : ℕ) → regions_at class ≤ i → get_or (bits_of words) i false ≡ false = λ i far. run i ∙ grind (arith, nat_tests) in
    let all = count_run (bits_of words) 0 out (regions_at class) (λ i _. run i ∙ ap (λ n. leb out n && ltb n (regions_at class)) (omega arith)) few (omega (arith, length-bits_of words)) in
    search (rules, arith, behind)
