-- Facts of the class table: each is a test over the whole table, computed once, and what it tells of one entry.
use Rattle.std.proofs.Common.{◌≡◌, ℕ, ◌+◌, ◌-◌, ◌*◌, ◌/◌, ◌%◌, ◌^◌, ◌<◌, ◌≤◌, min, Bool, true, ◌&&◌, length, eqb, ltb, leb, refl, arith}
use Rattle.std.proofs.lemmas.Bool.{agree_below, agree_below_at, and_parts, eqb-true, ltb-true, leb-true}
use Rattle.std.specs.Int.{trailing_zeros, w64}
use lib.Count.{count_trailing_zeros}
use Rattle.size_classes.specs.Classes.{class_sizes, least_pages, largest_align, size_at, pages_at, regions_at, align_at}

-- the test passes at each number below n
abbrev pub passes_below : (ℕ → Bool) → ℕ → Bool
passes_below test n = agree_below test (λ _. true) n

-- what a test that passes below n says of one number
pub at : (test : ℕ → Bool) (n k : ℕ) → passes_below test n ≡ true → k < n → test k ≡ true
at test n k passes within = agree_below_at test (λ _. true) n k passes within

-- the table has 121 entries
pub length-class_sizes : length class_sizes ≡ 121
unfolding class_sizes
length-class_sizes = refl

-- the first entry
pub first_size : size_at 0 ≡ 8
unfolding class_sizes
first_size = refl

-- the greatest entry of a small class
pub last_small_size : size_at 35 ≡ 14336
unfolding class_sizes
last_small_size = refl

-- the last entry
pub last_size : size_at 120 ≡ 2 ^ 35
unfolding class_sizes
last_size = refl

abbrev steps_by_16 : ℕ → Bool
steps_by_16 k = eqb (size_at (k + 1)) (16 * (k + 1))

steps_by_16_below : passes_below steps_by_16 8 ≡ true
unfolding class_sizes
steps_by_16_below = refl

-- up to 128 the sizes go by 16
pub size_by_16 : (k : ℕ) → k < 8 → size_at (k + 1) ≡ 16 * (k + 1)
size_by_16 k within = eqb-true _ _ (at steps_by_16 8 k steps_by_16_below within)

abbrev quarters : ℕ → Bool
quarters k =
    eqb (size_at (k + 9)) ((k % 4 + 5) * 2 ^ (k / 4 + 5)) && eqb (size_at (k + 8)) ((k % 4 + 4) * 2 ^ (k / 4 + 5))

quarters_below : passes_below quarters 112 ≡ true
unfolding class_sizes
quarters_below = refl

-- from 128 on, four sizes fill each doubling: this one and the one before it
pub size_by_quarter : (k : ℕ) → k < 112 →
    (size_at (k + 9) ≡ (k % 4 + 5) * 2 ^ (k / 4 + 5)) × (size_at (k + 8) ≡ (k % 4 + 4) * 2 ^ (k / 4 + 5))
size_by_quarter k within =
    let both = and_parts _ _ (at quarters 112 k quarters_below within) in
    (eqb-true _ _ both.0, eqb-true _ _ both.1)

abbrev rises : ℕ → Bool
rises k = ltb (size_at k) (size_at (k + 1))

rises_below : passes_below rises 120 ≡ true
unfolding class_sizes
rises_below = refl

-- each size is below the next
pub size_next : (k : ℕ) → k < 120 → size_at k < size_at (k + 1)
size_next k within = ltb-true _ _ (at rises 120 k rises_below within)

abbrev bounded : ℕ → Bool
bounded c = leb 8 (size_at c) && leb (size_at c) (2 ^ 35)

bounded_below : passes_below bounded 121 ≡ true
unfolding class_sizes
bounded_below = refl

-- each size is from 8 to 2 ^ 35
pub size_bounds : (c : ℕ) → c < 121 → (8 ≤ size_at c) × (size_at c ≤ 2 ^ 35)
size_bounds c within =
    let both = and_parts _ _ (at bounded 121 c bounded_below within) in
    (leb-true _ _ both.0, leb-true _ _ both.1)

abbrev shifted : ℕ → Bool
shifted c = eqb (size_at c / 2 ^ min (trailing_zeros w64 (size_at c)) 12) (pages_at c)

shifted_below : passes_below shifted 121 ≡ true
unfolding class_sizes least_pages count_trailing_zeros
shifted_below = refl

-- the pages are the size without its factors of two, of which twelve at most go
pub pages_by_shift : (c : ℕ) → c < 121 → size_at c / 2 ^ min (trailing_zeros w64 (size_at c)) 12 ≡ pages_at c
pages_by_shift c within = eqb-true _ _ (at shifted 121 c shifted_below within)

abbrev paged : ℕ → Bool
paged c = leb 1 (pages_at c) && leb (pages_at c) (2 ^ 23)

paged_below : passes_below paged 121 ≡ true
unfolding class_sizes least_pages
paged_below = refl

-- a slab or an extent has from 1 to 2 ^ 23 pages
pub pages_bounds : (c : ℕ) → c < 121 → (1 ≤ pages_at c) × (pages_at c ≤ 2 ^ 23)
pages_bounds c within =
    let both = and_parts _ _ (at paged 121 c paged_below within) in
    (leb-true _ _ both.0, leb-true _ _ both.1)

abbrev whole : ℕ → Bool
whole k = eqb (size_at (k + 36)) (4096 * pages_at (k + 36))

whole_below : passes_below whole 85 ≡ true
unfolding class_sizes least_pages
whole_below = refl

-- a large class is whole pages
pub large_size : (c : ℕ) → 36 ≤ c → c < 121 → size_at c ≡ 4096 * pages_at c
large_size c large within =
    let e : c - 36 + 36 ≡ c = omega arith in
    let l : c - 36 < 85 = omega arith in
    rw e at (eqb-true _ _ (at whole 85 (c - 36) whole_below l))

abbrev filled : ℕ → Bool
filled c =
    eqb (regions_at c * size_at c) (4096 * pages_at c) && (leb 1 (regions_at c) && leb (regions_at c) 512)

filled_below : passes_below filled 36 ≡ true
unfolding class_sizes least_pages
filled_below = refl

-- the regions of a slab fill it, and there are from 1 to 512
pub slab_filled : (c : ℕ) → c < 36 →
    (regions_at c * size_at c ≡ 4096 * pages_at c) × (1 ≤ regions_at c) × (regions_at c ≤ 512)
slab_filled c small =
    let both = and_parts _ _ (at filled 36 c filled_below small) in
    let bounds = and_parts _ _ both.1 in
    (eqb-true _ _ both.0, leb-true _ _ bounds.0, leb-true _ _ bounds.1)

abbrev aligned : ℕ → Bool
aligned c = leb 1 (align_at c) && (eqb (size_at c % align_at c) 0 && eqb (4096 % align_at c) 0)

aligned_below : passes_below aligned 121 ≡ true
unfolding class_sizes largest_align
aligned_below = refl

-- the alignment of a class divides its size and a page
pub align_divides : (c : ℕ) → c < 121 →
    (1 ≤ align_at c) × (size_at c % align_at c ≡ 0) × (4096 % align_at c ≡ 0)
align_divides c within =
    let both = and_parts _ _ (at aligned 121 c aligned_below within) in
    let divides = and_parts _ _ both.1 in
    (leb-true _ _ both.0, eqb-true _ _ divides.0, eqb-true _ _ divides.1)
