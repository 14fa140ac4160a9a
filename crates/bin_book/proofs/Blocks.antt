-- The blocks of places, and the codes in them.
use Rattle.bin_book.proofs.Words.{◌≡◌, ◌≢◌, ℕ, ◌+◌, ◌-◌, ◌*◌, ◌/◌, ◌%◌, ◌<◌, ◌≤◌, cond, ltb, List, ◌++◌, length, length-set, get_or, set, inl, inr, refl, ◌∙◌, arith, replicate, cases_eq, cases_lt, get_or-set_other, get_or-set_same, get_or_past, get_or-map-range_with_len, length-map-range_with_len, nat_tests, sum_by-append, sum_by-replicate, sum_by-set, count_by-le-length, reads_more, AreBlocks, block_of, code_at, codes_in}

-- how many places there are
pub codes_length : (blocks codes : List ℕ) → length (codes_in blocks codes) ≡ 64 * length blocks
unfolding codes_in
codes_length blocks codes = length-map-range_with_len (code_at blocks codes) 0 (64 * length blocks)

-- the code of each place
pub codes_read : (blocks codes : List ℕ) (place : ℕ) → get_or (codes_in blocks codes) place 0 ≡ code_at blocks codes place
unfolding codes_in
codes_read blocks codes place = elim (cases_lt place (64 * length blocks)) [
  | inl lt ↦ get_or-map-range_with_len (code_at blocks codes) 0 (64 * length blocks) place place 0 lt (omega arith)
  | inr ge ↦ get_or_past (codes_in blocks codes) place 0 (omega (arith, codes_length blocks codes)) ∙ rw (get_or_past blocks (place / 64) 0 (omega arith)) refl
]

-- more blocks without codes
pub blocks_more : (blocks : List ℕ) (len n : ℕ) → AreBlocks blocks len → AreBlocks (blocks ++ replicate n 0) len
blocks_more blocks len n are = record {
  filled = omega (arith, are.filled, sum_by-append (λ b. cond (ltb 0 b) 1 0) blocks (replicate n 0), sum_by-replicate (λ b. cond (ltb 0 b) 1 0) n 0);
  taken = λ k. rw (reads_more blocks n 0 k) (are.taken k);
  apart = λ k l. rw (reads_more blocks n 0 k, reads_more blocks n 0 l) (are.apart k l);
}

module _ (blocks : List ℕ) (len : ℕ) (are : AreBlocks blocks len) where
  -- a block without codes gets the next ones
  pub block_owned : (index : ℕ) → index < length blocks → get_or blocks index 0 ≡ 0 → AreBlocks (set blocks index (len / 64 + 1)) (len + 64)
  block_owned index inside bare =
      let now = set blocks index (len / 64 + 1) in
      let here : get_or now index 0 ≡ len / 64 + 1 = get_or-set_same blocks index (len / 64 + 1) 0 inside in
      let other = λ (k : ℕ) (ne : k ≢ index). get_or-set_other blocks index k (len / 64 + 1) 0 ne in
      record {
        filled = grind (arith, nat_tests, sum_by-set (λ b. cond (ltb 0 b) 1 0) blocks index (len / 64 + 1) 0 inside, are.filled, bare);
        taken = λ k. grind (arith, cases_eq k index, here, other k, are.filled, are.taken k);
        apart = λ k l some same. grind (arith, cases_eq k index, cases_eq l index, here, other k, other l, are.filled, are.taken k, are.taken l, are.apart k l, some, same);
      }

  -- a code that is written at a place
  pub written_here : (codes : List ℕ) (place code : ℕ) → length codes ≡ len → 0 < block_of blocks place → code_at blocks (set codes (64 * (block_of blocks place - 1) + place % 64) code) place ≡ code
  written_here codes place code long some = grind (arith, nat_tests, get_or-set_same codes (64 * (block_of blocks place - 1) + place % 64) code 0 (omega (arith, are.taken (place / 64))))

  -- stands there alone
  pub written_other : (codes : List ℕ) (place code q : ℕ) → q ≢ place → 0 < block_of blocks place → code_at blocks (set codes (64 * (block_of blocks place - 1) + place % 64) code) q ≡ code_at blocks codes q
  written_other codes place code q ne some = elim (cases_eq (block_of blocks q) 0) [
    | inl e ↦ rw e refl
    | inr some_too ↦ rw (get_or-set_other codes (64 * (block_of blocks place - 1) + place % 64) (64 * (block_of blocks q - 1) + q % 64) code 0 (λ e. let same : q / 64 ≡ place / 64 = are.apart (q / 64) (place / 64) (omega arith) (omega arith) in ne (omega arith))) refl
  ]

  -- where a block has no codes, there are fewer than blocks
  pub few_owned : (index : ℕ) → index < length blocks → get_or blocks index 0 ≡ 0 → len + 64 ≤ 64 * length blocks
  few_owned index inside bare =
      grind (arith, nat_tests, sum_by-set (λ b. cond (ltb 0 b) 1 0) blocks index 1 0, are.filled, count_by-le-length (λ b. ltb 0 b) (set blocks index 1), length-set blocks index 1)
