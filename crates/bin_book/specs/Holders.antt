-- Who holds the regions of slots, and the blocks of their codes.
use Rattle.std.specs.Prelude.{◌≡◌, ℕ, ◌+◌, ◌-◌, ◌*◌, ◌/◌, ◌%◌, ◌<◌, ◌≤◌, ◌==◌, nat_lt, List, Option, count_by, if◌then◌else◌, length, map, slice_index_or}
use Rattle.std.specs.List.{range_with_len}
use Rattle.list_facts.specs.Codes.{of_code}

-- the holder whose code stands at a place
abbrev pub holder_at : List ℕ → ℕ → Option ℕ
holder_at codes place = of_code (slice_index_or codes place 0)

-- the number of the codes that the block of a place has, or 0
abbrev pub block_of : List ℕ → ℕ → ℕ
block_of blocks place = slice_index_or blocks (place / 64) 0

-- the code of a place: that in its block, where the block has codes
abbrev pub code_at : List ℕ → List ℕ → ℕ → ℕ
code_at blocks codes place = if block_of blocks place == 0 then 0 else slice_index_or codes (64 * (block_of blocks place - 1) + place % 64) 0

-- the codes of all places
unfoldable pub codes_in : List ℕ → List ℕ → List ℕ
codes_in blocks codes = map (code_at blocks codes) (range_with_len 0 (64 * length blocks))

-- each block that has codes has 64 of its own, among so many
pub record AreBlocks (blocks : List ℕ) (codes : ℕ) : Type 0 where
  pub filled : codes ≡ 64 * count_by (λ block. nat_lt 0 block) blocks
  pub taken : (index : ℕ) → 64 * slice_index_or blocks index 0 ≤ codes
  pub apart : (index other : ℕ) → 0 < slice_index_or blocks index 0 → slice_index_or blocks index 0 ≡ slice_index_or blocks other 0 → index ≡ other
