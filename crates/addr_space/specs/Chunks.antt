-- How many pages of each chunk are placed, and where further ones can go. There is no chunk 0.
use Rattle.std.specs.Prelude.{◌≡◌, ℕ, ◌+◌, ◌-◌, ◌*◌, ◌%◌, ◌/◌, ◌<◌, ◌≤◌, List, ◌++◌, length, replicate, min, max, slice_index}
use Rattle.space_model.specs.declared.Span.{Span}

-- how many pages a chunk has that are placed
abbrev pub used_at : List ℕ → ℕ → ℕ
used_at placed chunk = slice_index placed chunk

-- how many pages of a chunk stand from a first page on and below an end
abbrev pub overlap : ℕ → ℕ → ℕ → ℕ
overlap first end chunk = min end (512 * chunk + 512) - max first (512 * chunk)

-- how many pages of a chunk a span has
abbrev pub pages_within : Span → ℕ → ℕ
pages_within span chunk = overlap span.first (span.first + span.pages) chunk

-- there is a number for each chunk, and no page is placed
pub record IsBlank (placed : List ℕ) : Type 0 where
  pub chunks : length placed ≡ 1048576
  pub none : (chunk : ℕ) → used_at placed chunk ≡ 0

-- no page of the chunks from one on and below another is placed
abbrev pub AreFree : List ℕ → ℕ → ℕ → Type 0
AreFree placed from to = (chunk : ℕ) → from ≤ chunk → chunk < to → used_at placed chunk ≡ 0

-- a span can be placed: it ends in the space, and each chunk with a page of it is one of the space and has no page that is placed
pub record IsFreeSpan (placed : List ℕ) (span : Span) : Type 0 where
  pub ends : span.first + span.pages ≤ 512 * 1048576
  pub inside : (chunk : ℕ) → 0 < pages_within span chunk → (1 ≤ chunk) × (chunk < 1048576)
  pub free : (chunk : ℕ) → 0 < pages_within span chunk → used_at placed chunk ≡ 0

-- a span ends in the space, and each chunk has as many pages placed as the span has of it
pub record IsPlacedSpan (placed : List ℕ) (span : Span) : Type 0 where
  pub ends : span.first + span.pages ≤ 512 * 1048576
  pub each : (chunk : ℕ) → pages_within span chunk ≤ used_at placed chunk

-- so many pages, at least one, can be placed from a chunk on, at the alignment: in chunks of the space, none of which has a page that is placed
pub record IsFit (placed : List ℕ) (pages align chunk : ℕ) : Type 0 where
  pub numbered : 1 ≤ chunk
  pub inside : 512 * chunk + max 1 pages ≤ 512 * 1048576
  pub aligned : (512 * chunk) % align ≡ 0
  pub free : (c : ℕ) → chunk ≤ c → 512 * c < 512 * chunk + max 1 pages → used_at placed c ≡ 0

-- so many pages can't be placed from the chunk on
abbrev pub NoFit : List ℕ → ℕ → ℕ → ℕ → Type 0
NoFit placed pages align chunk = IsFit placed pages align chunk → ⊥

-- the pages of the span are placed too
pub record IsOn (old : List ℕ) (span : Span) (new : List ℕ) : Type 0 where
  pub chunks : length new ≡ length old
  pub each : (chunk : ℕ) → used_at new chunk ≡ used_at old chunk + pages_within span chunk

-- the pages of the span are placed no more, as far as they were
pub record IsOff (old : List ℕ) (span : Span) (new : List ℕ) : Type 0 where
  pub chunks : length new ≡ length old
  pub each : (chunk : ℕ) → used_at new chunk ≡ used_at old chunk - pages_within span chunk

-- the number of each chunk, where those of the first chunks are kept: the others are 0
unfoldable pub all_chunks : List ℕ → List ℕ
all_chunks kept = kept ++ replicate (1048576 - length kept) 0

-- a number is kept for each of the first chunks, at most its pages; chunk 0 has none, and no chunk below the low one is free
pub record IsChunks (placed : List ℕ) (low : ℕ) : Type 0 where
  pub chunks : length placed ≤ 1048576
  pub most : (chunk : ℕ) → used_at placed chunk ≤ 512
  pub none : used_at placed 0 ≡ 0
  pub numbered : (1 ≤ low) × (low ≤ 1048576)
  pub used : (chunk : ℕ) → 1 ≤ chunk → chunk < low → 0 < used_at placed chunk

-- so many pages from a page on, which begins a chunk, are the lowest that fit
pub record IsLowestFit (placed : List ℕ) (pages align first : ℕ) : Type 0 where
  pub chunk : first ≡ 512 * (first / 512)
  pub fits : IsFit placed pages align (first / 512)
  pub lowest : (lower : ℕ) → lower < first / 512 → NoFit placed pages align lower

-- so many pages fit nowhere
abbrev pub FitNowhere : List ℕ → ℕ → ℕ → Type 0
FitNowhere placed pages align = (chunk : ℕ) → NoFit placed pages align chunk
