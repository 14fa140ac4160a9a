-- Chunks that two arenas own.
use Rattle.std.specs.Prelude.{◌≡◌, ℕ, ◌<◌, ◌≤◌, ◌⊎◌, Bool, true, List, Option, None, Some}
use Rattle.std.specs.List.{list_any}
use Rattle.space_model.specs.Span.{chunk_span, meets}
use Rattle.journal_check.specs.Logs.{Logged, arena_at}

-- whether an arena owns a chunk: an extent of it meets the chunk
abbrev pub owns : ℕ → Logged → Bool
owns chunk arena = list_any (λ p. meets p.span (chunk_span chunk)) arena.space.parts

-- whether the arena with an index owns a chunk
abbrev pub owns_at : ℕ → List Logged → ℕ → Bool
owns_at chunk log index = owns chunk (arena_at log index)

-- at most one arena owns the chunk
abbrev pub HasOneOwner : List Logged → ℕ → Type 0
HasOneOwner log chunk = (i j : ℕ) → owns_at chunk log i ≡ true → owns_at chunk log j ≡ true → i ≡ j

-- the chunks of the space are those from 1 to this one
abbrev pub last_chunk : ℕ
last_chunk = 1048575

-- no chunk has two owners
abbrev pub IsApart : List Logged → Type 0
IsApart log = (chunk : ℕ) → 1 ≤ chunk → chunk ≤ last_chunk → HasOneOwner log chunk

-- These are the two lowest owners of the chunk.
pub record AreLowest (log : List Logged) (chunk low high : ℕ) : Type 0 where
  pub rise : low < high
  pub owns_low : owns_at chunk log low ≡ true
  pub owns_high : owns_at chunk log high ≡ true
  pub lowest : (i : ℕ) → owns_at chunk log i ≡ true → (i ≡ low) ⊎ (high ≤ i)

-- The chunk is the least that two arenas own, and these are its two lowest owners.
pub record IsMeeting (log : List Logged) (chunk low high : ℕ) : Type 0 where
  pub within : (1 ≤ chunk) × (chunk ≤ last_chunk)
  pub lowest : AreLowest log chunk low high
  pub least : (other : ℕ) → 1 ≤ other → other < chunk → HasOneOwner log other

-- the lowest owner among so many arenas, of which no other one owns the chunk
abbrev pub IsLowSoFar : List Logged → ℕ → ℕ → Option ℕ → Type 0
IsLowSoFar log chunk count None = (i : ℕ) → i < count → owns_at chunk log i ≡ true → ⊥
IsLowSoFar log chunk count (Some low) =
    (low < count) × (owns_at chunk log low ≡ true) × ((i : ℕ) → i < count → owns_at chunk log i ≡ true → i ≡ low)

-- no chunk from the first one up to the second has two owners
abbrev pub AreApart : List Logged → ℕ → ℕ → Type 0
AreApart log low high = (chunk : ℕ) → low ≤ chunk → chunk < high → chunk ≤ last_chunk → HasOneOwner log chunk

-- An arena owns no chunk from one on before the next one.
pub record IsNextOwned (arena : Logged) (chunk next : ℕ) : Type 0 where
  pub above : chunk ≤ next
  pub first : (other : ℕ) → chunk ≤ other → other ≤ last_chunk → owns other arena ≡ true → next ≤ other

-- Of so many arenas, none owns a chunk from one on before the least, and no two own one of these before the second.
pub record AreFirstTwo (log : List Logged) (chunk count least second : ℕ) : Type 0 where
  pub above_least : chunk ≤ least
  pub above_second : chunk ≤ second
  pub none : (other i : ℕ) → chunk ≤ other → other ≤ last_chunk → i < count → owns_at other log i ≡ true → least ≤ other
  pub one : (other i j : ℕ) → chunk ≤ other → other ≤ last_chunk → other < second → i < count → j < count
      → owns_at other log i ≡ true → owns_at other log j ≡ true → i ≡ j
