-- The chunks that extents meet.
use Rattle.std.specs.Prelude.{◌≡◌, ℕ, ◌<◌, ◌≤◌, Bool, true, false, List}
use Rattle.std.specs.List.{list_any}
use Rattle.space_model.specs.declared.parts.Part.{Part}
use Rattle.space_model.specs.Span.{chunk_span, meets}

-- whether an extent meets the chunk
abbrev pub has_chunk : ℕ → List Part → Bool
has_chunk chunk parts = list_any (λ p. meets p.span (chunk_span chunk)) parts

-- no extent meets a chunk from this one on
abbrev pub HasNoChunkFrom : List Part → ℕ → Type 0
HasNoChunkFrom parts from = (chunk : ℕ) → from ≤ chunk → has_chunk chunk parts ≡ false

-- The chunk is the first one from another one on that an extent meets.
pub record IsNextChunk (parts : List Part) (from next : ℕ) : Type 0 where
  pub above : from ≤ next
  pub met : has_chunk next parts ≡ true
  pub first : (chunk : ℕ) → from ≤ chunk → chunk < next → has_chunk chunk parts ≡ false
