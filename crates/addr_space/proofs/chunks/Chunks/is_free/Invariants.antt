use Rattle.std.proofs.Common.{◌≡◌, ℕ, ◌≤◌, ◌<◌}
use Rattle.addr_space.specs.Chunks.{pages_within, used_at}
use Rattle.addr_space.proofs.chunks.Chunks.is_free.Given as goal

-- each chunk so far that has a page of the span is free
abbrev pub invariant-loop-chunk : goal.invariant-loop-chunk
invariant-loop-chunk l = (c : ℕ) → c < l.chunk → 0 < pages_within l.span c → (1 ≤ c) × (used_at l.self c ≡ 0)
