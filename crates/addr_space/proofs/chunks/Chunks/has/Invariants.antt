use Rattle.std.proofs.Common.{ℕ, ◌≤◌, ◌<◌}
use Rattle.addr_space.specs.Chunks.{pages_within, used_at}
use Rattle.addr_space.proofs.chunks.Chunks.has.Given as goal

-- each chunk so far has as many pages as the span has of it
abbrev pub invariant-loop-chunk : goal.invariant-loop-chunk
invariant-loop-chunk l = (c : ℕ) → c < l.chunk → pages_within l.span c ≤ used_at l.self c
