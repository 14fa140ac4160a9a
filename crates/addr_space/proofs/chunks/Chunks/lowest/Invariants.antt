use Rattle.std.proofs.Common.{ℕ, ◌-◌, ◌≤◌, ◌<◌}
use Rattle.addr_space.specs.Chunks.{NoFit}
use Rattle.addr_space.proofs.chunks.Chunks.lowest.Given as goal

-- nothing fits below the chunk, which is one or comes after the last
abbrev pub invariant-loop-chunk : goal.invariant-loop-chunk
invariant-loop-chunk l = (1 ≤ l.chunk) × (l.chunk ≤ 1048576) × ((lower : ℕ) → lower < l.chunk → NoFit l.self l.pages l.align lower)

abbrev pub decreases-loop-chunk : goal.decreases-loop-chunk
decreases-loop-chunk l = 1048576 - l.chunk
