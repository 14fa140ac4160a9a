use Rattle.std.proofs.Common.{◌≡◌, ℕ, ◌+◌, ◌<◌, ◌≤◌, length, vec_capacity}
use Rattle.addr_space.specs.Chunks.{pages_within, used_at}
use Rattle.addr_space.proofs.chunks.Chunks.place.Given as goal

-- the chunks so far have changed, and the others are as they were
abbrev pub invariant-loop-chunk : goal.invariant-loop-chunk
invariant-loop-chunk l =
    (l.above ≤ length l.self-inside.placed.items) × (length l.self-inside.placed.items ≤ 1048576) × (1048576 ≤ vec_capacity l.self-inside.placed)
    × ((c : ℕ) → c < l.chunk → used_at l.self-inside.placed.items c ≡ used_at l.fn.self c + pages_within l.span c)
    × ((c : ℕ) → l.chunk ≤ c → used_at l.self-inside.placed.items c ≡ used_at l.fn.self c)
    × (1 ≤ l.self-inside.low) × (l.self-inside.low ≤ 1048576)
    × ((c : ℕ) → 1 ≤ c → c < l.self-inside.low → 0 < used_at l.fn.self c)
