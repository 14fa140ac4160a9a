-- The bits of a single word.
use Rattle.std.specs.Prelude.{ℕ, ◌≡◌, ◌<◌, if◌then◌else◌, nat_lt}
use Rattle.std.specs.Int.{bit_at}

-- just the lowest bits, so many, are 1
abbrev pub OnesBelow : ℕ → ℕ → Type 0
OnesBelow count word = (i : ℕ) → i < 64 → bit_at word i ≡ (if nat_lt i count then 1 else 0)
