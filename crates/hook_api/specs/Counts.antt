-- Counts that stay at the greatest u64.
use Rattle.std.specs.Prelude.{◌≡◌, ℕ, ◌-◌, ◌^◌, ◌<◌, ◌⊎◌, min}

-- the greatest u64
abbrev pub greatest : ℕ
greatest = 2 ^ 64 - 1

-- a count that stays at the greatest u64 once it is reached
abbrev pub capped : ℕ → ℕ
capped n = min n greatest

-- a count of refusals rose: it is above what it was, or stands at the greatest u64
abbrev pub Rose : ℕ → ℕ → Type 0
Rose old new = (old < new) ⊎ (new ≡ greatest)
