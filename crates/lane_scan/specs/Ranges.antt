-- Half-open ranges of numbers.
use Rattle.std.specs.Prelude.{ℕ, Bool, ◌&&◌, nat_le, nat_lt}

-- whether a value lies from lo up to but not including hi
abbrev pub is_inside : ℕ → ℕ → ℕ → Bool
is_inside lo hi value = nat_le lo value && nat_lt value hi

-- whether the span from lo up to hi meets the one from span.0 up to span.1
abbrev pub meets : ℕ → ℕ → ℕ × ℕ → Bool
meets lo hi span = nat_lt span.0 hi && nat_lt lo span.1
