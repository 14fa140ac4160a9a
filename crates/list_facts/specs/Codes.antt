-- An optional number as a number.
use Rattle.std.specs.Prelude.{ℕ, ◌+◌, ◌-◌, ◌==◌, Option, None, Some, if◌then◌else◌}

-- 0 for none, and else one more
abbrev pub code_of : Option ℕ → ℕ
code_of None = 0
code_of (Some n) = n + 1

-- what has the code
abbrev pub of_code : ℕ → Option ℕ
of_code code = if code == 0 then None else Some (code - 1)
