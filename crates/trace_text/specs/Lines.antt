-- The bytes of a line, behind which a newline stands, byte 10.
use Rattle.std.specs.Prelude.{◌≡◌, ◌==◌, ℕ, false, List}
use Rattle.std.specs.List.{All}

-- no newline is among the bytes
abbrev pub HasNoNewline : List ℕ → Type 0
HasNoNewline bytes = All (λ b. (b == 10) ≡ false) bytes
