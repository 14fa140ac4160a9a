-- The words of a line.
use Rattle.std.specs.Prelude.{ℕ, ◌==◌, Bool, not, List}
use Rattle.std.specs.List.{slice_split}

-- a byte that may stand in a word, where this separator parts words
abbrev pub is_in_word : ℕ → ℕ → Bool
is_in_word separator b = not (b == separator)

-- the words of a line, parted by exactly one separator each
abbrev pub words_of : ℕ → List ℕ → List (List ℕ)
words_of separator line = slice_split (λ b. b == separator) line
