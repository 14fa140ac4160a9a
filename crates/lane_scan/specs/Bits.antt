-- The bits of words, in order.
use Rattle.std.specs.Prelude.{ℕ, Bool, List, map, ◌==◌}
use Rattle.std.specs.Int.{bit_at}
use Rattle.std.specs.List.{flat_map, range_with_len}

-- the 64 bits of a word, the lowest first
unfoldable pub word_bits : ℕ → List Bool
word_bits word = map (λ k. bit_at word k == 1) (range_with_len 0 64)

-- the bits of words: bit k of word j stands at 64 * j + k
unfoldable pub bits_of : List ℕ → List Bool
bits_of words = flat_map word_bits words
