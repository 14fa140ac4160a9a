-- The text of an entry of a journal: one line, whose words are parted by one space each.
use Rattle.std.specs.Prelude.{◌≡◌, ◌==◌, ℕ, ◌^◌, ◌<◌, false, List, [], ◌∷◌, ◌++◌, Option}
use Rattle.std.specs.Fmt.{decimal, signed_decimal}
use Rattle.std.specs.List.{All}
use Rattle.text_words.specs.Words.{words_of}
use Rattle.space_model.specs.declared.Entry.{Entry}
use Rattle.journal.specs.Codec.{Words, ◌⊗◌, made, whole}
use Rattle.journal.specs.Fields.{flag_word, int, maybe_word}
use Rattle.journal.specs.Labels.{label_word}
use Rattle.journal.specs.declared.tokens.Token.{Token}
use Rattle.journal.specs.declared.tokens.Token.TheVariants as tokens
use Rattle.journal.specs.Ops.{FitsOp, op, op_words}

-- words, each behind a space
abbrev pub spaced : Words → List ℕ
spaced [] = []
spaced (word ∷ words) = 32 ∷ word ++ spaced words

-- the text of an entry: the arena's index, the client, and the operation
abbrev pub entry_text : ℕ → Entry → List ℕ
entry_text index entry = decimal index ++ spaced (decimal entry.client ∷ op_words entry.op)

-- no newline is among the bytes
abbrev pub IsOneLine : List ℕ → Type 0
IsOneLine bytes = All (λ b. (b == 10) ≡ false) bytes

-- what words say that are an entry's
unfoldable pub entry_at : Words → Option (ℕ × Entry)
entry_at words =
    whole (made (λ x. (x.0, record { client = x.1.0; op = x.1.1 })) (int ⊗ int ⊗ op) words)

-- the entry with this text, if there is one
abbrev pub entry_of : List ℕ → Option (ℕ × Entry)
entry_of line = entry_at (words_of 32 line)

-- the numbers of an entry are such as its fields may have
abbrev pub FitsEntry : ℕ → Entry → Type 0
FitsEntry index entry = (index < 2 ^ 32) × ((entry.client < 2 ^ 32) × FitsOp entry.op)

-- the word of a token
abbrev pub token_word : Token → List ℕ
token_word (tokens.Word label) = label_word label
token_word (tokens.Number n) = decimal n
token_word (tokens.Flag b) = flag_word b
token_word (tokens.Maybe o) = maybe_word o
token_word (tokens.Time z) = signed_decimal z
