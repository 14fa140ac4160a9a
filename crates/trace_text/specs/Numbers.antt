-- The numbers of a line, as its words write them.
use Rattle.std.specs.Prelude.{ℕ, List, Result, Ok, Err}
use Rattle.text_words.specs.Numbers.{decimal_of as decimal_in_word, hexadecimal_of as hexadecimal_in_word}
use Rattle.text_words.specs.declared.faults.NumberFault.{NumberFault}
use Rattle.text_words.specs.declared.faults.NumberFault.TheVariants.{NotDigits, NotNumeral}
use Rattle.trace_text.specs.declared.faults.LineFault.{LineFault}
use Rattle.trace_text.specs.declared.faults.LineFault.TheVariants.{Words, Number}

-- the cause of a line that has a word in place of a number
abbrev pub cause_of : NumberFault → LineFault
cause_of NotDigits = Words
cause_of NotNumeral = Number

-- what a word writes, with the line's cause in place of the word's
abbrev pub caused : Result ℕ NumberFault → Result ℕ LineFault
caused (Ok n) = Ok n
caused (Err fault) = Err (cause_of fault)

-- the number that a word of decimal digits stands for
unfoldable pub decimal_of : List ℕ → Result ℕ LineFault
decimal_of word = caused (decimal_in_word word)

-- the address that a word of 1 to 16 lower-case hexadecimal digits stands for
unfoldable pub hexadecimal_of : List ℕ → Result ℕ LineFault
hexadecimal_of word = caused (hexadecimal_in_word word)
