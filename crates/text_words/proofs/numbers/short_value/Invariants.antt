use Rattle.text_words.proofs.Names.{◌≡◌, true, take, list_all, digits_value, is_digit_in}
use Rattle.text_words.proofs.numbers.short_value.Given as goal

abbrev pub invariant-loop-byte : goal.invariant-loop-byte
invariant-loop-byte l = record {
  all : list_all (is_digit_in l.radix) (take l.byte-index l.word) ≡ true;
  value : l.value ≡ digits_value l.radix (take l.byte-index l.word);
}
