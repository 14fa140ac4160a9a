use Rattle.text_words.proofs.Names.{◌≡◌, ◌<◌, ◌^◌, take, digits_value}
use Rattle.text_words.proofs.numbers.long_value.Given as goal

abbrev pub invariant-loop-digit : goal.invariant-loop-digit
invariant-loop-digit l = (l.value ≡ digits_value 10 (take l.digit-index l.digits)) × (l.value < 2 ^ 64)
