use Rattle.text_words.proofs.Names.{◌≡◌, true, take, list_all, is_in_word}
use Rattle.text_words.proofs.words.before.Given as goal

-- no separator so far
abbrev pub invariant-loop-at : goal.invariant-loop-at
invariant-loop-at l = list_all (is_in_word l.separator) (take l.at l.bytes) ≡ true
