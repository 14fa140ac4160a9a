use Rattle.std.proofs.Common.{◌≡◌, length}
use Rattle.text_words.specs.Words.{words_of}
use Rattle.ctl_names.specs.Names.{match_parts}
use Rattle.ctl_names.proofs.names.CtlName.matched.Given as goal

-- what is left matches as the whole does
abbrev pub invariant-loop-part : goal.invariant-loop-part
invariant-loop-part l = match_parts l.found l.parts l.words ≡ match_parts l.fn.self (words_of 46 l.pattern) (words_of 46 l.name)

abbrev pub decreases-loop-part : goal.decreases-loop-part
decreases-loop-part l = length l.parts
