use Rattle.std.proofs.Common.{◌≡◌, drop, map, string_bytes}
use Rattle.journals.specs.Wanted.{ruled_by, unruled}
use Rattle.journals.proofs.words.rules_by.Given as goal

-- the words that are left give these rules the others
abbrev pub invariant-loop-word : goal.invariant-loop-word
invariant-loop-word l = ruled_by unruled (map string_bytes l.words) ≡ ruled_by l.rules (map string_bytes (drop l.word-index l.words))
