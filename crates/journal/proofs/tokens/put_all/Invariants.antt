use Rattle.std.proofs.Common.{◌≡◌, ◌++◌, map, take}
use Rattle.journal.specs.Entries.{spaced, token_word}
use Rattle.journal.proofs.tokens.put_all.Given as goal

-- the words so far
abbrev pub invariant-loop-token : goal.invariant-loop-token
invariant-loop-token l = l.out.items ≡ l.fn.out.items ++ spaced (map token_word (take l.token-index l.tokens))
