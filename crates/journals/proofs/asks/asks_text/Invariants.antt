use Rattle.std.proofs.Common.{◌≡◌, ◌++◌, drop}
use Rattle.journals.specs.Asks.{asks_text}
use Rattle.journals.proofs.asks.asks_text.Given as goal

-- the text so far, and that of the asks that are left
abbrev pub invariant-loop-asked : goal.invariant-loop-asked
invariant-loop-asked l = l.text.items ++ asks_text (drop l.asked-index l.asks) ≡ asks_text l.asks
