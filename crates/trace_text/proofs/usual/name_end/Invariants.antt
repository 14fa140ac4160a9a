use Rattle.trace_text.proofs.Words.{◌≡◌, true, take, list_all, is_name_byte}
use Rattle.trace_text.proofs.usual.name_end.Given as goal

abbrev pub invariant-loop-at : goal.invariant-loop-at
invariant-loop-at l = list_all is_name_byte (take l.at l.bytes) ≡ true
