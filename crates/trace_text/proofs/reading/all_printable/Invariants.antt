use Rattle.trace_text.proofs.Words.{◌≡◌, take, list_all, is_printable}
use Rattle.trace_text.proofs.reading.all_printable.Given as goal

abbrev pub invariant-loop-byte : goal.invariant-loop-byte
invariant-loop-byte l = l.all ≡ list_all is_printable (take l.byte-index l.line)
