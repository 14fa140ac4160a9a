use Rattle.trace_text.proofs.Words.{◌≡◌, ◌≤◌, ◌<◌, ◌++◌, map, drop, length, words_of}
use Rattle.trace_text.proofs.Splits.{NoSpace}
use Rattle.trace_text.proofs.reading.split.Given as goal

abbrev pub invariant-loop-at : goal.invariant-loop-at
invariant-loop-at l = record {
  room : length l.words.items < 6;
  front : l.start ≤ l.at;
  plain : NoSpace l.line l.start l.at;
  so_far : words_of l.line ≡ map (λ w. w.now) l.words.items ++ words_of (drop l.start l.line);
}
