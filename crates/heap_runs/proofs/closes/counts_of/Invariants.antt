use Rattle.heap_runs.proofs.Words.{◌≡◌, ◌≤◌, length}
use Rattle.std.proofs.Common.{vec_capacity}
use Rattle.heap_runs.proofs.Counting.{CountedTo}
use Rattle.heap_runs.proofs.closes.counts_of.Given as goal

abbrev pub invariant-loop-i : goal.invariant-loop-i
invariant-loop-i l = record {
  count : length l.counts.items ≡ l.i;
  room : length l.states ≤ vec_capacity l.counts;
  counted : CountedTo l.states l.counts.items;
}
