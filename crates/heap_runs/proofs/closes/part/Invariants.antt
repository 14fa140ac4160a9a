use Rattle.heap_runs.proofs.Words.{◌≡◌, ◌+◌, ◌≤◌, length, take}
use Rattle.std.proofs.Common.{vec_capacity, vec_len}
use Rattle.heap_runs.proofs.Parting.{PartedTo}
use Rattle.heap_runs.proofs.closes.part.Given as goal

abbrev pub invariant-loop-state : goal.invariant-loop-state
invariant-loop-state l = record {
  left : l.states.items ≡ take (length l.states.items) l.fn.states.items;
  count : length l.journals.items + length l.states.items ≡ length l.fn.states.items;
  same : length l.seats.items ≡ length l.journals.items;
  room : (length l.fn.states.items ≤ vec_capacity l.journals) × (length l.fn.states.items ≤ vec_capacity l.seats);
  parted : PartedTo l.fn.states.items l.journals.items l.seats.items;
}

abbrev pub decreases-loop-state : goal.decreases-loop-state
decreases-loop-state l = vec_len l.states
