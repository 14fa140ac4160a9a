use Rattle.std.proofs.Common.{◌≡◌, ◌+◌, ◌≤◌, take, length, vec_len, vec_capacity}
use Rattle.heap_runs.specs.Closes.{AreClosed, AreLeft}
use Rattle.heap_runs.proofs.heaps.SharedHeap.close_locks.Given as goal

abbrev pub invariant-loop-lock : goal.invariant-loop-lock
invariant-loop-lock l = record {
  locks : l.locks.items ≡ take (length l.locks.items) l.fn.self.locks.items;
  left : AreLeft l.fn.ctxs.items (length l.locks.items) l.ctxs.items;
  count : length l.states.items + length l.locks.items ≡ 32;
  closed : AreClosed l.fn.self l.fn.ctxs.items l.states.items;
  room : 32 ≤ vec_capacity l.states;
}

abbrev pub decreases-loop-lock : goal.decreases-loop-lock
decreases-loop-lock l = vec_len l.locks
