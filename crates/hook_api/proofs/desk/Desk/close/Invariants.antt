use Rattle.hook_api.proofs.Words.{◌≡◌, ℕ, ◌<◌, ◌≤◌, length, slice_index_or, Pass, IsLeftOf, no_order}
use Rattle.hook_api.proofs.desk.Desk.close.Given as goal

abbrev pub invariant-loop-i : goal.invariant-loop-i
invariant-loop-i g l = record {
  size : length l.book.plans ≡ 8;
  taken : (k : ℕ) → k < l.i → IsLeftOf (slice_index_or l.orders.kinds k no_order).plan (slice_index_or l.book.plans k Pass);
  left : (k : ℕ) → l.i ≤ k → k < 8 → IsLeftOf (slice_index_or l.taken_over.kinds k no_order).plan (slice_index_or l.book.plans k Pass);
}
