use Rattle.hook_api.proofs.Words.{◌≡◌, ℕ, ◌<◌, length, slice_index_or, Pass, no_order}
use Rattle.hook_api.proofs.orders.Orders.of.Given as goal

abbrev pub invariant-loop-i : goal.invariant-loop-i
invariant-loop-i l = (length l.orders.kinds ≡ 8) × ((k : ℕ) → k < l.i → (slice_index_or l.orders.kinds k no_order).plan ≡ slice_index_or l.book.plans k Pass)
