use Rattle.hook_api.proofs.Words.{◌≡◌, ℕ, ◌<◌, length, slice_index_or, AreOf, no_orders, new_book}
use Rattle.hook_api.proofs.share.orders_in.Given as goal

abbrev pub invariant-loop-i : goal.invariant-loop-i
invariant-loop-i l = (length l.orders ≡ 32) × ((n : ℕ) → n < l.i → AreOf (slice_index_or l.orders n no_orders) (slice_index_or l.books n new_book).plans)
