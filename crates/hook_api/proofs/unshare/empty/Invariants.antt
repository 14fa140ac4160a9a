use Rattle.hook_api.proofs.Words.{◌≡◌, ℕ, ◌<◌, ◌≤◌, false, IsTrue, length, map, slice_index_or, take, vec_capacity, vec_len, slots_items, slots_len, slots_filled, AreInForce, BoxState, new_book, no_orders}
use Rattle.hook_api.proofs.unshare.empty.Given as goal

abbrev pub invariant-loop-i : goal.invariant-loop-i
invariant-loop-i g l = record {
  slots : (slots_len l.closed.slots ≡ 32) × (slots_items l.closed.slots ≡ slots_items l.initial.closed.slots);
  full : (k : ℕ) → l.i ≤ k → k < 32 → IsTrue (slice_index_or (slots_filled l.closed.slots) k false);
  emptied : (k : ℕ) → k < l.i → slice_index_or (slots_filled l.closed.slots) k false ≡ false;
  boxes : map g.H.ExtentHooks.account l.boxes.items ≡ take l.i (map (λ (d : BoxState). d.account) (slots_items l.initial.closed.slots));
  room : (vec_len l.boxes ≡ l.i) × (32 ≤ vec_capacity l.boxes);
  books : length l.books ≡ 32;
  in_force : (k : ℕ) → k < l.i → AreInForce (slice_index_or l.orders k no_orders) (slice_index_or l.books k new_book).plans;
}
