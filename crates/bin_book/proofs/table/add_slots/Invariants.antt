use Rattle.bin_book.proofs.Words.{◌≡◌, ℕ, ◌+◌, ◌-◌, ◌<◌, ◌≤◌, ◌++◌, vec_len, vec_capacity, range_with_len, bits_at}
use Rattle.bin_book.proofs.table.add_slots.Given as goal

abbrev pub invariant-loop-number : goal.invariant-loop-number
invariant-loop-number l = record {
  len : vec_len l.slots ≡ l.number;
  more : vec_len l.fn.slots ≤ l.number;
  kept : (n : ℕ) → n < vec_len l.fn.slots → bits_at l.slots.items n ≡ bits_at l.fn.slots.items n;
  free : l.free.items ≡ l.fn.free.items ++ range_with_len (vec_len l.fn.slots) (l.number - vec_len l.fn.slots);
  places : vec_len l.free + vec_len l.fn.slots ≡ vec_len l.fn.free + l.number;
  room : l.all ≤ vec_capacity l.free;
  wide : vec_capacity l.fn.free ≤ vec_capacity l.free;
  slots_room : l.all ≤ vec_capacity l.slots;
}
