use Rattle.part_book.proofs.Words.{◌≡◌, ◌+◌, ◌<◌, ◌≤◌, ℕ, cond, nat_lt, eqb, count_by, vec_len, vec_capacity, part_at}
use Rattle.part_book.proofs.table.reserve_numbers.Given as goal

abbrev pub invariant-loop-number : goal.invariant-loop-number
invariant-loop-number l = record {
  kept : (number : ℕ) → number < vec_len l.initial.slots → part_at l.slots.items number ≡ part_at l.initial.slots.items number;
  free : (number : ℕ) → count_by (λ n. eqb n number) l.free.items + cond (nat_lt number (vec_len l.initial.slots)) 1 0 ≡ count_by (λ n. eqb n number) l.initial.free.items + cond (nat_lt number (vec_len l.slots)) 1 0;
  places : vec_len l.free + vec_len l.initial.slots ≡ vec_len l.initial.free + vec_len l.slots;
  more : vec_len l.initial.slots ≤ vec_len l.slots;
  here : vec_len l.initial.slots ≤ l.all → vec_len l.slots ≡ l.number;
  past : l.all < vec_len l.initial.slots → vec_len l.slots ≡ vec_len l.initial.slots;
  room : vec_len l.slots ≤ vec_capacity l.free;
  free_room : l.all ≤ vec_capacity l.free;
  slots_room : l.all ≤ vec_capacity l.slots;
}
