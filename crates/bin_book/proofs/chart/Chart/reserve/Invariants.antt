use Rattle.bin_book.proofs.Words.{◌≡◌, ℕ, ◌<◌, ◌≤◌, vec_len, vec_capacity, first_at}
use Rattle.bin_book.proofs.chart.Chart.reserve.Given as goal

abbrev pub invariant-loop : goal.invariant-loop
invariant-loop l = record {
  pages : l.self.pages ≡ l.initial.self.pages;
  kept : (n : ℕ) → n < vec_len l.initial.self.firsts → first_at l.self.firsts.items n ≡ first_at l.initial.self.firsts.items n;
  more : vec_len l.initial.self.firsts ≤ vec_len l.self.firsts;
  here : vec_len l.initial.self.firsts ≤ l.slots → vec_len l.self.firsts ≡ l.counter;
  room : l.slots ≤ vec_capacity l.self.firsts;
}
