use Rattle.part_book.proofs.Words.{◌≡◌, ◌<◌, ℕ, false, get_or}
use Rattle.part_book.proofs.Indexes.{is_flown}
use Rattle.part_book.proofs.table.Table.next_flight.Given as goal

abbrev pub invariant-loop-number : goal.invariant-loop-number
invariant-loop-number l = (k : ℕ) → k < l.number-index → is_flown l.self.slots.items l.client (get_or l.self.flights.items k 0) ≡ false
