use Rattle.bin_book.proofs.Words.{◌≡◌, ℕ, ◌+◌, ◌*◌, ◌<◌, ◌≤◌, ◌⊎◌, Some, length, holder_at}
use Rattle.bin_book.proofs.holders.Holders.give.Given as goal

abbrev pub invariant-loop-region : goal.invariant-loop-region
invariant-loop-region l = record {
  len : length l.self ≡ length l.fn.self;
  here : (region : ℕ) → region < l.region → holder_at l.self (512 * l.slot + region) ≡ Some l.client;
  others : (place : ℕ) → (place < 512 * l.slot) ⊎ (512 * l.slot + l.count ≤ place) → holder_at l.self place ≡ holder_at l.fn.self place;
}
