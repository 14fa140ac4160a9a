use Rattle.hook_api.proofs.Words.{◌≡◌, ◌+◌, ◌-◌, ◌≤◌, [], replicate, vec_capacity, vec_len, suc, All, IsNewSeat, blank, idle}
use Rattle.hook_api.proofs.locks.Locks.deal.Given as goal

abbrev pub invariant-loop : goal.invariant-loop
invariant-loop g l = record {
  table : l.place.table_id ≡ l.self.table.shared.table_id;
  left : l.place.me ≡ (idle (replicate (suc l.initial.clients - l.counter) blank), []);
  count : (vec_len l.items + 1 ≡ l.counter) × (l.counter ≤ l.initial.clients);
  dealt : All (λ seat. (seat.badge.table_id ≡ l.self.table.shared.table_id) × IsNewSeat seat) l.items.items;
  room : l.initial.clients ≤ vec_capacity l.items;
}
