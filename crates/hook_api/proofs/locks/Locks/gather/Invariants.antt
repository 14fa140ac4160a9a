use Rattle.hook_api.proofs.Words.{◌≡◌, ◌++◌, [], None, vec_len, All, tallies_of}
use Rattle.hook_api.proofs.locks.Locks.gather.Given as goal

abbrev pub invariant-loop-seat : goal.invariant-loop-seat
invariant-loop-seat g l = record {
  table : l.place.table_id ≡ l.self.table.shared.table_id;
  home : (l.place.me.0.taken ≡ None) × (l.place.me.1 ≡ []);
  tallies : tallies_of l.items.items ++ l.place.me.0.tallies ≡ tallies_of l.initial.items.items ++ l.initial.place.me.0.tallies;
  ours : All (λ seat. seat.badge.table_id ≡ l.self.table.shared.table_id) l.items.items;
}

abbrev pub decreases-loop-seat : goal.decreases-loop-seat
decreases-loop-seat g l = vec_len l.items
