use Rattle.turn_lock.proofs.Words.{◌≡◌, ◌++◌, true, [], vec_len, All, is_idle, IsPassOf}
use Rattle.turn_lock.proofs.Closing.{claims_in}
use Rattle.turn_lock.proofs.lock.TurnLock.close.Given as goal

abbrev pub invariant-loop-other : goal.invariant-loop-other
invariant-loop-other g l = record {
  table : l.seat.table_id ≡ l.initial.seat.table_id;
  idle : is_idle l.seat.me.0.stage ≡ true;
  home : l.seat.me.1 ≡ [];
  claims : claims_in l.items.items ++ l.seat.me.0.claims ≡ claims_in l.initial.items.items ++ l.initial.seat.me.0.claims;
  of_this : All (IsPassOf l.self) l.items.items;
}

abbrev pub decreases-loop-other : goal.decreases-loop-other
decreases-loop-other g l = vec_len l.items
