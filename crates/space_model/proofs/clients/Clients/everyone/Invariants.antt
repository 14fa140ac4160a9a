use Rattle.std.proofs.Common.{◌≡◌}
use Rattle.space_model.proofs.Words.{range_with_len}
use Rattle.space_model.proofs.clients.Clients.everyone.Given as goal

-- the clients so far, by number
abbrev pub invariant-loop-client : goal.invariant-loop-client
invariant-loop-client l = l.everyone ≡ range_with_len 0 l.client
