use Rattle.replay_run.proofs.Words.{◌≡◌, None, replicate}
use Rattle.replay_run.proofs.state.no_calls.Given as goal

abbrev pub invariant-loop-client : goal.invariant-loop-client
invariant-loop-client l = l.calls.items ≡ replicate l._client None
