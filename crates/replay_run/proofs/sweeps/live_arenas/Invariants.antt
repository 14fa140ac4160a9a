use Rattle.replay_run.proofs.Words.{◌≡◌, range_with_len}
use Rattle.std.specs.List.{filter}
use Rattle.replay_run.specs.Controls.{is_live_at}
use Rattle.replay_run.proofs.sweeps.live_arenas.Given as goal

-- the live ones so far
abbrev pub invariant-loop-index : goal.invariant-loop-index
invariant-loop-index l = l.arenas.items ≡ filter (is_live_at l.heap.records) (range_with_len 0 l.index)
