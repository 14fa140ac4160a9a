use Rattle.replay_run.proofs.Words.{◌≡◌, flat_map, range_with_len, record_at, closing_line, live_counts}
use Rattle.replay_run.proofs.replays.closing_text.Given as goal

-- the closing lines of the arenas so far
abbrev pub invariant-loop-index : goal.invariant-loop-index
invariant-loop-index l = l.text.items ≡ flat_map (λ i. closing_line i (live_counts (record_at l.state.heap.records i).space)) (range_with_len 0 l.index)
