use Rattle.replay_run.proofs.Words.{◌≡◌, ◌+◌, range_with_len}
use Rattle.std.specs.Prelude.{fold, if◌then◌else◌}
use Rattle.replay_run.specs.Controls.{is_live_at}
use Rattle.replay_run.proofs.controls.arena_count.Given as goal

-- one more than the highest live index so far
abbrev pub invariant-loop-index : goal.invariant-loop-index
invariant-loop-index l = l.count ≡ fold (λ count index. if is_live_at l.heap.records index then index + 1 else count) 0 (range_with_len 0 l.index)
