use Rattle.hook_api.proofs.Words.{◌≡◌, ℕ, ◌<◌, length, slice_index, slice_index_or, no_box}
use Rattle.hook_api.proofs.share.own_counts.Given as goal

abbrev pub invariant-loop-i : goal.invariant-loop-i
invariant-loop-i g l = (length l.own ≡ 32) × ((k : ℕ) → k < l.i → slice_index l.own k ≡ (slice_index_or l.desks k no_box).account.refusals)
