use Rattle.std.proofs.Common.{◌≡◌, ◌+◌, length, vec_len}
use Rattle.std.specs.List.{All}
use Rattle.heap_runs.specs.Heaps.{MayCall, shelf_id}
use Rattle.heap_runs.specs.Walks.{MayWork}
use Rattle.shared_trials.proofs.tests.phases.jobs.Given as goal

abbrev pub invariant-loop-ctx : goal.invariant-loop-ctx
invariant-loop-ctx l = record {
  ctxs : All (MayCall (shelf_id l.shelf) l.heap) l.ctxs.items;
  jobs : All (MayWork l.shelf l.heap) l.jobs.items;
  count : length l.jobs.items + length l.ctxs.items ≡ length l.fn.ctxs.items;
}

abbrev pub decreases-loop-ctx : goal.decreases-loop-ctx
decreases-loop-ctx l = vec_len l.ctxs
