use Rattle.std.proofs.Common.{◌≡◌, ◌++◌, ℕ, ◌≤◌, List, length}
use Rattle.std.specs.List.{All}
use Rattle.std.specs.Vec.Iter.{into_iter_items}
use Rattle.atomic_table.specs.Seated.{TableId}
use Rattle.heap_runs.specs.Heaps.{MayCall}
use Rattle.heap_runs.specs.declared.heaps.SharedHeap.{SharedHeap}
use Rattle.phase_run.specs.Crews.{AreFrom, IsWorker}
use Rattle.phase_run.specs.Crowds.{Pairwise}
use Rattle.phase_run.specs.Shifts.{MayWork}
use Rattle.phase_run.specs.Stands.{calls_by}
use Rattle.phase_run.specs.declared.workers.Worker.{Worker}
use Rattle.phase_run.proofs.crews.workers_of.Given as goal

-- the contexts that are left lead on to where all lead; the calls of those clients weren't taken yet
abbrev pub invariant-loop-ctx : goal.invariant-loop-ctx
invariant-loop-ctx l = record {
  next : goal.iterator-loop-ctx.can_next l.ctx-iterator × goal.iterator-loop-ctx.is_finite l.ctx-iterator;
  clients : AreFrom (length l.workers.items) (into_iter_items l.ctx-iterator);
  left : (c : ℕ) → length l.workers.items ≤ c → calls_by c l.works.items ≡ calls_by c l.fn.phase.works;
  are : (more : List Worker) → Pairwise (IsWorker l.names l.live l.fn.phase) (into_iter_items l.ctx-iterator) more → Pairwise (IsWorker l.names l.live l.fn.phase) l.fn.ctxs.items (l.workers.items ++ more);
  may : (shelf : TableId) (heap : SharedHeap) → All (MayCall shelf heap) l.fn.ctxs.items → All (MayWork shelf heap) l.workers.items × All (MayCall shelf heap) (into_iter_items l.ctx-iterator);
}
