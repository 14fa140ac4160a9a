use Rattle.heap_runs.proofs.Words.{◌<◌, moment_at, IsCtxOf, Runs, Stands, shelf_id}
use Rattle.heap_runs.proofs.heaps.SharedHeap.run.Given as goal

abbrev pub invariant-loop : goal.invariant-loop
invariant-loop g l = record {
  next : (goal.iterator-loop g).can_next l.iterator';
  finite : (goal.iterator-loop g).is_finite l.iterator';
  box_no : l.box_no < 32;
  ctx : IsCtxOf (shelf_id l.shelf) l.self l.ctx;
  stands : Stands l.self l.ctx l.call;
  runs : Runs l.shelf l.self l.initial.ctx l.ctx (moment_at l.initial.call l.initial.ctx.desk.facts) (moment_at l.call l.ctx.desk.facts) l.box_no;
}
