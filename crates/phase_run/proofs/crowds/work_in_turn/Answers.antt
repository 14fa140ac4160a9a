use Rattle.std.proofs.Common.{◌≡◌, [], arith}
use Rattle.std.proofs.lemmas.List.{nil_from_length}
use Rattle.std.specs.Vec.Iter.{into_iter_items}
use Rattle.heap_runs.specs.Heaps.{shelf_id}
use Rattle.phase_run.proofs.Pairs.{all_next, pairs_end, pairs_step}
use Rattle.phase_run.specs.Shifts.{HasWorked, MayWork}
use Rattle.phase_run.proofs.crowds.work_in_turn.Goals as goal

pub loop-worker-preserved : goal.loop-worker-preserved
loop-worker-preserved g c =
    let here = c.loop-worker in
    let old = into_iter_items here.worker-iterator in
    let rest = into_iter_items c.next.new.self in record {
      next = (tt, tt);
      may = all_next (MayWork (shelf_id c.args.shelf.now) c.args.heap.now) old rest c.in-Some.worker c.in-Some.ensures.steps.0 here.invariant.may;
      worked = pairs_step (HasWorked c.args.shelf.now c.args.heap.now) c.args.workers.items old rest c.in-Some.worker here.shifts.items c.push.new.self.items c.in_ok-work.field-0 c.in-Some.ensures.steps.0 c.in_ok-push.ensures.items here.invariant.worked c.in_ok-work.ensures;
    }

pub returns : goal.returns
returns g c =
    let here = c.loop-worker in
    let none : into_iter_items here.worker-iterator ≡ [] = nil_from_length (into_iter_items here.worker-iterator) (let e = c.in-None.ensures.steps.0 in let ok = here.worker-iterator.rest.ok in omega (arith, e, ok.0)) in
    pairs_end (HasWorked c.args.shelf.now c.args.heap.now) c.args.workers.items (into_iter_items here.worker-iterator) here.shifts.items none here.invariant.worked
