use Rattle.std.specs.List.{All}
use Rattle.std.proofs.Common.{List, sym, subst, arith}
use Rattle.std.proofs.lemmas.List.Elements.{All-push}
use Rattle.shared_trials.specs.declared.tests.boxes.FickleHooks.{FickleHooks}
use Rattle.heap_runs.specs.Walks.{MayWork}
use Rattle.heap_runs.specs.declared.phases.Job.{Job}
use Rattle.shared_trials.proofs.tests.phases.jobs.Goals as goal

pub loop-ctx-preserved : goal.loop-ctx-preserved
loop-ctx-preserved c =
    let May : Job → Type 0 = MayWork {H = FickleHooks} c.args.shelf.now c.args.heap.now in
    record {
      ctxs = c.last.ensures.rest;
      jobs = subst (All May) (sym {A = List Job} c.in_ok-push.ensures.items) (All-push May c.loop-ctx.jobs.items c.in_ok-job.field-0 c.loop-ctx.invariant.jobs c.in_ok-job.ensures);
      count = grind (arith, c.loop-ctx.invariant.count, c.in-Some.ensures.fewer, c.in_ok-push.ensures.items);
    }
