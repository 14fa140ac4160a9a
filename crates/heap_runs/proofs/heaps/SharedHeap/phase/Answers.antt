use Rattle.std.proofs.Common.{◌≡◌, slice_index_or, sym, ◌∙◌, subst}
use Rattle.std.proofs.lemmas.Result.{IfOk-weaker}
use Rattle.std.proofs.lemmas.Option.{get_or_from_slice_get, slice_get_within}
use Rattle.heap_runs.proofs.Working.{all_may, if_both}
use Rattle.heap_runs.specs.Walks.{AllWorked, Worked}
use Rattle.heap_runs.specs.declared.heaps.Ctx.{Ctx}
use Rattle.heap_runs.specs.declared.phases.Job.{Job}
use Rattle.heap_runs.proofs.heaps.SharedHeap.phase.Goals as goal

pub returns-clause-worked : goal.returns-clause-worked
returns-clause-worked g c =
    let shelf = c.args.shelf.now in
    let heap = c.args.self.now in
    let jobs = c.args.jobs.items in
    IfOk-weaker c.map_vec.result _ (λ ctxs. AllWorked shelf heap jobs ctxs.items) (λ ctxs gives. λ i job ctx at here.
    let x = gives i ctx (slice_get_within jobs i job at) in
    let met = x.1.call.met in
    let said : Worked shelf heap x.1.job.ctx x.1.job.requests.items (slice_index_or ctxs.items i ctx) = search in
    let same : x.1.job ≡ job = sym (x.1.job_is job) ∙ get_or_from_slice_get jobs i job job at in
    subst (λ (n : Ctx). Worked shelf heap job.ctx job.requests.items n) (get_or_from_slice_get ctxs.items i ctx ctx here)
    (subst (λ (j : Job). Worked shelf heap j.ctx j.requests.items (slice_index_or ctxs.items i ctx)) same said)) c.map_vec.ensures.each

pub returns-clause-may : goal.returns-clause-may
returns-clause-may g c =
    let shelf = c.args.shelf.now in
    let heap = c.args.self.now in
    let jobs = c.args.jobs.items in
    if_both c.map_vec.result (λ ctxs count worked. all_may shelf heap jobs ctxs.items (sym ctxs.ok.0 ∙ count ∙ c.args.jobs.ok.0) worked) c.map_vec.ensures.len (returns-clause-worked g c)
