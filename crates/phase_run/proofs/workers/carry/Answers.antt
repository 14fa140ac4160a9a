use Rattle.std.proofs.Common.{◌≡◌, refl, subst}
use Rattle.call_plan.specs.declared.needs.Request.{Request}
use Rattle.heap_runs.specs.Heaps.{CallDid}
use Rattle.phase_run.proofs.Shifting.{carries_by, if_on}
use Rattle.phase_run.proofs.workers.carry.Goals as goal

pub returns-in_default : goal.returns-in_default
returns-in_default g c =
    let same : c.desk.result.now.facts ≡ c.call.new.ctx.desk.facts = rw c.desk.ensures refl in
    if_on c.bind_answer.result (λ names u. carries_by c.args.shelf.now c.args.heap.now c.args.moment c.args.call c.args.shift.now _ c.call.result c.desk.result.now.facts
    (subst (λ (r : Request). CallDid c.args.shelf.now c.args.heap.now c.args.shift.now.ctx c.call.new.ctx r c.call.result) c.request_of-request.ensures.request c.call.ensures.called) c.in_default.not-NoMemory same names c.count.ensures c.call.ensures.may) c.bind_answer.ensures
