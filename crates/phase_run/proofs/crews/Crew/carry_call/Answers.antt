use Rattle.std.proofs.Common.{◌≡◌, ◌∙◌, ◌<◌, Some, arith, length, refl, subst, sym}
use Rattle.std.specs.Prelude.{slice_get}
use Rattle.call_plan.specs.declared.needs.Request.{Request}
use Rattle.heap_runs.proofs.Passing.{get_is}
use Rattle.heap_runs.specs.Heaps.{CallDid}
use Rattle.heap_runs.specs.declared.heaps.Ctx.{Ctx}
use Rattle.phase_run.proofs.Setting.{call_carried}
use Rattle.phase_run.specs.declared.crews.Crew.{Crew}
use Rattle.phase_run.proofs.crews.Crew.carry_call.Goals as goal

pub returns-in_default : goal.returns-in_default
returns-in_default g c =
    let old : Crew = c.args.self in
    let ctx : Ctx = c.index_mut-ctx.result.now in
    let within : c.args.client < length old.ctxs.items = (let n = c.requires.ready.count in let low = c.requires.client in omega (arith, n, low)) in
    let at : slice_get old.ctxs.items c.args.client ≡ Some ctx = get_is old.ctxs.items c.args.client ctx within c.index_mut-ctx.ensures.value in
    call_carried c.args.shelf.now c.args.heap.now old _ c.args.client c.args.moment c.args.call ctx c.call.new.ctx c.call.result c.requires.ready c.requires.client at
    (subst (λ (r : Request). CallDid c.args.shelf.now c.args.heap.now ctx c.call.new.ctx r c.call.result) c.setting_request-request.ensures.request c.call.ensures.called) c.in_default.not-NoMemory c.call.ensures.may refl refl c.live_after-crew.ensures refl
