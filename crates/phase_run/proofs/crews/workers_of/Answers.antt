use Rattle.std.proofs.Common.{◌≡◌, ◌∙◌, ◌++◌, ◌+◌, ◌≤◌, ℕ, List, [], ◌∷◌, ap, sym, subst, append-nil, append_assoc, arith, length, length-append}
use Rattle.std.specs.List.{All}
use Rattle.std.specs.Vec.Iter.{into_iter_items}
use Rattle.std.proofs.lemmas.List.{nil_from_length}
use Rattle.std.proofs.lemmas.List.Elements.{All-head, All-push, All-tail}
use Rattle.heap_runs.specs.Heaps.{MayCall}
use Rattle.heap_runs.specs.declared.heaps.Ctx.{Ctx}
use Rattle.trace_phase.specs.declared.parts.PhaseCall.{PhaseCall}
use Rattle.phase_run.specs.Crews.{AreFrom, IsWorker}
use Rattle.phase_run.specs.Crowds.{Pairwise}
use Rattle.phase_run.specs.Shifts.{MayWork}
use Rattle.phase_run.specs.Stands.{calls_by}
use Rattle.phase_run.specs.declared.workers.Worker.{Worker}
use Rattle.phase_run.proofs.Phasing.{worker_is, worker_may}
use Rattle.phase_run.proofs.crews.workers_of.Goals as goal

pub loop-ctx-preserved : goal.loop-ctx-preserved
loop-ctx-preserved c =
    let here = c.loop-ctx in
    let was = here.invariant in
    let phase = c.args.phase in
    let ctx : Ctx = c.in-Some.ctx in
    let rest : List Ctx = into_iter_items c.next.new.self in
    let steps : into_iter_items here.ctx-iterator ≡ ctx ∷ rest = c.in-Some.ensures.steps.0 in
    let from : AreFrom (length here.workers.items) (ctx ∷ rest) = subst (AreFrom (length here.workers.items)) steps was.clients in
    let worker : Worker = c.in_ok-worker_of.field-0 in
    let told = c.in_ok-worker_of.ensures in
    let taken : List PhaseCall = c.take_calls-calls.result in
    let client : c.client.result ≡ ctx.client = c.client.ensures in
    let at : length here.workers.items ≤ ctx.client = (let first = from.0 in omega (arith, first)) in
    let own : taken ≡ calls_by ctx.client phase.works = c.take_calls-calls.ensures.calls ∙ ap (λ k. calls_by k here.works.items) client ∙ was.left ctx.client at in
    let arenas = told.5 ∙ c.deref.ensures.value in
    let is : IsWorker c.args.names.now c.args.live.now phase ctx worker =
    worker_is c.args.names.now c.args.live.now phase ctx worker taken told.0 told.1 told.2 told.3 told.4 (arenas ∙ c.in_ok-arenas.ensures.arenas) own in
    let few : length worker.arenas.items ≤ 32 = subst (λ l. length l ≤ 32) (sym arenas) c.in_ok-arenas.ensures.few in
    let pushed : c.push.new.self.items ≡ here.workers.items ++ worker ∷ [] = c.in_ok-push.ensures.items in
    let long : length c.push.new.self.items ≡ length here.workers.items + 1 = ap length pushed ∙ length-append here.workers.items (worker ∷ []) in record {
      next = (tt, tt);
      clients = subst (λ n. AreFrom n rest) (sym long) from.1;
      left = λ k high. c.take_calls-calls.ensures.others k (λ same. let first = from.0 in omega (arith, high, long, same, client, first)) ∙ was.left k (omega (arith, high, long));
      are = λ more pairs.
          subst (λ (l : List Worker). Pairwise (IsWorker c.args.names.now c.args.live.now phase) c.args.ctxs.items l) (sym (ap (λ l. l ++ more) pushed ∙ append_assoc here.workers.items (worker ∷ []) more))
          (was.are (worker ∷ more) (subst (λ (l : List Ctx). Pairwise (IsWorker c.args.names.now c.args.live.now phase) l (worker ∷ more)) (sym steps) (is, pairs)));
      may = λ shelf heap all.
          let so = was.may shelf heap all in
          let left : All (MayCall shelf heap) (ctx ∷ rest) = subst (All (MayCall shelf heap)) steps so.1 in (
            subst (All (MayWork shelf heap)) (sym pushed) (All-push (MayWork shelf heap) here.workers.items worker so.0 (worker_may shelf heap ctx worker told.0 few (All-head (MayCall shelf heap) ctx rest left))),
            All-tail (MayCall shelf heap) ctx rest left,
          );
    }

pub returns-clause-workers : goal.returns-clause-workers
returns-clause-workers c =
    let workers = c.loop-ctx.workers.items in
    let it = c.loop-ctx.ctx-iterator in
    let none : into_iter_items it ≡ [] = nil_from_length (into_iter_items it) (let e = c.in-None.ensures.steps.0 in let ok = it.rest.ok in omega (arith, e, ok.0)) in
    let R = IsWorker c.args.names.now c.args.live.now c.args.phase in
    subst (λ (l : List Worker). Pairwise R c.args.ctxs.items l) (append-nil workers) (c.loop-ctx.invariant.are [] (subst (λ (l : List Ctx). Pairwise R l []) (sym none) tt))

pub returns-clause-may : goal.returns-clause-may
returns-clause-may c = λ shelf heap all. (c.loop-ctx.invariant.may shelf heap all).0
