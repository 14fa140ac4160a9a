use Rattle.std.proofs.Common.{◌∙◌, ◌++◌, ◌∷◌, [], take, sym, ap, subst, arith}
use Rattle.std.proofs.lemmas.List.{take_more}
use Rattle.heap_runs.specs.Walks.{Worked}
use Rattle.heap_runs.proofs.Working.{worked_more, worked_none}
use Rattle.heap_runs.proofs.heaps.SharedHeap.work.Goals as goal

pub loop-i-init : goal.loop-i-init
loop-i-init g c = worked_none c.args.shelf.now c.args.self.now c.args.job.ctx c.requires.job.may

pub loop-i-preserved : goal.loop-i-preserved
loop-i-preserved g c =
    subst (λ rs. Worked c.args.shelf.now c.args.self.now c.args.job.ctx rs c.call-answer.new.ctx)
    (ap (λ x. take c.loop-i.i c.args.job.requests.items ++ x ∷ []) c.index.ensures ∙ sym (take_more c.args.job.requests.items c.loop-i.i c.index.result.now (let test = c.loop-i-test.true in let end = c.len-i-end.ensures in omega (arith, test, end))))
    (worked_more c.args.shelf.now c.args.self.now c.args.job.ctx c.loop-i.ctx c.call-answer.new.ctx (take c.loop-i.i c.args.job.requests.items) c.index.result.now c.call-answer.result c.loop-i.invariant c.call-answer.ensures.may c.call-answer.ensures.called)
