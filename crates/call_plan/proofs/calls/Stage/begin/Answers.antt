use Rattle.call_plan.proofs.Words.{subst, sym, Malloc, Memalign, Realloc, Stage, IsSizedNext}
use Rattle.std.proofs.lemmas.Result.{on_ok_weaker}
use Rattle.call_plan.proofs.Credits.{begin-is_call}
use Rattle.call_plan.proofs.calls.Stage.begin.Goals as goal

pub returns-in-Malloc-clause-sized : goal.returns-in-Malloc-clause-sized
returns-in-Malloc-clause-sized c =
    subst (λ (at : Stage). IsSizedNext at.next) (sym c.malloc.ensures.stage) (begin-is_call (Malloc c.in-Malloc.size) c.args.desk.now.facts).1

pub returns-in-Memalign-clause-sized : goal.returns-in-Memalign-clause-sized
returns-in-Memalign-clause-sized c =
    subst (λ (at : Stage). IsSizedNext at.next) (sym c.memalign.ensures.stage) (begin-is_call (Memalign c.in-Memalign.align c.in-Memalign.size) c.args.desk.now.facts).1

pub returns-in-Realloc-clause-sized : goal.returns-in-Realloc-clause-sized
returns-in-Realloc-clause-sized c =
    on_ok_weaker c.realloc.result
    (λ e. subst (λ (at : Stage). IsSizedNext at.next) (sym e) (begin-is_call (Realloc c.in-Realloc.addr c.in-Realloc.size) c.args.desk.now.facts).1) c.realloc.ensures.stage
