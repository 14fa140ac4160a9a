use Rattle.std.proofs.Common.{◌≡◌, List, subst, sym}
use Rattle.std.specs.Vec.Iter.{into_iter_items}
use Rattle.phase_run.specs.Crews.{AreWith}
use Rattle.phase_run.specs.declared.workers.Shift.{Shift}
use Rattle.phase_run.proofs.crews.Crew.take_all_back.Goals as goal

pub loop-shift-preserved : goal.loop-shift-preserved
loop-shift-preserved c =
    let here = c.loop-shift in record {
      next = (tt, tt);
      behind = λ new are. here.invariant.behind new (subst (λ (l : List Shift). AreWith here.crew l new) (sym c.in-Some.ensures.steps.0) (c.take_back.new.self, c.in_ok-take_back.ensures, are));
    }
