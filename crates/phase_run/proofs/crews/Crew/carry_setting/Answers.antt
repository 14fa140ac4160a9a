use Rattle.std.proofs.Common.{subst, sym}
use Rattle.trace_phase.specs.declared.parts.Part.TheVariants as part
use Rattle.phase_run.proofs.Setting.{plan_carried}
use Rattle.phase_run.specs.Crews.{Carried}
use Rattle.phase_run.proofs.crews.Crew.carry_setting.Goals as goal

pub returns-in-Refuse : goal.returns-in-Refuse
returns-in-Refuse g c =
    subst (λ s. Carried c.args.shelf.now c.args.heap.now c.args.self (part.Setting s) c.plan.new.self c.args.self) (sym c.in-Refuse.is)
    (plan_carried c.args.shelf.now c.args.heap.now c.plan.new.self c.args.self c.in-Refuse.box_no c.in-Refuse.kind c.in-Refuse.nth c.requires.ready c.plan.ensures.plan c.plan.ensures.locks)
