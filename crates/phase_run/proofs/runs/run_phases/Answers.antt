use Rattle.std.proofs.Common.{◌≡◌, ◌∙◌, ◌⊎◌, inl, inr, ℕ, ap, refl, sym, subst}
use Rattle.std.specs.Prelude.{slice_index}
use Rattle.hook_api.specs.Shared.{HasCounted, orders_of, own_at_share}
use Rattle.hook_api.specs.Shelf.{box_at}
use Rattle.hook_api.specs.declared.locks.Locks.{Locks}
use Rattle.phase_run.specs.Threads.{refused_in}
use Rattle.phase_run.proofs.Telling.{has_told}
use Rattle.phase_run.proofs.runs.run_phases.Goals as goal

pub returns-in-Ok-carry_phases : goal.returns-in-Ok-carry_phases
returns-in-Ok-carry_phases g c =
    has_told c.args.with_journals c.args.phases c.args.shelf c.tell_carried.result.shelf _ _ _ c.in-Ok.shared.0 c.carry_phases.new.shelf c.in-Ok-carry_phases.carried.closed c.in-Ok-carry_phases.carried.numbers c.in-Ok.ensures.own c.in-Ok.ensures.plans c.in-Ok-carry_phases.ensures.carried c.in-Ok-carry_phases.ensures.locks c.tell_carried.ensures.counted c.tell_carried.ensures.tells
