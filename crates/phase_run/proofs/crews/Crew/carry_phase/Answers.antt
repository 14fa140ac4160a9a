use Rattle.std.proofs.Common.{refl}
use Rattle.std.proofs.lemmas.Result.{IfOk-weaker}
use Rattle.trace_phase.specs.declared.parts.Part.TheVariants as part
use Rattle.heap_runs.specs.Heaps.{shelf_id}
use Rattle.phase_run.proofs.Phasing.{phase_carried}
use Rattle.phase_run.specs.Crews.{AreWith, Carried}
use Rattle.phase_run.specs.declared.crews.Crew.{Crew}
use Rattle.phase_run.proofs.crews.Crew.carry_phase.Goals as goal

pub returns : goal.returns
returns g c =
    let shelf = c.args.shelf.now in
    let heap = c.args.heap.now in
    let old : Crew = c.args.self in
    let inner : Crew = record { ctxs = c.new.result; names = old.names; live = old.live; tally = old.tally } in
    let shifts = c.in_ok-shifts.shifts.items in
    IfOk-weaker c.take_all_back.result (λ new. AreWith inner shifts new) (λ new. Carried shelf heap old (part.Phase c.args.phase) shelf new)
    (λ new back. phase_carried shelf heap old inner new c.args.phase c.in_ok-workers.workers.items shifts c.requires.ready c.fits.ensures c.new.ensures.items refl refl refl c.in_ok-workers.ensures.workers c.in_ok-shifts.ensures back) c.take_all_back.ensures

pub work_at_once-requires-after_bounds : goal.work_at_once-requires-after_bounds
work_at_once-requires-after_bounds g c κs within = c.in_ok-workers.ensures.may (shelf_id c.args.shelf.now) c.args.heap.now c.requires.ready.may
