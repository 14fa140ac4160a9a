use Rattle.std.proofs.Common.{List, subst, ℕ}
use Rattle.std.proofs.lemmas.Result.{IfOk-weaker}
use Rattle.phase_run.proofs.Shifting.{shifted_on}
use Rattle.phase_run.specs.Shifts.{HasWorked, Shifted, background, first_shift}
use Rattle.phase_run.specs.declared.tally.Tally.{Tally}
use Rattle.phase_run.specs.declared.workers.Shift.{Shift}
use Rattle.phase_run.proofs.workers.work.Goals as goal

pub returns : goal.returns
returns g c =
    let shelf = c.args.shelf.now in
    let heap = c.args.heap.now in
    let worker = c.args.worker in
    let now = worker.job.moment in
    let calls = worker.job.calls in
    let mid : Shift = c.in_ok-shift.shift in
    let first = subst (λ (t : Tally). Shifted shelf heap now calls (record { ctx = worker.ctx; names = worker.job.names; tally = t }) mid) c.new.ensures c.in_ok-shift.ensures in
    IfOk-weaker c.make_rounds.result (λ new. Shifted shelf heap now (background c.deref.result.now worker.rounds) mid new) (HasWorked shelf heap worker)
    (λ new more. shifted_on shelf heap now calls (background worker.arenas.items worker.rounds) (first_shift worker) mid new first (subst (λ (l : List ℕ). Shifted shelf heap now (background l worker.rounds) mid new) c.deref.ensures.value more)) c.make_rounds.ensures
