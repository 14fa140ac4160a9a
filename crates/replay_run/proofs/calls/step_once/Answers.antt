use Rattle.replay_run.proofs.Words.{arith}
use Rattle.replay_run.proofs.Begins.{ok_holds}
use Rattle.replay_run.proofs.Stops.{goes_stop}
use Rattle.replay_run.proofs.calls.step_once.Goals as goal

pub returns-in_err-next-clause-goes : goal.returns-in_err-next-clause-goes
returns-in_err-next-clause-goes g c = λ from lines awaits awaited shown so.
    goes_stop from lines _ c.from_residual.result c.in_err-next.field-0.0 _ c.from_residual.ensures.1 (c.in_err-next.ensures.goes from lines awaits awaited shown so)

pub returns-in-Some-clause-goes : goal.returns-in-Some-clause-goes
returns-in-Some-clause-goes g c = λ from lines awaits awaited shown so.
    let on = c.in_ok-next.ensures.goes from lines awaits awaited shown so in
    c.begin_next.ensures.goes from lines awaits _ (rw c.in-Some.is at on)

pub returns-in-None-clause-goes : goal.returns-in-None-clause-goes
returns-in-None-clause-goes g c = λ from lines awaits awaited shown so.
    let on = c.in_ok-next.ensures.goes from lines awaits awaited shown so in rw c.in-None.is at on

pub returns-in-Some-clause-longer : goal.returns-in-Some-clause-longer
returns-in-Some-clause-longer g c = ok_holds c.begin_next.result _ (omega (arith, c.in_ok-next.ensures.longer, c.begin_next.ensures.same))

pub begin_next-requires-clause-rests : goal.begin_next-requires-clause-rests
begin_next-requires-clause-rests g c = rw c.in-Some.is at c.in_ok-next.ensures.rests

pub begin_next-requires-clause-range : goal.begin_next-requires-clause-range
begin_next-requires-clause-range g c = rw c.in-Some.is at c.in_ok-next.ensures.range
