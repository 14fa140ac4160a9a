use Rattle.replay_run.proofs.Words.{arith, ◌≡◌, true, false, sym, ◌∙◌, has_open_call}
use Rattle.replay_run.proofs.Begins.{awaits_going}
use Rattle.replay_run.proofs.Longer.{steps_few}
use Rattle.replay_run.proofs.Stops.{goes_stop}
use Rattle.replay_run.proofs.calls.run_steps.Goals as goal

pub returns-in_err-step_once-clause-goes : goal.returns-in_err-step_once-clause-goes
returns-in_err-step_once-clause-goes g c = λ from lines awaits awaited shown so.
    let open_now : has_open_call c.steps.state.heap c.args.client ≡ true = sym c.has_call.ensures ∙ c.steps-test.true in
    let here = rw (open_now, awaits_going awaits shown) at (c.steps.invariant.goes from lines awaits awaited shown so) in
    goes_stop from lines _ c.from_residual.result c.in_err-step_once.field-0.0 _ c.from_residual.ensures.1 (c.in_err-step_once.ensures.goes from lines awaits awaited shown here)

pub steps-smaller : goal.steps-smaller
steps-smaller g c =
    let few = steps_few c.step_once.new.state.heap c.stands.ensures.arenas.number c.stands.ensures.entries c.stands.ensures.asks in
    omega (arith, c.in_ok-step_once.ensures.longer, few)

pub steps-preserved : goal.steps-preserved
steps-preserved g c = record {
  goes = λ from lines awaits awaited shown so.
      let open_now : has_open_call c.steps.state.heap c.args.client ≡ true = sym c.has_call.ensures ∙ c.steps-test.true in
      let here = rw (open_now, awaits_going awaits shown) at (c.steps.invariant.goes from lines awaits awaited shown so) in
      c.in_ok-step_once.ensures.goes from lines awaits awaited shown here;
  faults = omega (arith, c.steps.invariant.faults, c.in_ok-step_once.ensures.unfailed);
}

pub returns-clause-goes : goal.returns-clause-goes
returns-clause-goes g c = λ from lines awaits awaited shown so.
    let rests : has_open_call c.steps.state.heap c.args.client ≡ false = sym c.has_call.ensures ∙ c.steps-test.false in
    rw rests at (c.steps.invariant.goes from lines awaits awaited shown so)
