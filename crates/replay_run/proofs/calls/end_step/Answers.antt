use Rattle.replay_run.proofs.Words.{arith, None, get_or_read}
use Rattle.replay_run.proofs.Begins.{err_holds}
use Rattle.replay_run.proofs.Endings.{all_of}
use Rattle.replay_run.proofs.calls.end_step.Goals as goal

pub returns-in_err-print_step-clause-beginning : goal.returns-in_err-print_step-clause-beginning
returns-in_err-print_step-clause-beginning g c =
    err_holds c.from_residual.result _ (rw (← get_or_read c.args.state.now.calls.items c.args.client c.index-call.result.now (omega arith) c.index-call.ensures None) c.in_err-print_step.ensures.beginning)

pub returns-in_err-close-clause-beginning : goal.returns-in_err-close-clause-beginning
returns-in_err-close-clause-beginning g c =
    err_holds c.from_residual-in_err-close.result _
    (rw (← get_or_read c.args.state.now.calls.items c.args.client c.index-call.result.now (omega arith) c.index-call.ensures None) (all_of _ _ _ c.in_ok-print_step.ensures.text))

pub returns-clause-text : goal.returns-clause-text
returns-clause-text g c =
    rw (← get_or_read c.args.state.now.calls.items c.args.client c.index-call.result.now (omega arith) c.index-call.ensures None) c.in_ok-print_step.ensures.text
