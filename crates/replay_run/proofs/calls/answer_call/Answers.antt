use Rattle.replay_run.proofs.Words.{arith, Appends-nil}
use Rattle.replay_run.proofs.Begins.{err_holds}
use Rattle.replay_run.proofs.calls.answer_call.Goals as goal

pub returns-in_err-call_line-clause-beginning : goal.returns-in_err-call_line-clause-beginning
returns-in_err-call_line-clause-beginning g c = err_holds c.from_residual.result _ (0, omega arith, Appends-nil (g.K.Sink.held c.args.sink.now))

pub returns-in_err-print-clause-beginning : goal.returns-in_err-print-clause-beginning
returns-in_err-print-clause-beginning g c =
    err_holds c.from_residual-in_err-print.result _
    (rw (c.deref.ensures.value, c.in_ok-call_line.ensures, c.clear.ensures.items, c.head.ensures c.args.client c.args.answer.now) at c.in_err-print.ensures.beginning)
