use Rattle.replay_run.proofs.Words.{refl, sym, ◌∙◌, OneStep}
use Rattle.replay_run.proofs.ReadLines.{line_result, line_silent, reads_step, reads_step_idle}
use Rattle.replay_run.proofs.lines.step_line.Goals as goal

pub returns-then-has_call-clause-goes : goal.returns-then-has_call-clause-goes
returns-then-has_call-clause-goes g c = λ from lines so.
    c.step_once.ensures.goes from lines (OneStep c.args.client) refl refl (line_silent so (reads_step _ c.args.client (sym c.has_call.ensures ∙ c.if-has_call.true)) refl)

pub returns-else-has_call-clause-goes : goal.returns-else-has_call-clause-goes
returns-else-has_call-clause-goes g c = λ from lines so.
    let told = c.print_idle.ensures in
    line_result so (g.K.Sink.held c.print_idle.new.sink) (g.K.Sink.faults c.args.sink.now) (g.K.Sink.faults c.print_idle.new.sink) c.print_idle.result
    (reads_step_idle _ c.args.client (g.K.Sink.held c.print_idle.new.sink) (sym c.has_call.ensures ∙ c.if-has_call.false)) told.text told.beginning told.cause
