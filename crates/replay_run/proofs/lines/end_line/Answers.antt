use Rattle.replay_run.proofs.Words.{◌≡◌, true, refl, sym, ◌∙◌, TheEnd, has_open_call}
use Rattle.replay_run.proofs.ReadLines.{line_result, line_silent, reads_end, reads_end_idle}
use Rattle.replay_run.proofs.lines.end_line.Goals as goal

pub returns-then-has_call-clause-goes : goal.returns-then-has_call-clause-goes
returns-then-has_call-clause-goes g c = λ from lines so.
    let open_now : has_open_call c.args.state.now.heap c.args.client ≡ true = sym c.has_call.ensures ∙ c.if-has_call.true in
    let waits = line_silent so (reads_end _ c.args.client open_now) refl in
    c.run_to_end.ensures.goes from lines (TheEnd c.args.client) refl refl (rw open_now waits)

pub returns-else-has_call-clause-goes : goal.returns-else-has_call-clause-goes
returns-else-has_call-clause-goes g c = λ from lines so.
    let told = c.print_idle.ensures in
    line_result so (g.K.Sink.held c.print_idle.new.sink) (g.K.Sink.faults c.args.sink.now) (g.K.Sink.faults c.print_idle.new.sink) c.print_idle.result
    (reads_end_idle _ c.args.client (g.K.Sink.held c.print_idle.new.sink) (sym c.has_call.ensures ∙ c.if-has_call.false)) told.text told.beginning told.cause
