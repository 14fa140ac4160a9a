use Rattle.replay_run.proofs.GivenLines.{quiet_cause, soak_counted, soak_halted}
use Rattle.replay_run.proofs.soaks.run_soak.Goals as goal

pub returns-in_err-carry_lines-clause-soak : goal.returns-in_err-carry_lines-clause-soak
returns-in_err-carry_lines-clause-soak g c =
    let halted = c.in_err-carry_lines.ensures.halted in
    soak_halted c.args.lines halted.0 halted.1 c.from_residual.result c.in_err-carry_lines.field-0.0 (g.K.Sink.held c.args.sink.now) c.from_residual.ensures.1 halted.2 halted.3

pub returns-in_err-carry_lines-clause-cause : goal.returns-in_err-carry_lines-clause-cause
returns-in_err-carry_lines-clause-cause g c = quiet_cause c.from_residual.result c.in_err-carry_lines.field-0.0 _ _ c.from_residual.ensures.1 c.in_err-carry_lines.ensures.cause

pub returns-clause-soak : goal.returns-clause-soak
returns-clause-soak g c =
    let told = c.print_last.ensures in
    soak_counted c.args.lines c.len-calls.result c.print_last.result (g.K.Sink.held c.args.sink.now) (g.K.Sink.held c.print_last.new.sink) c.len-calls.ensures c.in_ok-carry_lines.ensures.through
    (told.text _ c.soak_text.ensures) (told.beginning _ c.soak_text.ensures) told.status
