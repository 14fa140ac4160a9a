use Rattle.std.proofs.Common.{refl, arith}
use Rattle.trace_soak.specs.Soak.{line_for}
use Rattle.trace_soak.proofs.LinesLeft.{first_drawn, on_err}
use Rattle.trace_soak.proofs.source.Lines.next_line.Goals as goal

pub returns-in_err-line_for-clause-passed : goal.returns-in_err-line_for-clause-passed
returns-in_err-line_for-clause-passed c =
    let drawn = c.next_call-call.ensures in
    on_err c.from_residual.result (
      line_for c.next_call-call.result,
      first_drawn c.self.inside.left c.self.inside.recurrence _ _ _ (line_for c.next_call-call.result) (omega (arith, c.if-self-eq0.false)) c.self.view_is drawn.call drawn.moved refl,
    )

pub returns-clause-takes : goal.returns-clause-takes
returns-clause-takes c =
    let drawn = c.next_call-call.ensures in
    first_drawn c.self.inside.left c.self.inside.recurrence _ _ _ c.in_ok-line_for.field-0 (omega (arith, c.if-self-eq0.false)) c.self.view_is drawn.call drawn.moved c.in_ok-line_for.ensures
