use Rattle.std.proofs.Common.{length, sym, ◌∙◌, ap}
use Rattle.trace_soak.proofs.LinesLeft.{length-lines_from}
use Rattle.trace_soak.proofs.source.Lines.len.Goals as goal

pub returns : goal.returns
returns c = sym (length-lines_from c.self.inside.left c.self.inside.recurrence) ∙ ap length c.self.view_is
