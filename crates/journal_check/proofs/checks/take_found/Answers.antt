use Rattle.std.proofs.Common.{◌∙◌, ◌∷◌, ◌++◌, ap, sym, take, true, List, ℕ}
use Rattle.line_reader.specs.Lines.{lines_of}
use Rattle.journal_check.proofs.checks.take_found.Goals as goal

pub returns-clause-next : goal.returns-clause-next
returns-clause-next c none limits first more =
    let line = rw c.in-Line.is at first in (
      (take c.in-Line.length c.args.pending.now, true),
      line.2 more ∙ ap (λ (bytes : List ℕ). (take c.in-Line.length c.args.pending.now, true) ∷ lines_of (bytes ++ more)) (sym c.skip.ensures),
    )
