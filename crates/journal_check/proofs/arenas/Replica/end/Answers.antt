use Rattle.std.proofs.Common.{◌∙◌, ap}
use Rattle.space_model.specs.declared.counts.Counts.{Counts}
use Rattle.journal_check.specs.Logs.{end_of}
use Rattle.journal_check.specs.declared.verdicts.End.{End}
use Rattle.journal_check.proofs.arenas.Replica.end.Goals as goal

pub returns : goal.returns
unfolding end_of
returns c =
    let told = λ (n : Counts). let e : End = record { index = c.args.index; entries = c.self.inside.entries; counts = n } in e in
    ap told c.counts.ensures ∙ ap (end_of c.args.index) c.self.view_is
