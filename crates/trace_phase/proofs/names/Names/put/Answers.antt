use Rattle.std.proofs.Common.{◌∙◌, List, ℕ, ap, sym}
use Rattle.indexmap.specs.Layout.{set_value_at}
use Rattle.trace_phase.proofs.Standings.{standing_there}
use Rattle.trace_phase.specs.declared.names.Standing.{Standing}
use Rattle.trace_phase.proofs.names.Names.put.Goals as goal

pub returns-in-Some : goal.returns-in-Some
returns-in-Some c =
    ap (λ (names : List (List ℕ × Standing)). set_value_at names c.in-Some.place c.args.standing) c.self.view_is
    ∙ standing_there c.args.self.now c.args.name.now c.in-Some.place c.args.standing (sym c.requires ∙ c.in-Some.is)
