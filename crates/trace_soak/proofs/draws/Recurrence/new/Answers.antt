use Rattle.std.proofs.Common.{refl}
use Rattle.trace_soak.proofs.LinesLeft.{owners_free}
use Rattle.trace_soak.proofs.draws.Recurrence.new.Goals as goal

pub invariant_of-result : goal.invariant_of-result
invariant_of-result c = (refl, owners_free)
