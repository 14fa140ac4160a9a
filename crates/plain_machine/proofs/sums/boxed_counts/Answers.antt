use Rattle.std.proofs.Common.{◌≡◌, IfOk, subst}
use Rattle.plain_machine.proofs.sums.boxed_counts.Goals as goal

pub returns : goal.returns
returns c = subst (λ counts. IfOk c.new.result (λ boxed. boxed ≡ counts)) c.plain_counts-counts.ensures c.new.ensures
