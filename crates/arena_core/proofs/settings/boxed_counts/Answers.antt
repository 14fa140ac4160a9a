use Rattle.arena_core.proofs.Words.{◌≡◌, IfOk, subst}
use Rattle.arena_core.proofs.settings.boxed_counts.Goals as goal

pub returns : goal.returns
returns c = subst (λ counts. IfOk c.new.result (λ boxed. boxed ≡ counts)) c.counts-counts.ensures c.new.ensures
