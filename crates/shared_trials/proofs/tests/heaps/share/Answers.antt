use Rattle.heap_runs.specs.Heaps.{shelf_id}
use Rattle.shared_trials.proofs.tests.heaps.share.Goals as goal

pub returns-clause-may : goal.returns-clause-may
returns-clause-may g c = c.in-Ok-new.ensures.may (shelf_id c.in-Ok.shelf) (λ k d below. (c.in-Ok.ensures.seats k d below).0)
