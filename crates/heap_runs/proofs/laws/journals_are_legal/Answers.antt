use Rattle.heap_runs.proofs.Walking.{journals-legal}
use Rattle.heap_runs.proofs.laws.journals_are_legal.Goals as goal

pub returns : goal.returns
returns g c = journals-legal
