use Rattle.heap_runs.proofs.Walking.{phases-add}
use Rattle.heap_runs.proofs.laws.phases_add_up.Goals as goal

pub returns : goal.returns
returns g c = phases-add
