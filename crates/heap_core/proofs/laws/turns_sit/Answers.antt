use Rattle.heap_core.proofs.Clients.{turns-sit}
use Rattle.heap_core.proofs.laws.turns_sit.Goals as goal

pub returns : goal.returns
returns c = turns-sit
