use Rattle.heap_core.proofs.Clients.{starves-sit}
use Rattle.heap_core.proofs.laws.starves_sit.Goals as goal

pub returns : goal.returns
returns c = starves-sit
