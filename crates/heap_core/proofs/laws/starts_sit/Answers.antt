use Rattle.heap_core.proofs.Clients.{starts-sit}
use Rattle.heap_core.proofs.laws.starts_sit.Goals as goal

pub returns : goal.returns
returns c = starts-sit
