use Rattle.heap_core.proofs.Clients.{others-sit}
use Rattle.heap_core.proofs.laws.others_sit.Goals as goal

pub returns : goal.returns
returns c = others-sit
