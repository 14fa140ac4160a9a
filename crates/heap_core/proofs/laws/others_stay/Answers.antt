use Rattle.heap_core.proofs.Clients.{others-stay}
use Rattle.heap_core.proofs.laws.others_stay.Goals as goal

pub returns : goal.returns
returns c = others-stay
