use Rattle.heap_core.proofs.Sitting.{opening-sits}
use Rattle.heap_core.proofs.laws.opening_sits.Goals as goal

pub returns : goal.returns
returns c = opening-sits
