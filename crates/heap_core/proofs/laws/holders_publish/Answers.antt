use Rattle.heap_core.proofs.Sitting.{holders-publish}
use Rattle.heap_core.proofs.laws.holders_publish.Goals as goal

pub returns : goal.returns
returns c = holders-publish
