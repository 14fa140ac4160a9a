use Rattle.call_plan.proofs.Going.{batch_is}
use Rattle.call_plan.proofs.laws.batches_rise.Goals as goal

pub returns : goal.returns
returns c = batch_is
