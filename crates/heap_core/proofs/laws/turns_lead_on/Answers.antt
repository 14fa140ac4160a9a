use Rattle.heap_core.proofs.Clients.{turns-lead_on}
use Rattle.heap_core.proofs.laws.turns_lead_on.Goals as goal

pub returns : goal.returns
returns c = turns-lead_on
