use Rattle.space_model.proofs.Pieces.{both_true}
use Rattle.space_model.proofs.Steps.{entry_keeps, op_goes}
use Rattle.space_model.proofs.laws.replies_tell.Goals as goal

pub returns-clause-outcome : goal.returns-clause-outcome
returns-clause-outcome c = λ s entry sound h. (op_goes entry.client s entry.op sound (both_true _ _ h).1).outcome

pub returns-clause-flights : goal.returns-clause-flights
returns-clause-flights c = λ s entry sound h. (entry_keeps s entry sound h).flew
