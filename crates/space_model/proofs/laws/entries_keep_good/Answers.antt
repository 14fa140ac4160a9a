use Rattle.space_model.proofs.Steps.{Good-step, entry_keeps}
use Rattle.space_model.proofs.laws.entries_keep_good.Goals as goal

pub returns-clause-good : goal.returns-clause-good
returns-clause-good c = Good-step

pub returns-clause-others : goal.returns-clause-others
returns-clause-others c = λ s entry client sound h other. (entry_keeps s entry sound h).others client other
