use Rattle.space_model.proofs.LawLemmas.{first_replays_are_good, absent_replays_are_good, replays_keep_good, replays_keep_others}
use Rattle.space_model.proofs.laws.replays_are_good.Goals as goal

pub returns-clause-first : goal.returns-clause-first
returns-clause-first c = first_replays_are_good

pub returns-clause-absent : goal.returns-clause-absent
returns-clause-absent c = absent_replays_are_good

pub returns-clause-good : goal.returns-clause-good
returns-clause-good c = replays_keep_good

pub returns-clause-others : goal.returns-clause-others
returns-clause-others c = replays_keep_others
