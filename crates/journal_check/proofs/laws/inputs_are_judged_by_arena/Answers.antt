use Rattle.journal_check.proofs.Accepting.{standing_whole, whole_stands}
use Rattle.journal_check.proofs.laws.inputs_are_judged_by_arena.Goals as goal

pub returns-clause-stand : goal.returns-clause-stand
returns-clause-stand c = whole_stands

pub returns-clause-whole : goal.returns-clause-whole
returns-clause-whole c = standing_whole
