use Rattle.journal_check.proofs.Passed.{lines_passed, texts_passed}
use Rattle.journal_check.proofs.laws.texts_are_passed_over.Goals as goal

pub returns-clause-line : goal.returns-clause-line
returns-clause-line c = lines_passed

pub returns-clause-together : goal.returns-clause-together
returns-clause-together c = texts_passed
