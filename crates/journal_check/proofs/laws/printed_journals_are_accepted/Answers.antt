use Rattle.journal_check.proofs.Printed.{printed_accepted}
use Rattle.journal_check.proofs.laws.printed_journals_are_accepted.Goals as goal

pub returns : goal.returns
returns c = printed_accepted
