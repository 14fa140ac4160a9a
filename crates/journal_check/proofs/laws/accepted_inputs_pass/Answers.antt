use Rattle.journal_check.proofs.Passing.{accepted_passes, passed_accepted}
use Rattle.journal_check.proofs.laws.accepted_inputs_pass.Goals as goal

pub returns-clause-pass : goal.returns-clause-pass
returns-clause-pass c = accepted_passes

pub returns-clause-accepted : goal.returns-clause-accepted
returns-clause-accepted c = passed_accepted
