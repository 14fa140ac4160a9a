use Rattle.replay_run.proofs.calls.print_step.Goals as goal

pub returns-clause-beginning : goal.returns-clause-beginning
returns-clause-beginning g c = rw (c.deref.ensures.value, c.in_ok-write_end.ensures, c.in_ok-write_step.ensures, c.clear.ensures.items) at c.print.ensures.beginning
