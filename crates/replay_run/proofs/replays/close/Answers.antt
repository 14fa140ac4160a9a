use Rattle.replay_run.proofs.replays.close.Goals as goal

pub returns-clause-text : goal.returns-clause-text
returns-clause-text g c = c.print_last.ensures.text _ c.closing_in.ensures

pub returns-clause-beginning : goal.returns-clause-beginning
returns-clause-beginning g c = c.print_last.ensures.beginning _ c.closing_in.ensures
