use Rattle.replay_run.proofs.replays.closing_in.Goals as goal

pub returns-in-Lines : goal.returns-in-Lines
returns-in-Lines c = rw c.in-Lines.is c.closing_text.ensures
