use Rattle.journal_check.specs.Verdicts.{judgement}
use Rattle.journal_check.proofs.Told.{no_fault, told_of}
use Rattle.journal_check.proofs.checks.check.Goals as goal

pub returns-in-Ok-clause-accepted : goal.returns-in-Ok-clause-accepted
unfolding judgement
returns-in-Ok-clause-accepted g c = (told_of c.in-Ok.verdict (g.S.Source.left c.args.source.now) judgement c.in-Ok.ensures.told).accepted

pub returns-in-Ok-clause-not_entry : goal.returns-in-Ok-clause-not_entry
unfolding judgement
returns-in-Ok-clause-not_entry g c = (told_of c.in-Ok.verdict (g.S.Source.left c.args.source.now) judgement c.in-Ok.ensures.told).not_entry

pub returns-in-Ok-clause-not_standing : goal.returns-in-Ok-clause-not_standing
unfolding judgement
returns-in-Ok-clause-not_standing g c = (told_of c.in-Ok.verdict (g.S.Source.left c.args.source.now) judgement c.in-Ok.ensures.told).not_standing

pub returns-in-Ok-clause-met : goal.returns-in-Ok-clause-met
unfolding judgement
returns-in-Ok-clause-met g c = (told_of c.in-Ok.verdict (g.S.Source.left c.args.source.now) judgement c.in-Ok.ensures.told).met

pub returns-in-Ok-clause-limit : goal.returns-in-Ok-clause-limit
unfolding judgement
returns-in-Ok-clause-limit g c = (told_of c.in-Ok.verdict (g.S.Source.left c.args.source.now) judgement c.in-Ok.ensures.told).limit

pub returns-in-Ok-clause-read_fault : goal.returns-in-Ok-clause-read_fault
returns-in-Ok-clause-read_fault g c is = absurd (no_fault c.in-Ok.verdict c.in-Ok.ensures.stop is)
