use Rattle.replay_run.proofs.Words.{refl}
use Rattle.replay_run.proofs.ReadLines.{line_result, line_silent, reads_at, reads_blank, reads_call, reads_counts, reads_refuse, reads_start}
use Rattle.replay_run.proofs.lines.carry_line.Goals as goal

pub returns-in-Call-clause-goes : goal.returns-in-Call-clause-goes
returns-in-Call-clause-goes g c = λ from lines so.
    let free = rw c.in-Call.is at c.requires.cause in
    c.carry_call.ensures.goes from lines (line_silent (rw c.in-Call.is at so) (reads_call _ c.in-Call.client c.in-Call.verb free) refl)

pub returns-in-Start-clause-goes : goal.returns-in-Start-clause-goes
returns-in-Start-clause-goes g c = λ from lines so.
    let free = rw c.in-Start.is at c.requires.cause in
    c.carry_call-in-Start.ensures.goes from lines (line_silent (rw c.in-Start.is at so) (reads_start _ c.in-Start.client c.in-Start.verb free) refl)

pub returns-in-Step-clause-goes : goal.returns-in-Step-clause-goes
returns-in-Step-clause-goes g c = λ from lines so. c.step_line.ensures.goes from lines (rw c.in-Step.is at so)

pub returns-in-End-clause-goes : goal.returns-in-End-clause-goes
returns-in-End-clause-goes g c = λ from lines so. c.end_line.ensures.goes from lines (rw c.in-End.is at so)

pub returns-in-Counts-clause-goes : goal.returns-in-Counts-clause-goes
returns-in-Counts-clause-goes g c = λ from lines so.
    let told = c.print_counts.ensures in
    line_result (rw c.in-Counts.is at so) (g.K.Sink.held c.print_counts.new.sink) (g.K.Sink.faults c.args.sink.now) (g.K.Sink.faults c.print_counts.new.sink) c.print_counts.result
    (reads_counts _ c.in-Counts.index c.counts.result (g.K.Sink.held c.print_counts.new.sink) c.counts.ensures) told.text told.beginning told.cause

pub returns-in-At-clause-goes : goal.returns-in-At-clause-goes
returns-in-At-clause-goes g c = λ from lines so.
    let free = rw c.in-At.is at c.requires.cause in line_silent (rw c.in-At.is at so) (reads_at _ c.in-At.moment free) refl

pub returns-in-Refuse-clause-goes : goal.returns-in-Refuse-clause-goes
returns-in-Refuse-clause-goes g c = λ from lines so. line_silent (rw c.in-Refuse.is at so) (reads_refuse _ c.in-Refuse.box_no c.in-Refuse.kind c.in-Refuse.nth _ c.plan.ensures) refl

pub returns-in-Blank-clause-goes : goal.returns-in-Blank-clause-goes
returns-in-Blank-clause-goes g c = λ from lines so. line_silent (rw c.in-Blank.is at so) (reads_blank _) refl
