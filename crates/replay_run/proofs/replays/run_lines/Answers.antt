use Rattle.replay_run.proofs.Words.{arith, ◌≡◌, ◌∙◌, [], ◌++◌, refl, LimitLines, line_limit, status_of, Bad, Whole}
use Rattle.replay_run.proofs.BadLines.{bad_many}
use Rattle.replay_run.proofs.Ends.{cause_wider, here_none, on_ok, read_none, replay_passed, stays_on, status_closed}
use Rattle.replay_run.proofs.NextLines.{between_found, between_kept}
use Rattle.replay_run.proofs.Stops.{ends_last, stops_looking}
use Rattle.replay_run.proofs.replays.run_lines.Goals as goal

pub loop-count-init : goal.loop-count-init
loop-count-init g c = record {
  here = record {
    lines = [];
    read = read_none _ _ c.new-pending.ensures refl;
    here = here_none _ _ c.requires.heap c.requires.calls c.requires.names c.requires.tally c.requires.controls c.requires.moment refl refl (record { arenas = c.stands.ensures.arenas; seats = c.stands.ensures.seats });
  };
  patient = refl;
  source_faults = omega (arith);
  sink_faults = omega (arith);
}

pub returns-in_err-next_line-clause-replay : goal.returns-in_err-next_line-clause-replay
returns-in_err-next_line-clause-replay g c =
    replay_passed c.from_residual.result c.in_err-next_line.field-0.0 c.from_residual.ensures.1 (c.in_err-next_line.ensures.goes _ _ c.loop-count.count c.loop-count-test.true c.loop-count.invariant.here)

pub returns-in-Bad-clause-replay : goal.returns-in-Bad-clause-replay
returns-in-Bad-clause-replay g c =
    let went = rw c.in-Bad.is at (c.in_ok-next_line.ensures.goes _ _ c.loop-count.count c.loop-count-test.true c.loop-count.invariant.here) in
    let told = c.refuse_line.ensures in
    ends_last went.0 c.refuse_line.result (status_of c.in-Bad.cause) (Bad c.in-Bad.cause) (g.K.Sink.faults c.next_line.new.sink) (g.K.Sink.faults c.refuse_line.new.sink) (g.K.Sink.held c.refuse_line.new.sink)
    refl (refl, went.1) told.status told.text told.beginning told.cause

pub returns-in-Over-clause-replay : goal.returns-in-Over-clause-replay
returns-in-Over-clause-replay g c =
    let went = rw c.in-Over.is at (c.in_ok-next_line.ensures.goes _ _ c.loop-count.count c.loop-count-test.true c.loop-count.invariant.here) in
    let told = c.close.ensures in
    ends_last went.0 c.close.result 0 Whole (g.K.Sink.faults c.next_line.new.sink) (g.K.Sink.faults c.close.new.sink) (g.K.Sink.held c.close.new.sink)
    refl (refl, went.1, went.2, went.3) told.status told.text told.beginning told.cause

pub loop-count-preserved : goal.loop-count-preserved
loop-count-preserved g c = record {
  here = rw c.in-Carried.is at (c.in_ok-next_line.ensures.goes _ _ c.loop-count.count c.loop-count-test.true c.loop-count.invariant.here);
  patient = c.next_line.ensures.patient ∙ c.loop-count.invariant.patient;
  source_faults = omega (arith, c.loop-count.invariant.source_faults, c.in_ok-next_line.ensures.unfailed);
  sink_faults = omega (arith, c.loop-count.invariant.sink_faults, c.in_ok-next_line.ensures.sink_unfailed);
}

pub returns-in_err-has_more-clause-replay : goal.returns-in_err-has_more-clause-replay
returns-in_err-has_more-clause-replay g c =
    let stop = c.in_err-has_more.field-0.0 in
    replay_passed c.from_residual-in_err-has_more.result stop c.from_residual-in_err-has_more.ensures.1
    (stops_looking (between_kept c.loop-count.invariant.here (g.K.Sink.held c.has_more.new.sink) c.has_more.ensures.kept) stop (g.S.Source.left c.has_more.new.source) (g.S.Source.ended c.has_more.new.source)
    c.in_err-has_more.ensures.stopped.0 c.in_err-has_more.ensures.stopped.1)

pub returns-then-branch-clause-replay : goal.returns-then-branch-clause-replay
returns-then-branch-clause-replay g c =
    let full : c.loop-count.count ≡ line_limit = omega (arith, c.loop-count-test.false, c.loop-count.auto.count-end) in
    let takes = c.in_ok-has_more.ensures.takes in
    let here = between_found c.loop-count.invariant.here (c.loop-count.pending ++ takes.0) (g.S.Source.left c.has_more.new.source) (g.S.Source.ended c.has_more.new.source) (g.K.Sink.held c.has_more.new.sink) (takes.0, takes.1, refl) c.has_more.ensures.kept in
    let told = c.refuse_line-then-branch.ensures in
    ends_last (rw full at here) c.refuse_line-then-branch.result 7 (Bad LimitLines) (g.K.Sink.faults c.has_more.new.sink) (g.K.Sink.faults c.refuse_line-then-branch.new.sink) (g.K.Sink.held c.refuse_line-then-branch.new.sink)
    refl (refl, bad_many _ _ _ _ (omega (arith)) (takes.2 c.if-branch.true)) told.status told.text told.beginning told.cause

pub returns-clause-replay : goal.returns-clause-replay
returns-clause-replay g c =
    let takes = c.in_ok-has_more.ensures.takes in
    let here = between_found c.loop-count.invariant.here (c.loop-count.pending ++ takes.0) (g.S.Source.left c.has_more.new.source) (g.S.Source.ended c.has_more.new.source) (g.K.Sink.held c.has_more.new.sink) (takes.0, takes.1, refl) c.has_more.ensures.kept in
    let none = takes.3 (λ same. absurd (cc (same, c.if-branch.false))) in
    let told = c.close-2.ensures in
    ends_last here c.close-2.result 0 Whole (g.K.Sink.faults c.has_more.new.sink) (g.K.Sink.faults c.close-2.new.sink) (g.K.Sink.held c.close-2.new.sink)
    refl (refl, none.0, none.1, none.2) told.status told.text told.beginning told.cause

pub returns-in-Over-clause-cause : goal.returns-in-Over-clause-cause
returns-in-Over-clause-cause g c = cause_wider c.close.result _ _ _ _ _ (omega (arith, c.loop-count.invariant.sink_faults, c.next_line.ensures.sink_counts)) c.close.ensures.cause

pub returns-clause-cause : goal.returns-clause-cause
returns-clause-cause g c = cause_wider c.close-2.result _ _ _ _ _ (omega (arith, c.loop-count.invariant.sink_faults, c.has_more.ensures.sink_counts)) c.close-2.ensures.cause

pub returns-in-Over-clause-status : goal.returns-in-Over-clause-status
returns-in-Over-clause-status g c = status_closed c.close.result c.close.ensures.status

pub returns-clause-status : goal.returns-clause-status
returns-clause-status g c = status_closed c.close-2.result c.close-2.ensures.status

pub returns-in-Over-clause-unfailed : goal.returns-in-Over-clause-unfailed
returns-in-Over-clause-unfailed g c = on_ok c.close.result (c.in_ok-next_line.ensures.unfailed ∙ c.loop-count.invariant.source_faults)

pub returns-in-Over-clause-sink_unfailed : goal.returns-in-Over-clause-sink_unfailed
returns-in-Over-clause-sink_unfailed g c = stays_on c.close.result _ _ _ (c.in_ok-next_line.ensures.sink_unfailed ∙ c.loop-count.invariant.sink_faults) c.close.ensures.unfailed

pub returns-clause-unfailed : goal.returns-clause-unfailed
returns-clause-unfailed g c = on_ok c.close-2.result (c.in_ok-has_more.ensures.unfailed ∙ c.loop-count.invariant.source_faults)

pub returns-clause-sink_unfailed : goal.returns-clause-sink_unfailed
returns-clause-sink_unfailed g c = stays_on c.close-2.result _ _ _ (c.in_ok-has_more.ensures.sink_unfailed ∙ c.loop-count.invariant.sink_faults) c.close-2.ensures.unfailed
