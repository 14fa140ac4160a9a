use Rattle.replay_run.proofs.Words.{◌≡◌, Between, now_of, reading}
use Rattle.replay_run.proofs.replays.run_lines.Given as goal

-- as many lines as turns were carried out so far, and nothing failed
abbrev pub invariant-loop-count : goal.invariant-loop-count
invariant-loop-count g l = record {
  here : Between (record { shelf = l.initial.shelf; held = g.K.Sink.held l.initial.sink; form = l.closing }) (g.S.Source.left l.initial.source) l.count
      (reading l.pending (g.S.Source.left l.source) (g.S.Source.ended l.source)) (now_of l.state l.shelf (g.K.Sink.held l.sink));
  patient : g.S.Source.hasty l.source ≡ g.S.Source.hasty l.initial.source;
  source_faults : g.S.Source.faults l.source ≡ g.S.Source.faults l.initial.source;
  sink_faults : g.K.Sink.faults l.sink ≡ g.K.Sink.faults l.initial.sink;
}
