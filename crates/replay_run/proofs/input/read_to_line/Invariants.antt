use Rattle.replay_run.proofs.Words.{◌≡◌, ◌≤◌, length, Keeps, TakesMore}
use Rattle.replay_run.proofs.input.read_to_line.Given as goal

-- the pending bytes are those from before and those that were taken, at least one in each turn, and nothing failed so far
abbrev pub invariant-loop : goal.invariant-loop
invariant-loop g l = record {
  taken : TakesMore l.initial.pending l.pending (g.S.Source.left l.initial.source) (g.S.Source.left l.source);
  faults : g.S.Source.faults l.source ≡ g.S.Source.faults l.initial.source;
  grew : l.counter ≤ length l.pending;
  kept : Keeps (g.K.Sink.held l.initial.sink) (g.K.Sink.held l.sink);
  sink_faults : g.K.Sink.faults l.sink ≡ g.K.Sink.faults l.initial.sink;
  patient : g.S.Source.hasty l.source ≡ g.S.Source.hasty l.initial.source;
  few : l.counter ≤ 257;
}
