use Rattle.std.proofs.Common.{◌≡◌, length, ◌-◌, ◌≤◌, take}
use Rattle.edge_io.specs.Bytes.{Appends}
use Rattle.edge_io.proofs.whole.write_all.Given as goal

-- the sink has gained the text up to `at`
abbrev pub invariant-loop-at : goal.invariant-loop-at
invariant-loop-at g l = record {
  gained : Appends (g.K.Sink.held l.initial.sink) (g.K.Sink.held l.sink) (take l.at l.text);
  within : l.at ≤ length l.text;
  counts : g.K.Sink.faults l.sink ≡ g.K.Sink.faults l.initial.sink;
}

abbrev pub decreases-loop-at : goal.decreases-loop-at
decreases-loop-at g l = length l.text - l.at
