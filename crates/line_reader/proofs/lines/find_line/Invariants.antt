use Rattle.std.proofs.Common.{◌≡◌, ◌+◌, ◌-◌, ◌≤◌, false, length, take}
use Rattle.line_reader.specs.Lines.{HasNoNewline, SameUnread}
use Rattle.line_reader.proofs.lines.find_line.Given as goal

-- no newline is among the bytes that were seen
abbrev pub invariant-loop-found : goal.invariant-loop-found
invariant-loop-found g l = record {
  seen : l.seen ≤ length l.pending;
  none : HasNoNewline (take l.seen l.pending);
  same : SameUnread l.initial.pending (g.S.Source.left l.initial.source) l.pending (g.S.Source.left l.source);
  patient : g.K.Sink.waits l.sink ≡ false → g.S.Source.hasty l.source ≡ g.S.Source.hasty l.initial.source;
  counts : g.S.Source.faults l.initial.source ≤ g.S.Source.faults l.source;
}

-- how many bytes are still to come before a line is too long
abbrev pub decreases-loop-found : goal.decreases-loop-found
decreases-loop-found g l = l.most + 1 - length l.pending
