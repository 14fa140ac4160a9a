use Rattle.std.proofs.Common.{◌≡◌, ◌≤◌, false}
use Rattle.std.specs.List.{All}
use Rattle.line_reader.specs.Lines.{Carries}
use Rattle.trace_text.specs.Grammar.{IsWithinLimits}
use Rattle.trace_phase.specs.declared.parts.NumberedLine.{NumberedLine}
use Rattle.phase_run.proofs.Unreads.{IsSame}
use Rattle.phase_run.proofs.reading.read_lines.Given as goal

-- the lines that aren't used yet are read as all lines are
abbrev pub invariant-loop-number : goal.invariant-loop-number
invariant-loop-number g l = record {
  same : Carries (g.S.Source.left l.initial.source) l.pending (g.S.Source.left l.source) (IsSame l.number l.lines);
  limits : All (λ (line : NumberedLine). IsWithinLimits line.line) l.lines;
  patient : g.K.Sink.waits l.sink ≡ false → g.S.Source.hasty l.source ≡ g.S.Source.hasty l.initial.source;
  counts : g.S.Source.faults l.initial.source ≤ g.S.Source.faults l.source;
}
