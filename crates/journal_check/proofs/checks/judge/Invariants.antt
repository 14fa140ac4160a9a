use Rattle.std.proofs.Common.{◌≡◌, ◌<◌, ◌≤◌, false}
use Rattle.journal_check.specs.Logs.{all_entries, opening_log}
use Rattle.journal_check.proofs.Judging.{Carries, IsSame}
use Rattle.journal_check.proofs.checks.judge.Given as goal

-- the lines that aren't used yet come to what all lines come to
abbrev pub invariant-loop-number : goal.invariant-loop-number
invariant-loop-number g l = record {
  same : Carries (g.S.Source.left l.initial.source) l.pending (g.S.Source.left l.source) (IsSame l.limits opening_log l.number l.log);
  few : all_entries l.log < l.number;
  patient : g.K.Sink.waits l.sink ≡ false → g.S.Source.hasty l.source ≡ g.S.Source.hasty l.initial.source;
  counts : g.S.Source.faults l.initial.source ≤ g.S.Source.faults l.source;
}
