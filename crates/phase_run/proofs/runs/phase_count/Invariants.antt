use Rattle.std.proofs.Common.{◌≡◌, ◌≤◌, take}
use Rattle.phase_run.specs.Summaries.{phase_count}
use Rattle.phase_run.proofs.runs.phase_count.Given as goal

abbrev pub invariant-loop-part : goal.invariant-loop-part
invariant-loop-part l = l.count ≡ phase_count (take l.part-index l.parts)
