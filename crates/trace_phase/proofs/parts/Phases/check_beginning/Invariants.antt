use Rattle.std.proofs.Common.{◌≡◌}
use Rattle.std.specs.Vec.Iter.{into_iter_items}
use Rattle.trace_phase.specs.Rule.{misplaced, opening}
use Rattle.trace_phase.proofs.parts.Phases.check_beginning.Given as goal

-- the lines that are left lead on to where all lines lead
abbrev pub invariant-loop-line : goal.invariant-loop-line
invariant-loop-line l = record {
  next : goal.iterator-loop-line.can_next l.line-iterator × goal.iterator-loop-line.is_finite l.line-iterator;
  fault : misplaced l.course (into_iter_items l.line-iterator) ≡ misplaced opening l.fn.lines;
}
