use Rattle.std.specs.Vec.Iter.{into_iter_items}
use Rattle.phase_run.specs.Crews.{AreWith}
use Rattle.phase_run.specs.declared.crews.Crew.{Crew}
use Rattle.phase_run.proofs.crews.Crew.take_all_back.Given as goal

-- the shifts that are left lead on to where all lead
abbrev pub invariant-loop-shift : goal.invariant-loop-shift
invariant-loop-shift l = record {
  next : goal.iterator-loop-shift.can_next l.shift-iterator × goal.iterator-loop-shift.is_finite l.shift-iterator;
  behind : (new : Crew) → AreWith l.crew (into_iter_items l.shift-iterator) new → AreWith l.fn.self l.fn.shifts.items new;
}
