use Rattle.std.proofs.Common.{◌≡◌, ◌++◌, List}
use Rattle.std.specs.Vec.Iter.{into_iter_items}
use Rattle.phase_run.specs.Crowds.{AreJoined}
use Rattle.phase_run.specs.declared.workers.Shift.{Shift}
use Rattle.phase_run.proofs.crowds.joined.Given as goal

-- the groups that are left lead on to where all lead
abbrev pub invariant-loop-group : goal.invariant-loop-group
invariant-loop-group l = record {
  next : goal.iterator-loop-group.can_next l.group-iterator × goal.iterator-loop-group.is_finite l.group-iterator;
  behind : (rest : List Shift) → AreJoined (λ g. g.items) (into_iter_items l.group-iterator) rest → AreJoined (λ g. g.items) l.fn.groups.items (l.all.items ++ rest);
}
