use Rattle.std.proofs.Common.{◌≡◌}
use Rattle.phase_run.specs.Names.{merged}
use Rattle.phase_run.proofs.names.Names.merge.Given as goal

-- those that are left lead on to where all lead
abbrev pub invariant-loop-name : goal.invariant-loop-name
invariant-loop-name l = record {
  next : goal.iterator-loop-name.can_next l.name-iterator × goal.iterator-loop-name.is_finite l.name-iterator;
  behind : merged l.self l.name-iterator ≡ merged l.initial.self l.fn.others;
}
