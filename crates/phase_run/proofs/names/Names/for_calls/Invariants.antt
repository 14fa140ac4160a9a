use Rattle.std.proofs.Common.{◌≡◌, [], drop, take}
use Rattle.phase_run.specs.Names.{AreLearnt, known_from, known_to}
use Rattle.phase_run.specs.Walks.{AgreeOn}
use Rattle.phase_run.proofs.names.Names.for_calls.Given as goal

abbrev pub invariant-loop-call : goal.invariant-loop-call
invariant-loop-call l = record {
  known : known_from l.self l.own (drop l.call-index l.calls) ≡ known_to l.self l.calls;
  agree : AgreeOn (take l.call-index l.calls) l.own l.self;
  learnt : AreLearnt l.self l.own;
}
