use Rattle.std.specs.List.{All}
use Rattle.call_plan.specs.Laws.{IsInRange}
use Rattle.shared_trials.proofs.tests.phases.requests.Given as goal

abbrev pub invariant-loop-i : goal.invariant-loop-i
invariant-loop-i l = All IsInRange l.requests.items
