use Rattle.heap_shared.proofs.Words.{◌≡◌, number, spare, IsPassOf}
use Rattle.heap_trials.proofs.tests.turns.look_often.Given as goal

abbrev pub invariant-loop : goal.invariant-loop
invariant-loop g l = IsPassOf l.lock l.pass × (number l.pass ≡ number l.initial.pass) × (spare l.pass ≡ spare l.initial.pass)
