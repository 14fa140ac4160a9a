use Rattle.heap_runs.proofs.Words.{◌≡◌, map}
use Rattle.heap_runs.specs.Closes.{seat_of_ctx}
use Rattle.heap_runs.proofs.closes.seats_of.Given as goal

abbrev pub invariant-loop-ctx : goal.invariant-loop-ctx
invariant-loop-ctx l = l.seats.items ≡ map seat_of_ctx l.yielded
