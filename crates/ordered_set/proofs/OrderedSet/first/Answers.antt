use Rattle.ordered_set.proofs.Words.{nat_tests, arith}
use Rattle.ordered_set.proofs.Calls.{first_of_all}
use Rattle.ordered_set.proofs.OrderedSet.first.Goals as goal

pub returns-clause-first : goal.returns-clause-first
returns-clause-first c = grind (arith, nat_tests, first_of_all)
