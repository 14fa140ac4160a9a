use Rattle.ordered_set.proofs.Words.{nat_tests, arith}
use Rattle.ordered_set.proofs.Calls.{last_of_all}
use Rattle.ordered_set.proofs.OrderedSet.last.Goals as goal

pub returns-clause-last : goal.returns-clause-last
returns-clause-last c = grind (arith, nat_tests, last_of_all)
