use Rattle.ordered_set.proofs.Words.{nat_tests, arith}
use Rattle.ordered_set.proofs.Sorted.{find_is}
use Rattle.ordered_set.proofs.OrderedSet.after.Goals as goal

pub returns-clause-found : goal.returns-clause-found
returns-clause-found c = grind (arith, nat_tests, find_is)
