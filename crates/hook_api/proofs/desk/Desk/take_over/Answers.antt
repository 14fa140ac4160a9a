use Rattle.hook_api.proofs.Words.{◌≡◌, length, sym, arith, rules}
use Rattle.hook_api.proofs.InForce.{taken_in_force}
use Rattle.hook_api.proofs.desk.Desk.take_over.Goals as goal

pub invariant_of-self : goal.invariant_of-self
invariant_of-self g c = taken_in_force c.self.inside.taken_over.kinds c.self.inside.book.plans c.index-i.result _ c.in_force.result (search rules) (search rules) c.in_force.ensures c.self.invariant
