use Rattle.ordered_set.proofs.Words.{arith, ap, length, subst, sym, Contains, index_keys}
use Rattle.ordered_set.proofs.Calls.{length_without}
use Rattle.ordered_set.proofs.OrderedSet.remove.Goals as goal

pub invariant_of-self : goal.invariant_of-self
invariant_of-self c =
    let set = c.self.invariant in
    let less = ap length c.remove.ensures.keys in
    let fewer = length_without (index_keys c.self.inside.index) c.args.key set.index.ascending (subst (λ s. Contains s.keys c.args.key) (sym c.self.view_is) c.requires) in
    record { index = c.remove.ensures.index; len = omega arith; room = omega arith; small = omega arith }
