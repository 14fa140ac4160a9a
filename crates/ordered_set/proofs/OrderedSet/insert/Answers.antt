use Rattle.ordered_set.proofs.Words.{arith, ap, ◌∙◌, length, subst, Contains, index_keys}
use Rattle.ordered_set.proofs.Calls.{length_with}
use Rattle.ordered_set.proofs.OrderedSet.insert.Goals as goal

pub invariant_of-self : goal.invariant_of-self
invariant_of-self c =
    let set = c.self.invariant in
    let spare = ap (λ s. s.spare) c.self.view_is in
    let more = ap length c.insert.ensures.keys ∙ length_with (index_keys c.self.inside.index) c.args.key set.index.ascending (λ m. c.requires.absent (subst (λ s. Contains s.keys c.args.key) c.self.view_is m)) in
    record { index = c.insert.ensures.index; len = omega arith; room = omega arith; small = omega arith }
