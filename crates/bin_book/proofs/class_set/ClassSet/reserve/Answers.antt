use Rattle.bin_book.proofs.Words.{sym, subst, AreLowest}
use Rattle.bin_book.proofs.class_set.ClassSet.reserve.Goals as goal

pub invariant_of-self : goal.invariant_of-self
invariant_of-self c = record {
  classes = c.self.invariant.classes;
  lowest = subst (λ ks. AreLowest ks c.self.inside.lows) (sym c.reserve.ensures.keys) c.self.invariant.lowest;
}
