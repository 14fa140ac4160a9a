use Rattle.bin_book.proofs.Words.{◌≡◌, ◌&&◌, true, false, eqb, None, get_or, set, length-set, sym, subst, ◌∙◌, option_eq, Some, some_is, some_same, AreLowest, IsLowest}
use Rattle.bin_book.proofs.Opening.{sought, still}
use Rattle.bin_book.proofs.class_set.ClassSet.remove.Goals as goal

pub invariant_of-self : goal.invariant_of-self
invariant_of-self c = record {
  classes = length-set c.self.inside.lows c.args.key.major c.lowest_of.result ∙ c.self.invariant.classes;
  lowest = subst (λ ks. AreLowest ks (set c.self.inside.lows c.args.key.major c.lowest_of.result)) (sym c.remove.ensures.keys) (sought c.self.inside.set.keys c.args.key c.self.inside.lows c.self.invariant.lowest c.args.key.major c.requires.class c.self.invariant.classes
      (some_is (get_or c.self.inside.lows c.args.key.major None) c.args.key (sym c.if-eq.ensures)) c.lowest_of.result (subst (λ ks. IsLowest ks c.args.key.major c.lowest_of.result) c.remove.ensures.keys c.lowest_of.ensures));
}

pub invariant_of-self-else-eq : goal.invariant_of-self-else-eq
invariant_of-self-else-eq c = record {
  classes = c.self.invariant.classes;
  lowest = subst (λ ks. AreLowest ks c.self.inside.lows) (sym c.remove.ensures.keys) (still c.self.inside.set.keys c.args.key c.self.inside.lows c.self.invariant.lowest (λ e.
      let same : false ≡ true = subst (λ o. false ≡ option_eq (λ a b. eqb a.major b.major && eqb a.minor b.minor) o (Some c.args.key)) e c.if-eq.ensures ∙ some_same c.args.key in cc));
}
