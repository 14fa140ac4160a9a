use Rattle.bin_book.proofs.Words.{◌≡◌, ◌≤◌, None, Some, get_or, set, length-set, sym, subst, refl, arith, MatchOption-at_some, AreLowest, Key, ◌∙◌}
use Rattle.bin_book.proofs.Opening.{not_lower, opened, stayed}
use Rattle.bin_book.proofs.class_set.ClassSet.insert.Goals as goal

pub invariant_of-self : goal.invariant_of-self
invariant_of-self c = record {
  classes = length-set c.self.inside.lows c.args.key.major (Some c.args.key) ∙ c.self.invariant.classes;
  lowest = subst (λ ks. AreLowest ks (set c.self.inside.lows c.args.key.major (Some c.args.key))) (sym c.insert.ensures.keys) (opened c.self.inside.set.keys c.args.key c.self.inside.lows c.self.invariant.lowest c.args.key.major c.requires.class c.self.invariant.classes refl
      (λ f e. let below = (MatchOption-at_some _ _ f e c.if-is_lower.ensures).0 refl in omega arith));
}

pub invariant_of-self-else-is_lower : goal.invariant_of-self-else-is_lower
invariant_of-self-else-is_lower c = record {
  classes = c.self.invariant.classes;
  lowest = subst (λ ks. AreLowest ks c.self.inside.lows) (sym c.insert.ensures.keys) (stayed c.self.inside.set.keys c.args.key c.self.inside.lows c.self.invariant.lowest (λ class small at.
      subst (λ n. (f : Key) × (get_or c.self.inside.lows n None ≡ Some f) × (f.minor ≤ c.args.key.minor)) at (not_lower c.args.key (get_or c.self.inside.lows c.args.key.major None) c.if-is_lower.ensures)));
}
