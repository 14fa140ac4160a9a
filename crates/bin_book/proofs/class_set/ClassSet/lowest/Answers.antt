use Rattle.bin_book.proofs.Words.{subst, get_or, None, IsLowest, KeySet}
use Rattle.bin_book.proofs.class_set.ClassSet.lowest.Goals as goal

pub returns : goal.returns
returns c = subst (λ (s : KeySet). IsLowest s.keys c.args.class (get_or c.self.inside.lows c.args.class None)) c.self.view_is (c.self.invariant.lowest c.args.class c.requires)
