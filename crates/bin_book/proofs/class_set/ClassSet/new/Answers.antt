use Rattle.bin_book.proofs.Words.{ap, refl, None, KeySet, replicate, get_or-replicate}
use Rattle.bin_book.proofs.Opening.{none_yet}
use Rattle.bin_book.proofs.class_set.ClassSet.new.Goals as goal

pub invariant_of-result : goal.invariant_of-result
invariant_of-result c = record {
  classes = refl;
  lowest = none_yet c.new.result.keys (replicate 36 None) (ap (λ (s : KeySet). s.keys) c.new.ensures) (λ class small. get_or-replicate 36 class None None small);
}
