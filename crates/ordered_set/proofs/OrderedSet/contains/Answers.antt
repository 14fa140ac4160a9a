use Rattle.ordered_set.proofs.Words.{◌≡◌, slice_get, filter, sym, ◌∙◌, is_from}
use Rattle.ordered_set.proofs.Calls.{has_from_first, first_from_has, some_is, some_same}
use Rattle.ordered_set.proofs.Sorted.{find_is}
use Rattle.ordered_set.proofs.OrderedSet.contains.Goals as goal

pub returns : goal.returns
returns c =
    let key = c.args.key in
    let ks = c.args.self.now.keys in
    let first : c.at_or_after.result ≡ slice_get (filter (is_from key) ks) 0 = c.at_or_after.ensures.found ∙ find_is (is_from key) ks in (
      λ t. has_from_first ks key (sym first ∙ some_is c.at_or_after.result key (sym c.eq.ensures ∙ t)),
      λ m. c.eq.ensures ∙ rw (first, first_from_has ks key c.at_or_after.ensures.ascending m) (some_same key),
    )
