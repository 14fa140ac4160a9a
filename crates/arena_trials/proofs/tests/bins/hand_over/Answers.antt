use Rattle.bin_book.proofs.Words.{is_some, sym, ap, ◌∙◌, is_some_find}
use Rattle.arena_trials.proofs.tests.bins.hand_over.Goals as goal

pub hand_over-requires-clause-there : goal.hand_over-requires-clause-there
hand_over-requires-clause-there c = sym (is_some_find _ c.args.book.now.regions) ∙ ap is_some (sym c.at.ensures.at) ∙ sym c.is_some.ensures ∙ c.if-is_some.true
