use Rattle.std.proofs.Common.{inl, inr}
use Rattle.shared_trials.proofs.tests.replays.opening.Goals as goal

pub returns-then-index-eq0 : goal.returns-then-index-eq0
returns-then-index-eq0 c = record {
  begins = inr c.first.ensures.first;
  good = c.first.ensures.good;
}

pub returns : goal.returns
returns c = record {
  begins = inl c.absent.ensures.absent;
  good = c.absent.ensures.good;
}
