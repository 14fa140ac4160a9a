use Rattle.heap_stats.proofs.Small.{two_small}
use Rattle.text_trials.proofs.tests.stats.two_live.Goals as goal

pub returns : goal.returns
returns c = two_small c.counts.result c.counts-2.result c.counts.ensures c.counts-2.ensures
