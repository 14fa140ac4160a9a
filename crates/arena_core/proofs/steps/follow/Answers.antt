use Rattle.arena_core.proofs.RoomSums.{taken}
use Rattle.arena_core.proofs.steps.follow.Goals as goal

pub returns-in-MergeDone-clause-places : goal.returns-in-MergeDone-clause-places
returns-in-MergeDone-clause-places c = (taken c.merge_done.ensures).places

pub returns-in-DecommitDone-clause-places : goal.returns-in-DecommitDone-clause-places
returns-in-DecommitDone-clause-places c = (taken c.decommit_done.ensures).places

pub returns-in-LazyDone-clause-places : goal.returns-in-LazyDone-clause-places
returns-in-LazyDone-clause-places c = (taken c.lazy_done.ensures).places
