-- The laws that are proved by one lemma each.
use Rattle.call_plan.proofs.Beginning.{batches-know, begins-know, moves-know}
use Rattle.call_plan.proofs.Going.{batches-end}
use Rattle.call_plan.proofs.Frees.{frees-are_few}
use Rattle.call_plan.proofs.Purges.{purges-are_few}
use Rattle.call_plan.proofs.Reasons.{answers-have_causes}
use Rattle.call_plan.proofs.Refusals.{refusals-stand}
use Rattle.call_plan.proofs.Rooms.{rooms-suffice}
use Rattle.call_plan.proofs.Standing.{wants-stand}
use Rattle.call_plan.proofs.Steps.{steps-keep}

pub ruleset laws = (answers-have_causes, batches-end, batches-know, begins-know, frees-are_few, purges-are_few, refusals-stand, rooms-suffice, steps-keep, wants-stand, moves-know)
