use Rattle.call_plan.proofs.ClientWords.{◌≡◌, fold, take, lesser}
use Rattle.call_plan.proofs.batches.least_of.Given as goal

-- the least of the regions so far
abbrev pub invariant-loop-region : goal.invariant-loop-region
invariant-loop-region l = l.least ≡ fold lesser l.fn.found (take l.region-index l.regions)
