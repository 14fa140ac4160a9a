use Rattle.call_plan.proofs.ClientWords.{◌≡◌, fold, take, added}
use Rattle.call_plan.proofs.batches.add_of.Given as goal

-- the addresses of the regions so far
abbrev pub invariant-loop-region : goal.invariant-loop-region
invariant-loop-region l = l.addrs.keys ≡ fold (added l.arena) l.fn.addrs.keys (take l.region-index l.regions)
