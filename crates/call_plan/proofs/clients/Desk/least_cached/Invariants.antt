use Rattle.call_plan.proofs.ClientWords.{◌≡◌, ◌<◌, None, fold, length, take, flat_map, lesser}
use Rattle.call_plan.proofs.clients.Desk.least_cached.Given as goal

-- the least of the classes so far
abbrev pub invariant-loop-class : goal.invariant-loop-class
invariant-loop-class l = (l.least ≡ fold lesser None (flat_map (λ list. list) (take l.class l.self.facts.cached))) × (0 < l.class → length l.self.facts.cached ≡ 41)
