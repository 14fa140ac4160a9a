use Rattle.call_plan.proofs.ClientWords.{◌≡◌, ◌<◌, [], fold, length, take, flat_map, added}
use Rattle.call_plan.proofs.clients.Desk.cached_in.Given as goal

-- the addresses of the classes so far
abbrev pub invariant-loop-class : goal.invariant-loop-class
invariant-loop-class l = (l.set.keys ≡ fold (added l.arena) [] (flat_map (λ list. list) (take l.class l.self.facts.cached))) × (0 < l.class → length l.self.facts.cached ≡ 41)
