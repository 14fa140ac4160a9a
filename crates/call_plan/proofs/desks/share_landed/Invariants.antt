use Rattle.call_plan.proofs.Words.{◌≡◌, ◌≤◌, ◌-◌, map, range_with_len, address_behind, sharing}
use Rattle.call_plan.proofs.desks.share_landed.Given as goal

-- those from the place on are cached
abbrev pub invariant-loop-place : goal.invariant-loop-place
invariant-loop-place l =
    (l.desk.facts ≡ sharing l.arena l.class (map (address_behind l.first l.class) (range_with_len l.place (l.count - l.place))) l.fn.desk.facts)
    × (l.fn.desk.room ≤ l.desk.room) × (1 ≤ l.count → 1 ≤ l.place)
