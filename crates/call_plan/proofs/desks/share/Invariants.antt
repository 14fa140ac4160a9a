use Rattle.call_plan.proofs.Words.{◌≡◌, ◌≤◌, drop, sharing}
use Rattle.call_plan.proofs.desks.share.Given as goal

-- those from the place on are cached
abbrev pub invariant-loop-place : goal.invariant-loop-place
invariant-loop-place l = (l.desk.facts ≡ sharing l.arena l.class (drop l.place l.addrs) l.fn.desk.facts) × (l.fn.desk.room ≤ l.desk.room)
