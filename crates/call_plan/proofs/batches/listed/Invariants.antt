use Rattle.call_plan.proofs.ClientWords.{◌≡◌, ◌≤◌, ◌+◌, length, map}
use Rattle.call_plan.proofs.batches.listed.Given as goal

-- the addresses so far, and room for the others
abbrev pub invariant-loop-addr : goal.invariant-loop-addr
invariant-loop-addr l = (l.addrs.items ≡ map (λ a. a.now) l.yielded) × (length l.fn.set.keys ≤ l.addrs.room + length l.yielded)
