use Rattle.call_plan.proofs.Words.{◌≡◌, ◌+◌, ◌≤◌, length, take}
use Rattle.call_plan.proofs.calls.copied.Given as goal

-- the addresses so far, and room for the others
abbrev pub invariant-loop-addr : goal.invariant-loop-addr
invariant-loop-addr l = (l.list.items ≡ take l.addr-index l.addr-items) × (length l.addr-items ≤ l.list.room + l.addr-index)
