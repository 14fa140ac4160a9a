use Rattle.heap_core.proofs.Words.{◌≡◌, ◌≤◌, ◌-◌, length, replicate, first_seat}
use Rattle.heap_core.proofs.heaps.Heap.new.Given as goal

-- the clients so far are those of a new heap
abbrev pub invariant-loop-clients : goal.invariant-loop-clients
invariant-loop-clients l = (l.clients.items ≡ replicate (length l.clients.items) first_seat) × (length l.clients.items ≤ 32)

abbrev pub decreases-loop-clients : goal.decreases-loop-clients
decreases-loop-clients l = 32 - length l.clients.items
