use Rattle.heap_core.proofs.Words.{◌≡◌, ◌∙◌, ap, arith, length, replicate, first_seat}
use Rattle.heap_core.proofs.Changes.{opening_heap_is}
use Rattle.heap_core.proofs.heaps.Heap.new.Goals as goal

pub invariant_of-result : goal.invariant_of-result
invariant_of-result c =
    let seats = c.loop-clients.clients.items in
    let end : length seats ≡ 32 = omega (arith, c.len.ensures, c.loop-clients-test.false, c.loop-clients.invariant.1) in
    opening_heap_is c.in_ok-new-2.field-0 seats c.new-3.result.owed c.in_ok-new-2.ensures (c.loop-clients.invariant.0 ∙ ap (λ n. replicate n first_seat) end)
