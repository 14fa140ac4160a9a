use Rattle.heap_core.proofs.Words.{◌∙◌, ap, sym, holder_of}
use Rattle.heap_core.proofs.Making.{held_there}
use Rattle.heap_core.proofs.heaps.Heap.holder_for.Goals as goal

pub unreachable-requires : goal.unreachable-requires
unreachable-requires c =
    let seats = c.self.inside.clients.items in
    let is = ap (holder_of c.in_ok-addr.addr) (sym c.deref.ensures.value) ∙ sym c.holder_of.ensures.holder ∙ c.in_ok-holder.was in
    held_there seats c.in_ok-addr.addr c.in_ok-holder.holder c.index-2.result.now c.held_at.result is c.index-2.ensures c.held_at.ensures c.in_default.is
