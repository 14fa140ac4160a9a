use Rattle.heap_core.proofs.Words.{◌≡◌, ◌∙◌, None, ap, sym, subst, HeapFacts, asked_for, seat_at}
use Rattle.heap_core.proofs.Changes.{seat_is, start_heap}
use Rattle.heap_core.proofs.heaps.Heap.start.Goals as goal

pub invariant_of-self : goal.invariant_of-self
invariant_of-self c =
    let seats = c.self.inside.clients.items in
    let rests = subst (λ (h : HeapFacts). (seat_at h.seats c.args.client).call ≡ None) (sym c.self.view_is) c.requires.rests in
    let same = seat_is seats c.args.client c.index_mut.result.now c.self.invariant.number c.requires.client c.index_mut.ensures.value in
    start_heap c.self.inside.arenas seats c.self.inside.log.owed c.args.client c.args.request c.asked_for-request.result c.start.result c.index_mut.result.now c.start.new.self c.self.invariant c.are_apart.ensures.arenas c.requires.client rests c.requires.range
    (c.asked_for-request.ensures ∙ ap (λ s. asked_for s c.args.client c.args.request) c.deref.ensures.value) same c.start.ensures.seat c.start.ensures.err
