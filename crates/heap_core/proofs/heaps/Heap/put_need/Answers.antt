use Rattle.heap_core.proofs.Words.{◌≡◌, ◌∙◌, true, false, List, None, slice_set, ap, subst, sym, HeapFacts, IsHeap, Needs, Seat, seat_at}
use Rattle.heap_core.proofs.Changes.{same_seat, seat_is}
use Rattle.heap_core.proofs.heaps.Heap.put_need.Goals as goal
use Rattle.heap_core.proofs.heaps.Heap.put_need.Goals.{After-put_need}

same : (c : After-put_need) → slice_set c.self.inside.clients.items c.args.client c.put_need.new.self ≡ c.self.inside.clients.items
same c = same_seat c.self.inside.clients.items c.args.client c.index_mut.result.now c.put_need.new.self c.self.invariant.number c.requires c.index_mut.ensures.value c.put_need.ensures.same

seat : (c : After-put_need) → c.index_mut.result.now ≡ seat_at c.args.self.now.seats c.args.client
seat c =
    seat_is c.self.inside.clients.items c.args.client c.index_mut.result.now c.self.invariant.number c.requires c.index_mut.ensures.value
    ∙ ap (λ (h : HeapFacts). seat_at h.seats c.args.client) c.self.view_is

pub invariant_of-self : goal.invariant_of-self
invariant_of-self c = subst (λ (seats : List Seat). IsHeap c.self.inside.arenas seats c.self.inside.log.owed) (sym (same (goal.at.invariant_of-self c).After-put_need)) c.self.invariant

pub returns : goal.returns
returns c =
    let at = (goal.at.returns c).After-put_need in record {
      same = ap (λ (seats : List Seat). record { records = c.self.inside.arenas; seats = seats; heard = c.self.inside.log.asks }) (same at) ∙ c.self.view_is;
      none = subst (λ (s : Seat). c.put_need.result ≡ false → s.call ≡ None) (seat at) c.put_need.ensures.none;
      some = subst (λ (s : Seat). c.put_need.result ≡ true → Needs s.call c.put_need.new.need) (seat at) c.put_need.ensures.some;
    }
