use Rattle.heap_core.proofs.Words.{◌≡◌, None, List, AskFacts, HeapFacts, Seat, Comes, IsArenas, begin, slice_set, seat_at, subst, sym}
use Rattle.heap_core.specs.Carrying.{CameOf, CarriedOut}
use Rattle.heap_core.proofs.Changes.{seat_is}
use Rattle.heap_core.proofs.Carrying.{begins_comes, came_heap, done_out}
use Rattle.heap_core.proofs.heaps.Heap.carry_own.Goals as goal
use Rattle.heap_core.proofs.heaps.Heap.carry_own.Goals.{After-index_mut}

abbrev heap : After-index_mut → HeapFacts
heap c = record { records = c.self.inside.arenas; seats = c.self.inside.clients.items; heard = c.self.inside.log.asks }

arenas : (c : After-index_mut) → IsArenas (heap c).records
arenas c = subst (λ (h : HeapFacts). IsArenas h.records) (sym c.self.view_is) c.stands.ensures.arenas

rests : (c : After-index_mut) → (seat_at (heap c).seats c.args.client).call ≡ None
rests c = subst (λ (h : HeapFacts). (seat_at h.seats c.args.client).call ≡ None) (sym c.self.view_is) c.requires.rests

same : (c : After-index_mut) → c.index_mut.result.now ≡ seat_at (heap c).seats c.args.client
same c = seat_is (heap c).seats c.args.client c.index_mut.result.now c.self.invariant.number c.requires.client c.index_mut.ensures.value

pub carry-requires-clause-sits : goal.carry-requires-clause-sits
carry-requires-clause-sits c =
    let a = (goal.at.carry-requires-clause-sits c).After-index_mut in
    subst (λ (s : Seat). Comes (heap a).records c.args.client (begin c.args.request.now s.desk)) (sym (same a)) (begins_comes (heap a) c.self.inside.log.owed c.args.client c.args.request.now c.self.invariant (arenas a) c.requires.client (rests a) c.requires.range)

pub invariant_of-self : goal.invariant_of-self
invariant_of-self c =
    let a = (goal.at.invariant_of-self c).After-index_mut in
    came_heap (heap a) c.self.inside.log.owed c.args.client c.args.request.now c.self.invariant (arenas a) c.requires.client (rests a) c.requires.range c.carry.result c.carry.new.arenas c.carry.new.log.owed c.carry.new.self c.carry.new.ended
    (subst (λ (s : Seat). CameOf c.carry.result (heap a).records c.self.inside.log.owed c.args.client c.args.request.now s c.carry.new.arenas c.carry.new.log.owed c.carry.new.self c.carry.new.ended) (same a) c.carry.ensures.came)

pub returns-clause-carried : goal.returns-clause-carried
returns-clause-carried c = λ did shelf.
    let a = (goal.at.returns-clause-carried c).After-index_mut in
    let came = subst (λ (s : Seat). CameOf c.carry.result (heap a).records c.self.inside.log.owed c.args.client c.args.request.now s c.carry.new.arenas c.carry.new.log.owed c.carry.new.self c.carry.new.ended) (same a) c.carry.ensures.came in
    let out = done_out (heap a) c.self.inside.log.owed c.args.client c.args.request.now c.self.invariant (arenas a) c.requires.client (rests a) c.requires.range c.carry.new.arenas c.carry.new.log.owed c.carry.new.self c.carry.new.ended (rw did at came) shelf in
    subst (λ (h : HeapFacts). CarriedOut h shelf c.args.client c.args.request.now (record { records = c.carry.new.arenas; seats = slice_set c.self.inside.clients.items c.args.client c.carry.new.self; heard = c.carry.new.log.asks }) shelf c.carry.new.ended) c.self.view_is
    (subst (λ (asks : List AskFacts). CarriedOut (heap a) shelf c.args.client c.args.request.now (record { records = c.carry.new.arenas; seats = slice_set c.self.inside.clients.items c.args.client c.carry.new.self; heard = asks }) shelf c.carry.new.ended) (sym c.carry.ensures.asks) out)
