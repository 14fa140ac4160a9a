use Rattle.heap_core.proofs.Words.{◌≡◌, subst, HeapFacts, IsStep, IsSure, Needs, seat_at}
use Rattle.heap_core.proofs.Wanting.{turn_client}
use Rattle.heap_core.proofs.heaps.Heap.step_into.Goals as goal
use Rattle.heap_core.proofs.heaps.Heap.step_into.Goals.{After-turn_for}
use Rattle.heap_core.proofs.heaps.Heap.step_into.Given.{Over}

-- the turn is of the client
own : (g : Over) (c : After-turn_for g) → c.in-Turn.turn.client ≡ c.args.client
own g c =
    let seat = seat_at c.args.self.now.seats c.args.client in
    turn_client c.args.self.now.records c.args.client seat c.in-Turn.turn (c.stands.ensures.seats c.args.client c.requires) (subst (Needs seat.call) c.in-Turn.is (c.put_need.ensures.some c.if-not-put_need.false))

pub returns-in-Turn-clause-step : goal.returns-in-Turn-clause-step
returns-in-Turn-clause-step g c =
    let at = (goal.at.returns-in-Turn-clause-step g c).After-turn_for in
    let shelf = c.args.shelf.now in
    subst (λ (h : HeapFacts). IsStep h shelf c.args.client (seat_at h.seats c.args.client).call c.turn_for.new.told c.turn_for.new.self shelf) c.put_need.ensures.same
    (subst (λ i. IsStep c.put_need.new.self shelf i (seat_at c.put_need.new.self.seats i).call c.turn_for.new.told c.turn_for.new.self shelf) (own g at) (c.turn_for.ensures.step shelf))

pub returns-in-Turn-clause-sure : goal.returns-in-Turn-clause-sure
returns-in-Turn-clause-sure g c =
    let at = (goal.at.returns-in-Turn-clause-sure g c).After-turn_for in
    subst (λ (h : HeapFacts). IsSure h c.args.client (seat_at h.seats c.args.client).call c.turn_for.new.self) c.put_need.ensures.same
    (subst (λ i. IsSure c.put_need.new.self i (seat_at c.put_need.new.self.seats i).call c.turn_for.new.self) (own g at) c.turn_for.ensures.sure)
