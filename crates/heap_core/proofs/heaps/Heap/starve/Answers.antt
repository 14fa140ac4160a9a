use Rattle.heap_core.proofs.Words.{subst, refl, Starved, HeapFacts, seat_at}
use Rattle.heap_core.proofs.Changes.{seat_is}
use Rattle.heap_core.proofs.Making.{led_heap, starve_leads}
use Rattle.heap_core.proofs.Wanting.{IsFed, Starving, starving_seen}
use Rattle.heap_core.proofs.heaps.Heap.starve.Goals as goal
use Rattle.heap_core.proofs.heaps.Heap.starve.Goals.{After-are_apart, After-feed}

abbrev heap : After-are_apart → HeapFacts
heap c = record { records = c.self.inside.arenas; seats = c.self.inside.clients.items; heard = c.self.inside.log.asks }

starving : (c : After-are_apart) → Starving (heap c).records c.args.client (seat_at (heap c).seats c.args.client)
starving c = starving_seen (heap c) _ c.args.client c.self.view_is (c.self.invariant.sound c.args.client c.requires.client) c.requires.starves

fed : (c : After-feed) → IsFed Starved c.feed.new.ended c.feed.new.self (seat_at c.self.inside.clients.items c.args.client)
fed c = subst (IsFed Starved _ _) (seat_is _ c.args.client _ c.self.invariant.number c.requires.client c.index_mut.ensures.value) c.feed.ensures

pub invariant_of-self : goal.invariant_of-self
invariant_of-self c =
    let at = goal.at.invariant_of-self c in
    let s = starving at.After-are_apart in
    led_heap (heap at.After-are_apart) _ _ _ c.args.client _ _ Starved s.wants (starve_leads _ _ _ c.args.client _ c.are_apart.ensures.arenas c.requires.client (λ o differ. refl) s) c.feed.new.ended c.feed.new.self c.self.invariant c.requires.client (fed at.After-feed)
