use Rattle.heap_core.proofs.Words.{subst, Told, HeapFacts, seat_at, WantAsk}
use Rattle.heap_core.proofs.Changes.{seat_is}
use Rattle.heap_core.proofs.Making.{ask_leads, led_heap}
use Rattle.heap_core.proofs.Wanting.{IsFed, Wanted, ask_seen}
use Rattle.heap_core.proofs.heaps.Heap.ask.Goals as goal
use Rattle.heap_core.proofs.heaps.Heap.ask.Goals.{After-are_apart, After-feed}
use Rattle.heap_core.proofs.heaps.Heap.ask.Given.{Over}

abbrev heap : (g : Over) → After-are_apart g → HeapFacts
heap g c = record { records = c.self.inside.arenas; seats = c.self.inside.clients.items; heard = c.self.inside.log.asks }

wanted : (g : Over) (c : After-are_apart g) → Wanted (heap g c).records c.args.client (seat_at (heap g c).seats c.args.client) (WantAsk c.args.ask) c.args.arena
wanted g c = ask_seen (heap g c) _ c.args.client c.args.arena c.args.ask c.self.view_is (c.self.invariant.sound c.args.client c.requires.client) c.requires.needs

fed : (g : Over) (c : After-feed g) → IsFed (Told c.ask-asked.result) c.feed.new.ended c.feed.new.self (seat_at c.self.inside.clients.items c.args.client)
fed g c = subst (IsFed (Told c.ask-asked.result) c.feed.new.ended c.feed.new.self) (seat_is _ c.args.client _ c.self.invariant.number c.requires.client c.index_mut.ensures.value) c.feed.ensures

pub invariant_of-self : goal.invariant_of-self
invariant_of-self g c =
    let at = goal.at.invariant_of-self g c in
    let w = wanted g at.After-are_apart in
    let told = c.ask-asked.ensures in
    let leads = ask_leads _ _ _ _ _ _ _ c.ask-asked.result c.are_apart.ensures.arenas c.requires.client w told.of_ask told.step.box.answers c.push.ensures.others (c.self.invariant.promised _ c.requires.client) c.push.ensures.one in
    led_heap (heap g at.After-are_apart) _ _ _ _ _ _ (Told c.ask-asked.result) w leads c.feed.new.ended c.feed.new.self c.self.invariant c.requires.client (fed g at.After-feed)
