use Rattle.heap_core.proofs.Words.{None, FedTo, IfSome, slice_set, subst, sym, HeapFacts, seat_at, HolderIs, TurnFacts, WantTurn, item_of, replied_by, with_ask}
use Rattle.heap_core.proofs.Changes.{seat_is}
use Rattle.heap_core.proofs.Making.{IsDone, led_goes, led_heap, turn_can, turn_done, turn_leads}
use Rattle.heap_core.proofs.Wanting.{GoesOn, IsFed, Wanted, turn_seen}
use Rattle.heap_core.proofs.heaps.Heap.turn.Goals as goal
use Rattle.heap_core.proofs.heaps.Heap.turn.Goals.{After-feed, After-heard-asked}

abbrev heap : After-heard-asked → HeapFacts
heap c = record { records = c.self.inside.arenas; seats = c.self.inside.clients.items; heard = c.self.inside.log.asks }

abbrev turn : After-heard-asked → TurnFacts
turn c = with_ask c.args.turn.now c.heard-asked.result.now

wanted : (c : After-heard-asked) → Wanted (heap c).records (turn c).client (seat_at (heap c).seats (turn c).client) (WantTurn (turn c).op (turn c).asked) (turn c).arena
wanted c =
    turn_seen (heap c) _ c.args.turn.now _ _ c.self.view_is (c.self.invariant.sound (turn c).client c.requires.client) c.requires.needs
    (seat_is _ (turn c).client c.index.result.now c.self.invariant.number c.requires.client c.index.ensures) c.heard-asked.ensures

fed : (c : After-feed) → IsFed (item_of (replied_by c.make_turn-made.result c.make_turn-made.new.reply)) c.feed.new.ended c.feed.new.self (seat_at c.self.inside.clients.items c.args.turn.now.client)
fed c = subst (IsFed (item_of (replied_by c.make_turn-made.result c.make_turn-made.new.reply)) c.feed.new.ended c.feed.new.self)
    (seat_is _ c.args.turn.now.client _ c.self.invariant.number c.requires.client c.index_mut.ensures.value) (subst (λ item. IsFed item c.feed.new.ended c.feed.new.self c.index_mut.result.now) c.item_of.ensures c.feed.ensures)

pub make_turn-made-requires-clause-can : goal.make_turn-made-requires-clause-can
make_turn-made-requires-clause-can c =
    let at = (goal.at.make_turn-made-requires-clause-can c).After-heard-asked in turn_can (heap at) _ _ _ _ c.are_apart.ensures.arenas c.requires.client (wanted at)

pub feed-requires : goal.feed-requires
feed-requires c =
    let at = (goal.at.feed-requires c).After-heard-asked in
    let made = replied_by c.make_turn-made.result c.make_turn-made.new.reply in
    let few = c.requires.client in
    let leads = turn_leads (heap at) _ _ _ _ c.are_apart.ensures.arenas few (wanted at) made _ _ _ (c.self.invariant.promised _ few) c.make_turn-made.ensures.turn in
    subst (λ item. GoesOn item c.index_mut.result.now) (sym c.item_of.ensures)
    (subst (GoesOn (item_of made)) (sym (seat_is _ (turn at).client _ c.self.invariant.number few c.index_mut.ensures.value)) (led_goes (heap at) _ _ _ (turn at).client _ _ (item_of made) (wanted at) leads))

pub invariant_of-self : goal.invariant_of-self
invariant_of-self c =
    let at = goal.at.invariant_of-self c in
    let w = wanted at.After-heard-asked in
    let made = replied_by c.make_turn-made.result c.make_turn-made.new.reply in
    let few = c.requires.client in
    let leads = turn_leads (heap at.After-heard-asked) _ _ _ _ c.are_apart.ensures.arenas few w made _ _ _ (c.self.invariant.promised _ few) c.make_turn-made.ensures.turn in
    led_heap (heap at.After-heard-asked) _ _ _ _ _ _ (item_of made) w leads c.feed.new.ended c.feed.new.self c.self.invariant few (fed at.After-feed)

pub returns : goal.returns
returns c =
    let at = goal.at.returns c in
    let h : HeapFacts = heap at.After-heard-asked in
    let client = c.args.turn.now.client in
    let w = wanted at.After-heard-asked in
    let made = replied_by c.make_turn-made.result c.make_turn-made.new.reply in
    let free = subst (λ k. IfSome k (λ call. HolderIs h call None)) w.is (subst (λ (h : HeapFacts). IfSome (seat_at h.seats client).call (λ call. HolderIs h call None)) (sym c.self.view_is) c.requires.free) in
    let told = subst (λ k. IfSome k (λ call. FedTo call (seat_at h.seats client).desk (item_of made) c.feed.new.ended c.feed.new.self)) w.is (fed at.After-feed) in
    let done = subst (λ heard. IsDone h client c.feed.new.ended (record { records = c.make_turn-made.new.arenas; seats = slice_set h.seats client c.feed.new.self; heard = heard })) (sym c.make_turn-made.ensures.asks)
    (turn_done made h w.call client _ _ _ w.point _ _ _ c.feed.new.self c.feed.new.ended w.is w.client w.arena_is w.goes w.want_is free c.make_turn-made.ensures.turn told) in
    let seen = subst (λ now. IsDone now client c.feed.new.ended (record { records = c.make_turn-made.new.arenas; seats = slice_set h.seats client c.feed.new.self; heard = c.make_turn-made.new.log.asks })) c.self.view_is done in
    record { step = seen.0; sure = seen.1 }
