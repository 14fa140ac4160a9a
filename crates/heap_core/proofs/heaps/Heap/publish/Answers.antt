use Rattle.heap_core.proofs.Words.{◌≡◌, ◌∙◌, Some, ap, sym, subst, not_holding, held_at, HeapFacts, Seat, seat_at, MadeTurn, replied_by}
use Rattle.heap_core.proofs.Changes.{seat_is}
use Rattle.heap_core.proofs.Making.{holder_led, publish_heap, publishing}
use Rattle.heap_core.proofs.heaps.Heap.publish.Goals as goal
use Rattle.heap_core.proofs.heaps.Heap.publish.Goals.{After-are_apart, After-lose}

held : (c : After-are_apart) → held_at c.args.region.addr (seat_at c.self.inside.clients.items c.args.holder).desk ≡ Some c.args.region
held c = subst (λ (h : HeapFacts). held_at c.args.region.addr (seat_at h.seats c.args.holder).desk ≡ Some c.args.region) (sym c.self.view_is) c.requires.held

less : (c : After-lose) → let old = seat_at c.self.inside.clients.items c.args.holder in c.lose.new.self ≡ record old { desk = not_holding c.args.region.addr old.desk }
less c = c.lose.ensures ∙ ap (λ (s : Seat). record s { desk = not_holding c.args.region.addr s.desk }) (seat_is _ c.args.holder _ c.self.invariant.number c.requires.holder c.index_mut.ensures.value)

pub make_turn-requires : goal.make_turn-requires
make_turn-requires c =
    let led = holder_led _ _ _ _ c.args.region c.self.invariant c.are_apart.ensures.arenas c.requires.holder (held (goal.at.make_turn-requires c).After-are_apart) in record { arena = led.1; client = c.requires.holder; can = led.2 }

pub invariant_of-self-2 : goal.invariant_of-self-2
invariant_of-self-2 c =
    let at = goal.at.invariant_of-self-2 c in
    publish_heap c.self.inside.arenas c.make_turn.new.arenas c.self.inside.clients.items c.self.inside.log.owed c.make_turn.new.log.owed c.args.holder c.args.region c.make_turn.new.reply c.lose.new.self c.self.invariant c.are_apart.ensures.arenas c.requires.holder (held at.After-are_apart)
    (subst (λ made. MadeTurn c.self.inside.arenas c.self.inside.log.owed (publishing c.args.holder c.args.region) (replied_by made c.make_turn.new.reply) c.make_turn.new.arenas c.make_turn.new.log.owed) c.in_ok-make_turn.was c.make_turn.ensures.turn) (less at.After-lose)
