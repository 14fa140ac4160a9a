use Rattle.heap_core.proofs.Words.{get_or_default, ◌∙◌, List, arith, IsTrue, ap, subst, sym, stands, entry_of, Record, with_chunk_found, no_record, record_at, spaces_of}
use Rattle.heap_core.proofs.Turned.{arenas_turned_from, recorded_turned}
use Rattle.heap_core.proofs.arenas.Arenas.turn.Goals as goal

pub invariant_of-self : goal.invariant_of-self
invariant_of-self c =
    let at = c.index_mut.ensures.value ∙ get_or_default c.self.inside.records.items c.args.arena c.index_mut.result.now no_record (omega (arith, c.requires.arena, c.self.invariant.arenas.number)) in
    recorded_turned c.self.inside.records.items c.args.arena c.turn.result c.index_mut.result.now c.turn.new.self c.self.invariant c.requires.arena at c.turn.ensures.few c.turn.ensures.err
    (arenas_turned_from c.self.inside.records.items c.args.arena c.args.client c.args.op.now c.settle.new.op c.args.asked.now c.turn.result c.index_mut.result.now c.turn.new.self
    at c.self.invariant.arenas c.requires.arena
    (c.settle.ensures ∙ ap (λ rs. with_chunk_found (spaces_of rs) c.args.arena c.args.op.now) c.deref.ensures.value) (subst (λ (rs : List Record). IsTrue (stands (record_at rs c.args.arena).space (entry_of c.args.client (with_chunk_found (spaces_of rs) c.args.arena c.args.op.now)))) (sym c.self.view_is) c.requires.stands) c.turn.ensures.after c.turn.ensures.err c.turn.ensures.index c.turn.ensures.replayed)
