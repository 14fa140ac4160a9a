use Rattle.heap_core.proofs.Words.{◌≡◌, ◌∙◌, true, Some, ap, sym, Space, counts_of, is_live, record_at}
use Rattle.heap_core.proofs.heaps.Heap.counts.Goals as goal

pub returns : goal.returns
returns c =
    let s : Space = (record_at c.args.self.now.records c.args.arena).space in
    let live : is_live s.life ≡ true = sym c.in_ok-live_arena.ensures.live in
    rw live (ap Some (c.counts.ensures ∙ ap counts_of c.in_ok-live_arena.ensures.space))
