use Rattle.heap_runs.proofs.Words.{◌++◌, ◌∷◌, [], length, length-append, sym, ap, subst, arith, ◌∙◌}
use Rattle.heap_runs.proofs.Columns.{lock_is}
use Rattle.heap_runs.proofs.Parting.{PartedTo, parted_more}
use Rattle.heap_runs.proofs.closes.part.Goals as goal

pub loop-state-preserved : goal.loop-state-preserved
loop-state-preserved c =
    let states = c.args.states.items in
    let inv = c.loop-state.invariant in
    let one = c.into_parts-journal.ensures in
    let pushed = ap length c.push_reserved.ensures.items ∙ length-append c.loop-state.journals.items (c.into_parts-journal.result.0 ∷ []) in
    let also = ap length c.push_reserved-in-Some.ensures.items ∙ length-append c.loop-state.seats.items (c.into_parts-journal.result.1 ∷ []) in
    let popped = ap length c.in-Some.ensures.items ∙ length-append c.pop.new.self.items (c.in-Some.state ∷ []) in
    let count = inv.count in
    let same = inv.same in
    let room = inv.room in
    let cap = c.push_reserved.ensures.capacity in
    let cap2 = c.push_reserved-in-Some.ensures.capacity in record {
      left = (lock_is states c.loop-state.states.items c.pop.new.self.items c.in-Some.state inv.left c.in-Some.ensures.items).1;
      count = omega (arith, pushed, popped, count);
      same = omega (arith, pushed, also, same);
      room = (omega (arith, room.0, cap), omega (arith, room.1, cap2));
      parted = subst (λ l. PartedTo states l c.push_reserved-in-Some.new.self.items) (sym c.push_reserved.ensures.items)
          (subst (λ l. PartedTo states (c.loop-state.journals.items ++ c.into_parts-journal.result.0 ∷ []) l) (sym c.push_reserved-in-Some.ensures.items)
          (parted_more states c.loop-state.states.items c.pop.new.self.items c.in-Some.state c.loop-state.journals.items c.into_parts-journal.result.0 c.loop-state.seats.items c.into_parts-journal.result.1 inv.left c.in-Some.ensures.items count same inv.parted
          (record { index = one.index; kept = one.kept; table = one.table; owned = one.owned; found = one.found; number = one.number; others = one.others; replayed = one.replayed })));
    }
