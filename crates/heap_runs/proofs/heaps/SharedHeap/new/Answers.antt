use Rattle.std.proofs.Common.{◌≡◌, ◌∷◌, [], map, length, length-append, sym, refl, ap, subst, ◌∙◌, arith}
use Rattle.std.proofs.lemmas.List.{length-map}
use Rattle.chunk_table.specs.Tables.{share_of}
use Rattle.std.specs.Arc.{arc_value}
use Rattle.std.specs.Vec.Iter.{into_iter_items}
use Rattle.heap_runs.specs.Deals.{AreMade}
use Rattle.heap_runs.proofs.Dealing.{AreFrom, bare, blanks_from, is_new, made_more, made_none, new_calls}
use Rattle.heap_runs.proofs.heaps.SharedHeap.new.Goals as goal

pub loop-seat-init : goal.loop-seat-init
loop-seat-init c = let none = ap length c.new-locks.ensures.items in let given = c.into_iter-seat-iterator.ensures.into_iter_gives in
    let long : length c.in_ok-table.chunk_seats.items ≡ 32 = sym (length-map c.in_ok-table.chunk_seats.items share_of) ∙ ap length c.in_ok-table.ensures.free in
    record {
      left = let all = given.1 in omega (arith, none, all, long);
      own = subst (λ n. AreFrom n (into_iter_items c.into_iter-seat-iterator.result)) (sym none) (blanks_from 32 0 32 _ (ap (map share_of) given.0 ∙ c.in_ok-table.ensures.free));
      made = subst (λ l. AreMade (arc_value c.in_ok-table-2.table) c.len-clients.result l c.in_ok-ctxs.ctxs.items c.in_ok-ctxs.ctxs.items) (sym c.new-locks.ensures.items)
          (made_none (arc_value c.in_ok-table-2.table) c.len-clients.result c.in_ok-ctxs.ctxs.items (bare c.args.seats.items c.in_ok-ctxs.ctxs.items c.in_ok-ctxs.ensures));
    }

pub loop-seat-preserved : goal.loop-seat-preserved
loop-seat-preserved c =
    let added = c.in_ok-add.ensures in
    let left = c.loop-seat.invariant.left in
    let own = subst (AreFrom (length c.loop-seat.locks.items)) c.in-Some.ensures.steps.0 c.loop-seat.invariant.own in
    let longer = ap length added.locks ∙ length-append c.loop-seat.locks.items (added.lock ∷ []) in
    let steps = c.in-Some.ensures.steps.1 in record {
      left = omega (arith, left, longer, steps);
      own = subst (λ n. AreFrom n (into_iter_items c.next.new.self)) (sym longer) own.1;
      made = made_more (arc_value c.in_ok-table-2.table) c.len-clients.result c.in_ok-ctxs.ctxs.items (share_of c.in-Some.seat).number c.loop-seat.locks.items c.add.new.locks.items c.loop-seat.ctxs.items c.add.new.ctxs.items own.0 c.loop-seat.invariant.made added;
    }

pub add-requires-clause-few : goal.add-requires-clause-few
add-requires-clause-few c =
    let left = c.loop-seat.invariant.left in
    let steps = c.in-Some.ensures.steps.1 in
    omega (arith, left, steps)

pub add-requires-clause-clients : goal.add-requires-clause-clients
add-requires-clause-clients c =
    let told = c.len-clients.ensures ∙ c.args.seats.ok.0 in
    let some = c.requires.some in
    let fresh = c.in_ok-ctxs.ensures.count in
    let made = c.loop-seat.invariant.made.count in
    (omega (arith, told, some), omega (arith, told, fresh, made))

pub returns-clause-new : goal.returns-clause-new
returns-clause-new c =
    let told = c.len-clients.ensures ∙ c.args.seats.ok.0 in
    let left = c.loop-seat.invariant.left in
    let none = c.in-None.ensures.steps.0 in
    is_new _ c.args.seats.items c.in_ok-ctxs.ctxs.items c.loop-seat.ctxs.items (arc_value c.in_ok-table-2.table) c.len-clients.result c.loop-seat.invariant.made c.in_ok-ctxs.ensures (omega (arith, left, none)) c.requires.few told refl

pub returns-clause-may : goal.returns-clause-may
returns-clause-may c =
    let told = c.len-clients.ensures ∙ c.args.seats.ok.0 in
    let left = c.loop-seat.invariant.left in
    let none = c.in-None.ensures.steps.0 in
    new_calls _ c.args.seats.items c.loop-seat.ctxs.items
    (is_new _ c.args.seats.items c.in_ok-ctxs.ctxs.items c.loop-seat.ctxs.items (arc_value c.in_ok-table-2.table) c.len-clients.result c.loop-seat.invariant.made c.in_ok-ctxs.ensures (omega (arith, left, none)) c.requires.few told refl)
