use Rattle.heap_runs.proofs.Words.{◌≡◌, ◌∙◌, ◌+◌, ◌-◌, ◌++◌, ◌∷◌, [], Some, ap, arith, length, length-append, sym, subst, slice_get}
use Rattle.heap_runs.proofs.Counting.{CountedTo, counted_more}
use Rattle.heap_runs.proofs.Passing.{get_is}
use Rattle.heap_runs.proofs.closes.counts_of.Goals as goal

pub loop-i-preserved : goal.loop-i-preserved
loop-i-preserved c =
    let states = c.args.states.now in
    let inv = c.loop-i.invariant in
    let state = c.index-states-states.result in
    let test = c.loop-i-test.true in
    let counts = c.loop-i.counts.items in
    let push = c.push_reserved.ensures in
    let long = ap length push.items ∙ length-append counts (c.counts.result ∷ []) in
    let count = inv.count in
    let room = inv.room in
    let cap = push.capacity in
    let at : slice_get states (length states - 1 - c.loop-i.i) ≡ Some state = get_is states (length states - 1 - c.loop-i.i) state (omega (arith, test)) c.index-states-states.is in
    let place : length states - 1 - c.loop-i.i ≡ length states - (length counts + 1) = omega (arith, count) in record {
      count = omega (arith, long, count);
      room = omega (arith, room, cap);
      counted = subst (CountedTo states) (ap (λ x. counts ++ x ∷ []) (sym c.counts.ensures) ∙ sym push.items) (counted_more states counts state (subst (λ n. slice_get states n ≡ Some state) place at) inv.counted);
    }
