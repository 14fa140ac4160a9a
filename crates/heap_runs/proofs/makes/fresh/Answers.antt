use Rattle.std.proofs.Common.{◌++◌, ◌∷◌, [], sym, refl, subst, ◌∙◌}
use Rattle.heap_runs.specs.Deals.{AreFresh}
use Rattle.heap_runs.proofs.Dealing.{fresh_more}
use Rattle.heap_runs.proofs.makes.fresh.Goals as goal

pub loop-seat-preserved : goal.loop-seat-preserved
loop-seat-preserved c =
    let are = c.loop-seat.invariant in
    let count = are.count in
    subst (λ l. AreFresh (c.loop-seat.yielded ++ c.in-Some.seat ∷ []) l) (sym c.in_ok-push.ensures.items)
    (fresh_more c.loop-seat.yielded c.loop-seat.ctxs.items c.in-Some.seat _ are (record { client = c.len-client.ensures ∙ c.loop-seat.ctxs.ok.0 ∙ count; desk = c.in_ok-new.ensures; seat = refl; passes = c.new-in-loop-seat.ensures.items }))
