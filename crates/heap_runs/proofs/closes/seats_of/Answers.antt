use Rattle.heap_runs.proofs.Words.{◌∙◌, ◌∷◌, ◌++◌, [], ap, sym, map-append}
use Rattle.heap_runs.specs.Closes.{seat_of_ctx}
use Rattle.heap_runs.proofs.closes.seats_of.Goals as goal

pub loop-ctx-preserved : goal.loop-ctx-preserved
loop-ctx-preserved c =
    c.in_ok-push.ensures.items ∙ ap (λ l. l ++ c.in-Some.ctx.seat ∷ []) c.loop-ctx.invariant ∙ sym (map-append seat_of_ctx c.loop-ctx.yielded (c.in-Some.ctx ∷ []))
