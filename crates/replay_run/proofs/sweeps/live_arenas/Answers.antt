use Rattle.replay_run.proofs.Words.{◌∷◌, [], ◌++◌, ℕ, List, ap, sym, ◌∙◌}
use Rattle.replay_run.specs.Controls.{is_live_at}
use Rattle.replay_run.proofs.Counting.{failing, passing}
use Rattle.replay_run.proofs.sweeps.live_arenas.Goals as goal
use Rattle.replay_run.proofs.sweeps.live_arenas.Goals.{then-live+in_ok-push_back, else-live}

pub loop-index-preserved : goal.loop-index-preserved
loop-index-preserved c = elim c.if-live.branch [
  | then-live+in_ok-push_back w ↦
      ap (λ (q : _). q.items) w.arenas-is ∙ (rw w.in_ok-push_back.was at w.push_back.ensures.items) ∙ ap (λ (xs : List ℕ). xs ++ c.loop-index.index ∷ []) c.loop-index.invariant
      ∙ sym (passing (is_live_at c.args.heap.now.records) c.loop-index.index (sym c.live.ensures ∙ w.if-live.true))
  | else-live w ↦ ap (λ (q : _). q.items) w.arenas-is ∙ c.loop-index.invariant ∙ sym (failing (is_live_at c.args.heap.now.records) c.loop-index.index (sym c.live.ensures ∙ w.if-live.false))
]
