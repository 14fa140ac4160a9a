use Rattle.replay_run.proofs.Words.{arith, ◌≡◌, ◌+◌, ℕ, ap, refl, sym, ◌∙◌, fold_push, range_with_len, range_with_len_more}
use Rattle.std.specs.Prelude.{fold, if◌then◌else◌}
use Rattle.replay_run.specs.Controls.{is_live_at}
use Rattle.replay_run.proofs.controls.arena_count.Goals as goal
use Rattle.replay_run.proofs.controls.arena_count.Goals.{then-live, else-live}

pub loop-index-preserved : goal.loop-index-preserved
loop-index-preserved c =
    let highest : ℕ → ℕ → ℕ = λ count index. if is_live_at c.args.heap.now.records index then index + 1 else count in
    let i : ℕ = c.loop-index.index in
    let on : fold highest 0 (range_with_len 0 (i + 1)) ≡ highest (fold highest 0 (range_with_len 0 i)) i =
    ap (fold highest 0) (range_with_len_more 0 i i (omega arith)) ∙ fold_push highest 0 (range_with_len 0 i) i in
    elim c.if-live.branch [
      | then-live w ↦ let live = sym c.live.ensures ∙ w.if-live.true in let to : fold highest 0 (range_with_len 0 (i + 1)) ≡ i + 1 = on ∙ rw live refl in omega (arith, w.count-is, w.from-count.ensures, to)
      | else-live w ↦ let live = sym c.live.ensures ∙ w.if-live.false in w.count-is ∙ c.loop-index.invariant ∙ sym (on ∙ rw live refl)
    ]
