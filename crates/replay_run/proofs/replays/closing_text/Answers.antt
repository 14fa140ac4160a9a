use Rattle.replay_run.proofs.Words.{arith, ◌≡◌, ◌++◌, ℕ, List, [], sym, ◌∙◌, ap, flat_map, range_with_len, flat_map_more, range_with_len_more, record_at, closing_line, live_counts}
use Rattle.replay_run.proofs.replays.closing_text.Goals as goal

pub loop-index-preserved : goal.loop-index-preserved
loop-index-preserved c =
    let line : ℕ → List ℕ = λ i. closing_line i (live_counts (record_at c.args.state.now.heap.records i).space) in
    let i : ℕ = c.loop-index.index in
    c.in_ok-write_closing.ensures ∙ ap (λ (counts : _). c.loop-index.text.items ++ closing_line i counts) c.counts.ensures ∙ ap (λ (text : List ℕ). text ++ line i) c.loop-index.invariant
    ∙ flat_map_more line [] (range_with_len 0 i) i ∙ ap (flat_map line) (sym (range_with_len_more 0 i i (omega arith)))

pub returns : goal.returns
returns c =
    let last : c.loop-index.index ≡ 32 = omega (arith, c.loop-index-test.false, c.loop-index.auto.index-end) in
    c.loop-index.invariant ∙ ap (λ (n : ℕ). flat_map (λ (i : ℕ). closing_line i (live_counts (record_at c.args.state.now.heap.records i).space)) (range_with_len 0 n)) last
