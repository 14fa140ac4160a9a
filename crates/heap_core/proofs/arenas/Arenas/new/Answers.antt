use Rattle.heap_core.proofs.Words.{◌≡◌, ◌∙◌, ◌++◌, ◌∷◌, [], ap, arith, map, subst, sym, range_with_len, map-range_with_len_more, AreRecorded, opening_record}
use Rattle.heap_core.proofs.Turned.{opening_recorded}
use Rattle.heap_core.proofs.arenas.Arenas.new.Goals as goal

pub loop-index-preserved : goal.loop-index-preserved
loop-index-preserved c =
    c.in_ok-push.ensures.items ∙ (λ i. c.loop-index.invariant i ++ c.in_ok-new.ensures i ∷ [])
    ∙ sym (map-range_with_len_more opening_record 0 c.loop-index.index c.loop-index.index (omega arith))

pub invariant_of-result-2 : goal.invariant_of-result-2
invariant_of-result-2 c =
    let end : c.loop-index.index ≡ 32 = omega (arith, c.loop-index.auto.index-end, c.loop-index-test.false) in
    subst AreRecorded (sym (c.loop-index.invariant ∙ ap (λ n. map opening_record (range_with_len 0 n)) end)) opening_recorded
