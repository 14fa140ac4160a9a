use Rattle.std.proofs.Common.{◌≡◌, ◌∙◌, ◌++◌, ◌∷◌, [], ap, arith, map, subst, sym, List}
use Rattle.std.specs.List.{range_with_len}
use Rattle.std.proofs.lemmas.List.FromFn.{map-range_with_len_more}
use Rattle.journal_check.specs.Logs.{IsLog, Logged, opening_log, unlogged}
use Rattle.journal_check.proofs.Totals.{opening_entries, opening_length, opening_shown}
use Rattle.journal_check.proofs.logs.Log.new.Goals as goal

pub loop-index-preserved : goal.loop-index-preserved
loop-index-preserved c =
    c.in_ok-push.ensures.items ∙ (λ i. c.loop-index.invariant i ++ c.in_ok-new.ensures i ∷ [])
    ∙ sym (map-range_with_len_more unlogged 0 c.loop-index.index c.loop-index.index (omega arith))

pub returns : goal.returns
returns c =
    let end : c.loop-index.index ≡ 32 = omega (arith, c.loop-index.auto.index-end, c.loop-index-test.false) in
    c.loop-index.invariant ∙ ap (λ n. map unlogged (range_with_len 0 n)) end ∙ opening_shown

pub invariant_of-result : goal.invariant_of-result
invariant_of-result c =
    let end : c.loop-index.index ≡ 32 = omega (arith, c.loop-index.auto.index-end, c.loop-index-test.false) in
    let same : c.loop-index.arenas.items ≡ opening_log = c.loop-index.invariant ∙ ap (λ n. map unlogged (range_with_len 0 n)) end ∙ opening_shown in
    subst (λ (log : List Logged). IsLog log 0) (sym same) (record { number = opening_length; entries = sym opening_entries })
