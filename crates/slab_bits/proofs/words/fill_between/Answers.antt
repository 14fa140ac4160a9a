use Rattle.std.proofs.Common.{◌*◌, length-set, arith, inl, inr, sym, ◌∙◌, subst}
use Rattle.std.proofs.lemmas.Bool.{cases_lt}
use Rattle.std.proofs.lemmas.Bool.Decides.{nat_tests}
use Rattle.slab_bits.specs.Words.{OnesBelow}
use Rattle.slab_bits.proofs.WordBits.{between_bit, filled, behind_all}
use Rattle.slab_bits.proofs.words.fill_between.Goals as goal

pub loop-i-preserved : goal.loop-i-preserved
loop-i-preserved c =
    let high = subst (λ n. OnesBelow n c.ones_below.result) c.saturating_sub.ensures c.ones_below.ensures in
    let low = subst (λ n. OnesBelow n c.ones_below-in-loop-i.result) c.saturating_sub-in-loop-i.ensures c.ones_below-in-loop-i.ensures in
    let before = c.loop-i.invariant in let more = c.loop-i-test.true in let long = before.0 in (
      length-set c.loop-i.words c.loop-i.i _ ∙ long,
      filled c.loop-i.words c.loop-i.i _ c.args.from c.args.to (omega arith) before.1 (λ k lt. between_bit c.args.from c.args.to (64 * c.loop-i.i) _ _ k lt c.ones_below-in-loop-i.type_inv high low),
    )

pub returns-clause-bits : goal.returns-clause-bits
returns-clause-bits c =
    let done = c.loop-i.invariant in let all = c.loop-i-test.false in let long = done.0 in let most = c.requires in
    λ i. elim (cases_lt i 512) [
      | inl lt ↦ done.1 i (omega arith)
      | inr ge ↦ behind_all c.loop-i.words i (omega arith) ∙ sym (grind (arith, nat_tests))
    ]
