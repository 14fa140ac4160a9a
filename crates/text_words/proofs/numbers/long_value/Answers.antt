use Rattle.text_words.proofs.Names.{◌∙◌, sym, arith, digits_value_more, take_all}
use Rattle.text_words.proofs.Digits.{digit_below, front_too_large, all_fit}
use Rattle.text_words.proofs.numbers.long_value.Goals as goal

pub with_digit-requires : goal.with_digit-requires
with_digit-requires c = digit_below _ _ _ c.requires (omega arith)

pub returns-in_err-value : goal.returns-in_err-value
returns-in_err-value c =
    rw c.from_residual.ensures (front_too_large 10 c.args.digits.now c.loop-digit.digit-index c.loop-digit.value (omega arith) (omega arith) c.loop-digit.invariant.0 c.in_err-value.ensures)

pub loop-digit-preserved : goal.loop-digit-preserved
loop-digit-preserved c =
    let more = digits_value_more 10 c.args.digits.now c.loop-digit.digit-index (omega arith) in
    (c.in_ok-value.ensures.1 ∙ rw c.loop-digit.invariant.0 (sym more), rw c.in_ok-value.ensures.1 c.in_ok-value.ensures.0)

pub returns : goal.returns
returns c =
    all_fit 10 c.args.digits.now c.loop-digit.value c.loop-digit.invariant.1
    (rw (take_all c.loop-digit.digit-index c.args.digits.now (omega arith)) at c.loop-digit.invariant.0)
