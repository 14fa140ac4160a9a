use Rattle.call_plan.proofs.Words.{arith, nat_tests}
use Rattle.call_plan.proofs.Aligned.{alignment_passes}
use Rattle.call_plan.proofs.calls.Stage.memalign.Goals as goal

pub returns-in-Ok-clause-stage : goal.returns-in-Ok-clause-stage
returns-in-Ok-clause-stage c = grind (arith, nat_tests, alignment_passes c.args.align c.in-Ok.ensures.fits.0, c.in-Ok.ensures.fits.1)

pub returns-in-Ok-clause-facts : goal.returns-in-Ok-clause-facts
returns-in-Ok-clause-facts c = grind (arith, nat_tests, alignment_passes c.args.align c.in-Ok.ensures.fits.0, c.in-Ok.ensures.fits.1)

pub returns-in-Ok-2-clause-stage : goal.returns-in-Ok-2-clause-stage
returns-in-Ok-2-clause-stage c = grind (arith, nat_tests, alignment_passes c.args.align c.in-Ok-2.ensures.fits.0, c.in-Ok-2.ensures.fits.1)

pub returns-in-Ok-2-clause-facts : goal.returns-in-Ok-2-clause-facts
returns-in-Ok-2-clause-facts c = grind (arith, nat_tests, alignment_passes c.args.align c.in-Ok-2.ensures.fits.0, c.in-Ok-2.ensures.fits.1)

pub returns-in-Err-TooLarge-clause-stage : goal.returns-in-Err-TooLarge-clause-stage
returns-in-Err-TooLarge-clause-stage c =
    let fault = c.in-Err-TooLarge.field-0-is in
    let large = c.in-Err-TooLarge.ensures.too_large.0 (cc) in
    let passes = alignment_passes c.args.align large.0 in
    let many = large.1 in grind (arith, nat_tests)
