use Rattle.std.proofs.Common.{◌≡◌, ◌+◌, ◌-◌, ◌∙◌, arith}
use Rattle.report_text.proofs.Hexadecimal.{digits_before, first_digit, next_digit, one_less}
use Rattle.report_text.proofs.rows.write_hexadecimal.Goals as goal

pub loop-rest-init : goal.loop-rest-init
loop-rest-init c =
    let first : c.args.end - 1 + 1 ≡ c.args.end = omega arith in
    let places : c.args.end - 1 + 16 - c.args.end ≡ 15 = omega arith in
    let fuel : c.args.end - 1 + 65 - c.args.end ≡ 64 = omega arith in
    record {
      within = omega arith;
      low = omega arith;
      short = rw places (omega arith);
      laid = rw (first, fuel) (digits_before c.args.number _);
    }

pub overflow_sub-first-in-loop-rest : goal.overflow_sub-first-in-loop-rest
overflow_sub-first-in-loop-rest c = let l = c.loop-rest in omega (arith, one_less (l.first + 16 - c.args.end) l.rest c.loop-rest-test.true l.invariant.short)

pub loop-rest-preserved : goal.loop-rest-preserved
loop-rest-preserved c =
    let l = c.loop-rest in
    let end = c.args.end in
    let less = one_less (l.first + 16 - end) l.rest c.loop-rest-test.true l.invariant.short in
    let places : l.first - 1 + 16 - end ≡ l.first + 16 - end - 1 = omega (arith, less.0) in
    let fuel : l.first - 1 + 65 - end ≡ l.first + 65 - end - 1 = omega (arith, less.0) in
    record {
      within = omega arith;
      low = omega (arith, less.0);
      short = rw places less.1;
      laid = rw fuel (next_digit (l.first + 65 - end) l.first l.rest c.digit.result l.bytes c.loop-rest-test.true (omega arith) (omega (arith, less.0)) (omega arith) c.digit.ensures) ∙ l.invariant.laid;
    }

pub returns-clause-written : goal.returns-clause-written
returns-clause-written c =
    let l = c.loop-rest in
    first_digit (l.first + 65 - c.args.end) l.first l.rest c.digit-2.result l.bytes (omega arith) (omega arith) (omega arith) c.digit-2.ensures ∙ l.invariant.laid
