use Rattle.std.proofs.Common.{◌≤◌, ◌-◌, ◌∷◌, length, arith}
use Rattle.std.proofs.lemmas.List.{take_all}
use Rattle.std.proofs.lemmas.Fmt.{length-decimal-le}
use Rattle.std.specs.Fmt.{decimal}
use Rattle.trace_soak.proofs.LinesLeft.{letter_laid}
use Rattle.trace_soak.proofs.source.slot_name.Goals as goal

pub write_digits-first-requires : goal.write_digits-first-requires
write_digits-first-requires c =
    let short : length (decimal c.args.slot) ≤ 20 = length-decimal-le 20 c.args.slot (omega arith) (omega arith) (omega arith) in (omega (arith, short), omega arith)

pub overflow_sub-first : goal.overflow_sub-first
overflow_sub-first c =
    let short : length (decimal c.args.slot) ≤ 20 = length-decimal-le 20 c.args.slot (omega arith) (omega arith) (omega arith) in omega (arith, short, c.write_digits-first.ensures.start)

pub returns : goal.returns
returns c =
    let digits = c.write_digits-first.ensures in
    let short : length (decimal c.args.slot) ≤ 20 = length-decimal-le 20 c.args.slot (omega arith) (omega arith) (omega arith) in
    rw (letter_laid c.write_digits-first.new.buf c.write_digits-first.result (decimal c.args.slot) 110 (omega (arith, short, digits.start)) (omega (arith, digits.start, c.write_digits-first.auto.buf)) digits.written, take_all (21 - (c.write_digits-first.result - 1)) (110 ∷ decimal c.args.slot) (omega (arith, short, digits.start))) at c.new.ensures
