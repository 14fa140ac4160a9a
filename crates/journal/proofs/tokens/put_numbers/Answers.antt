use Rattle.std.proofs.Common.{refl, arith, get_or}
use Rattle.std.specs.Fmt.{decimal}
use Rattle.journal.proofs.Puts.{puts_more}
use Rattle.journal.proofs.tokens.put_numbers.Goals as goal

pub loop-number-preserved : goal.loop-number-preserved
loop-number-preserved c =
    let xs = c.args.numbers.now in
    puts_more decimal xs c.loop-number.number-index (get_or xs c.loop-number.number-index 0) 0 c.args.out.now.items c.loop-number.out.items c.put.new.out.items (omega arith) refl c.loop-number.invariant c.in_ok-put.ensures
