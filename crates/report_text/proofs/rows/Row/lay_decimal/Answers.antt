use Rattle.std.proofs.Common.{◌≤◌, length, arith, ap, length-drop, length-append}
use Rattle.std.proofs.lemmas.Fmt.{length-decimal-le}
use Rattle.std.specs.Fmt.{decimal}
use Rattle.report_text.proofs.rows.Row.lay_decimal.Goals as goal

pub write_digits-self-inside-requires : goal.write_digits-self-inside-requires
write_digits-self-inside-requires c =
    let short : length (decimal c.args.number) ≤ 20 = length-decimal-le 20 c.args.number (omega arith) (omega arith) (omega arith) in
    let room = length-drop c.self.inside.first c.self.inside.bytes in
    (omega (arith, ap length c.self.view_is), omega arith)

pub returns-clause-room : goal.returns-clause-room
returns-clause-room c =
    let short : length (decimal c.args.number) ≤ 20 = length-decimal-le 20 c.args.number (omega arith) (omega arith) (omega arith) in
    rw (c.write_digits-self-inside.ensures.written, length-append, c.self.view_is) (omega arith)
