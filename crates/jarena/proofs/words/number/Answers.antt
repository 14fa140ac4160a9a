use Rattle.std.proofs.lemmas.Fmt.{parse-decimal}
use Rattle.jarena.proofs.Numbers.{not_printed}
use Rattle.jarena.proofs.words.number.Goals as goal

pub returns-in_default-clause-none : goal.returns-in_default-clause-none
returns-in_default-clause-none c = λ n below same. c.in_default.not-Ok n (parse-decimal 64 n c.args.word.now c.parse.result below below same c.parse.ensures.value.0)

pub returns-else-is_printed-clause-none : goal.returns-else-is_printed-clause-none
returns-else-is_printed-clause-none c = λ n below same. not_printed c.args.word.now c.parse.result c.in-Ok.number n c.is_printed.result c.in-Ok.is c.parse.ensures.value.0 c.is_printed.ensures c.if-is_printed.false below same
