use Rattle.std.proofs.Common.{arith}
use Rattle.jarena.proofs.Numbers.{too_many}
use Rattle.jarena.proofs.words.soak_numbers.Goals as goal

pub returns-then-calls-gt-MOST_CALLS : goal.returns-then-calls-gt-MOST_CALLS
returns-then-calls-gt-MOST_CALLS c = λ start calls soak. too_many _ _ _ c.in_ok-calls.calls start calls c.in_ok-calls.ensures.printed (omega arith) (omega (arith, c.if-calls-gt-MOST_CALLS.true)) soak
