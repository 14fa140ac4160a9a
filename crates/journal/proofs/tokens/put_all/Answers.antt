use Rattle.std.proofs.Common.{arith, refl}
use Rattle.journal.specs.Entries.{token_word}
use Rattle.journal.proofs.Puts.{puts_more}
use Rattle.journal.proofs.tokens.put_all.Goals as goal

pub loop-token-preserved : goal.loop-token-preserved
loop-token-preserved c = puts_more token_word c.args.tokens.now c.loop-token.token-index _ _ c.args.out.now.items c.loop-token.out.items c.put.new.out.items (omega arith) refl c.loop-token.invariant c.in_ok-put.ensures
