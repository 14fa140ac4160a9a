use Rattle.hook_api.proofs.Words.{arith, append-nil, filled_in}
use Rattle.hook_api.proofs.Pairing.{paired_kept}
use Rattle.hook_api.proofs.kepts.Writing.push.Goals as goal

pub returns-clause-kept : goal.returns-clause-kept
returns-clause-kept c =
    let fits = c.self.invariant in
    let pushed = paired_kept (filled_in c.self.inside.few.items c.self.inside.whole.items) c.self.inside.asks.items c.args.client c.args.op.now c.args.asked.now fits.1 c.requires.asked in
    let none = append-nil c.self.inside.asks.items in
    grind arith
