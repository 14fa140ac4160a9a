use Rattle.std.proofs.Common.{◌≡◌, ◌∙◌, true, ap, sym}
use Rattle.plain_machine.proofs.Words.{Counted, is_live}
use Rattle.plain_machine.proofs.sums.counts.Goals as goal

pub returns-in_ok-boxed_counts-clause-reply : goal.returns-in_ok-boxed_counts-clause-reply
returns-in_ok-boxed_counts-clause-reply c =
    let live : is_live c.args.space.now.life ≡ true = sym c.is_live.ensures ∙ c.if-is_live.true in
    rw live (ap Counted c.in_ok-boxed_counts.ensures)
