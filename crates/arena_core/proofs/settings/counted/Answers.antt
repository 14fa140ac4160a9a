use Rattle.arena_core.proofs.Words.{◌≡◌, ◌∙◌, true, ap, sym, Counted, is_live}
use Rattle.arena_core.proofs.settings.counted.Goals as goal

pub returns-in_ok-boxed_counts-clause-reply : goal.returns-in_ok-boxed_counts-clause-reply
returns-in_ok-boxed_counts-clause-reply c =
    let live : is_live c.args.indexes.now.life ≡ true = sym c.is_live.ensures ∙ c.if-is_live.true in
    rw live (ap Counted c.in_ok-boxed_counts.ensures)
