use Rattle.bin_book.proofs.Words.{IsMoved, sym, subst}
use Rattle.bin_book.proofs.Places.{came, went}
use Rattle.bin_book.proofs.changes.set_open.Goals as goal

pub returns-then-is_open-clause-keys : goal.returns-then-is_open-clause-keys
returns-then-is_open-clause-keys c = subst (IsMoved c.args.bins.now.keys c.insert.new.self.keys c.args.key) (sym c.if-is_open.true) (came _ _ c.args.key c.insert.ensures.keys)

pub returns-else-is_open-clause-keys : goal.returns-else-is_open-clause-keys
returns-else-is_open-clause-keys c = subst (IsMoved c.args.bins.now.keys c.remove.new.self.keys c.args.key) (sym c.if-is_open.false) (went _ _ c.args.key c.remove.ensures.keys)
