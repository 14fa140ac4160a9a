use Rattle.call_plan.proofs.Words.{subst, sym, GivesNone, IsSizedNext, Stage, lent}
use Rattle.call_plan.proofs.Credits.{next_few}
use Rattle.call_plan.proofs.Naming.{next_gives_none}
use Rattle.call_plan.proofs.calls.Stage.feed.Goals as goal

pub settle-requires-clause-none : goal.settle-requires-clause-none
settle-requires-clause-none c = subst (λ (s : Stage). GivesNone s.next) (sym c.step.ensures) (next_gives_none c.hear.new.self.next (lent c.args.item))

pub settle-requires-clause-sized : goal.settle-requires-clause-sized
settle-requires-clause-sized c = subst (λ (s : Stage). IsSizedNext s.next) (sym c.step.ensures) (next_few c.hear.new.self.next (lent c.args.item) (c.hear.ensures.sized c.requires))
