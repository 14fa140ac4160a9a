use Rattle.heap_shared.proofs.Told.{turned_if_ok}
use Rattle.heap_shared.proofs.turns.turn.Goals as goal

pub returns-clause-turned : goal.returns-clause-turned
returns-clause-turned g c = turned_if_ok c.args.lock.now c.args.pass.now c.turn.new.pass c.args.doing c.turn.result c.turn.ensures.numbers.0 c.turn.ensures.turned
