use Rattle.replay_run.proofs.Words.{◌++◌, take, Consumes-trans}
use Rattle.replay_run.proofs.Endings.{takes_unread}
use Rattle.replay_run.proofs.input.read_to_line.Goals as goal

pub returns-in_err-extend-in-Ok-clause-stopped : goal.returns-in_err-extend-in-Ok-clause-stopped
returns-in_err-extend-in-Ok-clause-stopped g c =
    takes_unread c.from_residual-in_err-extend-in-Ok.result (c.loop.invariant.taken.0 ++ take c.in-Ok.count c.read.new.buf) c.args.pending.now (g.S.Source.left c.args.source.now) (g.S.Source.left c.read.new.self)
    c.from_residual-in_err-extend-in-Ok.ensures.1
    (Consumes-trans (g.S.Source.left c.args.source.now) (g.S.Source.left c.loop.source) (g.S.Source.left c.read.new.self) c.loop.invariant.taken.0
    (take c.in-Ok.count c.read.new.buf) c.loop.invariant.taken.1 c.in-Ok.ensures.moved)
