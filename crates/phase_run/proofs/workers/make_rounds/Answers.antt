use Rattle.std.proofs.Common.{refl}
use Rattle.phase_run.proofs.Shifting.{rounds_shifted}
use Rattle.phase_run.proofs.workers.make_rounds.Goals as goal

pub returns : goal.returns
returns g c =
    rounds_shifted c.args.shelf.now c.args.heap.now c.args.moment c.args.arenas.now c.args.count c.in-Ok.calls c.args.shift (record { ctx = c.rounds.new.ctx; names = c.args.shift.names; tally = c.add.new.self }) c.in-Ok.ensures.made c.in-Ok.ensures.count c.fits.ensures refl c.add.ensures
