use Rattle.turn_lock.proofs.Words.{rules}
use Rattle.turn_lock.proofs.Keeps.{splits}
use Rattle.turn_lock.proofs.lock.TurnLock.split_pass.Goals as goal

pub split_seat-later-requires : goal.split_seat-later-requires
split_seat-later-requires g c = (search rules, search rules, splits g.M.Machine.logs g.M.Machine.after g.M.Machine.kept c.args.self.now.table.shared.key.first.value c.args.self.now.table.shared.key.seats _ c.args.pass.seat.me.0 c.args.pass.idle)
