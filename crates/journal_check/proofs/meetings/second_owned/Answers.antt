use Rattle.std.proofs.Common.{arith}
use Rattle.journal_check.proofs.Owners.{two_apart}
use Rattle.journal_check.proofs.meetings.second_owned.Goals as goal

pub returns-clause-apart : goal.returns-clause-apart
returns-clause-apart c = two_apart c.args.arenas.now c.args.chunk c.loop-arena.arena-index c.loop-arena.least c.loop-arena.second (omega (arith, c.loop-arena-test.false)) c.loop-arena.invariant.two
