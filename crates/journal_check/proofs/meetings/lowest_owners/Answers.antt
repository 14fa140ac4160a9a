use Rattle.std.proofs.Common.{arith}
use Rattle.journal_check.proofs.Owners.{low_only}
use Rattle.journal_check.proofs.meetings.lowest_owners.Goals as goal

pub returns : goal.returns
returns c = low_only c.args.arenas.now c.args.chunk c.loop-index.index c.loop-index.low (omega (arith, c.requires, c.loop-index-test.false)) c.loop-index.invariant
