use Rattle.std.proofs.Common.{◌≡◌, drop}
use Rattle.arena_core.proofs.Words.{rises_from}
use Rattle.arena_core.proofs.stands.rises.Given as goal

-- the addresses rise where those that are left rise from the least one on
abbrev pub invariant-loop-addr : goal.invariant-loop-addr
invariant-loop-addr l = rises_from 0 l.addrs ≡ rises_from l.least (drop l.addr-index l.addrs)
