use Rattle.addr_space.specs.Chunks.{AreFree}
use Rattle.addr_space.proofs.chunks.Chunks.first_used.Given as goal

abbrev pub invariant-loop-c : goal.invariant-loop-c
invariant-loop-c l = AreFree l.self l.chunk l.c
