use Rattle.replay_run.proofs.Words.{arith}
use Rattle.replay_run.proofs.names.Names.bind_answer.Goals as goal
use Rattle.replay_run.proofs.names.Names.bind_answer.Goals.{in_default-via-in-Malloc+in-Ok+in_default, in_default-via-in-Malloc+in_default, in_default-via-in-Memalign+in-Ok+in_default, in_default-via-in-Memalign+in_default, in_default-via-in-Realloc+in-Ok+in_default, in_default-via-in-Realloc+in_default, in_default-via-in-MallocIn+in-Ok+in_default, in_default-via-in-MallocIn+in_default, in_default-via-in_default}

pub returns-in_default-clause-bound : goal.returns-in_default-clause-bound
returns-in_default-clause-bound c = elim c.in_default.branch [
  | in_default-via-in-Malloc+in-Ok+in_default w ↦ grind (arith, w)
  | in_default-via-in-Malloc+in_default w ↦ grind (arith, w)
  | in_default-via-in-Memalign+in-Ok+in_default w ↦ grind (arith, w)
  | in_default-via-in-Memalign+in_default w ↦ grind (arith, w)
  | in_default-via-in-Realloc+in-Ok+in_default w ↦ grind (arith, w)
  | in_default-via-in-Realloc+in_default w ↦ grind (arith, w)
  | in_default-via-in-MallocIn+in-Ok+in_default w ↦ grind (arith, w)
  | in_default-via-in-MallocIn+in_default w ↦ grind (arith, w)
  | in_default-via-in_default w ↦ grind (arith, w)
]
