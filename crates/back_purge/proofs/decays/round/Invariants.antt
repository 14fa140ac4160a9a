use Rattle.std.proofs.Common.{take}
use Rattle.heap_runs.specs.Heaps.{MayCall, shelf_id}
use Rattle.back_purge.specs.Rounds.{Made, one_round}
use Rattle.back_purge.proofs.decays.round.Given as goal

abbrev pub invariant-loop-i : goal.invariant-loop-i
invariant-loop-i g l = record {
  made : Made l.shelf l.heap l.initial.ctx (one_round l.now (take l.i l.arenas)) l.ctx;
  may : MayCall (shelf_id l.shelf) l.heap l.ctx;
}
