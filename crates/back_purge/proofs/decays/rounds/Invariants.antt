use Rattle.heap_runs.specs.Heaps.{MayCall, shelf_id}
use Rattle.back_purge.specs.Rounds.{Made, decays}
use Rattle.back_purge.proofs.decays.rounds.Given as goal

abbrev pub invariant-loop-round : goal.invariant-loop-round
invariant-loop-round g l = record {
  made : Made l.shelf l.heap l.initial.ctx (decays l.now l.arenas l._round) l.ctx;
  may : MayCall (shelf_id l.shelf) l.heap l.ctx;
}
