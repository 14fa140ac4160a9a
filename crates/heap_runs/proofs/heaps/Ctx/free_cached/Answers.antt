use Rattle.heap_runs.proofs.AtOnce.{frees_calls}
use Rattle.heap_runs.proofs.heaps.Ctx.free_cached.Goals as goal

pub returns-clause-may : goal.returns-clause-may
returns-clause-may c = λ shelf heap may. frees_calls shelf heap c.args.self.now _ c.args.addr c.cache_held.result c.cache_held.ensures.put c.cache_held.ensures.frees may
