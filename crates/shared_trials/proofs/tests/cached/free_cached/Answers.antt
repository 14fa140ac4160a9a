use Rattle.heap_runs.specs.Heaps.{shelf_id}
use Rattle.shared_trials.proofs.tests.cached.free_cached.Goals as goal

pub free_cached-requires : goal.free_cached-requires
free_cached-requires c = record { free = (shelf_id c.args.shelf.now, (c.args.heap.now, c.requires)) }

pub returns : goal.returns
returns c = c.free_cached.ensures.may (shelf_id c.args.shelf.now) c.args.heap.now c.requires
