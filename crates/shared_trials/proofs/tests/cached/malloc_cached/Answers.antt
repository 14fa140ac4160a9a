use Rattle.heap_runs.specs.Heaps.{shelf_id}
use Rattle.shared_trials.proofs.tests.cached.malloc_cached.Goals as goal

pub malloc_cached-requires : goal.malloc_cached-requires
malloc_cached-requires c = record { free = (shelf_id c.args.shelf.now, (c.args.heap.now, c.requires)) }

pub returns : goal.returns
returns c = c.malloc_cached.ensures.may (shelf_id c.args.shelf.now) c.args.heap.now c.requires
