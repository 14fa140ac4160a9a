use Rattle.std.proofs.lemmas.List.Elements.{All-set}
use Rattle.heap_runs.specs.Heaps.{MayCall, shelf_id}
use Rattle.shared_trials.proofs.tests.crowds.prepare.Goals as goal

pub returns-clause-may : goal.returns-clause-may
returns-clause-may g c = All-set (MayCall (shelf_id c.args.shelf.now) c.args.heap.now) c.args.ctxs.now.items 0 c.make_arenas.new.ctx c.make_arenas.ensures c.requires.may
