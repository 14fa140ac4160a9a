use Rattle.heap_core.proofs.Words.{◌∙◌}
use Rattle.heap_core.proofs.Spaces.{any_of_spaces}
use Rattle.heap_core.proofs.arenas.is_owned.Goals as goal

pub returns : goal.returns
returns c = c.any_owns.ensures ∙ any_of_spaces c.args.chunk c.args.records.now
