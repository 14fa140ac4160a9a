use Rattle.std.proofs.Common.{rules, ap}
use Rattle.chunk_table.proofs.Keeps.{notices}
use Rattle.chunk_table.proofs.table.ChunkTable.owner.Goals as goal

pub load-found-requires : goal.load-found-requires
load-found-requires c = (search rules, search rules, notices _ _ _ _ _ _ (ap (λ m. m.0) c.place_of-place.ensures.view))
