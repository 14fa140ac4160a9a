use Rattle.std.proofs.Common.{rules, ap}
use Rattle.chunk_table.proofs.Keeps.{frees}
use Rattle.chunk_table.proofs.table.ChunkTable.release.Goals as goal

pub store-requires : goal.store-requires
store-requires c = (search rules, search rules, frees _ _ _ _ _ _ c.requires.chunk.1 (ap (λ m. m.0) c.place_of-place.ensures.view) (search rules))
