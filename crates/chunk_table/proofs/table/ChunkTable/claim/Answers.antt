use Rattle.std.proofs.Common.{rules, ap}
use Rattle.chunk_table.proofs.Keeps.{claims}
use Rattle.chunk_table.proofs.table.ChunkTable.claim.Goals as goal

pub compare_exchange-found-requires : goal.compare_exchange-found-requires
compare_exchange-found-requires c = (search rules, search rules, claims _ _ _ _ _ _ _ c.requires.chunk.1 (ap (λ m. m.0) c.place_of-place.ensures.view) (search rules))
