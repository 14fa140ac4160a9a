use Rattle.arena_core.proofs.Words.{sym, space_of}
use Rattle.arena_core.proofs.Totals.{none_past}
use Rattle.arena_core.proofs.readers.owns_chunk.Goals as goal

pub returns-then-chunk-gt-CHUNKS : goal.returns-then-chunk-gt-CHUNKS
returns-then-chunk-gt-CHUNKS c = sym (none_past (space_of c.args.indexes.now) c.args.chunk c.requires c.if-chunk-gt-CHUNKS.true)
