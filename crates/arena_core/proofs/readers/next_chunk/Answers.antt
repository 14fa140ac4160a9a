use Rattle.arena_core.proofs.Words.{refl, sym, space_of}
use Rattle.arena_core.proofs.Chunks.{none_from, none_later, met_next}
use Rattle.arena_core.proofs.readers.next_chunk.Goals as goal

pub returns-then-chunk-gt-CHUNKS-clause-next : goal.returns-then-chunk-gt-CHUNKS-clause-next
returns-then-chunk-gt-CHUNKS-clause-next c = none_from (space_of c.args.indexes.now) c.args.chunk c.requires c.if-chunk-gt-CHUNKS.true

pub returns-clause-next : goal.returns-clause-next
returns-clause-next c = met_next (space_of c.args.indexes.now) c.args.chunk c.in-Some.part c.requires (sym c.if-owns_chunk.ensures) c.in-Some.ensures.first

pub returns-in_default-clause-next : goal.returns-in_default-clause-next
returns-in_default-clause-next c = none_later c.args.indexes.now.extents.parts c.args.chunk (sym c.if-owns_chunk.ensures) (c.in_default.ensures.none refl)
