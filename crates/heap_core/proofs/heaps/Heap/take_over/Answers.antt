use Rattle.heap_core.proofs.Making.{found}
use Rattle.heap_core.proofs.heaps.Heap.take_over.Goals as goal

pub publish-requires-clause-held : goal.publish-requires-clause-held
publish-requires-clause-held c = (found c.args.self.now c.args.client _ c.args.region c.stands.ensures.arenas c.stands.ensures.seats c.requires.holder).0

pub aim-requires-clause-arena : goal.aim-requires-clause-arena
aim-requires-clause-arena c = (found c.args.self.now c.args.client _ c.args.region c.stands.ensures.arenas c.stands.ensures.seats c.requires.holder).1
