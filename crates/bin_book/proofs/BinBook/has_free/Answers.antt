use Rattle.bin_book.proofs.Words.{ap, Bins, free_of}
use Rattle.bin_book.proofs.Taking.{free_told}
use Rattle.bin_book.proofs.BinBook.has_free.Goals as goal

pub returns : goal.returns
returns c = free_told c.self.inside.table c.self.invariant.table c.args.class c.open_slab.result c.is_some.result _ (ap (λ (b : Bins). free_of c.args.class b.slabs) c.self.view_is) c.is_some.ensures c.open_slab.ensures.none c.open_slab.ensures.some
